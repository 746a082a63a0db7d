use Rattle.central_ext.proofs.Names.{ap, arith, ext_conjugate, pair_number, size, subst, ◌∙◌, ◌≡◌}
use Rattle.central_ext.proofs.Carriers.{IsLeastReached, reached_none, reached_more, reached_first}
use Rattle.central_ext.proofs.conjugacy.first_of_class.Goals as goal

pub loop-c-init : goal.loop-c-init
loop-c-init c = reached_none c.args.twist.now c.size-c-end.ensures.twist c.args.t c.requires.t_below

pub loop-c-preserved : goal.loop-c-preserved
loop-c-preserved c =
    let s = c.args.twist.now in
    let number : c.pair_number.result ≡ pair_number s (ext_conjugate s (record { place = c.loop-c.c; root = 0 }) _) =
    c.pair_number.ensures.number
    ∙ ap (pair_number s) (c.carried.ensures.carried ∙ ap (ext_conjugate s (record { place = c.loop-c.c; root = 0 })) c.pair_at-a.ensures.pair) in
    rw c.min-first.ensures
    (reached_more s c.size-c-end.ensures.twist c.args.t c.loop-c.c c.loop-c.first c.pair_number.result c.requires.t_below (omega arith) number c.loop-c.invariant)

pub returns-clause-first : goal.returns-clause-first
returns-clause-first c =
    let all : c.loop-c.c ≡ size c.args.twist.now = omega arith in
    reached_first c.args.twist.now c.size-c-end.ensures.twist c.args.t c.loop-c.first c.requires.t_below
    (subst (λ i. IsLeastReached c.args.twist.now c.args.t i c.loop-c.first) all c.loop-c.invariant)
