use Rattle.fusion.proofs.Names.{◌≡◌, ℕ, length, get_or, sym, ◌∙◌, ap, arith, sum_below, sum_zero, CyclotomicValue, cyclotomic_ring, members_at, tensor_part}
use Rattle.fusion.proofs.TensorSums.{part_missed, nought_more, tensor_of_members}
use Rattle.fusion.proofs.making.is_made.Goals as goal

pub loop-q-init : goal.loop-q-init
loop-q-init g c = sum_zero (cyclotomic_ring g.row.K) _

pub loop-q-preserved : goal.loop-q-preserved
loop-q-preserved g c =
    let k = g.row.K in
    let s = c.args.simples.now in
    let value : ℕ → CyclotomicValue k = λ q. (tensor_part k s c.args.i c.args.j c.args.g c.args.x (get_or (members_at k s c.args.i) q 0)).value in
    nought_more k value c.loop-q.q c.loop-q.invariant
    (ap (λ h. (tensor_part k s c.args.i c.args.j c.args.g c.args.x h).value) (sym c.class_member.ensures.member)
    ∙ part_missed k s c.args.i c.args.j c.args.g c.args.x c.class_member.result (sym c.if-meets.ensures.meets))

pub returns : goal.returns
returns g c =
    let k = g.row.K in
    let s = c.args.simples.now in
    let value : ℕ → CyclotomicValue k = λ q. (tensor_part k s c.args.i c.args.j c.args.g c.args.x (get_or (members_at k s c.args.i) q 0)).value in
    let all : c.loop-q.q ≡ length (members_at k s c.args.i) = omega (arith, c.loop-q-test.false, c.loop-q.auto, c.class_size-q-end.ensures.size) in
    record {
      nought = λ none.
          tensor_of_members k s c.count-count.ensures.simples.cocycle.cochain.group c.args.i c.args.j c.args.g c.args.x c.class_size-q-end.ensures.class
          ∙ sym (ap (λ n. sum_below (cyclotomic_ring k) n value) all) ∙ c.loop-q.invariant;
    }
