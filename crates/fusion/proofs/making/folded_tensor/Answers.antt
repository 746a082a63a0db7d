use Rattle.fusion.proofs.Names.{◌≡◌, ℕ, length, get_or, sym, ◌∙◌, ap, arith, sum_below, sum_zero, CyclotomicValue, cyclotomic_ring, folded_value, sum_below_more, members_at, tensor_part}
use Rattle.fusion.proofs.TensorSums.{tensor_of_members}
use Rattle.fusion.proofs.making.folded_tensor.Goals as goal

pub loop-q-init : goal.loop-q-init
loop-q-init g c = c.zero-folded.ensures.value ∙ sym (sum_zero (cyclotomic_ring g.row.K) _)

pub loop-q-preserved : goal.loop-q-preserved
loop-q-preserved g c =
    let k = g.row.K in
    let s = c.args.simples.now in
    let value : ℕ → CyclotomicValue k = λ q. (tensor_part k s c.args.i c.args.j c.args.g c.args.x (get_or (members_at k s c.args.i) q 0)).value in
    c.add_part.ensures.value c.if-not-add_part.false
    ∙ sum_below_more (cyclotomic_ring k) value c.loop-q.q (folded_value k c.loop-q.folded)
    (tensor_part k s c.args.i c.args.j c.args.g c.args.x c.class_member.result).value c.loop-q.invariant
    (ap (λ h. (tensor_part k s c.args.i c.args.j c.args.g c.args.x h).value) c.class_member.ensures.member)

pub returns : goal.returns
returns g c =
    let k = g.row.K in
    let s = c.args.simples.now in
    let value : ℕ → CyclotomicValue k = λ q. (tensor_part k s c.args.i c.args.j c.args.g c.args.x (get_or (members_at k s c.args.i) q 0)).value in
    let all : c.loop-q.q ≡ length (members_at k s c.args.i) = omega (arith, c.loop-q-test.false, c.loop-q.auto, c.class_size-q-end.ensures.size) in
    record {
      value = c.finish.ensures.value ∙ c.loop-q.invariant ∙ ap (λ n. sum_below (cyclotomic_ring k) n value) all
          ∙ sym (tensor_of_members k s c.count-count.ensures.simples.cocycle.cochain.group c.args.i c.args.j c.args.g c.args.x c.class_size-q-end.ensures.class);
    }
