-- The array is 42 long, and its end is tested.
use Rattle.qd_ring.proofs.Names.{length, drop, ap, ◌∙◌, list_all, reduction_length, is_nought}
use Rattle.qd_ring.proofs.CycSums.{array_test}
use Rattle.qd_ring.proofs.cyc_buffer.is_padded.Goals as goal

pub returns : goal.returns
returns c =
    c.rest_is_zero.ensures
    ∙ ap (λ n. list_all is_nought (drop n c.args.numbers.now)) (ap length c.reduction.ensures ∙ reduction_length c.args.k c.requires.conductor)
    ∙ array_test c.args.k c.args.numbers.now c.requires.size
