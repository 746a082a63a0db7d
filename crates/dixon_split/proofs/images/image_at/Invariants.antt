use Rattle.dixon_split.proofs.Names.{◌≡◌, ◌<◌, get_or, sum_below, field, field_residue, constant}
use Rattle.dixon_split.proofs.images.image_at.Given as goal

abbrev pub invariant-loop-j : goal.invariant-loop-j
invariant-loop-j l = record {
  below : l.sum < l.algebra.q;
  so_far :
      l.sum ≡ (sum_below (field l.algebra.q l.algebra.listed) l.j
      (λ j. (field l.algebra.q l.algebra.listed).mul (field_residue l.algebra.q l.algebra.listed (get_or l.e j 0)) (field_residue l.algebra.q l.algebra.listed (constant l.algebra l.t j l.k)))).value;
}
