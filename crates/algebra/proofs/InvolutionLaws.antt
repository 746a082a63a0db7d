-- What follows from the laws of a conjugation.
use Rattle.algebra.proofs.Names.{◌≡◌, ◌∙◌, ap, sym, CommRing, Involution}
use Rattle.algebra.proofs.SumLaws.{nought_map}

module _ {A : Type 0} (R : CommRing A) (B : Involution R) where
  pub bar_nought : B.bar R.nought ≡ R.nought
  bar_nought = nought_map R R B.bar B.bar_add

  pub bar_one : B.bar R.one ≡ R.one
  bar_one =
      sym (R.mul_one (B.bar R.one)) ∙ ap (λ a. R.mul (B.bar R.one) a) (sym (B.bar_bar R.one)) ∙ sym (B.bar_mul R.one (B.bar R.one))
      ∙ ap B.bar (R.mul_comm R.one (B.bar R.one) ∙ R.mul_one (B.bar R.one)) ∙ B.bar_bar R.one
