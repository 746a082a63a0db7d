use Rattle.qd_ring.proofs.Names.{sym, ◌∙◌, ap, mod-eq_of_lt, eq-eqb, eqb-true, three, residue}
use Rattle.qd_ring.proofs.sum.tests.ThirdsRing.same.Goals as goal

pub returns : goal.returns
returns c = (
  λ equal. ap (λ k. residue 3 three k) (eqb-true _ _ equal),
  λ same. eq-eqb _ _ (sym (mod-eq_of_lt c.requires.a_value) ∙ ap (λ x. x.value) same ∙ mod-eq_of_lt c.requires.b_value),
)
