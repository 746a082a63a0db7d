-- The twisted convolution is associative, by the 2-cocycle law.
use Rattle.algebra.proofs.Names.{◌≡◌, ℕ, ◌+◌, refl, sym, ◌∙◌, ap, CommRing, Finite, total, Group, Roots, IsTwoCocycle, twisted_convolution}
use Rattle.algebra.proofs.RingLaws.{product_rules}
use Rattle.algebra.proofs.TotalLaws.{total_ext, mul_total, total_mul, total_exchange, total_reindex}
use Rattle.algebra.proofs.GroupLaws.{inv_op_op, op_inv_op, group_rules}

module _ {A G : Type 0} (R : CommRing A) (F : Finite G) (P : Group G) {n : ℕ} (B : Roots R n) (t : G → G → ℕ) where
  pub convolution_at : (p r : G → A) (x : G) → twisted_convolution R F P B t p r x ≡ total R F (λ y. R.mul (B.root (t y (P.op (P.inv y) x))) (R.mul (p y) (r (P.op (P.inv y) x))))
  unfolding twisted_convolution
  convolution_at p r x = refl

  -- the law on roots
  root_law : IsTwoCocycle P n t → (x y z : G) → R.mul (B.root (t x y)) (B.root (t (P.op x y) z)) ≡ R.mul (B.root (t x (P.op y z))) (B.root (t y z))
  root_law c x y z =
      sym (B.root_add (t x y) (t (P.op x y) z)) ∙ B.root_same (t x y + t (P.op x y) z) (t x (P.op y z) + t y z) (c.law x y z)
      ∙ B.root_add (t x (P.op y z)) (t y z)

  -- one term, with its two roots in two ways
  reorder : (a b c d p r s : A) → R.mul a b ≡ R.mul c d → R.mul b (R.mul (R.mul a (R.mul p r)) s) ≡ R.mul c (R.mul p (R.mul d (R.mul r s)))
  reorder a b c d p r s h =
      let left : R.mul b (R.mul (R.mul a (R.mul p r)) s) ≡ R.mul (R.mul a b) (R.mul p (R.mul r s)) = simp (product_rules, R) in
      let right : R.mul (R.mul c d) (R.mul p (R.mul r s)) ≡ R.mul c (R.mul p (R.mul d (R.mul r s))) = simp (product_rules, R) in
      left ∙ ap (λ k. R.mul k (R.mul p (R.mul r s))) h ∙ right

  same_term : IsTwoCocycle P n t → (p r s : G → A) (x z u : G) →
      R.mul (B.root (t (P.op z u) (P.op (P.inv (P.op z u)) x))) (R.mul (R.mul (B.root (t z (P.op (P.inv z) (P.op z u)))) (R.mul (p z) (r (P.op (P.inv z) (P.op z u))))) (s (P.op (P.inv (P.op z u)) x)))
      ≡ R.mul (B.root (t z (P.op (P.inv z) x))) (R.mul (p z) (R.mul (B.root (t u (P.op (P.inv u) (P.op (P.inv z) x)))) (R.mul (r u) (s (P.op (P.inv u) (P.op (P.inv z) x))))))
  same_term c p r s x z u =
      let v : G = P.op (P.inv u) (P.op (P.inv z) x) in
      let from : P.op (P.inv (P.op z u)) x ≡ v = simp (group_rules, P) in
      let inner : P.op (P.inv z) (P.op z u) ≡ u = inv_op_op P z u in
      let outer : P.op u v ≡ P.op (P.inv z) x = op_inv_op P u (P.op (P.inv z) x) in
      rw (from, inner) (reorder (B.root (t z u)) (B.root (t (P.op z u) v)) (B.root (t z (P.op (P.inv z) x))) (B.root (t u v)) (p z) (r u) (s v)
      (root_law c z u v ∙ ap (λ k. R.mul (B.root (t z k)) (B.root (t u v))) outer))

  pub convolution_assoc : IsTwoCocycle P n t → (p r s : G → A) (x : G) →
      twisted_convolution R F P B t (twisted_convolution R F P B t p r) s x ≡ twisted_convolution R F P B t p (twisted_convolution R F P B t r s) x
  convolution_assoc c p r s x =
      let e : G → G → A = λ a b. B.root (t a b) in
      let q : G → G → G = λ y x. P.op (P.inv y) x in
      let inner : G → G → A = λ y z. R.mul (e z (q z y)) (R.mul (p z) (r (q z y))) in
      let term : G → G → A = λ z y. R.mul (e y (q y x)) (R.mul (inner y z) (s (q y x))) in
      let goal_term : G → G → A = λ z u. R.mul (e z (q z x)) (R.mul (p z) (R.mul (e u (q u (q z x))) (R.mul (r u) (s (q u (q z x)))))) in
      let left : twisted_convolution R F P B t (twisted_convolution R F P B t p r) s x ≡ total R F (λ y. total R F (λ z. term z y)) = simp (convolution_at, total_mul, mul_total) in
      let right : total R F (λ z. total R F (λ u. goal_term z u)) ≡ twisted_convolution R F P B t p (twisted_convolution R F P B t r s) x = simp (convolution_at, mul_total) in
      left
      ∙ total_exchange R F F (λ y z. term z y)
      ∙ total_ext R F (λ z. total R F (λ y. term z y)) (λ z. total R F (λ u. goal_term z u))
      (λ z. sym (total_reindex R F F (λ u. P.op z u) (λ y. P.op (P.inv z) y) (inv_op_op P z) (op_inv_op P z) (term z))
      ∙ total_ext R F (λ u. term z (P.op z u)) (goal_term z) (λ u. same_term c p r s x z u))
      ∙ right
