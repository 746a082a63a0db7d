-- A group by its table that acts on the numbers below N: which numbers it carries to which, and how many elements do (textbook).
use Rattle.classes.proofs.Names.{◌≡◌, ℕ, zero, suc, ◌+◌, ◌*◌, ◌<◌, Bool, true, false, cond, List, [], ◌∷◌, ◌++◌, length, nat_eq, Some, None, refl, sym, ap, ◌∙◌, arith, eq-eqb, eqb-true, add-zero, length-append, is_some, first, same_test, is_some_of, some_of, least_passing, least_passing_found, Table, product, identity_of, inverse, IsGroup, passing_below, two_sided_inverse, closed, identity_below, passing_below-zero, passing_below-suc}
use Rattle.std.proofs.Math.Nat.{zero-mul, mul-one}
use Rattle.algebra.specs.Below.{Below}
use Rattle.algebra.proofs.GroupLaws.{inv_op_op, op_inv_op}
use Rattle.classes.proofs.Carrying.{element, same_value, element_group}
use Rattle.orders.proofs.Sums.{total, pick, total_same, total_nought, total_constant, total_exchange, total_pick, total_permuted}

-- as many copies of c as there are numbers that pass
pub passing_copies : (n c : ℕ) (test : ℕ → Bool) → length (passing_below n test) * c ≡ total n (λ i. pick (test i) c)
unfolding total
passing_copies zero c test = ap (λ xs. length xs * c) (passing_below-zero test) ∙ zero-mul c
passing_copies (suc n) c test =
    ap (λ xs. length xs * c) (passing_below-suc n test) ∙ by (test n) (passing_below n test) (passing_copies n c test)
  where
    by : (b : Bool) (front : List ℕ) → length front * c ≡ total n (λ i. pick (test i) c)
        → length (cond b (front ++ n ∷ []) front) * c ≡ total n (λ i. pick (test i) c) + pick b c
    by true front e = simp length-append (omega (arith, e))
    by false front e = e ∙ sym (add-zero (total n (λ i. pick (test i) c)))

-- how many numbers pass
pub passing_length : (n : ℕ) (test : ℕ → Bool) → length (passing_below n test) ≡ total n (λ i. pick (test i) 1)
passing_length n test = sym (mul-one (length (passing_below n test))) ∙ passing_copies n 1 test

-- k carries p to act k p
pub record IsAction (t : Table) (N : ℕ) (act : ℕ → ℕ → ℕ) : Type 0 where
  pub below : (k p : ℕ) → k < t.order → p < N → act k p < N
  pub by_product : (k h p : ℕ) → k < t.order → h < t.order → p < N → act (product t k h) p ≡ act k (act h p)
  pub by_identity : (p : ℕ) → p < N → act (identity_of t) p ≡ p

-- whether some element carries p to q
abbrev pub is_met : Table → (ℕ → ℕ → ℕ) → ℕ → ℕ → Bool
is_met t act p q = is_some (first t.order (λ k. cond (nat_eq (act k p) q) (Some k) None))

module _ (t : Table) (G : IsGroup t) (N : ℕ) (act : ℕ → ℕ → ℕ) (A : IsAction t N act) where
  -- the inverse carries back
  pub back : (k p : ℕ) → k < t.order → p < N → act (inverse t k) (act k p) ≡ p
  back k p q r =
      let i = two_sided_inverse t G k q in
      sym (A.by_product (inverse t k) k p i.below q r) ∙ ap (λ x. act x p) i.left ∙ A.by_identity p r

  pub carrier : (p q : ℕ) → is_met t act p q ≡ true → (k : ℕ) × (k < t.order) × (act k p ≡ q)
  carrier p q met =
      let (k, found) = some_of _ met in
      let least = least_passing t.order (λ k. nat_eq (act k p) q) k found in
      (k, least.below, eqb-true _ _ least.passes)

  pub met_by : (p q k : ℕ) → k < t.order → act k p ≡ q → is_met t act p q ≡ true
  met_by p q k below carries =
      let passes : nat_eq (act k p) q ≡ true = eq-eqb _ _ carries in
      is_some_of _ _ (least_passing_found t.order (λ k. nat_eq (act k p) q) k below passes)

  pub met_refl : (p : ℕ) → p < N → is_met t act p p ≡ true
  met_refl p below = met_by p p (identity_of t) (identity_below t G) (A.by_identity p below)

  pub met_sym : (p q : ℕ) → p < N → is_met t act p q ≡ true → is_met t act q p ≡ true
  met_sym p q p_below met =
      let (k, below, carries) = carrier p q met in
      met_by q p (inverse t k) (two_sided_inverse t G k below).below (ap (act (inverse t k)) (sym carries) ∙ back k p below p_below)

  pub met_trans : (p q r : ℕ) → p < N → is_met t act p q ≡ true → is_met t act q r ≡ true → is_met t act p r ≡ true
  met_trans p q r p_below first second =
      let (k, k_below, k_carries) = carrier p q first in
      let (l, l_below, l_carries) = carrier q r second in
      met_by p r (product t l k) (closed t l k G l_below k_below)
      (A.by_product l k p l_below k_below p_below ∙ ap (act l) k_carries ∙ l_carries)

  -- s x carries p to the same number as s exactly where x carries p to itself
  carries_test : (p s x : ℕ) → p < N → s < t.order → x < t.order → nat_eq (act s p) (act (product t s x) p) ≡ nat_eq (act x p) p
  carries_test p s x p_below s_below x_below =
      let steps = A.by_product s x p s_below x_below p_below in
      same_test _ _
      (λ same. eq-eqb _ _ (sym (back s (act x p) s_below (A.below x p x_below p_below))
      ∙ ap (act (inverse t s)) (sym (eqb-true _ _ same ∙ steps)) ∙ back s p s_below p_below))
      (λ fixed. eq-eqb _ _ (ap (act s) (sym (eqb-true _ _ fixed)) ∙ sym steps))

  -- how many elements carry p to where s does: as many as carry it to itself
  column_in : (p s : ℕ) → p < N → s < t.order
      → total t.order (λ k. pick (nat_eq (act s p) (act k p)) 1) ≡ length (passing_below t.order (λ x. nat_eq (act x p) p))
  column_in p s p_below s_below =
      let P = element_group t G in
      let S : Below t.order = element s s_below in
      let i : inverse t s < t.order = (P.inv S).below in
      sym (total_permuted t.order (λ k. pick (nat_eq (act s p) (act k p)) 1) (product t s) (product t (inverse t s))
      (λ x r. closed t s x G s_below r) (λ x r. closed t (inverse t s) x G i r)
      (λ x r. same_value (inv_op_op P S (element x r))) (λ x r. same_value (op_inv_op P S (element x r))))
      ∙ total_same t.order _ _ (λ x r. ap (λ b. pick b 1) (carries_test p s x p_below s_below r))
      ∙ sym (passing_length t.order (λ x. nat_eq (act x p) p))

  -- no element carries p to what it does not meet
  none : (p q k : ℕ) → k < t.order → is_met t act p q ≡ false → (b : Bool) → nat_eq q (act k p) ≡ b → pick b 1 ≡ 0
  none p q k below e true same = absurd (let met = met_by p q k below (sym (eqb-true _ _ same)) in cc)
  none p q k below e false same = refl

  -- how many elements carry p to q: as many as carry it to itself, if any
  column : (p q : ℕ) → p < N → (b : Bool) → is_met t act p q ≡ b
      → total t.order (λ k. pick (nat_eq q (act k p)) 1) ≡ pick b (length (passing_below t.order (λ x. nat_eq (act x p) p)))
  column p q p_below true e =
      let (s, s_below, carries) = carrier p q e in
      ap (λ h. total t.order (λ k. pick (nat_eq h (act k p)) 1)) (sym carries) ∙ column_in p s p_below s_below
  column p q p_below false e = total_nought t.order _ (λ k below. none p q k below e (nat_eq q (act k p)) refl)

  -- the numbers that p meets, times the elements that carry it to itself, are as many as the group has elements
  pub orbit_equation : (p : ℕ) → p < N
      → length (passing_below N (is_met t act p)) * length (passing_below t.order (λ x. nat_eq (act x p) p)) ≡ t.order
  orbit_equation p p_below =
      passing_copies N _ (is_met t act p)
      ∙ total_same N _ _ (λ q below. sym (column p q p_below (is_met t act p q) refl))
      ∙ total_exchange N t.order (λ q k. pick (nat_eq q (act k p)) 1)
      ∙ total_same t.order _ (λ k. 1) (λ k below. total_pick N (λ q. 1) (act k p) (A.below k p below p_below))
      ∙ total_constant t.order 1
      ∙ mul-one t.order
