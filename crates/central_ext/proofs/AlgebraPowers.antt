-- Powers of u_p in the twisted group algebra.
use Rattle.central_ext.proofs.Names.{Below, Bool, CommRing, IsTwist, RootOfUnity, TwistedSubgroup, algebra_power, ap, below_equal, eq-eqb, eqb-true, equals, identity_of, kappa_at, kappa_phase, mul_pick, nat_eq, on_places, one_mul, op_inv_cancel, op_op_inv, phase, phase_at, phases_cocycle, pick, pick_cong, pick_same, place_group, place_power, places, power, power_phase, product, product_on_places, root, same_mod, same_sym, size, some_root, suc, sym, times_unit, twist_roots, twisted_product, unit_vector, zero, ℕ, ◌%◌, ◌+◌, ◌<◌, ◌∙◌, ◌≡◌}
use Rattle.central_ext.proofs.PairPowers.{power_phase-zero, power_phase-suc, place_power_below}

module _ {A : Type 0} (R : CommRing A) {m : ℕ} (U : RootOfUnity R m) (s : TwistedSubgroup) (twist : IsTwist s) (divides : m % s.modulus ≡ 0) where
  -- (z u_p)(x) = e(th(x p^-1, p)) z(x p^-1)
  times_unit_at : (z : ℕ → A) (p x : Below (size s))
      → twisted_product R U s z (unit_vector R U s p.value) x.value
      ≡ R.mul (root R U s (phase s ((place_group s twist).op x ((place_group s twist).inv p)).value p.value)) (z ((place_group s twist).op x ((place_group s twist).inv p)).value)
  unfolding equals
  times_unit_at z p x =
      sym (product_on_places R U s twist divides z (unit_vector R U s p.value) x)
      ∙ times_unit R (places s twist) (place_group s twist) (some_root s twist) (twist_roots R U s twist divides) (phase_at s twist) (kappa_at s twist) (phases_cocycle s twist) (kappa_phase s twist)
      (on_places R U s twist divides z) p x

  -- x p^-1 = q exactly where x = q p
  moved : (p q x : Below (size s)) (a : A)
      → pick R (nat_eq ((place_group s twist).op x ((place_group s twist).inv p)).value q.value) a
      ≡ pick R (nat_eq x.value (product s.group q.value p.value)) a
  moved p q x a =
      pick_same R _ _ a
      (λ e.
      let at : (place_group s twist).op x ((place_group s twist).inv p) ≡ q = below_equal _ _ (eqb-true _ _ e) in
      eq-eqb _ _ (ap (λ (y : Below (size s)). y.value) (sym (op_inv_cancel (place_group s twist) p x) ∙ ap (λ y. (place_group s twist).op y p) at)))
      (λ e.
      let at : x ≡ (place_group s twist).op q p = below_equal _ _ (eqb-true _ _ e) in
      eq-eqb _ _ (ap (λ (y : Below (size s)). y.value) (ap (λ y. (place_group s twist).op y ((place_group s twist).inv p)) at ∙ op_op_inv (place_group s twist) p q)))

  -- e(th(q,p)) e(v) = e(v + th(q,p))
  next_root : (v w : ℕ) → R.mul (root R U s w) (R.mul (root R U s v) R.one) ≡ R.mul (root R U s ((v + w) % s.modulus)) R.one
  next_root v w =
      let roots = twist_roots R U s twist divides in
      ap (R.mul (root R U s w)) (R.mul_one (root R U s v))
      ∙ R.mul_comm (root R U s w) (root R U s v)
      ∙ sym (roots.root_add v w)
      ∙ roots.root_same (v + w) ((v + w) % s.modulus) (same_sym (same_mod s.modulus (v + w)))
      ∙ sym (R.mul_one (root R U s ((v + w) % s.modulus)))

  -- u_p^j = e(power_phase(p,j)) u_(p^j)
  pub power_of_unit : (p j x : ℕ) → p < size s → x < size s
      → algebra_power R U s (unit_vector R U s p) j x ≡ R.mul (root R U s (power_phase s p j)) (unit_vector R U s (place_power s p j) x)
  unfolding power algebra_power
  power_of_unit p zero x p_below x_below =
      sym (one_mul R (unit_vector R U s (identity_of s.group) x))
      ∙ ap (λ c. R.mul c (unit_vector R U s (identity_of s.group) x)) (sym (ap (root R U s) (power_phase-zero s p) ∙ (twist_roots R U s twist divides).root_zero))
  power_of_unit p (suc j) x p_below x_below =
      let here : Below (size s) = record { value = p; below = p_below } in
      let to : Below (size s) = record { value = x; below = x_below } in
      let power_here : Below (size s) = record { value = place_power s p j; below = place_power_below s twist p j p_below } in
      let from : Below (size s) = (place_group s twist).op to ((place_group s twist).inv here) in
      let v : ℕ = power_phase s p j in
      let b : Bool = nat_eq from.value power_here.value in
      let c : A = root R U s (phase s from.value p) in
      times_unit_at (algebra_power R U s (unit_vector R U s p) j) here to
      ∙ ap (R.mul c) (power_of_unit p j from.value p_below from.below ∙ mul_pick R b (root R U s v) R.one)
      ∙ mul_pick R b c (R.mul (root R U s v) R.one)
      ∙ pick_cong R b (R.mul c (R.mul (root R U s v) R.one)) (R.mul (root R U s (power_phase s p (suc j))) R.one)
      (λ e.
      ap (λ q. R.mul (root R U s (phase s q p)) (R.mul (root R U s v) R.one)) (eqb-true _ _ e)
      ∙ next_root v (phase s power_here.value p)
      ∙ ap (λ k. R.mul (root R U s k) R.one) (sym (power_phase-suc s p j)))
      ∙ moved here power_here to (R.mul (root R U s (power_phase s p (suc j))) R.one)
      ∙ sym (mul_pick R (nat_eq x (product s.group power_here.value p)) (root R U s (power_phase s p (suc j))) R.one)
