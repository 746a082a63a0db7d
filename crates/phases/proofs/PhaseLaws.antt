-- The identities of the phases of a normalised 3-cocycle.
use Rattle.std.proofs.Common.{◌≡◌, ℕ, zero-add, ◌+◌, ◌-◌, ◌%◌, ◌<◌, sym, ◌∙◌, ap, arith}
use Rattle.std.proofs.Math.Nat.{mod-lt}
use Rattle.algebra.specs.Groups.{Group, conj}
use Rattle.algebra.specs.Congruences.{Same}
use Rattle.algebra.proofs.CongruenceLaws.{same_refl, same_of, same_sym, same_trans, same_mod, same_add, same_add_multiple, same_lin, same_equal}
use Rattle.algebra.proofs.GroupLaws.{group_rules, conj_is, conj_rules, conj_op, conj_symmetric, commuting_of_conj, conj_inv}
use Rattle.phases.specs.ThreeCocycle.{ThreeCocycle}
use Rattle.phases.specs.Phases.{theta, gamma, transport_phase, kappa}

-- what is taken off by its distance to n comes back when it is added
taken_off : (n a b : ℕ) → b < n → Same n ((a + (n - b)) % n + b) a
taken_off n a b below =
    same_trans (same_add (same_mod n (a + (n - b))) (same_refl n b)) (same_trans (same_of n (omega arith)) (same_add_multiple n a 1))

module _ {G : Type 0} (P : Group G) (n : ℕ) (w : G → G → G → ℕ) (W : ThreeCocycle P n w) where
  positive : 0 < n
  positive = let h : w P.one P.one P.one < n = W.below P.one P.one P.one in omega arith

  -- each phase is below n, and adding what its formula takes off leaves the rest

  pub phases_below : (g x y : G) → (theta P n w g x y < n) × (gamma P n w g x y < n) × (transport_phase P n w g x y < n) × (kappa P n w g x y < n)
  unfolding theta gamma transport_phase kappa
  phases_below g x y = (mod-lt _ positive, mod-lt _ positive, mod-lt _ positive, mod-lt _ positive)

  pub theta_is : (g x y : G) → Same n (theta P n w g x y + w x (conj P g x) y) (w g x y + w x y (conj P g (P.op x y)))
  unfolding theta
  theta_is g x y = taken_off n _ _ (W.below x (conj P g x) y)

  pub gamma_is : (x g h : G) → Same n (gamma P n w x g h + w g x (conj P h x)) (w g h x + w x (conj P g x) (conj P h x))
  unfolding gamma
  gamma_is x g h = taken_off n _ _ (W.below g x (conj P h x))

  pub transport_phase_is : (g x k : G) → Same n (transport_phase P n w g x k + theta P n w g k (conj P x k)) (theta P n w g x k)
  unfolding transport_phase
  transport_phase_is g x k = taken_off n _ _ (phases_below g k (conj P x k)).0

  pub kappa_is : (a c x : G) → Same n (kappa P n w a c x + theta P n w a (P.op (P.op c x) (P.inv c)) c) (theta P n w a c x)
  unfolding kappa
  kappa_is a c x = taken_off n _ _ (phases_below a (P.op (P.op c x) (P.inv c)) c).0

  -- no phase where an argument or the index is the identity

  -- a number below n that is congruent to 0 with what is added on both sides
  nothing : (a p q : ℕ) → a < n → Same n p q → a + q ≡ p → a ≡ 0
  nothing a p q below same e = same_equal below positive (same_lin n a 0 p q same (e ∙ sym (zero-add p)))

  pub theta_first_one : (g y : G) → theta P n w g P.one y ≡ 0
  theta_first_one g y = nothing _ _ _ (phases_below g P.one y).0 (theta_is g P.one y) (simp (conj_rules, P, W.first_one, W.second_one) (omega arith))

  pub theta_second_one : (g x : G) → theta P n w g x P.one ≡ 0
  theta_second_one g x = nothing _ _ _ (phases_below g x P.one).0 (theta_is g x P.one) (simp (conj_rules, P, W.second_one, W.third_one) (omega arith))

  pub theta_of_one : (x y : G) → theta P n w P.one x y ≡ 0
  theta_of_one x y = nothing _ _ _ (phases_below P.one x y).0 (theta_is P.one x y) (simp (conj_rules, P, W.first_one, W.second_one, W.third_one) (omega arith))

  pub gamma_of_one : (g h : G) → gamma P n w P.one g h ≡ 0
  gamma_of_one g h = nothing _ _ _ (phases_below P.one g h).1 (gamma_is P.one g h) (simp (conj_rules, P, W.first_one, W.second_one, W.third_one) (omega arith))

  pub gamma_first_one : (x h : G) → gamma P n w x P.one h ≡ 0
  gamma_first_one x h = nothing _ _ _ (phases_below x P.one h).1 (gamma_is x P.one h) (simp (conj_rules, P, W.first_one, W.second_one) (omega arith))

  pub gamma_second_one : (x g : G) → gamma P n w x g P.one ≡ 0
  gamma_second_one x g = nothing _ _ _ (phases_below x g P.one).1 (gamma_is x g P.one) (simp (conj_rules, P, W.second_one, W.third_one) (omega arith))

  pub transport_phase_at_one : (x k : G) → transport_phase P n w P.one x k ≡ 0
  transport_phase_at_one x k = nothing _ _ _ (phases_below P.one x k).2 (transport_phase_is P.one x k) (simp theta_of_one (omega arith))

  pub transport_phase_of_one : (g k : G) → transport_phase P n w g P.one k ≡ 0
  transport_phase_of_one g k = nothing _ _ _ (phases_below g P.one k).2 (transport_phase_is g P.one k) (simp (conj_rules, P, theta_first_one, theta_second_one) (omega arith))

  pub transport_phase_along_one : (g x : G) → transport_phase P n w g x P.one ≡ 0
  transport_phase_along_one g x = nothing _ _ _ (phases_below g x P.one).2 (transport_phase_is g x P.one) (simp (conj_rules, P, theta_first_one, theta_second_one) (omega arith))

  -- the law of a 2-cocycle, but that the index moves with the first argument
  pub theta_associative : (g x y z : G) → Same n (theta P n w g x y + theta P n w g (P.op x y) z) (theta P n w g x (P.op y z) + theta P n w (conj P g x) y z)
  theta_associative g x y z =
      same_lin n _ _ _ _
      (same_add (same_add (theta_is g x y) (theta_is g (P.op x y) z))
      (same_add (same_sym (same_add (theta_is g x (P.op y z)) (theta_is (conj P g x) y z)))
      (same_add (same_add (W.law g x y z) (same_sym (W.law x (conj P g x) y z)))
      (same_add (W.law x y (conj P g (P.op x y)) z) (same_sym (W.law x y z (conj P g (P.op x (P.op y z)))))))))
      (simp (conj_rules, P) (omega arith))

  -- the two phases are compatible: what makes the coproduct a map of algebras
  pub theta_gamma_compatible : (g h x y : G) →
      Same n (theta P n w g x y + theta P n w h x y + gamma P n w x g h + gamma P n w y (conj P g x) (conj P h x))
      (theta P n w (P.op g h) x y + gamma P n w (P.op x y) g h)
  theta_gamma_compatible g h x y =
      same_lin n _ _ _ _
      (same_add (same_add (theta_is g x y) (theta_is h x y))
      (same_add (same_add (gamma_is x g h) (gamma_is y (conj P g x) (conj P h x)))
      (same_add (same_sym (same_add (theta_is (P.op g h) x y) (gamma_is (P.op x y) g h)))
      (same_add (same_add (W.law g h x y) (same_sym (W.law g x (conj P h x) y)))
      (same_add (same_add (W.law g x y (conj P h (P.op x y))) (W.law x (conj P g x) (conj P h x) y))
      (same_add (same_sym (W.law x (conj P g x) y (conj P h (P.op x y)))) (W.law x y (conj P g (P.op x y)) (conj P h (P.op x y)))))))))
      (simp (conj_rules, P) (omega arith))

  -- the two phases of elements that commute with b
  pub gamma_is_theta : (b g h : G) → conj P g b ≡ g → conj P h b ≡ h → gamma P n w b g h ≡ theta P n w b g h
  gamma_is_theta b g h commutes_g commutes_h =
      same_equal (phases_below b g h).1 (phases_below b g h).0
      (same_lin n _ _ _ _ (same_add (gamma_is b g h) (same_sym (theta_is b g h)))
      (simp (conj_rules, P, commutes_g, commutes_h, conj_symmetric P g b commutes_g, conj_symmetric P h b commutes_h) (omega arith)))

  -- along any k, the transport phases of two elements that commute are inverse to each other
  pub transport_phases_inverse : (g x k : G) → conj P x g ≡ x → Same n (transport_phase P n w g x k + transport_phase P n w x g k) 0
  transport_phases_inverse g x k commutes =
      same_lin n _ _ _ _
      (same_add (same_add (transport_phase_is g x k) (transport_phase_is x g k))
      (same_add (same_add (theta_is g x k) (same_sym (theta_is g k (conj P x k))))
      (same_add (theta_is x g k) (same_sym (theta_is x k (conj P g k))))))
      (simp (conj_rules, P, commutes, conj_symmetric P x g commutes) (omega arith))

  -- an element in its own algebra
  pub theta_at_itself : (g x : G) → conj P x g ≡ x → theta P n w g g x ≡ w g x g
  theta_at_itself g x commutes =
      same_equal (phases_below g g x).0 (W.below g x g)
      (same_lin n _ _ _ _ (theta_is g g x) (simp (conj_rules, P, conj_symmetric P x g commutes) (omega arith)))

  pub theta_by_itself : (g x : G) → conj P x g ≡ x → theta P n w g x g ≡ w g x g
  theta_by_itself g x commutes =
      same_equal (phases_below g x g).0 (W.below g x g)
      (same_lin n _ _ _ _ (theta_is g x g) (simp (conj_rules, P, conj_symmetric P x g commutes) (omega arith)))

  -- the index a product of two elements that commute
  pub theta_product_index : (g x : G) → conj P x g ≡ x → Same n (theta P n w (P.op g x) g x) (theta P n w g g x + theta P n w x x g)
  theta_product_index g x commutes =
      same_lin n _ _ _ _
      (same_add (theta_is (P.op g x) g x) (same_add (same_sym (same_add (theta_is g g x) (theta_is x x g))) (same_sym (W.law g x g x))))
      (simp (conj_rules, P, commutes, conj_symmetric P x g commutes, commuting_of_conj P x g commutes) (omega arith))

  -- an element is carried along k with no phase in its own algebra
  pub transport_phase_of_itself : (g k : G) → transport_phase P n w g g k ≡ 0
  transport_phase_of_itself g k =
      nothing _ _ _ (phases_below g g k).2
      (same_add (transport_phase_is g g k) (same_add (theta_is g g k) (same_sym (theta_is g k (conj P g k)))))
      (simp (conj_rules, P) (omega arith))

  -- along a product: first along its left factor
  pub transport_phase_composes : (g x k c : G) → conj P x g ≡ x →
      Same n (transport_phase P n w g x (P.op k c)) (transport_phase P n w g x k + transport_phase P n w (conj P g k) (conj P x k) c)
  transport_phase_composes g x k c commutes =
      same_lin n _ _ _ _
      (same_add (same_add (transport_phase_is g x (P.op k c)) (same_sym (same_add (transport_phase_is g x k) (transport_phase_is (conj P g k) (conj P x k) c))))
      (same_add (same_sym (theta_associative g x k c))
      (same_add (theta_associative g k (conj P x k) c) (same_sym (theta_associative g k c (conj P x (P.op k c)))))))
      (simp (conj_rules, P, conj_symmetric P x g commutes) (omega arith))

  -- and back
  pub transport_phase_back : (g x k : G) → conj P x g ≡ x → Same n (transport_phase P n w (conj P g k) (conj P x k) (P.inv k) + transport_phase P n w g x k) 0
  transport_phase_back g x k commutes =
      let along : transport_phase P n w g x (P.op k (P.inv k)) ≡ 0 = ap (λ c. transport_phase P n w g x c) (P.op_inv k) ∙ transport_phase_along_one g x in
      same_lin n _ _ _ _ (same_sym (transport_phase_composes g x k (P.inv k) commutes)) (omega (arith, along))

  -- transport along k is a map of algebras
  pub transport_is_algebra_map : (g x y k : G) → conj P x g ≡ x → conj P y g ≡ y →
      Same n (theta P n w g x y + transport_phase P n w g (P.op x y) k)
      (transport_phase P n w g x k + transport_phase P n w g y k + theta P n w (conj P g k) (conj P x k) (conj P y k))
  transport_is_algebra_map g x y k commutes_x commutes_y =
      same_lin n _ _ _ _
      (same_add (same_add (transport_phase_is g (P.op x y) k) (same_sym (same_add (transport_phase_is g x k) (transport_phase_is g y k))))
      (same_add (theta_associative g x y k)
      (same_add (same_sym (theta_associative g x k (conj P y k))) (theta_associative g k (conj P x k) (conj P y k)))))
      (simp (conj_rules, P, conj_symmetric P x g commutes_x) (omega arith))

  -- the coproduct phase is carried along c
  pub gamma_transport : (x h k c : G) → conj P h x ≡ h → conj P k x ≡ k →
      Same n (gamma P n w x h k + transport_phase P n w h x c + transport_phase P n w k x c)
      (transport_phase P n w (P.op h k) x c + gamma P n w (conj P x c) (conj P h c) (conj P k c))
  gamma_transport x h k c commutes_h commutes_k =
      same_lin n _ _ _ _
      (same_add (same_add (same_add (transport_phase_is h x c) (transport_phase_is k x c)) (same_sym (transport_phase_is (P.op h k) x c)))
      (same_add (theta_gamma_compatible h k x c) (same_sym (theta_gamma_compatible h k c (conj P x c)))))
      (simp (conj_rules, P, commutes_h, commutes_k) (omega arith))

  -- the conjugation phase is the transport phase back from the conjugate
  pub kappa_is_transport : (a c x : G) → Same n (kappa P n w a c x + transport_phase P n w a (P.op (P.op c x) (P.inv c)) c) 0
  kappa_is_transport a c x =
      let back : conj P (P.op (P.op c x) (P.inv c)) c ≡ x = simp (conj_is, group_rules, P) in
      same_lin n _ _ _ _ (same_add (kappa_is a c x) (transport_phase_is a (P.op (P.op c x) (P.inv c)) c)) (simp back (omega arith))

  -- what commutes with a is closed under conjugation
  commutes_back : (a c : G) → conj P a c ≡ a → conj P a (P.inv c) ≡ a
  commutes_back a c h = ap (λ z. conj P z (P.inv c)) (sym h) ∙ conj_inv P a c

  commutes_conjugate : (a c x : G) → conj P a c ≡ a → conj P a x ≡ a → conj P a (P.op (P.op c x) (P.inv c)) ≡ a
  commutes_conjugate a c x h k = simp (conj_op, h, k, commutes_back a c h)

  -- by a product: first by its right factor
  pub kappa_composes : (a d c x : G) → conj P a d ≡ a → conj P a c ≡ a → conj P a x ≡ a →
      Same n (kappa P n w a (P.op d c) x) (kappa P n w a d (P.op (P.op c x) (P.inv c)) + kappa P n w a c x)
  kappa_composes a d c x commutes_d commutes_c commutes_x =
      let y : G = P.op (P.op c x) (P.inv c) in
      let z : G = P.op (P.op d y) (P.inv d) in
      let commutes_z : conj P a z ≡ a = commutes_conjugate a d y commutes_d (commutes_conjugate a c x commutes_c commutes_x) in
      let twice : P.op (P.op (P.op d c) x) (P.inv (P.op d c)) ≡ z = simp (group_rules, P) in
      let over_c : P.op y c ≡ P.op c x = simp (group_rules, P) in
      let over_d : P.op z d ≡ P.op d y = simp (group_rules, P) in
      same_lin n _ _ _ _
      (same_add (same_add (kappa_is a (P.op d c) x) (same_sym (same_add (kappa_is a d y) (kappa_is a c x))))
      (same_add (theta_associative a d c x) (same_add (same_sym (theta_associative a d y c)) (theta_associative a z d c))))
      (simp (twice, over_c, over_d, commutes_d, commutes_z) (omega arith))
