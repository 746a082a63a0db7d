-- Commuting elements, roots and carriers in the setting of full characters.
use Rattle.characters.proofs.Names.{Finite, equals, ◌≡◌, ℕ, Bool, true, false, refl, sym, ◌∙◌, ap, ap₂, conj, product_rules, one_mul, conj_of_commuting, op_conj, conj_injective, op_cancel_left, op_inv_op, op_op_inv, equals_true, equals_of, ◌+◌, Setting, Commuting, commute, slant_root, transport_root, conjugation_root, coproduct_root, CommRing, pick, pick_true, pick_false, total, total_ext, total_nought, pick_of, pick_off, pick_cong, equals_false, commuting_of_conj, conj_inv, conj_of_inv}
use Rattle.algebra.specs.Congruences.{Same}
use Rattle.phases.specs.Phases.{theta}
use Rattle.phases.proofs.PhaseLaws.{transport_is_algebra_map, transport_phase_of_itself, theta_at_itself, theta_by_itself, theta_product_index, theta_associative, theta_second_one, theta_of_one, theta_gamma_compatible, gamma_transport, gamma_is_theta, gamma_of_one, kappa_is, kappa_is_transport, transport_phase_back, transport_phase_composes, transport_phases_inverse, transport_phase_along_one, transport_phase_of_one, transport_phase_at_one}

-- tests that imply each other are one
pub same_test : (b c : Bool) → (b ≡ true → c ≡ true) → (c ≡ true → b ≡ true) → b ≡ c
same_test true c f g = sym (f refl)
same_test false true f g = g refl
same_test false false f g = refl

-- so are tests of equations that imply each other
pub equals_both : {S L : Type 0} (E : Finite S) (F : Finite L) (x y : S) (u v : L) → (x ≡ y → u ≡ v) → (u ≡ v → x ≡ y) → equals E x y ≡ equals F u v
equals_both E F x y u v f g =
    same_test (equals E x y) (equals F u v) (λ h. equals_of F u v (f (equals_true E x y h))) (λ h. equals_of E x y (g (equals_true F u v h)))

pub equals_symmetric : {S : Type 0} (E : Finite S) (x y : S) → equals E x y ≡ equals E y x
equals_symmetric E x y = equals_both E E x y y x (λ h. sym h) (λ h. sym h)

-- elements are equal or not
pub by_equality : {S P : Type 0} (E : Finite S) (x y : S) → (x ≡ y → P) → ((x ≡ y → ⊥) → P) → P
by_equality {S} {P} E x y f g = by (equals E x y) refl
  where
    by : (b : Bool) → equals E x y ≡ b → P
    by true e = f (equals_true E x y e)
    by false e = g (λ h. absurd (let wrong : true ≡ false = sym (equals_of E x y h) ∙ e in cc))

-- an element that is y where a test holds, and else nought
pub pick_cases : {A : Type 0} (R : CommRing A) (b : Bool) (x y : A) → (b ≡ true → x ≡ y) → (b ≡ false → x ≡ R.nought) → x ≡ pick R b y
pick_cases R true x y f g = f refl ∙ sym (pick_true R y)
pick_cases R false x y f g = g refl ∙ sym (pick_false R y)

pub pick_where_equal : {A S : Type 0} (R : CommRing A) (E : Finite S) (i j : S) (x y : A)
    → (i ≡ j → x ≡ y) → ((i ≡ j → ⊥) → x ≡ R.nought) → x ≡ pick R (equals E i j) y
pick_where_equal R E i j x y f g =
    by_equality E i j (λ e. f e ∙ sym (pick_of R _ y (equals_of E i j e))) (λ n. g n ∙ sym (pick_off R _ y (equals_false E i j n)))

-- picks by equal tests of elements that are equal where the tests hold
pub pick_both : {A : Type 0} (R : CommRing A) (b c : Bool) (x y : A) → b ≡ c → (b ≡ true → x ≡ y) → pick R b x ≡ pick R c y
pick_both R b c x y e h = pick_cong R b x y h ∙ ap (λ d. pick R d y) e

-- a total of noughts
pub total_none : {A S : Type 0} (R : CommRing A) (E : Finite S) (f : S → A) → ((x : S) → f x ≡ R.nought) → total R E f ≡ R.nought
total_none R E f h = total_ext R E f (λ x. R.nought) h ∙ total_nought R E

module _ {A G : Type 0} (T : Setting A G) where
  pub commute_true : (g x : G) → commute T g x ≡ true → Commuting T g x
  unfolding commute
  commute_true g x h = equals_true T.finite (T.group.op g x) (T.group.op x g) h

  pub commute_of : (g x : G) → Commuting T g x → commute T g x ≡ true
  unfolding commute
  commute_of g x h = equals_of T.finite (T.group.op g x) (T.group.op x g) h

  pub commute_both : (g x h y : G) → (Commuting T g x → Commuting T h y) → (Commuting T h y → Commuting T g x) → commute T g x ≡ commute T h y
  unfolding commute
  commute_both g x h y p q = equals_both T.finite T.finite _ _ _ _ p q

  pub commute_symmetric : (g x : G) → commute T g x ≡ commute T x g
  commute_symmetric g x = commute_both g x x g (λ h. sym h) (λ h. sym h)

  -- commuting elements are carried to commuting ones
  pub commuting_conj : (g x c : G) → Commuting T g x → Commuting T (conj T.group g c) (conj T.group x c)
  commuting_conj g x c h = sym (op_conj T.group g x c) ∙ ap (λ z. conj T.group z c) h ∙ op_conj T.group x g c

  pub commute_conj : (g x c : G) → commute T (conj T.group g c) (conj T.group x c) ≡ commute T g x
  commute_conj g x c =
      commute_both _ _ g x (λ h. conj_injective T.group _ _ c (op_conj T.group g x c ∙ h ∙ sym (op_conj T.group x g c))) (commuting_conj g x c)

  -- c carries a to itself where the two commute
  pub fixed_test : (a c : G) → equals T.finite (conj T.group a c) a ≡ commute T c a
  unfolding commute
  fixed_test a c =
      equals_both T.finite T.finite _ _ _ _ (λ h. sym (commuting_of_conj T.group a c h)) (λ h. conj_of_commuting T.group a c (sym h))

  -- k carries g to a where its inverse carries a to g
  pub carried_test : (g a k : G) → equals T.finite (conj T.group g k) a ≡ equals T.finite g (conj T.group a (T.group.inv k))
  carried_test g a k =
      equals_both T.finite T.finite _ _ _ _ (λ h. sym (conj_inv T.group g k) ∙ ap (λ z. conj T.group z (T.group.inv k)) h)
      (λ h. ap (λ z. conj T.group z k) h ∙ conj_of_inv T.group a k)

  -- every element commutes with the identity
  pub one_commutes : (g : G) → Commuting T T.group.one g
  one_commutes g = T.group.one_op g ∙ sym (T.group.op_one g)

  pub commutes_one : (g : G) → Commuting T g T.group.one
  commutes_one g = T.group.op_one g ∙ sym (T.group.one_op g)

  -- what commutes with an element is closed under products
  pub commuting_product : (x y a : G) → Commuting T x a → Commuting T y a → Commuting T (T.group.op x y) a
  commuting_product x y a p q =
      T.group.op_assoc x y a ∙ ap (T.group.op x) q ∙ sym (T.group.op_assoc x a y) ∙ ap (λ z. T.group.op z y) p ∙ T.group.op_assoc a x y

  -- what is multiplied by one of two inverse factors comes back by the other
  pub undo : (r s x y : A) → T.ring.mul r s ≡ T.ring.one → x ≡ T.ring.mul r y → y ≡ T.ring.mul s x
  undo r s x y unit e =
      sym (ap (T.ring.mul s) e ∙ sym (T.ring.mul_assoc s r y) ∙ ap (λ z. T.ring.mul z y) (T.ring.mul_comm s r ∙ unit) ∙ one_mul T.ring y)

  -- a factor with an inverse may be cancelled
  pub cancel_unit : (r s x y : A) → T.ring.mul r s ≡ T.ring.one → T.ring.mul r x ≡ T.ring.mul r y → x ≡ y
  cancel_unit r s x y unit e = undo r s _ x unit refl ∙ sym (undo r s _ y unit e)

  -- two factors that are inverse to each other vanish
  pub cancel_pair : (r s x y : A) → T.ring.mul r s ≡ T.ring.one → T.ring.mul (T.ring.mul r x) (T.ring.mul s y) ≡ T.ring.mul x y
  cancel_pair r s x y e =
      let sorted : T.ring.mul (T.ring.mul r x) (T.ring.mul s y) ≡ T.ring.mul (T.ring.mul r s) (T.ring.mul x y) = simp (product_rules, T.ring) in
      sorted ∙ ap (λ z. T.ring.mul z (T.ring.mul x y)) e ∙ one_mul T.ring (T.ring.mul x y)

  -- an element has one inverse
  pub inverse_unique : (u v z : A) → T.ring.mul u v ≡ T.ring.one → T.ring.mul u z ≡ T.ring.one → v ≡ z
  inverse_unique u v z p q = sym (undo u v T.ring.one z p (sym q) ∙ T.ring.mul_one v)

  -- the conjugate of a root is the root of the opposite exponent
  pub root_opposite : (v w : ℕ) → Same T.modulus (v + w) 0 → T.involution.bar (T.roots.root v) ≡ T.roots.root w
  root_opposite v w h =
      inverse_unique (T.roots.root v) (T.involution.bar (T.roots.root v)) (T.roots.root w) (T.root_bar v)
      (sym (T.roots.root_add v w) ∙ T.roots.root_same (v + w) 0 h ∙ T.roots.root_zero)

  -- the roots of transport phases

  -- along a product: first along its left factor
  pub transport_root_composes : (g x k c : G) → Commuting T g x →
      transport_root T g x (T.group.op k c) ≡ T.ring.mul (transport_root T g x k) (transport_root T (conj T.group g k) (conj T.group x k) c)
  unfolding transport_root
  transport_root_composes g x k c commuting =
      simp (← T.roots.root_add)
      (T.roots.root_same _ _ (transport_phase_composes T.group T.modulus T.cochain T.cocycle g x k c (conj_of_commuting T.group x g (sym commuting))))

  -- those of two elements that commute are inverse to each other
  pub transport_roots_inverse : (g x k : G) → Commuting T g x → T.ring.mul (transport_root T g x k) (transport_root T x g k) ≡ T.ring.one
  unfolding transport_root
  transport_roots_inverse g x k commuting =
      simp (← T.roots.root_add, ← T.roots.root_zero)
      (T.roots.root_same _ _ (transport_phases_inverse T.group T.modulus T.cochain T.cocycle g x k (conj_of_commuting T.group x g (sym commuting))))

  pub transport_root_bar : (g x k : G) → T.ring.mul (transport_root T g x k) (T.involution.bar (transport_root T g x k)) ≡ T.ring.one
  unfolding transport_root
  transport_root_bar g x k = T.root_bar _

  pub transport_root_along_one : (g x : G) → transport_root T g x T.group.one ≡ T.ring.one
  unfolding transport_root
  transport_root_along_one g x = ap T.roots.root (transport_phase_along_one T.group T.modulus T.cochain T.cocycle g x) ∙ T.roots.root_zero

  pub transport_root_of_one : (g k : G) → transport_root T g T.group.one k ≡ T.ring.one
  unfolding transport_root
  transport_root_of_one g k = ap T.roots.root (transport_phase_of_one T.group T.modulus T.cochain T.cocycle g k) ∙ T.roots.root_zero

  pub transport_root_at_one : (x k : G) → transport_root T T.group.one x k ≡ T.ring.one
  unfolding transport_root
  transport_root_at_one x k = ap T.roots.root (transport_phase_at_one T.group T.modulus T.cochain T.cocycle x k) ∙ T.roots.root_zero

  pub transport_root_back : (g x k : G) → Commuting T g x →
      transport_root T (conj T.group g k) (conj T.group x k) (T.group.inv k) ≡ T.involution.bar (transport_root T g x k)
  unfolding transport_root
  transport_root_back g x k commuting =
      inverse_unique _ _ _
      (T.ring.mul_comm _ _ ∙ sym (T.roots.root_add _ _)
      ∙ T.roots.root_same _ _ (transport_phase_back T.group T.modulus T.cochain T.cocycle g x k (conj_of_commuting T.group x g (sym commuting))) ∙ T.roots.root_zero)
      (transport_root_bar g x k)

  -- the roots of the twisted group algebra of a

  pub slant_root_bar : (a x y : G) → T.ring.mul (slant_root T a x y) (T.involution.bar (slant_root T a x y)) ≡ T.ring.one
  unfolding slant_root
  slant_root_bar a x y = T.root_bar _

  -- e(ka(c,x)) e(th_a(c x c^-1, c)) = e(th_a(c,x))
  pub conjugation_root_is : (a c x : G) →
      T.ring.mul (conjugation_root T a c x) (slant_root T a (T.group.op (T.group.op c x) (T.group.inv c)) c) ≡ slant_root T a c x
  unfolding slant_root conjugation_root
  conjugation_root_is a c x = sym (T.roots.root_add _ _) ∙ T.roots.root_same _ _ (kappa_is T.group T.modulus T.cochain T.cocycle a c x)

  pub conjugation_root_unit : (a c x : G) → T.ring.mul (conjugation_root T a c x) (T.involution.bar (conjugation_root T a c x)) ≡ T.ring.one
  unfolding conjugation_root
  conjugation_root_unit a c x = T.root_bar _

  -- conjugation by c undoes transport along c
  pub conjugation_root_bar : (a c x : G) → T.involution.bar (conjugation_root T a c x) ≡ transport_root T a (T.group.op (T.group.op c x) (T.group.inv c)) c
  unfolding conjugation_root transport_root
  conjugation_root_bar a c x = root_opposite _ _ (kappa_is_transport T.group T.modulus T.cochain T.cocycle a c x)

  -- the coproduct roots

  pub coproduct_root_at_one : (g h : G) → coproduct_root T T.group.one g h ≡ T.ring.one
  unfolding coproduct_root
  coproduct_root_at_one g h = ap T.roots.root (gamma_of_one T.group T.modulus T.cochain T.cocycle g h) ∙ T.roots.root_zero

  -- those of elements that commute with b are the slant roots of b
  pub coproduct_root_is_slant : (b g h : G) → Commuting T g b → Commuting T h b → coproduct_root T b g h ≡ slant_root T b g h
  unfolding coproduct_root slant_root
  coproduct_root_is_slant b g h p q =
      ap T.roots.root (gamma_is_theta T.group T.modulus T.cochain T.cocycle b g h (conj_of_commuting T.group g b p) (conj_of_commuting T.group h b q))

  -- they are carried along c
  pub coproduct_root_carried : (x h k c : G) → Commuting T h x → Commuting T k x →
      T.ring.mul (coproduct_root T x h k) (T.ring.mul (transport_root T h x c) (transport_root T k x c))
      ≡ T.ring.mul (transport_root T (T.group.op h k) x c) (coproduct_root T (conj T.group x c) (conj T.group h c) (conj T.group k c))
  unfolding coproduct_root transport_root
  coproduct_root_carried x h k c p q =
      rw (← T.ring.mul_assoc)
      (simp (← T.roots.root_add)
      (T.roots.root_same _ _ (gamma_transport T.group T.modulus T.cochain T.cocycle x h k c (conj_of_commuting T.group h x p) (conj_of_commuting T.group k x q))))

  -- transport along k is a map of algebras
  pub transport_root_product : (g x y k : G) → Commuting T x g → Commuting T y g →
      T.ring.mul (slant_root T g x y) (transport_root T g (T.group.op x y) k)
      ≡ T.ring.mul (T.ring.mul (transport_root T g x k) (transport_root T g y k)) (slant_root T (conj T.group g k) (conj T.group x k) (conj T.group y k))
  unfolding slant_root transport_root
  transport_root_product g x y k p q =
      simp (← T.roots.root_add)
      (T.roots.root_same _ _ (transport_is_algebra_map T.group T.modulus T.cochain T.cocycle g x y k (conj_of_commuting T.group x g p) (conj_of_commuting T.group y g q)))

  pub transport_root_of_itself : (g k : G) → transport_root T g g k ≡ T.ring.one
  unfolding transport_root
  transport_root_of_itself g k = ap T.roots.root (transport_phase_of_itself T.group T.modulus T.cochain T.cocycle g k) ∙ T.roots.root_zero

  -- an element is central in its own algebra
  pub slant_root_swap : (g x : G) → Commuting T x g → slant_root T g x g ≡ slant_root T g g x
  unfolding slant_root
  slant_root_swap g x p =
      let commutes : conj T.group x g ≡ x = conj_of_commuting T.group x g p in
      ap T.roots.root (theta_by_itself T.group T.modulus T.cochain T.cocycle g x commutes ∙ sym (theta_at_itself T.group T.modulus T.cochain T.cocycle g x commutes))

  -- th_gx(g,x) = th_g(g,x) th_x(x,g)
  pub slant_root_product_index : (g x : G) → Commuting T x g → slant_root T (T.group.op g x) g x ≡ T.ring.mul (slant_root T g g x) (slant_root T x x g)
  unfolding slant_root
  slant_root_product_index g x p =
      T.roots.root_same _ _ (theta_product_index T.group T.modulus T.cochain T.cocycle g x (conj_of_commuting T.group x g p)) ∙ T.roots.root_add _ _

  -- the law of a 2-cocycle in the centraliser of g
  pub slant_root_associative : (g x y z : G) → Commuting T x g →
      T.ring.mul (slant_root T g x y) (slant_root T g (T.group.op x y) z) ≡ T.ring.mul (slant_root T g x (T.group.op y z)) (slant_root T g y z)
  unfolding slant_root
  slant_root_associative g x y z p =
      sym (T.roots.root_add _ _)
      ∙ T.roots.root_same _ _ (theta_associative T.group T.modulus T.cochain T.cocycle g x y z)
      ∙ T.roots.root_add _ _
      ∙ ap (λ h. T.ring.mul (T.roots.root (theta T.group T.modulus T.cochain g x (T.group.op y z))) (T.roots.root (theta T.group T.modulus T.cochain h y z))) (conj_of_commuting T.group g x (sym p))

  pub slant_root_second_one : (g x : G) → slant_root T g x T.group.one ≡ T.ring.one
  unfolding slant_root
  slant_root_second_one g x = ap T.roots.root (theta_second_one T.group T.modulus T.cochain T.cocycle g x) ∙ T.roots.root_zero

  -- slant and coproduct roots are compatible
  pub slant_coproduct_compatible : (g k h l : G) →
      T.ring.mul (T.ring.mul (slant_root T g h l) (slant_root T k h l)) (T.ring.mul (coproduct_root T h g k) (coproduct_root T l (conj T.group g h) (conj T.group k h)))
      ≡ T.ring.mul (slant_root T (T.group.op g k) h l) (coproduct_root T (T.group.op h l) g k)
  unfolding slant_root coproduct_root
  slant_coproduct_compatible g k h l =
      rw (← T.ring.mul_assoc) (simp (← T.roots.root_add) (T.roots.root_same _ _ (theta_gamma_compatible T.group T.modulus T.cochain T.cocycle g k h l)))

  pub slant_root_of_one : (x y : G) → slant_root T T.group.one x y ≡ T.ring.one
  unfolding slant_root
  slant_root_of_one x y = ap T.roots.root (theta_of_one T.group T.modulus T.cochain T.cocycle x y) ∙ T.roots.root_zero

  -- what commutes with an element is closed under inverses
  pub commuting_inv : (x a : G) → Commuting T x a → Commuting T (T.group.inv x) a
  commuting_inv x a h =
      op_cancel_left T.group x _ _
      (op_inv_op T.group x a ∙ sym (sym (T.group.op_assoc x a (T.group.inv x)) ∙ ap (λ z. T.group.op z (T.group.inv x)) h ∙ op_op_inv T.group x a))

  -- the slant roots at inverses
  pub slant_roots_inverse : (g h : G) → Commuting T g h →
      T.ring.mul (T.ring.mul (slant_root T g h (T.group.inv h)) (slant_root T (T.group.inv g) h (T.group.inv h)))
      (T.ring.mul (slant_root T h g (T.group.inv g)) (slant_root T (T.group.inv h) g (T.group.inv g)))
      ≡ T.ring.one
  slant_roots_inverse g h p =
      let k : G = T.group.inv g in
      let l : G = T.group.inv h in
      let same_g : conj T.group g h ≡ g = conj_of_commuting T.group g h p in
      let same_k : conj T.group k h ≡ k = conj_of_commuting T.group k h (commuting_inv g h p) in
      let back : Commuting T g l = sym (commuting_inv h g (sym p)) in
      ap₂ (λ u v. T.ring.mul (T.ring.mul (slant_root T g h l) (slant_root T k h l)) (T.ring.mul u v))
      (sym (coproduct_root_is_slant h g k p (commuting_inv g h p)))
      (sym (coproduct_root_is_slant l g k back (commuting_inv g l back)) ∙ ap₂ (coproduct_root T l) (sym same_g) (sym same_k))
      ∙ slant_coproduct_compatible g k h l
      ∙ ap₂ T.ring.mul (ap (λ z. slant_root T z h l) (T.group.op_inv g) ∙ slant_root_of_one h l) (ap (λ z. coproduct_root T z g k) (T.group.op_inv h) ∙ coproduct_root_at_one g k)
      ∙ T.ring.mul_one T.ring.one
