-- Conjugation is an action, conjugacy an equivalence, and each element has a representative, a transporter and a class.
use Rattle.classes.proofs.Names.{◌≡◌, ◌≢◌, ℕ, eq-or-lt_of_le, ◌<◌, ◌≤◌, Bool, true, ◌↔◌, cond, ◌&&◌, not, length, get_or, nat_eq, Some, None, refl, sym, ap, ◌∙◌, arith, inl, inr, eq-eqb, eqb-true, unwrap_or, All-get_or, All-cons, All-weaker, get_or_default, first-ext, and_true, Table, product, identity_of, inverse, IsGroup, two_sided_inverse, identity_below, IsPassing, passing_below-all, passing_below-exactly, begun_differ, begun_contains, length-passing_below, same_test, IsLeastPassing, least_passing, least_passing_found}
use Rattle.std.specs.List.{All, Contains}
use Rattle.classes.specs.Conjugacy.{conjugate, least_transporter, is_conjugate, representative_of, transporter_of, representatives, other_representatives, class_of, members_of, centraliser_of, representative_at}
use Rattle.classes.proofs.Orbits as orbits
use Rattle.classes.proofs.Orbits.{IsAction, back, met_by, met_refl, met_sym, met_trans}
use Rattle.classes.proofs.Carrying.{carry, carry_op, op_carry, carry_one, one_carry, element, same_value, element_group}

-- a is least in its class
pub record IsRepresentative (t : Table) (a : ℕ) : Type 0 where
  pub below : a < t.order
  pub represents : representative_of t a ≡ a

-- g is in the class of a
pub record IsMember (t : Table) (a g : ℕ) : Type 0 where
  pub below : g < t.order
  pub conjugates : is_conjugate t a g ≡ true

-- k is the least element that carries the representative of the class of g to g
pub record IsLeastTransporter (t : Table) (g k : ℕ) : Type 0 where
  pub below : k < t.order
  pub carries : conjugate t k (representative_of t g) ≡ g
  pub least : (j : ℕ) → j < t.order → conjugate t j (representative_of t g) ≡ g → k ≤ j

-- a represents a class other than that of the identity
abbrev pub is_other : Table → ℕ → Bool
is_other t a = nat_eq (representative_of t a) a && not (nat_eq a (identity_of t))

pub different_numbers : (a e : ℕ) → not (nat_eq a e) ≡ true → a ≢ e
different_numbers a e fails same = let equal : nat_eq a e ≡ true = eq-eqb a e same in let wrong = rw equal at fails in absurd cc

module _ (t : Table) (G : IsGroup t) where
  pub conjugate_below : (k a : ℕ) → k < t.order → a < t.order → conjugate t k a < t.order
  unfolding carry conjugate
  conjugate_below k a p q = (carry (element_group t G) (element k p) (element a q)).below

  -- (k h) a (k h)^-1 = k (h a h^-1) k^-1
  pub conjugate_by_product : (k h a : ℕ) → k < t.order → h < t.order → a < t.order
      → conjugate t (product t k h) a ≡ conjugate t k (conjugate t h a)
  unfolding carry conjugate
  conjugate_by_product k h a p q r = same_value (carry_op (element_group t G) (element k p) (element h q) (element a r))

  -- k (a b) k^-1 = (k a k^-1) (k b k^-1)
  pub conjugate_of_product : (k a b : ℕ) → k < t.order → a < t.order → b < t.order
      → conjugate t k (product t a b) ≡ product t (conjugate t k a) (conjugate t k b)
  unfolding carry conjugate
  conjugate_of_product k a b p q r = same_value (op_carry (element_group t G) (element k p) (element a q) (element b r))

  unit_below : identity_of t < t.order
  unit_below = identity_below t G

  -- e a e^-1 = a
  pub conjugate_by_identity : (a : ℕ) → a < t.order → conjugate t (identity_of t) a ≡ a
  unfolding carry conjugate
  conjugate_by_identity a p = same_value (carry_one (element_group t G) (element a p))

  -- k e k^-1 = e
  conjugate_of_identity : (k : ℕ) → k < t.order → conjugate t k (identity_of t) ≡ identity_of t
  unfolding carry conjugate
  conjugate_of_identity k p = same_value (one_carry (element_group t G) (element k p))

  -- the group acts on itself by conjugation
  pub conjugation : IsAction t t.order (conjugate t)
  conjugation = record { below = conjugate_below; by_product = conjugate_by_product; by_identity = conjugate_by_identity }

  -- the least transporter carries, and is least
  pub transporter_least : (a g k : ℕ) → least_transporter t a g ≡ Some k → IsLeastPassing t.order (λ k. nat_eq (conjugate t k a) g) k
  transporter_least a g k found = least_passing t.order (λ k. nat_eq (conjugate t k a) g) k found

  -- some k carries a to g, where a and g are conjugate
  pub carrier : (a g : ℕ) → is_conjugate t a g ≡ true → (k : ℕ) × (k < t.order) × (conjugate t k a ≡ g)
  carrier = orbits.carrier t G t.order (conjugate t) conjugation

  -- where some k carries a to g, they are conjugate
  pub conjugate_by : (a g k : ℕ) → k < t.order → conjugate t k a ≡ g → is_conjugate t a g ≡ true
  conjugate_by = met_by t G t.order (conjugate t) conjugation

  pub conjugate_refl : (a : ℕ) → a < t.order → is_conjugate t a a ≡ true
  conjugate_refl = met_refl t G t.order (conjugate t) conjugation

  pub conjugate_sym : (a g : ℕ) → a < t.order → is_conjugate t a g ≡ true → is_conjugate t g a ≡ true
  conjugate_sym = met_sym t G t.order (conjugate t) conjugation

  pub conjugate_trans : (a g h : ℕ) → a < t.order → is_conjugate t a g ≡ true → is_conjugate t g h ≡ true → is_conjugate t a h ≡ true
  conjugate_trans = met_trans t G t.order (conjugate t) conjugation

  -- the representative is the least element that is conjugate to g
  pub representative_least : (g : ℕ) → g < t.order → IsLeastPassing t.order (λ a. is_conjugate t a g) (representative_of t g)
  unfolding representative_of
  representative_least g p =
      least_passing t.order (λ a. is_conjugate t a g) _ (least_passing_found t.order (λ a. is_conjugate t a g) g p (conjugate_refl g p))

  -- conjugate elements have the same representative
  pub representative_same : (a g : ℕ) → a < t.order → g < t.order → is_conjugate t a g ≡ true → representative_of t a ≡ representative_of t g
  unfolding representative_of
  representative_same a g p q conjugates =
      ap (λ o. unwrap_or o 0)
      (first-ext t.order (λ h. cond (is_conjugate t h a) (Some h) None) (λ h. cond (is_conjugate t h g) (Some h) None)
      (λ h r. ap (λ b. cond b (Some h) None)
      (same_test _ _ (λ ha. conjugate_trans h a g r ha conjugates) (λ hg. conjugate_trans h g a r hg (conjugate_sym a g p conjugates)))))

  pub representative_below : (g : ℕ) → g < t.order → representative_of t g < t.order
  representative_below g p = (representative_least g p).below

  pub representative_twice : (g : ℕ) → g < t.order → representative_of t (representative_of t g) ≡ representative_of t g
  representative_twice g p = representative_same (representative_of t g) g (representative_below g p) p (representative_least g p).passes

  pub representative_of_conjugate : (k g : ℕ) → k < t.order → g < t.order → representative_of t (conjugate t k g) ≡ representative_of t g
  representative_of_conjugate k g p q =
      sym (representative_same g (conjugate t k g) q (conjugate_below k g p q) (conjugate_by g (conjugate t k g) k p refl))

  -- the identity is conjugate to itself alone
  pub representative_of_identity : representative_of t (identity_of t) ≡ identity_of t
  representative_of_identity =
      let least = representative_least (identity_of t) unit_below in
      let (k, below, carries) = carrier (representative_of t (identity_of t)) (identity_of t) least.passes in
      sym (back t G t.order (conjugate t) conjugation k (representative_of t (identity_of t)) below least.below)
      ∙ ap (conjugate t (inverse t k)) carries
      ∙ conjugate_of_identity (inverse t k) (two_sided_inverse t G k below).below

  -- g is a member of the class of a representative a exactly where a represents g
  pub member_test : (a g : ℕ) → a < t.order → g < t.order → representative_of t a ≡ a → nat_eq (representative_of t g) a ≡ is_conjugate t a g
  member_test a g p q represents =
      same_test (nat_eq (representative_of t g) a) (is_conjugate t a g)
      (λ same. let e : representative_of t g ≡ a = eqb-true _ _ same in rw (← e) (representative_least g q).passes)
      (λ conjugates. eq-eqb _ _ (sym (representative_same a g p q conjugates) ∙ represents))

  -- the least transporter from the representative is found
  pub transporter_found : (g : ℕ) → g < t.order → least_transporter t (representative_of t g) g ≡ Some (transporter_of t g)
  unfolding transporter_of
  transporter_found g p =
      let least = representative_least g p in
      let (k, below, carries) = carrier (representative_of t g) g least.passes in
      least_passing_found t.order (λ k. nat_eq (conjugate t k (representative_of t g)) g) k below (eq-eqb _ _ carries)

  pub transporter_is : (g : ℕ) → g < t.order → IsLeastTransporter t g (transporter_of t g)
  transporter_is g p =
      let least = transporter_least (representative_of t g) g (transporter_of t g) (transporter_found g p) in
      record {
        below = least.below;
        carries = eqb-true _ _ least.passes;
        least = λ j below carries. least.least j below (eq-eqb _ _ carries);
      }

  pub others_represent : All (IsRepresentative t) (other_representatives t)
  unfolding other_representatives
  others_represent =
      All-weaker (IsPassing t.order (is_other t)) (IsRepresentative t)
      (λ a passing. record { below = passing.below; represents = eqb-true _ _ (and_true _ _ passing.passes).0 })
      _ (passing_below-all t.order (is_other t))

  pub representative_at_is : (c : ℕ) → c < length (representatives t) → IsRepresentative t (representative_at t c)
  representative_at_is c p =
      All-get_or (IsRepresentative t) (representatives t) c 0 p
      (All-cons (IsRepresentative t) _ _ (record { below = unit_below; represents = representative_of_identity }) others_represent)

  -- a representative is in the list
  pub representative_listed : (a : ℕ) → IsRepresentative t a → Contains (representatives t) a
  unfolding other_representatives
  representative_listed a represents =
      begun_contains t.order (identity_of t) a (is_other t) represents.below
      (λ e. rw (eq-eqb _ _ represents.represents, e) refl)

  -- the class is the first place of the representative
  pub class_found : (g : ℕ) → g < t.order → IsLeastPassing (length (representatives t)) (λ c. nat_eq (representative_at t c) (representative_of t g)) (class_of t g)
  unfolding class_of
  class_found g p =
      let (c, below, at) = representative_listed (representative_of t g) (record { below = representative_below g p; represents = representative_twice g p }) in
      least_passing _ _ _
      (least_passing_found _ _ c below (eq-eqb _ _ (get_or_default (representatives t) c 0 (representative_of t g) below ∙ at)))

  pub class_below : (g : ℕ) → g < t.order → class_of t g < length (representatives t)
  class_below g p = (class_found g p).below

  pub class_represents : (g : ℕ) → g < t.order → representative_at t (class_of t g) ≡ representative_of t g
  class_represents g p = eqb-true _ _ (class_found g p).passes

  pub members_are : (a : ℕ) → All (IsMember t a) (members_of t a)
  unfolding members_of
  members_are a =
      All-weaker (IsPassing t.order (is_conjugate t a)) (IsMember t a) (λ g passing. record { below = passing.below; conjugates = passing.passes }) _ (passing_below-all t.order (is_conjugate t a))

  pub member_below : (a i : ℕ) → i < length (members_of t a) → get_or (members_of t a) i 0 < t.order
  member_below a i p = (All-get_or (IsMember t a) (members_of t a) i 0 p (members_are a)).below

  -- the members of the class of a are the elements k a k^-1
  pub members_exactly : (a g : ℕ) → a < t.order → Contains (members_of t a) g ↔ ((k : ℕ) × (k < t.order) × (conjugate t k a ≡ g))
  unfolding members_of
  members_exactly a g p =
      let listed = passing_below-exactly t.order g (is_conjugate t a) in (
        λ here. carrier a g (listed.0 here).1,
        λ carried. let (k, below, carries) = carried in listed.1 (rw (← carries) (conjugate_below k a below p), conjugate_by a g k below carries),
      )

  -- a is a member of its own class
  pub member_itself : (a : ℕ) → a < t.order → Contains (members_of t a) a
  member_itself a p = (members_exactly a a p).1 (identity_of t, unit_below, conjugate_by_identity a p)

  -- there are members, and few
  pub some_member : (a : ℕ) → a < t.order → 1 ≤ length (members_of t a)
  some_member a p = let (k, there, at) = member_itself a p in omega (arith, there)

  pub few_members : (a : ℕ) → length (members_of t a) ≤ t.order
  unfolding members_of
  few_members a = length-passing_below t.order (is_conjugate t a)

  -- no two classes have the same representative
  pub different_at : (c d : ℕ) → c < d → d < length (representatives t) → representative_at t c ≢ representative_at t d
  unfolding other_representatives
  different_at =
      begun_differ t.order (identity_of t) (is_other t) (λ a passes. different_numbers a (identity_of t) (and_true _ _ passes).1)

  -- the class of the representative of a class is that class
  pub class_of_representative : (c : ℕ) → c < length (representatives t) → class_of t (representative_at t c) ≡ c
  class_of_representative c p =
      let here = representative_at_is c p in
      let found = class_found (representative_at t c) here.below in
      let same : representative_at t (class_of t (representative_at t c)) ≡ representative_at t c =
      eqb-true _ _ found.passes ∙ here.represents in
      let most : class_of t (representative_at t c) ≤ c = found.least c p (eq-eqb _ _ (sym here.represents)) in
      elim (eq-or-lt_of_le most) [
        | inl equal ↦ equal
        | inr less ↦ absurd (different_at (class_of t (representative_at t c)) c less p same)
      ]

  same_class : (g h : ℕ) → representative_of t g ≡ representative_of t h → class_of t g ≡ class_of t h
  unfolding class_of
  same_class g h same = rw same refl

  -- conjugate elements are of one class
  pub class_of_conjugate : (k g : ℕ) → k < t.order → g < t.order → class_of t (conjugate t k g) ≡ class_of t g
  class_of_conjugate k g p q = same_class (conjugate t k g) g (representative_of_conjugate k g p q)

  pub member_class : (c i : ℕ) → c < length (representatives t) → i < length (members_of t (representative_at t c))
      → class_of t (get_or (members_of t (representative_at t c)) i 0) ≡ c
  member_class c i p q =
      let member = All-get_or (IsMember t (representative_at t c)) _ i 0 q (members_are (representative_at t c)) in
      same_class _ _ (sym (representative_same (representative_at t c) _ (representative_at_is c p).below member.below member.conjugates))
      ∙ class_of_representative c p

  -- x is in the centraliser of a exactly where x a = a x
  pub centraliser_exactly : (a x : ℕ) → Contains (centraliser_of t a) x ↔ ((x < t.order) × (product t x a ≡ product t a x))
  unfolding centraliser_of
  centraliser_exactly a x =
      let listed = passing_below-exactly t.order x (λ x. nat_eq (product t x a) (product t a x)) in (
        λ here. ((listed.0 here).0, eqb-true _ _ (listed.0 here).1),
        λ commutes. listed.1 (commutes.0, eq-eqb _ _ commutes.1),
      )
