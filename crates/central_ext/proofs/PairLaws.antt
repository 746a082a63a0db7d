-- The pairs of a twist are the lifts of its places: the laws of the extension, and its conjugacy.
use Rattle.central_ext.proofs.Names.{Below, Bool, Group, IsPair, IsTwist, None, Pair, Some, TwistedSubgroup, and_true, ap, are_conjugate, arith, carry, carry_back, carry_is, carry_one, carry_op, carry_value, cond, conjugate, div-add-mod', div-lt_iff_lt-mul, div-mul-add, eq-eqb, eqb-true, ext_conjugate, ext_identity, ext_inverse, ext_product, first_finds, is_same_pair, is_some_of, kappa, kappa_at, kappa_phase, least_passing, mod-lt, mod-mul-add, mul-add-lt, nat_eq, pair_at, pair_count, pair_number, phase_at, phases_cocycle, place_group, refl, size, some_of, some_root, sym, true, ℕ, ◌%◌, ◌+◌, ◌<◌, ◌∙◌, ◌≡◌}
use Rattle.central_ext.proofs.Lifts.{Lift, lifts, carry_lift}

-- pairs with one place and one root are one
pub pair_equal : {a b : Pair} → a.place ≡ b.place → a.root ≡ b.root → a ≡ b
pair_equal e f = λ i. record { place = e i; root = f i }

pub same_pair : (a b : Pair) → is_same_pair a b ≡ true → a ≡ b
same_pair a b e =
    let both = and_true (nat_eq a.place b.place) (nat_eq a.root b.root) e in
    pair_equal (eqb-true _ _ both.0) (eqb-true _ _ both.1)

pub same_pair_of : (a b : Pair) → a ≡ b → is_same_pair a b ≡ true
same_pair_of a b e = rw (eq-eqb _ _ (ap (λ (c : Pair). c.place) e), eq-eqb _ _ (ap (λ (c : Pair). c.root) e)) refl

module _ (s : TwistedSubgroup) (twist : IsTwist s) where
  abbrev pub extension : Group (Lift (Below (size s)) s.modulus)
  extension = lifts (place_group s twist) s.modulus (some_root s twist) (phase_at s twist) (phases_cocycle s twist)

  abbrev pub lift_of : (a : Pair) → IsPair s a → Lift (Below (size s)) s.modulus
  lift_of a h = record { over = record { value = a.place; below = h.place_below }; root = record { value = a.root; below = h.root_below } }

  abbrev pub pair_of : Lift (Below (size s)) s.modulus → Pair
  pair_of l = record { place = l.over.value; root = l.root.value }

  pub pair_of_lift : (l : Lift (Below (size s)) s.modulus) → IsPair s (pair_of l)
  pair_of_lift l = record { place_below = l.over.below; root_below = l.root.below }

  pub product_pair : (a b : Pair) → IsPair s a → IsPair s b → IsPair s (ext_product s a b)
  product_pair a b p q = pair_of_lift (extension.op (lift_of a p) (lift_of b q))

  pub identity_pair : IsPair s (ext_identity s)
  identity_pair = pair_of_lift extension.one

  pub inverse_pair : (a : Pair) → IsPair s a → IsPair s (ext_inverse s a)
  inverse_pair a p = pair_of_lift (extension.inv (lift_of a p))

  pub product_associates : (a b c : Pair) → IsPair s a → IsPair s b → IsPair s c
      → ext_product s (ext_product s a b) c ≡ ext_product s a (ext_product s b c)
  product_associates a b c p q r = ap pair_of (extension.op_assoc (lift_of a p) (lift_of b q) (lift_of c r))

  pub identity_product : (a : Pair) → IsPair s a → ext_product s (ext_identity s) a ≡ a
  identity_product a p = ap pair_of (extension.one_op (lift_of a p))

  pub product_identity : (a : Pair) → IsPair s a → ext_product s a (ext_identity s) ≡ a
  product_identity a p = ap pair_of (extension.op_one (lift_of a p))

  pub inverse_product : (a : Pair) → IsPair s a → ext_product s (ext_inverse s a) a ≡ ext_identity s
  inverse_product a p = ap pair_of (extension.inv_op (lift_of a p))

  pub product_inverse : (a : Pair) → IsPair s a → ext_product s a (ext_inverse s a) ≡ ext_identity s
  product_inverse a p = ap pair_of (extension.op_inv (lift_of a p))

  -- the conjugate of a pair
  pub conjugate_carries : (c a : Pair) (p : IsPair s c) (q : IsPair s a) → ext_conjugate s c a ≡ pair_of (carry extension (lift_of c p) (lift_of a q))
  conjugate_carries c a p q = ap pair_of (sym (carry_is extension (lift_of c p) (lift_of a q)))

  pub conjugate_pair : (c a : Pair) → IsPair s c → IsPair s a → IsPair s (ext_conjugate s c a)
  conjugate_pair c a p q = product_pair (ext_product s c a) (ext_inverse s c) (product_pair c a p q) (inverse_pair c p)

  pub conjugate_is : (c a : Pair) → IsPair s c → IsPair s a
      → ext_conjugate s c a ≡ record { place = conjugate s.group c.place a.place; root = (a.root + kappa s c.place a.place) % s.modulus }
  conjugate_is c a p q =
      conjugate_carries c a p q
      ∙ ap pair_of (carry_lift (place_group s twist) s.modulus (some_root s twist) (phase_at s twist) (phases_cocycle s twist) (kappa_at s twist) (kappa_phase s twist) (lift_of c p) (lift_of a q))
      ∙ pair_equal (carry_value s twist (lift_of c p).over (lift_of a q).over) refl

  -- pairs and their numbers
  pub number_below : (a : Pair) → IsPair s a → pair_number s a < pair_count s
  number_below a p = omega (arith, mul-add-lt a.place s.modulus a.root (size s) p.place_below p.root_below)

  pub pair_of_number : (a : Pair) → IsPair s a → pair_at s (pair_number s a) ≡ a
  pair_of_number a p = pair_equal (div-mul-add a.place s.modulus a.root p.root_below) (mod-mul-add a.place s.modulus a.root p.root_below)

  pub number_of_pair : (t : ℕ) → pair_number s (pair_at s t) ≡ t
  number_of_pair t = div-add-mod' t s.modulus

  pub pair_below : (t : ℕ) → t < pair_count s → IsPair s (pair_at s t)
  pair_below t below = record { place_below = (div-lt_iff_lt-mul (some_root s twist)).1 below; root_below = mod-lt t (some_root s twist) }

  -- a pair that carries a to b shows that they are conjugate
  pub conjugate_by : (a b c : Pair) → IsPair s c → ext_conjugate s c a ≡ b → are_conjugate s a b ≡ true
  unfolding are_conjugate
  conjugate_by a b c p e =
      let test : ℕ → Bool = λ t. is_same_pair (ext_conjugate s (pair_at s t) a) b in
      let here : test (pair_number s c) ≡ true = same_pair_of _ b (ap (λ (d : Pair). ext_conjugate s d a) (pair_of_number c p) ∙ e) in
      let found = first_finds (pair_count s) (pair_number s c) (λ t. cond (test t) (Some t) None) (pair_number s c) (number_below c p) (ap (λ o. cond o (Some (pair_number s c)) None) here) in
      is_some_of _ found.0 found.1

  -- and some pair shows it
  pub carrier_of : (a b : Pair) → are_conjugate s a b ≡ true → (c : Pair) × IsPair s c × (ext_conjugate s c a ≡ b)
  unfolding are_conjugate
  carrier_of a b e =
      let found = some_of _ e in
      let least = least_passing (pair_count s) (λ t. is_same_pair (ext_conjugate s (pair_at s t) a) b) found.0 found.1 in
      (pair_at s found.0, pair_below found.0 least.below, same_pair _ b least.passes)

  -- conjugacy is an equivalence
  pub conjugate_itself : (a : Pair) → IsPair s a → are_conjugate s a a ≡ true
  unfolding carry
  conjugate_itself a p =
      conjugate_by a a (ext_identity s) identity_pair
      (conjugate_carries (ext_identity s) a identity_pair p ∙ ap pair_of (carry_one extension (lift_of a p)))

  pub conjugate_back : (a b : Pair) → IsPair s a → IsPair s b → are_conjugate s a b ≡ true → are_conjugate s b a ≡ true
  unfolding carry
  conjugate_back a b p q e =
      let c = carrier_of a b e in
      let there : pair_of (carry extension (lift_of c.0 c.1) (lift_of a p)) ≡ b = sym (conjugate_carries c.0 a c.1 p) ∙ c.2 in
      conjugate_by b a (ext_inverse s c.0) (inverse_pair c.0 c.1)
      (ap (ext_conjugate s (ext_inverse s c.0)) (sym there)
      ∙ conjugate_carries (ext_inverse s c.0) (pair_of (carry extension (lift_of c.0 c.1) (lift_of a p))) (inverse_pair c.0 c.1) (pair_of_lift (carry extension (lift_of c.0 c.1) (lift_of a p)))
      ∙ ap pair_of (carry_back extension (lift_of c.0 c.1) (lift_of a p)))

  pub conjugate_on : (a b c : Pair) → IsPair s a → IsPair s b → IsPair s c → are_conjugate s a b ≡ true → are_conjugate s b c ≡ true → are_conjugate s a c ≡ true
  unfolding carry
  conjugate_on a b c p q r e f =
      let d = carrier_of a b e in
      let g = carrier_of b c f in
      let there : pair_of (carry extension (lift_of d.0 d.1) (lift_of a p)) ≡ b = sym (conjugate_carries d.0 a d.1 p) ∙ d.2 in
      conjugate_by a c (ext_product s g.0 d.0) (product_pair g.0 d.0 g.1 d.1)
      (conjugate_carries (ext_product s g.0 d.0) a (product_pair g.0 d.0 g.1 d.1) p
      ∙ ap pair_of (carry_op extension (lift_of g.0 g.1) (lift_of d.0 d.1) (lift_of a p))
      ∙ sym (conjugate_carries g.0 (pair_of (carry extension (lift_of d.0 d.1) (lift_of a p))) g.1 (pair_of_lift (carry extension (lift_of d.0 d.1) (lift_of a p))))
      ∙ ap (ext_conjugate s g.0) there ∙ g.2)
