-- The simples by good tables, as simples of the twisted quantum double of a cocycle.
use Rattle.transport.proofs.Names.{◌≡◌, ℕ, zero, suc, ◌*◌, ◌/◌, ◌%◌, ◌<◌, ◌≤◌, Bool, true, ◌&&◌, nat_le, Option, Some, None, [], ◌∷◌, refl, sym, ap, ap₂, ◌∙◌, arith, subst, unwrap_or, ℤ, List, add-one, mul-le-mul, multiple_zero, and_true, first_some, first_finds, multiple, Group, Below, below_equal, identity_of, identity_below, representative_at, representative_at_is, Cochain, IsCocycle, cyclotomic, value_one, value_product, CyclotomicValue, cyclotomic_ring, root, TwistedSubgroup, size, element, place_of, IsTwist, place_group, identities_agree, group, exponent, Characters, is_same, where_holds, degree_of, whole, IsGood, is_same-Decides, Setting, Commuting, slant_root, conjugation_root, commute_of, commute_true, pos, ◌+ℤ◌, le_refl, mul-one, multiple_suc, value_of-scaled, scale_zero, scale_sum, scale_one, IsRepresentative, with_phase, conjugate_value_at, central_left, central_right, conjugate_value, phase, phase_exponent, twisted_centraliser, products_agree, phases_agree, theta_is, slant_phase, IsDegree, IsSubgroup, Simples, SimplesOver, Simple, count, class_at, over_at, characters_at, degree_at, value_at, simple_at, AreSimples, root_exponent, element_value, le-leb, leb-true}
use Rattle.cyclotomic.specs.Polynomial.{scaled}
use Rattle.cyclotomic.specs.Laws.Polynomials.{scaled-cons}
use Rattle.cyclotomic.specs.Laws.Integers.{times_comm, one_times}
use Rattle.cyclotomic.specs.Ring.{value_of, value_multiple, value_sum}
use Rattle.characters.specs.Setting.{commute}
use Rattle.characters.proofs.AlgebraLaws.{central_at_places}
use Rattle.transport.proofs.Listed.{found_passes, IsRow, simple_is_row, some_class}
use Rattle.transport.proofs.Doubles.{double, double_classes}
use Rattle.transport.proofs.Centralisers.{place_of_element, element_injective, twist, element_commutes, commuting_element}

pub modulus_is : (w : Cochain) (a : ℕ) → (twisted_centraliser w a).modulus ≡ w.roots
unfolding twisted_centraliser
modulus_is w a = refl

both_true : {a b : Bool} → a ≡ true → b ≡ true → (a && b) ≡ true
both_true {a} {b} h e = ap₂ (λ x y. x && y) h e

-- the degree that is found
degree_found : (k m : ℕ) (u : CyclotomicValue k) → IsDegree k m u → (1 ≤ unwrap_or (degree_of k m u) 0) × (u ≡ whole k (unwrap_or (degree_of k m u) 0))
degree_found k m u degree = by (degree_of k m u) refl
  where
    test : ℕ → Bool
    test d = (nat_le 1 d && nat_le (d * d) m) && is_same u (whole k d)

    small : (d : ℕ) → 1 ≤ d → d * d ≤ m → d < suc m
    small d one square = let product = mul-le-mul (le_refl d) one in omega (arith, product, square, mul-one d)

    holds : test degree.degree ≡ true
    holds = both_true (both_true (le-leb 1 degree.degree degree.positive) (le-leb (degree.degree * degree.degree) m degree.square)) ((is_same-Decides u (whole k degree.degree)).1 degree.same)

    found : (d : ℕ) × (degree_of k m u ≡ Some d)
    found = first_finds (suc m) degree.degree (λ d. where_holds (test d) d) degree.degree (small degree.degree degree.positive degree.square) (ap (λ b. where_holds b degree.degree) holds)

    by : (o : Option ℕ) → degree_of k m u ≡ o → (1 ≤ unwrap_or o 0) × (u ≡ whole k (unwrap_or o 0))
    by None e = let wrong : None ≡ Some found.0 = sym e ∙ found.1 in absurd cc
    by (Some d) e =
        let at = first_some (suc m) (λ d. where_holds (test d) d) d e in
        let there = found_passes (test at.place) at.place d at.here in
        let passed = and_true (nat_le 1 at.place && nat_le (at.place * at.place) m) (is_same u (whole k at.place)) there.0 in
        let sizes = and_true (nat_le 1 at.place) (nat_le (at.place * at.place) m) passed.0 in
        (subst (λ n. 1 ≤ n) there.1 (leb-true 1 at.place sizes.0), subst (λ n. u ≡ whole k n) there.1 ((is_same-Decides u (whole k at.place)).0 passed.1))

scaled-nil : (c : ℤ) → scaled c [] ≡ []
unfolding scaled
scaled-nil c = refl

pos_suc : (d : ℕ) → pos (suc d) ≡ pos d +ℤ pos 1
pos_suc d = ap pos (sym (add-one d))

-- a whole number is so many copies of 1
pub whole_multiple : (k d : ℕ) → whole k d ≡ multiple (cyclotomic_ring k) d (value_one (cyclotomic k))
whole_multiple k d = whole_is d ∙ copies d
  where
    m : List ℤ
    m = cyclotomic k

    one_scaled : (d : ℕ) → scaled (pos d) (pos 1 ∷ []) ≡ pos d ∷ []
    one_scaled d = scaled-cons (pos d) (pos 1) [] ∙ ap₂ (λ a p. a ∷ p) (times_comm (pos d) (pos 1) ∙ one_times (pos d)) (scaled-nil (pos d))

    whole_is : (d : ℕ) → whole k d ≡ value_multiple (pos d) (value_one m)
    whole_is d = ap (value_of m) (sym (one_scaled d)) ∙ value_of-scaled m (pos d) (pos 1 ∷ [])

    copies : (d : ℕ) → value_multiple (pos d) (value_one m) ≡ multiple (cyclotomic_ring k) d (value_one m)
    copies zero = scale_zero m (value_one m) ∙ sym (multiple_zero (cyclotomic_ring k) (value_one m))
    copies (suc d) =
        ap (λ n. value_multiple n (value_one m)) (pos_suc d) ∙ scale_sum m (pos d) (pos 1) (value_one m)
        ∙ ap₂ value_sum (copies d) (scale_one m (value_one m)) ∙ sym (multiple_suc (cyclotomic_ring k) d (value_one m))

module _ (k : ℕ) (s : SimplesOver) (S : AreSimples k s) where
  abbrev pub w : Cochain
  w = s.cocycle

  abbrev pub W : IsCocycle s.cocycle
  W = S.cocycle

  pub divides : k % s.cocycle.roots ≡ 0
  divides = subst (λ m. k % m ≡ 0) (ap (λ t. t.modulus) (S.tables.over 0 (some_class k s S)) ∙ modulus_is w _) (S.shaped 0 (some_class k s S)).multiple

  abbrev pub setting : Setting (CyclotomicValue k) (Below s.cocycle.group.order)
  setting = double k S.conductor s.cocycle S.cocycle divides

  pub row : (i : Below (count k s)) → IsRow k s.tables (simple_at k s i.value)
  row i = simple_is_row k s.tables i.value i.below

  pub represents : (i : Below (count k s)) → IsRepresentative s.cocycle.group (representative_at s.cocycle.group (class_at k s i.value))
  represents i = representative_at_is w.group W.cochain.group (class_at k s i.value) (subst (λ n. class_at k s i.value < n) S.tables.count (row i).class_below)

  -- the representative of the class of a simple, and its values at elements
  abbrev pub at : Below (count k s) → Below s.cocycle.group.order
  at i = record { value = representative_at s.cocycle.group (class_at k s i.value); below = (represents i).below }

  abbrev pub value : Below (count k s) → Below s.cocycle.group.order → CyclotomicValue k
  value i x = element_value k s i.value x.value

  -- the centraliser of an element, by its places
  module _ (a : Below s.cocycle.group.order) where
    abbrev pub tw : TwistedSubgroup
    tw = twisted_centraliser s.cocycle a.value

    pub tw_lawful : IsTwist tw
    tw_lawful = twist w W a.value a.below

    abbrev pub place : Group (Below (size tw))
    place = place_group tw tw_lawful

    abbrev pub at_place : Below (size tw) → Below s.cocycle.group.order
    at_place p = record { value = element tw p.value; below = (element_commutes w W a.value a.below p.value p.below).0 }

    -- the places are the elements that commute with it
    pub centraliser : IsSubgroup setting.group (λ x. commute setting x a) place at_place
    centraliser = record {
      part = record {
        injective = λ p r e. below_equal p r (element_injective tw tw_lawful p.value r.value p.below r.below (ap (λ x. x.value) e));
        within = λ p. commute_of setting (at_place p) a (below_equal _ _ (element_commutes w W a.value a.below p.value p.below).1);
        found = λ x inside.
            let (p, below, stands) = commuting_element w W a.value a.below x.value x.below (ap (λ z. z.value) (commute_true setting x a inside)) in
            (record { value = p; below = below }, below_equal _ _ stands);
      };
      respects = λ p r. below_equal _ _ (products_agree w W a.value p.value r.value a.below p.below r.below);
    }

    -- the roots of its phases
    pub phase_root : (p q : Below (size tw)) → slant_root setting a (at_place p) (at_place q) ≡ root k (phase_exponent k tw (phase tw p.value q.value))
    unfolding slant_root
    phase_root p q =
        let phase_is : slant_phase (group w W) w.roots (exponent w) a (at_place p) (at_place q) ≡ phase tw p.value q.value =
        theta_is w W a (at_place p) (at_place q) ∙ sym (phases_agree w W a.value p.value q.value a.below p.below q.below) in
        ap (root k) (ap (root_exponent k w) phase_is ∙ ap (λ n. phase tw p.value q.value * (k / n)) (sym (modulus_is w a.value)))

  module _ (i : Below (count k s)) where
    pub over_is : over_at k s i.value ≡ tw (at i)
    over_is = S.tables.over (class_at k s i.value) (row i).class_below

    pub value_at_place : (p : ℕ) → p < size (tw (at i)) → element_value k s i.value (element (tw (at i)) p) ≡ value_at k s i.value p
    value_at_place p below =
        ap (value_at k s i.value) (subst (λ t. unwrap_or (place_of t (element (tw (at i)) p)) 0 ≡ p) (sym over_is) (place_of_element (tw (at i)) (tw_lawful (at i)) p below))

    abbrev chars : Characters k
    chars = characters_at k s i.value

    abbrev r : ℕ
    r = (simple_at k s i.value).row

    good : IsGood (over_at k s i.value) chars
    good = S.good (class_at k s i.value) (row i).class_below

    pub degree : (1 ≤ degree_at k s i.value) × (chars.chi r (identity_of (over_at k s i.value).group) ≡ whole k (degree_at k s i.value))
    degree =
        subst (λ d. (1 ≤ d) × (chars.chi r (identity_of (over_at k s i.value).group) ≡ whole k d)) (sym (ap (λ (a : Simple). a.degree) (row i).is))
        (degree_found k (size (over_at k s i.value)) (chars.chi r (identity_of (over_at k s i.value).group)) (good.degree r (row i).row_below))

    pub at_identity : element_value k s i.value (identity_of s.cocycle.group) ≡ multiple (cyclotomic_ring k) (degree_at k s i.value) (value_one (cyclotomic k))
    at_identity =
        ap (element_value k s i.value) (sym (identities_agree w W (at i).value (at i).below))
        ∙ value_at_place (identity_of (tw (at i)).group) (identity_below (tw (at i)).group (tw_lawful (at i)).group)
        ∙ ap (λ t. chars.chi r (identity_of t.group)) (sym over_is) ∙ degree.1 ∙ whole_multiple k (degree_at k s i.value)

    -- a side of the clause that rows are central
    side : (p q v : Below (size (tw (at i))))
        → value_product (cyclotomic k) (slant_root setting (at i) (at_place (at i) p) (at_place (at i) q)) (conjugate_value k (element_value k s i.value (element (tw (at i)) v.value)))
        ≡ (with_phase (tw (at i)) p.value q.value (conjugate_value_at (tw (at i)) chars r v.value)).value
    side p q v = ap₂ (λ z u. value_product (cyclotomic k) z (conjugate_value k u)) (phase_root (at i) p q) (value_at_place v.value v.below)

    pub central : (c x : Below s.cocycle.group.order) → Commuting setting c (at i) → Commuting setting x (at i)
        → conjugate_value k (value i (setting.group.op (setting.group.op c x) (setting.group.inv c)))
        ≡ value_product (cyclotomic k) (conjugation_root setting (at i) c x) (conjugate_value k (value i x))
    central =
        central_at_places setting (at i) (place (at i)) (at_place (at i)) (centraliser (at i)) (λ x. conjugate_value k (value i x))
        (λ y x.
        let left = (place (at i)).op ((place (at i)).inv y) x in
        let right = (place (at i)).op x ((place (at i)).inv y) in
        side y left left
        ∙ subst (λ t. (y x : ℕ) → y < size t → x < size t → (central_left t chars r y x).value ≡ (central_right t chars r y x).value) over_is
        (λ y x. good.central r y x (row i).row_below) y.value x.value y.below x.below
        ∙ sym (side right y right))

  -- the simples of the double
  abbrev pub simples : Simples setting (double_classes s.cocycle S.cocycle) (Below (count k s))
  simples = record {
    at = at;
    value = value;
    at_representative = λ i. below_equal _ _ (represents i).represents;
    degree = λ i. degree_at k s i.value;
    degree_from_one = λ i. (degree i).0;
    degree_is = at_identity;
    central = central;
  }
