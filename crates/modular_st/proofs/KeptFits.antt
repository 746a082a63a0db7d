-- Where the conjugates at the listed pairs are small, all terms of the numerators fit.
use Rattle.modular_st.proofs.Names.{◌≡◌, ◌+◌, ◌*◌, ◌^◌, ◌<◌, ◌==◌, ◌&&◌, ℕ, Bool, true, false, List, length, map, refl, sym, ◌∙◌, ap, ap₂, subst, arith, Vec, div-mul-add, mod-mul-add, length-map, get_or-map, cyclotomic, value_nought, value_product, CyclotomicValue, root, conjugate, value_size, value_fits, Table, representatives, class_of, Pair, listed_pairs, no_pair, pair_at, Monomial, conjugated, SimplesOver, count, class_at, AreSimples, full_character, pair_term, eqb-true, eq-eqb, product, inverse, IsGroup, Carries, AllFit, as_so, root_exponent, carried_value, KeptConjugates, exchanged, meets, IsSmall, conjugate_at, AreKeptRows, AreKept}
use Rattle.cyclotomic.proofs.Sizes.{size-zeros}
use Rattle.group_table.proofs.Sentences.{group_below, two_sided_inverse, closed}
use Rattle.classes.specs.Conjugacy.{conjugate as conjugate_element, transporter_of}
use Rattle.classes.proofs.Conjugacy.{class_below, class_of_conjugate, conjugate_below, conjugate_of_product}
use Rattle.slant.specs.Phases.{carried, transport_phase}
use Rattle.pair_orbits.specs.Laws.{IsInvariant}
use Rattle.pair_orbits.proofs.Listings.{listed_commute, listed_cover, weight_positive}
use Rattle.transport.proofs.CharacterLaws.{characters_covariant, terms_invariant}
use Rattle.modular_st.proofs.Terms.{pair_below, other_class}
use Rattle.modular_st.proofs.AllAts.{some_of}
use Rattle.modular_st.proofs.Smalls.{small_by_multiple, turned_size, turned_conjugate_fits, turned_fits, small_together}

-- c^-1 (c a c^-1) c = a
pub carried_back : (t : Table) → IsGroup t → (c a : ℕ) → c < t.order → a < t.order → carried t (conjugate_element t c a) c ≡ a
unfolding conjugate_element
carried_back t G c a c_below a_below =
    let B = group_below t G in
    let i = two_sided_inverse t G c c_below in
    let ca = closed t c a G c_below a_below in
    ap (product t (inverse t c))
    (B.associative (product t c a) (inverse t c) c ca i.below c_below ∙ ap (product t (product t c a)) i.left ∙ B.unit_right (product t c a) ca)
    ∙ sym (B.associative (inverse t c) c a i.below c_below a_below) ∙ ap (λ x. product t x a) i.left ∙ B.unit_left a a_below

-- what is 0 is small
nought_below : (k : ℕ) (u : CyclotomicValue k) → u ≡ value_nought → value_size u < 2 ^ 54
unfolding value_nought
nought_below k u none = let size = ap (λ v. value_size v) none ∙ size-zeros _ in omega (arith, size)

-- a conjugate fits and is small
pub record FitsSmall (k : ℕ) (s : SimplesOver) (i g h : ℕ) : Type 0 where
  pub fits : (conjugated k (full_character k s i g h)).fits ≡ true
  pub small : value_size (conjugated k (full_character k s i g h)).value < 2 ^ 54

module _ (k : ℕ) (s : SimplesOver) (S : AreSimples k s) where
  abbrev t : Table
  t = s.cocycle.group

  abbrev G : IsGroup s.cocycle.group
  G = S.cocycle.cochain.group

  -- at a pair that commutes, by one that is carried to it and at which the conjugate is small
  fits_by_pair : (i g h c : ℕ) (pair : Pair) → i < count k s → pair.g < t.order → pair.h < t.order → g < t.order → h < t.order
      → product t g h ≡ product t h g → Carries t c pair g h → 0 < pair.weight → IsSmall k (conjugate_at k s i pair)
      → class_of t g ≡ class_at k s i → FitsSmall k s i g h
  fits_by_pair i g h c pair i_below pair_g pair_h g_below h_below commutes carries positive small class =
      let first = ap (λ x. carried t x c) (sym carries.first) ∙ carried_back t G c pair.g carries.below pair_g in
      let second = ap (λ x. carried t x c) (sym carries.second) ∙ carried_back t G c pair.h carries.below pair_h in
      let e = root_exponent k s.cocycle (transport_phase s.cocycle g h c) in
      let u = (full_character k s i pair.g pair.h).value in
      let v = (full_character k s i g h).value in
      let is : v ≡ value_product (cyclotomic k) (root k e) u =
      characters_covariant k s S i g h c i_below g_below h_below carries.below commutes
      ∙ ap₂ (λ x y. value_product (cyclotomic k) (root k e) (full_character k s i x y).value) first second in
      let one = small_by_multiple k S.conductor pair.weight (conjugate k u) positive small in
      let same = as_so k (class_of t g == class_at k s i) (carried_value k s i g h (transporter_of t g)) (eq-eqb _ _ class) in
      let whole : (full_character k s i g h).fits ≡ true =
      ap (λ f. f.fits) same ∙ ap (λ f. value_fits f.value) (sym same) ∙ turned_fits k S.conductor e u v is one in
      record {
        fits = ap₂ (λ a b. a && b) whole (turned_conjugate_fits k S.conductor e u v is one);
        small = turned_size k S.conductor e u v is one;
      }

  -- outside of its class a conjugate is 0
  fits_outside : (i g h : ℕ) → (class_of t g == class_at k s i) ≡ false → FitsSmall k s i g h
  fits_outside i g h other =
      let none = other_class k s i g h other in
      record { fits = none.fits; small = nought_below k (conjugated k (full_character k s i g h)).value none.nought }

  -- the value at a pair of a list is small
  row_small : (pairs : List Pair) (rows : List (Vec (List Monomial))) → AreKeptRows k s pairs rows → (i d m : ℕ) → i < count k s → d < length (representatives t)
      → m < length pairs → meets t (class_at k s i) d (pair_at pairs m) ≡ true → IsSmall k (conjugate_at k s i (pair_at pairs m))
  row_small pairs rows kept i d m i_below d_below inside met =
      let r = length (representatives t) in
      let there : i * r + d < length rows = let fits = pair_below i (count k s) d r i_below d_below in omega (arith, kept.count_is, fits) in
      let row = kept.kept (i * r + d) (some_of rows _ there) there in
      let first = div-mul-add i r d d_below in
      let second = mod-mul-add i r d d_below in
      subst (λ a. IsSmall k (conjugate_at k s a (pair_at pairs m))) first
      (row.small m inside (ap₂ (λ a b. meets t (class_at k s a) b (pair_at pairs m)) first second ∙ met))

  -- at each commuting pair
  fits_at_pair : (kept : KeptConjugates k) → AreKept k s kept → (i g h : ℕ) → i < count k s → g < t.order → h < t.order → product t g h ≡ product t h g
      → FitsSmall k s i g h
  fits_at_pair kept are i g h i_below g_below h_below commutes = by_class (class_of t g == class_at k s i) refl
    where
      by_class : (b : Bool) → (class_of t g == class_at k s i) ≡ b → FitsSmall k s i g h
      by_class false other = fits_outside i g h other
      by_class true class =
          let (m, inside, (c, carries)) = (listed_cover t G).cover g h g_below h_below commutes in
          let pair = pair_at (listed_pairs t) m in
          let commuting = listed_commute t G in
          let pair_g = commuting.first_below m inside in
          let pair_h = commuting.second_below m inside in
          let first : class_of t pair.g ≡ class_at k s i =
          sym (class_of_conjugate t G c pair.g carries.below pair_g) ∙ ap (class_of t) carries.first ∙ eqb-true _ _ class in
          fits_by_pair i g h c pair i_below pair_g pair_h g_below h_below commutes carries (weight_positive t G m inside)
          (row_small (listed_pairs t) kept.at_pairs.items are.at_pairs i (class_of t pair.h) m i_below (class_below t G pair.h pair_h) inside
          (ap₂ (λ a b. a && b) (eq-eqb _ _ first) (eq-eqb _ _ refl)))
          (eqb-true _ _ class)

  -- and at each commuting pair the other way round
  fits_at_exchanged : (kept : KeptConjugates k) → AreKept k s kept → (j g h : ℕ) → j < count k s → g < t.order → h < t.order → product t g h ≡ product t h g
      → FitsSmall k s j h g
  fits_at_exchanged kept are j g h j_below g_below h_below commutes = by_class (class_of t h == class_at k s j) refl
    where
      by_class : (b : Bool) → (class_of t h == class_at k s j) ≡ b → FitsSmall k s j h g
      by_class false other = fits_outside j h g other
      by_class true class =
          let (m, inside, (c, carries)) = (listed_cover t G).cover g h g_below h_below commutes in
          let pairs = map exchanged (listed_pairs t) in
          let pair = pair_at (listed_pairs t) m in
          let turned : pair_at pairs m ≡ exchanged pair = get_or-map exchanged (listed_pairs t) m no_pair no_pair inside in
          let commuting = listed_commute t G in
          let pair_g = commuting.first_below m inside in
          let pair_h = commuting.second_below m inside in
          let first : class_of t pair.h ≡ class_at k s j =
          sym (class_of_conjugate t G c pair.h carries.below pair_h) ∙ ap (class_of t) carries.second ∙ eqb-true _ _ class in
          fits_by_pair j h g c (exchanged pair) j_below pair_h pair_g h_below g_below (sym commutes)
          (record { below = carries.below; first = carries.second; second = carries.first }) (omega arith)
          (subst (λ x. IsSmall k (conjugate_at k s j x)) turned
          (row_small pairs kept.at_exchanged.items are.at_exchanged j (class_of t pair.g) m j_below (class_below t G pair.g pair_g)
          (omega (arith, inside, length-map (listed_pairs t) exchanged))
          (ap (meets t (class_at k s j) (class_of t pair.g)) turned ∙ ap₂ (λ a b. a && b) (eq-eqb _ _ first) (eq-eqb _ _ refl))))
          (eqb-true _ _ class)

  -- all terms fit
  pub terms_fit : (kept : KeptConjugates k) → AreKept k s kept → (i j : ℕ) → i < count k s → j < count k s → AllFit k t (pair_term k s i j)
  terms_fit kept are i j i_below j_below = record {
    fit = λ g h g_below h_below commutes.
        let left = fits_at_pair kept are i g h i_below g_below h_below commutes in
        let right = fits_at_exchanged kept are j g h j_below g_below h_below commutes in
        ap₂ (λ a b. a && b) (ap₂ (λ a b. a && b) left.fits right.fits)
        (small_together k (conjugated k (full_character k s i g h)).value (conjugated k (full_character k s j h g)).value left.small right.small);
  }

  -- and are the same at all conjugates of a pair
  pub pair_terms_invariant : (i j : ℕ) → i < count k s → j < count k s → IsInvariant t (λ g h. (pair_term k s i j g h).value)
  pair_terms_invariant i j i_below j_below = record {
    same = λ c g h c_below g_below h_below commutes.
        let g' = conjugate_element t c g in
        let h' = conjugate_element t c h in
        let commute' : product t g' h' ≡ product t h' g' =
        sym (conjugate_of_product t G c g h c_below g_below h_below) ∙ ap (conjugate_element t c) commutes ∙ conjugate_of_product t G c h g c_below h_below g_below in
        sym (terms_invariant k s S i j g' h' c i_below j_below (conjugate_below t G c g c_below g_below) (conjugate_below t G c h c_below h_below) c_below commute')
        ∙ ap₂ (λ x y. (pair_term k s i j x y).value) (carried_back t G c g c_below g_below) (carried_back t G c h c_below h_below);
  }
