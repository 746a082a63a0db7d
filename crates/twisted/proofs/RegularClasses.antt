-- The representatives of the regular classes: one for each, all different.
use Rattle.std.proofs.Common.{◌≡◌, ◌≢◌, ℕ, ◌<◌, Bool, true, nat_eq, ◌∷◌, length, get_or, refl, sym, ◌∙◌, ap, inl, inr, eq-eqb, eqb-true}
use Rattle.std.proofs.lemmas.Bool.{cases_lt}
use Rattle.classes.proofs.Conjugacy.{is_other, different_numbers}
use Rattle.twisted.proofs.PhaseLaws.{regular_on_classes}
use Rattle.twisted.proofs.Names.{get_or_default, get_or-eq_default, All-get_or, All-cons, All-weaker, and_true, Below, below_equal, element_of, neither_below, identity_of, passing_below, IsPassing, passing_below-all, begun_differ, begun_contains, identity_below, conjugate, representative_of, carrier, representative_least, representative_twice, representative_of_identity, representative_of_conjugate, TwistedSubgroup, size, IsTwist, is_regular, regular_representatives, rank}
use Rattle.std.specs.List.{All, Contains}
use Rattle.twisted.proofs.Carrying.{carry}
use Rattle.twisted.proofs.ConjugationPhases.{IsRegular}
use Rattle.twisted.proofs.CentreLaws.{Representatives}
use Rattle.twisted.proofs.Representatives.{is_other_regular, identity_regular, regular_representatives_are, length-regular_representatives}
use Rattle.twisted.proofs.Translation.{place_group, phase_at, carry_value, regular_of_test, test_of_regular, some_place}

module _ (s : TwistedSubgroup) (twist : IsTwist s) where
  abbrev pub other_test : ℕ → Bool
  other_test = is_other_regular s

  -- a place that represents a regular class
  pub record IsRegularRepresentative (p : ℕ) : Type 0 where
    pub below : p < size s
    pub represents : representative_of s.group p ≡ p
    pub regular : is_regular s p ≡ true

  pub representatives_listed : regular_representatives s ≡ identity_of s.group ∷ passing_below (size s) other_test
  representatives_listed = regular_representatives_are s twist

  all_represent : All IsRegularRepresentative (identity_of s.group ∷ passing_below (size s) other_test)
  all_represent =
      All-cons IsRegularRepresentative (identity_of s.group) (passing_below (size s) other_test)
      (record { below = identity_below s.group twist.group; represents = representative_of_identity s.group twist.group; regular = identity_regular s twist })
      (All-weaker (IsPassing (size s) other_test) IsRegularRepresentative
      (λ p passing.
      let both = and_true (is_other s.group p) (is_regular s p) passing.passes in
      record { below = passing.below; represents = eqb-true _ _ (and_true _ _ both.0).0; regular = both.1 })
      _ (passing_below-all (size s) other_test))

  pub represents_at : (i : ℕ) → i < length (regular_representatives s) → IsRegularRepresentative (get_or (regular_representatives s) i 0)
  represents_at i below = All-get_or IsRegularRepresentative (regular_representatives s) i 0 below (rw representatives_listed all_represent)

  is_not_identity : (p : ℕ) → other_test p ≡ true → p ≢ identity_of s.group
  is_not_identity p passes =
      let other = and_true (is_other s.group p) (is_regular s p) passes in
      different_numbers p (identity_of s.group) (and_true (nat_eq (representative_of s.group p) p) _ other.0).1

  -- no two are the same
  representatives_differ : (i j : ℕ) → i < length (regular_representatives s) → j < length (regular_representatives s)
      → get_or (regular_representatives s) i 0 ≡ get_or (regular_representatives s) j 0 → i ≡ j
  representatives_differ i j i_below j_below same = neither_below i j (λ less. apart i j less j_below same) (λ more. apart j i more i_below (sym same))
    where
      apart : (i j : ℕ) → i < j → j < length (regular_representatives s) → get_or (regular_representatives s) i 0 ≢ get_or (regular_representatives s) j 0
      apart i j less below = rw representatives_listed (begun_differ (size s) (identity_of s.group) other_test is_not_identity i j less (rw representatives_listed at below))

  -- each representative of a regular class is in the list
  pub listed : (p : ℕ) → IsRegularRepresentative p → Contains (regular_representatives s) p
  listed p r =
      rw representatives_listed
      (begun_contains (size s) (identity_of s.group) p other_test r.below (λ e. rw (eq-eqb _ _ r.represents, e, r.regular) refl))

  -- the representative with the number i, as a place; past the last one some place
  pub representative_below_at : (i : ℕ) → get_or (regular_representatives s) i 0 < size s
  representative_below_at i =
      elim (cases_lt i (length (regular_representatives s))) [
        | inl less ↦ (represents_at i less).below
        | inr past ↦ rw (get_or-eq_default (regular_representatives s) 0 past) (some_place s twist)
      ]

  abbrev pub representative_place : ℕ → Below (size s)
  representative_place i = record { value = get_or (regular_representatives s) i 0; below = representative_below_at i }

  pub regular_classes : Representatives (place_group s twist) s.modulus (phase_at s twist) (rank s) (representative_place)
  regular_classes = record {
    regular = λ i below. regular_of_test s twist (representative_place i) (represents_at i (rw (length-regular_representatives s) below)).regular;
    covers = λ y regular. covered y regular;
    apart = λ i j i_below j_below c e. apart i j (rw (length-regular_representatives s) i_below) (rw (length-regular_representatives s) j_below) c e;
  }
    where
      covered : (y : Below (size s)) → IsRegular (place_group s twist) s.modulus (phase_at s twist) y
          → (i : ℕ) × (i < rank s) × ((c : Below (size s)) × (carry (place_group s twist) c (representative_place i) ≡ y))
      covered y regular =
          let least = representative_least s.group twist.group y.value y.below in
          let (k, k_below, carries) = carrier s.group twist.group (representative_of s.group y.value) y.value least.passes in
          let (i, below, stands) = listed (representative_of s.group y.value) (record {
            below = least.below;
            represents = representative_twice s.group twist.group y.value y.below;
            regular = sym (regular_on_classes s twist k (representative_of s.group y.value) k_below least.below) ∙ ap (is_regular s) carries ∙ test_of_regular s twist y regular;
          }) in
          let there = get_or_default (regular_representatives s) i 0 (representative_of s.group y.value) below ∙ stands in
          let c : Below (size s) = element_of k k_below in (
            i,
            rw (← length-regular_representatives s) below,
            (c, below_equal _ _ (carry_value s twist c (representative_place i) ∙ ap (conjugate s.group k) there ∙ carries)),
          )

      apart : (i j : ℕ) → i < length (regular_representatives s) → j < length (regular_representatives s) → (c : Below (size s))
          → carry (place_group s twist) c (representative_place i) ≡ representative_place j → i ≡ j
      apart i j i_below j_below c e =
          let a = represents_at i i_below in
          let b = represents_at j j_below in
          let carries : conjugate s.group c.value (get_or (regular_representatives s) i 0) ≡ get_or (regular_representatives s) j 0 =
          sym (carry_value s twist c (representative_place i)) ∙ ap (λ (z : Below (size s)). z.value) e in
          representatives_differ i j i_below j_below
          (sym a.represents ∙ sym (representative_of_conjugate s.group twist.group c.value (get_or (regular_representatives s) i 0) c.below a.below)
          ∙ ap (representative_of s.group) carries ∙ b.represents)
