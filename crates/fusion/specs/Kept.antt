-- Full characters, tensor characters and conjugates of full characters, as they are kept.
use Rattle.std.specs.Prelude.{◌≡◌, ℕ, ◌*◌, ◌/◌, ◌%◌, ◌<◌, false, ◌==◌, Option, Some, None, IfSome, List, length, get_or}
use Rattle.group_table.specs.Group.{Commute, commute}
use Rattle.std.specs.Global.{Vec, Box}
use Rattle.algebra.specs.Sums.{multiple}
use Rattle.group_table.specs.Numbers.{passing_below}
use Rattle.classes.specs.Conjugacy.{class_of, representative_at, members_of}
use Rattle.cyclotomic.specs.Ring.{value_nought}
use Rattle.cyclotomic.specs.CyclotomicRing.{CyclotomicValue, cyclotomic_ring, cyclotomic_value, conjugate}
use Rattle.pair_orbits.specs.declared.pair.Pair.{Pair}
use Rattle.pair_orbits.specs.PairOrbits.{listed_pairs}
use Rattle.pair_orbits.specs.Listing.{pair_at}
use Rattle.qd_ring.specs.declared.cyc.Cyc.{Cyc}
use Rattle.qd_ring.specs.declared.monomial.Monomial.{Monomial}
use Rattle.qd_ring.specs.SparseValues.{value_of_terms}
use Rattle.qd_ring.specs.Formed.{Formed, conjugated, multiplied, where_so}
use Rattle.transport.specs.Simples.{SimplesOver, count, class_at}
use Rattle.transport.specs.FullCharacters.{full_character}
use Rattle.transport.specs.Fusion.{tensor_term, tensor_character}
use Rattle.fusion.specs.Numbers.{quotient_at}
use Rattle.fusion.specs.declared.kept.Kept.{Kept}
use Rattle.fusion.specs.declared.weighted.Weighted.{Weighted}

-- n items, each of which has the property of its place
pub record AreAt {A : Type 0} (holds : ℕ → A → Type 0) (n : ℕ) (xs : List A) : Type 0 where
  pub count_is : length xs ≡ n
  pub each : (p : ℕ) (otherwise : A) → p < n → holds p (get_or xs p otherwise)

module _ (k : ℕ) where
  -- the value of a sparse form, 0 where there is none
  abbrev pub value_or_nought : Option (Box (List Monomial)) → CyclotomicValue k
  value_or_nought None = value_nought
  value_or_nought (Some u) = value_of_terms k u.value

  -- an answer of forming a value: the value, or none where a step doesn't fit
  pub record Answers (formed : Formed k) (answer : Option (Cyc k)) : Type 0 where
    pub missing : answer ≡ None → formed.fits ≡ false
    pub stands : IfSome answer (λ u. cyclotomic_value k u.coefficients ≡ formed.value)

module _ (k : ℕ) (s : SimplesOver) where
  -- the full character of i at g and x, 0 where they don't commute
  abbrev pub full_term : ℕ → ℕ → ℕ → Formed k
  full_term i g x = where_so k (commute s.cocycle.group g x) (full_character k s i g x)

  -- those of i at g and each element
  abbrev pub IsFullRow : ℕ → ℕ → List (Option (Box (List Monomial))) → Type 0
  IsFullRow i g row = AreAt (λ x u. value_or_nought k u ≡ (full_term i g x).value) s.cocycle.group.order row

  -- those rows where g is in the class of i
  abbrev pub IsClassRow : ℕ → ℕ → List (Option (Box (List Monomial))) → Type 0
  IsClassRow i g row = class_of s.cocycle.group g ≡ class_at k s i → IsFullRow i g row

  -- those of all simples, by simple and element
  abbrev pub AreFullValues : List (Vec (Option (Box (List Monomial)))) → Type 0
  AreFullValues rows = let n = s.cocycle.group.order in AreAt (λ q row. IsClassRow (q / n) (q % n) row.items) (count k s * n) rows

  -- i and j are simples, g and x elements that commute: there is a tensor character of i and j at g and x
  pub record IsTensorPlace (i j g x : ℕ) : Type 0 where
    pub i_below : i < count k s
    pub j_below : j < count k s
    pub g_below : g < s.cocycle.group.order
    pub x_below : x < s.cocycle.group.order
    pub commute : Commute s.cocycle.group g x

  -- the members of the class of i, ascending
  abbrev pub members_at : ℕ → List ℕ
  members_at i = members_of s.cocycle.group (representative_at s.cocycle.group (class_at k s i))

  -- the part of the tensor character of i and j at h and h^-1 g, 0 where h doesn't commute with x
  abbrev pub tensor_part : ℕ → ℕ → ℕ → ℕ → ℕ → Formed k
  tensor_part i j g x h = where_so k (commute s.cocycle.group h x) (tensor_term k s i j g x h)

  -- (i*j)(g,x) conj(ch_l(g,x))
  abbrev pub inner_term : ℕ → ℕ → ℕ → ℕ → ℕ → Formed k
  inner_term i j l g x = multiplied k (tensor_character k s i j g x) (conjugated k (full_character k s l g x))

  -- the term of the fusion sum of i, j and l for the pair of elements with the number p, 0 where they don't commute
  abbrev pub inner_part : ℕ → ℕ → ℕ → ℕ → Formed k
  inner_part i j l p = let n = s.cocycle.group.order in where_so k (commute s.cocycle.group (p / n) (p % n)) (inner_term i j l (p / n) (p % n))

  -- the listed pair at place p
  abbrev pub listed_at : ℕ → Pair
  listed_at p = pair_at (listed_pairs s.cocycle.group) p

  -- the tensor characters of i and j at the listed pairs
  abbrev pub AreTensors : ℕ → ℕ → List (Option (Box (List Monomial))) → Type 0
  AreTensors i j tensors =
      AreAt (λ p u. value_or_nought k u ≡ (tensor_character k s i j (listed_at p).g (listed_at p).h).value) (length (listed_pairs s.cocycle.group)) tensors

  -- the places before p of the listed pairs whose first element is in the class of l, ascending
  abbrev pub places_before : ℕ → ℕ → List ℕ
  places_before l p = passing_below p (λ m. class_of s.cocycle.group (listed_at m).g == class_at k s l)

  -- all of them
  abbrev pub places_of : ℕ → List ℕ
  places_of l = places_before l (length (listed_pairs s.cocycle.group))

  -- the conjugate of the full character of l at a pair, as often as its weight says
  abbrev pub weighted_conjugate : ℕ → Pair → CyclotomicValue k
  weighted_conjugate l pair = multiple (cyclotomic_ring k) pair.weight (conjugate k (full_character k s l pair.g pair.h).value)

  -- that at the listed pair at place p, where it is there
  pub record IsWeighted (l p : ℕ) (weighted : Weighted k) : Type 0 where
    pub place_is : weighted.place ≡ p
    pub stands : IfSome weighted.conjugate (λ u. value_of_terms k u ≡ weighted_conjugate l (listed_at p))

  -- those of l at all pairs whose first element is in its class
  abbrev pub AreWeighted : ℕ → List (Weighted k) → Type 0
  AreWeighted l row = AreAt (λ q weighted. IsWeighted l (get_or (places_of l) q 0) weighted) (length (places_of l)) row

  -- those of all simples
  abbrev pub AreAllWeighted : List (Vec (Weighted k)) → Type 0
  AreAllWeighted rows = AreAt (λ l row. AreWeighted l row.items) (count k s) rows

  -- the listed pairs, with the full characters and these conjugates
  pub record IsKept (kept : Kept k) : Type 0 where
    pub pairs : kept.pairs ≡ listed_pairs s.cocycle.group
    pub full : AreFullValues kept.full.items
    pub conjugates : AreAllWeighted kept.conjugates.items

  -- the term of the fusion sum of i, j and l for the listed pair at place p, as often as its weight says
  abbrev pub orbit_term : ℕ → ℕ → ℕ → ℕ → CyclotomicValue k
  orbit_term i j l p = multiple (cyclotomic_ring k) (listed_at p).weight (inner_term i j l (listed_at p).g (listed_at p).h).value

  -- the fusion numbers of i and j with each simple, all of which are there
  abbrev pub ArePairNumbers : ℕ → ℕ → List ℕ → Type 0
  ArePairNumbers i j numbers = AreAt (λ l number. quotient_at k s i j l ≡ Some number) (count k s) numbers
