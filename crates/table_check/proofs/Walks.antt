-- What a walk over the places of a clause finds.
use Rattle.table_check.proofs.Names.{◌≡◌, ◌<◌, ℕ, Option, Some, None, refl, arith, subst, first, first_none, first_found, TwistedSubgroup, Finds, Characters, Miss}
use Rattle.table_check.specs.Walks.{IsFirstAnswer}
use Rattle.table_check.specs.declared.refusal.TableRefusal.{TableRefusal}

-- over numbers: the first answer is that of what is missed first
pub finds_first : {k : ℕ} (s : TwistedSubgroup) (table : Characters k) (result : Option (TableRefusal k)) {says : ℕ → Option (TableRefusal k) → Type 0} (n to : ℕ)
    (missed : ℕ → Option Miss) → IsFirstAnswer n says result → n ≡ to
    → ((i : ℕ) (r : Option (TableRefusal k)) → i < to → says i r → Finds s table (missed i) r) → Finds s table (first to missed) result
finds_first s table None n to missed is same each = first_none to missed (λ i below. each i None below (is.none refl i (omega (arith, same, below))))
finds_first s table (Some refusal) n to missed is same each =
    let (i, inside, here, before) = is.some refusal refl in
    let below : i < to = omega (arith, same, inside) in
    let (miss, missed_here, refuses) = each i (Some refusal) below here in (
      miss,
      first_found to i missed miss below (first_none i missed (λ j less. each j None (omega (arith, less, below)) (before j less))) missed_here,
      refuses,
    )

module _ {k : ℕ} (s : TwistedSubgroup) (table : Characters k) (result : Option (TableRefusal k)) where
  -- over pairs
  pub finds_pairs : {says : ℕ → ℕ → Option (TableRefusal k) → Type 0} (n to m over : ℕ) (missed : ℕ → ℕ → Option Miss)
      → IsFirstAnswer n (λ i. IsFirstAnswer m (says i)) result → n ≡ to → m ≡ over
      → ((i j : ℕ) (r : Option (TableRefusal k)) → i < to → j < over → says i j r → Finds s table (missed i j) r)
      → Finds s table (first to (λ i. first over (missed i))) result
  finds_pairs n to m over missed is same also each =
      finds_first s table result n to (λ i. first over (missed i)) is same
      (λ i r below of_i. finds_first s table r m over (missed i) of_i also (λ j q less. each i j q below less))

  -- over triples
  pub finds_triples : {says : ℕ → ℕ → ℕ → Option (TableRefusal k) → Type 0} (n to m over l last : ℕ) (missed : ℕ → ℕ → ℕ → Option Miss)
      → IsFirstAnswer n (λ i. IsFirstAnswer m (λ j. IsFirstAnswer l (says i j))) result → n ≡ to → m ≡ over → l ≡ last
      → ((i j x : ℕ) (r : Option (TableRefusal k)) → i < to → j < over → x < last → says i j x r → Finds s table (missed i j x) r)
      → Finds s table (first to (λ i. first over (λ j. first last (missed i j)))) result
  finds_triples n to m over l last missed is same also too each =
      finds_pairs n to m over (λ i j. first last (missed i j)) is same also
      (λ i j r below less of_j. finds_first s table r l last (missed i j) of_j too (λ x q under. each i j x q below less under))
