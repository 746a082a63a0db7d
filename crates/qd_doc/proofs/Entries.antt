-- A number is an entry of the table of conductors exactly where it is its own least multiple there.
use Rattle.qd_doc.proofs.Names.{Bool, List, None, Option, Some, [], and_parts, ap, cases_Bool, conductors, eq-eqb, eqb-true, false, find, inl, inr, is_conductor, least_conductor, leb-true, list_all, list_any, map, nat_eq, nat_le, phi_of, refl, subst, sym, true, ℕ, ◌%◌, ◌==◌, ◌||◌, ◌∙◌, ◌∷◌, ◌≡◌, ◌≤◌}

-- a table has this number in its first column
abbrev has : ℕ → List (ℕ × ℕ) → Bool
has k table = list_any (λ (entry : ℕ × ℕ). entry.0 == k) table

-- the least multiple in the first column
abbrev least_in : ℕ → List (ℕ × ℕ) → Option ℕ
least_in m table = find (λ k. k % m == 0) (map (λ (entry : ℕ × ℕ). entry.0) table)

or_right : (a b : Bool) → b ≡ true → (a || b) ≡ true
or_right true b h = refl
or_right false b h = h

-- what is found stands in the table
found_has : (m k : ℕ) (table : List (ℕ × ℕ)) → least_in m table ≡ Some k → has k table ≡ true
found_has m k [] e = absurd cc
found_has m k (entry ∷ table) e = by (entry.0 % m == 0) refl (λ later. found_has m k table later)
  where
    by : (b : Bool) → (entry.0 % m == 0) ≡ b → (least_in m table ≡ Some k → has k table ≡ true) → has k (entry ∷ table) ≡ true
    by true h rest =
        let here : entry.0 ≡ k = (let f : Some entry.0 ≡ Some k = rw h at e in cc) in
        rw (eq-eqb entry.0 k here) refl
    by false h rest =
        let later : least_in m table ≡ Some k = rw h at e in
        or_right (entry.0 == k) (has k table) (rest later)

-- a fact of every entry holds of a number that the table has
of_entry : (P : ℕ → Bool) (k : ℕ) (table : List (ℕ × ℕ)) → list_all (λ (entry : ℕ × ℕ). P entry.0) table ≡ true → has k table ≡ true → P k ≡ true
of_entry P k [] all h = absurd cc
of_entry P k (entry ∷ table) all h =
    let both = and_parts (P entry.0) (list_all (λ (e : ℕ × ℕ). P e.0) table) all in
    by (entry.0 == k) refl both.0 (λ later. of_entry P k table both.1 later)
  where
    by : (b : Bool) → (entry.0 == k) ≡ b → P entry.0 ≡ true → (has k table ≡ true → P k ≡ true) → P k ≡ true
    by true e here rest = subst (λ (n : ℕ). P n ≡ true) (eqb-true entry.0 k e) here
    by false e here rest = rest (let f : has k table ≡ true = rw e at h in f)

is_some_of : Option ℕ → ℕ → Bool
is_some_of None k = false
is_some_of (Some n) k = n == k

some_of : (o : Option ℕ) (k : ℕ) → is_some_of o k ≡ true → o ≡ Some k
unfolding is_some_of
some_of None k e = absurd cc
some_of (Some n) k e = ap Some (eqb-true n k e)

-- each entry is its own least multiple
own_least : list_all (λ (entry : ℕ × ℕ). is_some_of (least_conductor entry.0) entry.0) conductors ≡ true
unfolding conductors least_conductor is_some_of
own_least = refl

least_of_entry : (k : ℕ) → is_conductor k ≡ true → least_conductor k ≡ Some k
unfolding is_conductor
least_of_entry k entry = some_of (least_conductor k) k (of_entry (λ n. is_some_of (least_conductor n) n) k conductors own_least entry)

entry_of_least : (k : ℕ) → least_conductor k ≡ Some k → is_conductor k ≡ true
unfolding is_conductor least_conductor
entry_of_least k e = found_has k k conductors e

pub entry_found : (k least : ℕ) → least_conductor k ≡ Some least → nat_eq least k ≡ is_conductor k
entry_found k least e = elim (cases_Bool (is_conductor k)) [
  | inl is ↦
      let same : least ≡ k = (let f : Some least ≡ Some k = sym e ∙ least_of_entry k is in cc) in
      eq-eqb least k same ∙ sym is
  | inr not ↦ by (nat_eq least k) refl not
]
  where
    by : (b : Bool) → nat_eq least k ≡ b → is_conductor k ≡ false → b ≡ is_conductor k
    by true same other =
        let own : is_conductor k ≡ true = entry_of_least k (e ∙ ap Some (eqb-true least k same)) in
        sym own
    by false same other = sym other

pub entry_missing : (k : ℕ) → least_conductor k ≡ None → false ≡ is_conductor k
entry_missing k e = elim (cases_Bool (is_conductor k)) [
  | inl is ↦ absurd (let f : None ≡ Some k = sym e ∙ least_of_entry k is in cc)
  | inr not ↦ sym not
]

-- ---- the number of coefficients

few_in_table : list_all (λ (entry : ℕ × ℕ). nat_le (phi_of entry.0) 42) conductors ≡ true
unfolding conductors phi_of
few_in_table = refl

pub few_coefficients : (k : ℕ) → is_conductor k ≡ true → phi_of k ≤ 42
unfolding is_conductor
few_coefficients k entry = leb-true (phi_of k) 42 (of_entry (λ n. nat_le (phi_of n) 42) k conductors few_in_table entry)

few_numbers : list_all (λ (entry : ℕ × ℕ). nat_le entry.0 120) conductors ≡ true
unfolding conductors
few_numbers = refl

pub small_entry : (k : ℕ) → is_conductor k ≡ true → k ≤ 120
unfolding is_conductor
small_entry k entry = leb-true k 120 (of_entry (λ n. nat_le n 120) k conductors few_numbers entry)
