-- The rows that are lifted by a valid modulus: its field, their causes, and that no side of the check of their tables overflows.
use Rattle.qd_engine.proofs.Names.{◌≡◌, ℕ, ◌%◌, ◌<◌, Bool, true, false, cond, List, length, Option, Some, None, refl, sym, ap, subst, arith, ◌==◌, is_some, ltb-true, get_or-map-range_with_len, length-map-range_with_len, or_none, Cochain, IsCocycle, representatives, representative_at, representative_at_is, twist_of, twist_lawful, is_conductor, least_conductor, modulus_fault, ModRing, AreRootRows, HasRootRows, root_rows_fit, RowsOver, characters_of, SimplesOver, table_at, no_table, AreSimples, root_order, Block, class_rows, class_twist, class_table, tables_of, simples_over, lifts_cause, lifted_blocks, modulus_cause, ServesCocycle, lifted_root_rows, option_map, and_true, is_modulus, least_root, field_by, field_of, conductor_of, field_for, AllFit, modulus_test, Modulus}
use Rattle.qd_steps.proofs.FieldOf.{field_found}
use Rattle.qd_engine.proofs.ConductorLaws.{least_is_conductor}

-- ---- the field

none_if : {A : Type 0} (test : Bool) (fault : A) → cond test None (Some fault) ≡ None → test ≡ true
none_if true fault e = refl
none_if false fault e = absurd cc

none_unless : {A : Type 0} (test : Bool) (fault : A) → cond test (Some fault) None ≡ None → test ≡ false
none_unless false fault e = refl
none_unless true fault e = absurd cc

module _ (q k : ℕ) where
  -- there is a field where all that is asked of q and K is answered so
  field_there : (listed entry divides : Bool) (root : Option ℕ)
      (is_listed : is_modulus q ≡ listed) (is_entry : is_conductor k ≡ entry) (is_divisor : (k % q == 0) ≡ divides) (is_root : least_root q k ≡ root)
      → listed ≡ true → entry ≡ true → divides ≡ false → is_some root ≡ true
      → (ring : ModRing) × (field_by q k listed entry divides root is_listed is_entry is_divisor is_root ≡ Some ring)
  field_there true true false (Some z) is_listed is_entry is_divisor is_root a b c d = (_, refl)
  field_there true true false None is_listed is_entry is_divisor is_root a b c d = absurd cc
  field_there true true true root is_listed is_entry is_divisor is_root a b c d = absurd cc
  field_there true false divides root is_listed is_entry is_divisor is_root a b c d = absurd cc
  field_there false entry divides root is_listed is_entry is_divisor is_root a b c d = absurd cc

  -- its numbers are q and K
  field_numbers : (listed entry divides : Bool) (root : Option ℕ)
      (is_listed : is_modulus q ≡ listed) (is_entry : is_conductor k ≡ entry) (is_divisor : (k % q == 0) ≡ divides) (is_root : least_root q k ≡ root)
      (ring : ModRing) → field_by q k listed entry divides root is_listed is_entry is_divisor is_root ≡ Some ring → (ring.q ≡ q) × (ring.conductor ≡ k)
  field_numbers true true false (Some z) is_listed is_entry is_divisor is_root ring e = (cc, cc)
  field_numbers true true false None is_listed is_entry is_divisor is_root ring e = absurd cc
  field_numbers true true true root is_listed is_entry is_divisor is_root ring e = absurd cc
  field_numbers true false divides root is_listed is_entry is_divisor is_root ring e = absurd cc
  field_numbers false entry divides root is_listed is_entry is_divisor is_root ring e = absurd cc

  pub numbers_of_field : (ring : ModRing) → field_of q k ≡ Some ring → (ring.q ≡ q) × (ring.conductor ≡ k)
  unfolding field_of
  numbers_of_field ring e = field_numbers (is_modulus q) (is_conductor k) (k % q == 0) (least_root q k) refl refl refl refl ring e

  -- a valid modulus has a field, and is over the bound
  pub valid_field : (above : ℕ) → is_conductor k ≡ true → modulus_fault q above k ≡ None → (above < q) × ((ring : ModRing) × (field_of q k ≡ Some ring))
  unfolding field_of modulus_fault
  valid_field above conductor none =
      let (range, after_range) = or_none _ _ none in
      let (listing, after_listing) = or_none _ _ after_range in
      let (divisor, root) = or_none _ _ after_listing in (
        ltb-true above q (and_true _ _ (none_if _ _ range)).0,
        field_there (is_modulus q) (is_conductor k) (k % q == 0) (least_root q k) refl refl refl refl (none_if _ _ listing) conductor (none_unless _ _ divisor) (none_if _ _ root),
      )

-- what `ModRing::new` answers of a valid modulus
pub modulus_passes : (q : ℕ) (w : Cochain) (above k : ℕ) → above ≡ w.group.order → k ≡ conductor_of w → modulus_fault q above k ≡ None → modulus_test q w ≡ None
modulus_passes q w above k order needed valid =
    ap (option_map Modulus) (subst (λ n. modulus_fault q n (conductor_of w) ≡ None) order (subst (λ n. modulus_fault q above n ≡ None) needed valid))

pub field_is : (q k : ℕ) (ring : ModRing) → ring.q ≡ q → ring.conductor ≡ k → field_of q k ≡ Some ring
field_is q k ring is_q is_k = subst (λ m. field_of m k ≡ Some ring) is_q (subst (λ n. field_of ring.q n ≡ Some ring) is_k (field_found ring))

pub over_bound : (q k above : ℕ) → modulus_fault q above k ≡ None → above < q
unfolding modulus_fault
over_bound q k above none = ltb-true above q (and_true _ _ (none_if _ _ (or_none _ _ none).0)).0

-- a valid modulus serves the cocycle
pub field_serves : (q : ℕ) (w : Cochain) (ring : ModRing) → IsCocycle w → least_conductor (root_order w) ≡ Some (conductor_of w)
    → modulus_fault q w.group.order (conductor_of w) ≡ None → field_for q w ≡ Some ring → ServesCocycle ring w
field_serves q w ring cocycle conductor valid field =
    let k = conductor_of w in
    let found = least_is_conductor (root_order w) k conductor in
    let (is_q, is_k) = numbers_of_field q k ring field in
    record {
      cocycle = cocycle;
      over = subst (λ p. w.group.order < p) (sym is_q) (valid_field q k w.group.order found.0 valid).0;
      multiple = subst (λ n. n % root_order w ≡ 0) (sym is_k) found.1;
    }

-- ---- the tables

pub table_here : (w : Cochain) (blocks : List Block) (c : ℕ) → c < length (representatives w.group) → table_at (tables_of w blocks) c ≡ class_rows w blocks c
unfolding tables_of
table_here w blocks c below = get_or-map-range_with_len (class_rows w blocks) 0 (length (representatives w.group)) c c no_table below (omega arith)

pub tables_number : (w : Cochain) (blocks : List Block) → length (tables_of w blocks) ≡ length (representatives w.group)
unfolding tables_of
tables_number w blocks = length-map-range_with_len (class_rows w blocks) 0 (length (representatives w.group))

-- no side of their check overflows
pub lifted_fit : (ring : ModRing) (w : Cochain) → is_conductor ring.conductor ≡ true → ServesCocycle ring w → lifts_cause ring w ≡ None → AllFit w ring.conductor (lifted_blocks ring w)
unfolding twist_of
lifted_fit ring w conductor serves lifted c below =
    let k = ring.conductor in
    let blocks = lifted_blocks ring w in
    let roots = lifted_root_rows ring w serves lifted c (subst (λ n. c < n) (sym (tables_number w blocks)) below) in
    root_rows_fit k conductor (class_twist w c)
    (twist_lawful w serves.cocycle (representative_at w.group c) (representative_at_is w.group serves.cocycle.cochain.group c below).below)
    (class_table k blocks c)
    (subst (λ (t : RowsOver). AreRootRows t.over (characters_of k t.rows)) (table_here w blocks c below) roots)

-- the simples of lifted rows have tables whose values are sums of roots of unity
pub lifted_rooted : (ring : ModRing) (w : Cochain) (k : ℕ) (s : SimplesOver) → ring.conductor ≡ k → k % root_order w ≡ 0 → w.group.order < ring.q → AreSimples k s
    → s ≡ simples_over w (lifted_blocks ring w) → modulus_cause ring w ≡ None → HasRootRows k s
unfolding modulus_cause
lifted_rooted ring w k s conductor multiple over good is passed =
    let blocks = lifted_blocks ring w in
    let serves : ServesCocycle ring w =
    record {
      cocycle = subst IsCocycle (ap (λ (t : SimplesOver). t.cocycle) is) good.cocycle;
      over = over;
      multiple = subst (λ n. n % root_order w ≡ 0) (sym conductor) multiple;
    } in
    subst (HasRootRows k) (sym is)
    (subst (λ n. HasRootRows n (simples_over w blocks)) conductor (lifted_root_rows ring w serves (or_none _ _ passed).0))
