-- The steps of the check of all tables.
use Rattle.qd_steps.proofs.Names.{◌≡◌, ℕ, ◌+◌, ◌<◌, ◌%◌, true, List, [], ◌∷◌, ◌++◌, length, map, Option, None, sym, ap, subst, ◌∙◌, arith, length-append, ℤ, range_with_len, length-map-range_with_len, get_or-map-range_with_len, first, first-zero, first-ext, first_none-step, representatives, Cochain, IsCocycle, is_conductor, TwistedSubgroup, twist_of, Cause, Block, block_at, RowsOver, IsShaped, HasTables, table_at, no_table, get_or-append_seam, map-range_with_len_more, first_found, StepRefusal, IsMatched, class_twist, class_table, class_rows, table_cause, cause_over, first_cause, tables_cause, tables_of, IsRefusalFor}
use Rattle.classes.proofs.Counting.{classes_at_most}
use Rattle.qd_steps.specs.declared.refusal.StepRefusal.TheVariants as steps

-- one more of a list that is made place by place
pub one_more : {A : Type 0} (f : ℕ → A) (c : ℕ) (front all : List A) (next : A) → all ≡ front ++ next ∷ [] → front ≡ map f (range_with_len 0 c) → next ≡ f c → all ≡ map f (range_with_len 0 (c + 1))
one_more f c front all next pushed before here = rw (pushed, before, here) (sym (map-range_with_len_more f 0 c c (omega arith)))

-- ---- one class
module _ (w : Cochain) (blocks : List Block) (c : ℕ) where
  -- the rows of a block that matches have a value for each place
  pub table_shaped : (k : ℕ) (twist : TwistedSubgroup) (rows : List (List (List ℤ))) → IsMatched w.group blocks → c < length (representatives w.group) → is_conductor k ≡ true → k % w.roots ≡ 0
      → twist ≡ class_twist w c → rows ≡ (block_at blocks c).rows → IsShaped k (record { over = twist; rows = rows })
  unfolding twist_of
  table_shaped k twist rows matched below conductor multiple is same =
      rw (is, same)
      (record {
        conductor = conductor;
        multiple = multiple;
        width = λ i row. matched.width c i (subst (λ n. c < n) (sym matched.count) below) row;
      })

-- ---- all classes
module _ (w : Cochain) (blocks : List Block) where
  pub tables_length : length (tables_of w blocks) ≡ length (representatives w.group)
  unfolding tables_of
  tables_length = length-map-range_with_len (class_rows w blocks) 0 (length (representatives w.group))

  pub tables_at : (c : ℕ) → c < length (representatives w.group) → table_at (tables_of w blocks) c ≡ class_rows w blocks c
  unfolding tables_of
  tables_at c below = get_or-map-range_with_len (class_rows w blocks) 0 _ c c no_table below (omega arith)

  pub tables_few : IsCocycle w → (tables : List RowsOver) → tables ≡ tables_of w blocks → length tables < 4294967296
  tables_few W tables are = omega (arith, ap length are, tables_length, classes_at_most w.group W.cochain.group, W.cochain.small.to_sixty)

  -- one for each class, over its twisted centraliser
  pub one_table_each : (tables : List RowsOver) → tables ≡ tables_of w blocks → HasTables w tables
  one_table_each tables are =
      rw are
      (record {
        count = tables_length;
        over = λ c below. ap (λ (table : RowsOver). table.over) (tables_at c (subst (λ n. c < n) tables_length below));
      })

  -- the cause that the tables have is that of the first that misses something
  pub same_causes : (k : ℕ) → first_cause k (tables_of w blocks) ≡ tables_cause w k blocks
  unfolding tables_cause
  same_causes k =
      ap (λ n. first n (λ c. cause_over k (table_at (tables_of w blocks) c))) tables_length
      ∙ first-ext (length (representatives w.group)) (λ c. cause_over k (table_at (tables_of w blocks) c)) (λ c. table_cause (class_twist w c) (class_table k blocks c))
      (λ c below. ap (cause_over k) (tables_at c below))

-- what is said of the first place at which there is something to say
pub first_refused : (n c : ℕ) (at : ℕ → Option Cause) (answer : StepRefusal) → c < n → first c at ≡ None → IsRefusalFor (at c) answer → IsRefusalFor (first n at) answer
first_refused n c at steps.Memory below none refused = tt
first_refused n c at (steps.Refused cause) below none refused = first_found n c at cause below none refused

-- ---- one table after another, of those that are left
pub none_yet : {A : Type 0} (done : List RowsOver) (at : ℕ → Option A) → done ≡ [] → first (length done) at ≡ None
none_yet done at none = rw none (first-zero at)

module _ (k : ℕ) (done : List RowsOver) (next : RowsOver) (left all : List RowsOver) (whole : done ++ next ∷ left ≡ all) where
  -- the next one
  pub next_at : table_at all (length done) ≡ next
  next_at = rw (← whole) (get_or-append_seam done next left no_table)

  pub next_below : length done < length all
  next_below = omega (arith, ap length whole, length-append done (next ∷ left))

  -- it misses nothing
  pub next_passes : (more : List RowsOver) → more ≡ done ++ next ∷ [] → first (length done) (λ c. cause_over k (table_at all c)) ≡ None → cause_over k next ≡ None
      → first (length more) (λ c. cause_over k (table_at all c)) ≡ None
  next_passes more pushed before passed =
      subst (λ n. first n (λ c. cause_over k (table_at all c)) ≡ None) (omega (arith, ap length pushed, length-append done (next ∷ [])))
      (first_none-step (length done) (λ c. cause_over k (table_at all c)) before (ap (cause_over k) next_at ∙ passed))

  -- it is the first that misses something
  pub next_refused : (answer : StepRefusal) → first (length done) (λ c. cause_over k (table_at all c)) ≡ None → IsRefusalFor (cause_over k next) answer → IsRefusalFor (first_cause k all) answer
  next_refused answer before refused =
      first_refused (length all) (length done) (λ c. cause_over k (table_at all c)) answer next_below before
      (subst (λ cause. IsRefusalFor cause answer) (sym (ap (cause_over k) next_at)) refused)
