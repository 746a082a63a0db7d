-- From rows that are good tables to the simples that they give, and to modular data; from whole fusion sums to a fusion rule.
use Rattle.qd_engine.proofs.Names.{◌≡◌, ℕ, ◌*◌, ◌%◌, ◌<◌, Bool, true, false, cond, List, length, Some, None, refl, sym, subst, is_some, unwrap_or, first_none-at, Cochain, IsCocycle, representatives, is_conductor, CyclotomicValue, RowsOver, IsShaped, characters_of, IsGood, SimplesOver, AreSimples, count, table_at, fusion_sum, fusion_number, whole_fault, root_order, Block, Given, class_rows, tables_of, simples_over, AreFusionNumbers, quotient_at, sum_fault, pair_fault, simple_fault, table_shaped, one_table_each, conductor_of, blocks_of, AreGood, HasNumbers, HasRule, IsVerified, GiveModularData, GiveFusionRule, RowPart, RowSource, Stated, Lifted, RowReport}
use Rattle.table_check.specs.Formed.{whole}
use Rattle.table_check.specs.Check.{is_same, where_holds}
use Rattle.table_check.proofs.Same.{is_same-Decides}
use Rattle.transport.proofs.TwistRoots.{modular_data}
use Rattle.transport.proofs.FusionLaws.{numbers_are_rule}
use Rattle.qd_engine.specs.Headline.{HasFusionRule}
use Rattle.qd_engine.proofs.ConductorLaws.{least_is_conductor, multiple_of_factor}
use Rattle.qd_engine.proofs.LiftedRows.{table_here, tables_number}

module _ (w : Cochain) (k : ℕ) (blocks : List Block) (cocycle : IsCocycle w) (conductor : is_conductor k ≡ true) (multiple : k % w.roots ≡ 0) (rows : AreGood w k blocks) where
  -- what holds of the rows of each class, holds of each table
  of_tables : (P : RowsOver → Type 0) → ((c : ℕ) → c < length (representatives w.group) → P (class_rows w blocks c)) → (c : ℕ) → c < length (tables_of w blocks)
      → P (table_at (tables_of w blocks) c)
  of_tables P each c below =
      let in_classes = subst (λ n. c < n) (tables_number w blocks) below in
      subst P (sym (table_here w blocks c in_classes)) (each c in_classes)

  -- good rows of a cocycle give simples
  pub good_rows_give_simples : AreSimples k (simples_over w blocks)
  good_rows_give_simples = record {
    conductor = conductor;
    cocycle = cocycle;
    tables = one_table_each w blocks (tables_of w blocks) refl;
    shaped = of_tables (IsShaped k) (λ c below. table_shaped w blocks c k _ _ rows.matched below conductor multiple refl refl);
    good = of_tables (λ table. IsGood table.over (characters_of k table.rows)) rows.good;
  }

-- the rows that a report has give modular data
pub report_is_modular : (w : Cochain) (given : Given) (report : RowReport) → IsCocycle w → IsVerified w given report → GiveModularData w given report
report_is_modular w given report cocycle verified =
    let k = conductor_of w in
    let blocks = blocks_of report.source w given in
    let (conductor, multiple) = least_is_conductor (root_order w) k verified.conductor in
    let simples = good_rows_give_simples w k blocks cocycle conductor (multiple_of_factor k w.roots _ multiple) verified.rows in
    record { simples = simples; modular = modular_data k (simples_over w blocks) simples }

-- what is read off a multiple is its factor
read_off : (k n v : ℕ) (u : CyclotomicValue k) (test : Bool) → is_same u (whole k (n * v)) ≡ test → is_some (where_holds test v) ≡ true
    → u ≡ whole k (n * unwrap_or (where_holds test v) 0)
read_off k n v u true is some = (is_same-Decides u (whole k (n * v))).0 is
read_off k n v u false is some = absurd cc

unless_some : {A : Type 0} (there : Bool) (fault : A) → cond there None (Some fault) ≡ None → there ≡ true
unless_some true fault none = refl
unless_some false fault none = absurd cc

module _ (k : ℕ) (s : SimplesOver) where
  -- where no fusion sum fails to be whole, the fusion numbers are what they are called
  whole_sums_have_numbers : whole_fault k s ≡ None → AreFusionNumbers k s (fusion_number k s)
  whole_sums_have_numbers none i j l i_below j_below l_below =
      let n = count k s in
      let at_i = first_none-at n i (simple_fault k s) none i_below in
      let at_j = first_none-at n j (pair_fault k s i) at_i j_below in
      let at_l = first_none-at n l (sum_fault k s i j) at_j l_below in
      read_off k s.cocycle.group.order _ (fusion_sum k s i j l).value _ refl (unless_some (is_some (quotient_at k s i j l)) (i, j, l) at_l)

  -- so that they are a fusion rule
  pub whole_sums_are_rule : AreSimples k s → whole_fault k s ≡ None → HasFusionRule k s
  whole_sums_are_rule simples none = numbers_are_rule k s simples (fusion_number k s) (whole_sums_have_numbers none)

-- where it is asked of lifted rows, by the test of their sums
rule_of : (source : RowSource) (k : ℕ) (s : SimplesOver) (parts : List RowPart) → AreSimples k s → HasNumbers source k s parts → HasRule source k s parts
rule_of Stated k s parts simples numbers = tt
rule_of (Lifted q) k s parts simples numbers = λ asked. whole_sums_are_rule k s simples (numbers asked)

-- the fusion numbers that a report has are a fusion rule
pub report_has_rule : (w : Cochain) (given : Given) (report : RowReport) → IsCocycle w → IsVerified w given report → GiveFusionRule w given report
report_has_rule w given report cocycle verified =
    rule_of report.source _ _ report.parts (report_is_modular w given report cocycle verified).simples verified.numbers
