-- The twisted centralisers of all classes, and the rows over them.
use Rattle.qd_steps.proofs.Names.{◌≡◌, ℕ, ◌<◌, ◌%◌, true, List, length, map, get_or, refl, sym, ap, subst, ◌∙◌, arith, range_with_len, option_and_then, length-map-range_with_len, get_or-map-range_with_len, first, first-ext, representatives, representative_at, Cochain, is_conductor, ModRing, TwistedSubgroup, twist_of, RowsOver, IsShaped, no_table, twist_fault, twist_rows, Serves, Block, block_at, fill_by_all, IsMatched, class_twist, class_rows, tables_of, cause_of_lift, lift_cause, lifts_cause, lifted_blocks, class_twists, twist_in, stated_over, all_stated, lifted_over, all_lifted, lift_cause_over, first_lift_cause, ServesCocycle}
use Rattle.qd_steps.proofs.TableSteps.{table_shaped, tables_length, tables_at}
use Rattle.qd_steps.proofs.LiftedRows.{lifted_rows_at, class_serves}

module _ (w : Cochain) where
  pub length-class_twists : length (class_twists w) ≡ length (representatives w.group)
  unfolding class_twists
  length-class_twists = length-map-range_with_len (class_twist w) 0 (length (representatives w.group))

  pub twist_at : (c : ℕ) (d : TwistedSubgroup) → c < length (representatives w.group) → get_or (class_twists w) c d ≡ class_twist w c
  unfolding class_twists
  twist_at c d below = get_or-map-range_with_len (class_twist w) 0 _ c c d below (omega arith)

  pub all_twists : (n : ℕ) (twists : List TwistedSubgroup) → n ≡ length (representatives w.group) → twists ≡ map (class_twist w) (range_with_len 0 n) → twists ≡ class_twists w
  unfolding class_twists
  all_twists n twists all are = are ∙ ap (λ m. map (class_twist w) (range_with_len 0 m)) all

  -- each belongs to the representative of its class
  at_representative : (c : ℕ) → (class_twist w c).at ≡ representative_at w.group c
  unfolding twist_of
  at_representative c = refl

module _ (w : Cochain) (twists : List TwistedSubgroup) (are : twists ≡ class_twists w) where
  pub twists_number : length twists ≡ length (representatives w.group)
  twists_number = ap length are ∙ length-class_twists w

  in_classes : (c : ℕ) → c < length twists → c < length (representatives w.group)
  in_classes c below = subst (λ n. c < n) twists_number below

  twist_here : (c : ℕ) → c < length twists → twist_in twists c ≡ class_twist w c
  twist_here c below = ap (λ (all : List TwistedSubgroup). twist_in all c) are ∙ twist_at w c no_table.over (in_classes c below)

  -- rows over each are the tables of these blocks, where they are the rows of the classes
  are_tables : (blocks : List Block) (over : ℕ → RowsOver) → ((c : ℕ) → c < length twists → over c ≡ class_rows w blocks c)
      → (all : List RowsOver) → all ≡ map over (range_with_len 0 (length twists)) → all ≡ tables_of w blocks
  are_tables blocks over each all made =
      made
      ∙ sym (fill_by_all over (tables_of w blocks) (length twists) no_table (tables_length w blocks ∙ sym twists_number)
      (λ c below. tables_at w blocks c (in_classes c below) ∙ sym (each c below)))

  -- ---- the rows of blocks
  module _ (blocks : List Block) where
    stated_here : (c : ℕ) → c < length twists → stated_over twists blocks c ≡ class_rows w blocks c
    stated_here c below = ap (λ (s : TwistedSubgroup). record { over = s; rows = (block_at blocks c).rows }) (twist_here c below)

    pub stated_shaped : (k : ℕ) → IsMatched w.group blocks → is_conductor k ≡ true → k % w.roots ≡ 0 → (c : ℕ) → c < length twists → IsShaped k (stated_over twists blocks c)
    stated_shaped k matched conductor multiple c below =
        subst (IsShaped k) (sym (stated_here c below)) (table_shaped w blocks c k _ _ matched (in_classes c below) conductor multiple refl refl)

    pub stated_tables : (all : List RowsOver) → all ≡ all_stated twists blocks → all ≡ tables_of w blocks
    stated_tables all made = are_tables blocks (stated_over twists blocks) stated_here all made

  -- ---- lifted rows
  module _ (ring : ModRing) where
    pub twists_served : ServesCocycle ring w → (c : ℕ) → c < length twists → Serves ring (twist_in twists c)
    twists_served serves c below = subst (Serves ring) (sym (twist_here c below)) (class_serves ring w serves c (in_classes c below))

    pub lifted_tables : (all : List RowsOver) → all ≡ all_lifted twists ring → all ≡ tables_of w (lifted_blocks ring w)
    lifted_tables all made =
        are_tables (lifted_blocks ring w) (lifted_over twists ring)
        (λ c below. lifted_rows_at ring w c (twist_in twists c) (twist_rows ring (twist_in twists c)) (in_classes c below) (twist_here c below) refl) all made

    cause_here : (c : ℕ) → c < length twists → lift_cause_over twists ring c ≡ lift_cause ring w c
    cause_here c below =
        ap (λ (s : TwistedSubgroup). option_and_then (cause_of_lift s.at) (twist_fault ring s)) (twist_here c below)
        ∙ ap (λ at. option_and_then (cause_of_lift at) (twist_fault ring (class_twist w c))) (at_representative w c)

    -- the first of them without lifted rows is that of the first class without
    pub same_lifts : first_lift_cause twists ring ≡ lifts_cause ring w
    unfolding lifts_cause
    same_lifts =
        first-ext (length twists) (lift_cause_over twists ring) (lift_cause ring w) cause_here ∙ ap (λ n. first n (lift_cause ring w)) twists_number
