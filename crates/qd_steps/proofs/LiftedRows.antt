-- The lifted rows of all classes.
use Rattle.qd_steps.proofs.Names.{◌≡◌, ℕ, ◌<◌, List, [], length, refl, sym, ap, subst, ◌∙◌, arith, ℤ, length-map-range_with_len, get_or-map-range_with_len, ap₂, representatives, representative_at, Cochain, ModRing, TwistedSubgroup, size, twist_of, row_at, central_value, central_characters, character_ratios, RowsOver, IsShaped, characters, twist_rows, Serves, Block, block_at, product, identity_of, period_modulus, block, IsMatched, class_twist, class_rows, lifted_block, lifted_blocks, ServesCocycle}
use Rattle.orders.specs.Order.{exponent_of}
use Rattle.classes.specs.Conjugacy.{centraliser_of}
use Rattle.classes.proofs.Conjugacy.{representative_at_is}
use Rattle.char_lift.specs.Faults.{lifted_row}
use Rattle.group_table.proofs.Numbers.{length-tabulated, tabulated-at}
use Rattle.twist_lift.proofs.ServedClasses.{serves_classes}

-- ---- one twist
module _ (ring : ModRing) where
  -- each lifted row has a value for each place
  pub lifted_width : (s : TwistedSubgroup) (i : ℕ) → i < length (twist_rows ring s) → length (row_at (twist_rows ring s) i) ≡ size s
  unfolding twist_rows
  lifted_width s i below =
      let n = length (central_characters ring s) in
      let row = λ (r : ℕ). lifted_row s ring.q ring.conductor ring.root (character_ratios s ring.q ring.conductor ring.root (central_value (characters ring s) r)) in
      ap length (tabulated-at n i row [] (subst (λ m. i < m) (length-tabulated n row) below)) ∙ length-tabulated (size s) _

  -- lifted rows are shaped as the check wants them
  pub lifted_shaped : (k : ℕ) (twist : TwistedSubgroup) (rows : List (List (List ℤ))) → ring.conductor ≡ k → Serves ring twist → rows ≡ twist_rows ring twist
      → IsShaped k (record { over = twist; rows = rows })
  lifted_shaped k twist rows conductor serves are =
      subst (λ (found : List (List (List ℤ))). IsShaped k (record { over = twist; rows = found })) (sym are)
      (subst (λ n. IsShaped n (record { over = twist; rows = twist_rows ring twist })) conductor
      (record {
        conductor = ring.entry;
        multiple = period_modulus ring.conductor twist.modulus (exponent_of twist.group.order (product twist.group) (identity_of twist.group)) serves.period;
        width = lifted_width twist;
      }))

-- ---- all classes
module _ (ring : ModRing) (w : Cochain) where
  pub lifted_count : length (lifted_blocks ring w) ≡ length (representatives w.group)
  unfolding lifted_blocks
  lifted_count = length-map-range_with_len (lifted_block ring w) 0 (length (representatives w.group))

  pub lifted_at : (c : ℕ) → c < length (representatives w.group) → block_at (lifted_blocks ring w) c ≡ lifted_block ring w c
  unfolding lifted_blocks
  lifted_at c below = get_or-map-range_with_len (lifted_block ring w) 0 _ c c (block 0 []) below (omega arith)

  -- the lifted rows over the twist of a class are the rows of the class
  pub lifted_rows_at : (c : ℕ) (twist : TwistedSubgroup) (rows : List (List (List ℤ))) → c < length (representatives w.group) → twist ≡ class_twist w c → rows ≡ twist_rows ring twist
      → record { over = twist; rows = rows } ≡ class_rows w (lifted_blocks ring w) c
  lifted_rows_at c twist rows below is are =
      ap₂ rows_over is (are ∙ ap (twist_rows ring) is ∙ ap (λ (b : Block). b.rows) (sym (lifted_at c below)))
    where
      rows_over : TwistedSubgroup → List (List (List ℤ)) → RowsOver
      rows_over s found = record { over = s; rows = found }

  places : (a : ℕ) → size (twist_of w a) ≡ length (centraliser_of w.group a)
  unfolding twist_of
  places a = refl

  -- one block for each class, with a value for each element of its centraliser in each row
  pub lifted_matched : IsMatched w.group (lifted_blocks ring w)
  lifted_matched = record {
    count = lifted_count;
    representative = λ b below. ap (λ (found : Block). found.representative) (lifted_at b (subst (λ n. b < n) lifted_count below));
    width = λ b r below row.
        let here : block_at (lifted_blocks ring w) b ≡ lifted_block ring w b = lifted_at b (subst (λ n. b < n) lifted_count below) in
        ap (λ (found : Block). length (row_at found.rows r)) here
        ∙ lifted_width ring (class_twist w b) r (subst (λ (found : Block). r < length found.rows) here row)
        ∙ places (representative_at w.group b);
  }

  -- the field serves the twist of each class
  pub class_serves : ServesCocycle ring w → (c : ℕ) → c < length (representatives w.group) → Serves ring (class_twist w c)
  class_serves serves c below =
      serves_classes ring w serves.cocycle serves.over serves.multiple (representative_at w.group c) (representative_at_is w.group serves.cocycle.cochain.group c below).below
