-- Lists of stored blocks.
use Rattle.qd_doc.proofs.Names.{AreBlocks, AreInOrder, Block, Err, Head, List, Ok, OnErr, OnOk, Result, [], add-one, ap, append-nil, arith, block, block_at, drop, first_start, get_or, get_or-drop, get_or-take, head_at, item_stretch, last_rows, length, length-take-le, refl, row_at, rows_end, rows_of, slice_index, stored_blocks, stretches, subst, sym, take, take_all, take_more, with_row, with_value, ℕ, ℤ, ◌++◌, ◌+◌, ◌-◌, ◌<◌, ◌^◌, ◌∙◌, ◌∷◌, ◌≡◌, ◌≤◌}
use Rattle.std.proofs.lemmas.List.{length-append, length-drop}
use Rattle.qd_doc.proofs.LastRows.{last_rows_are, with_row_is, with_value_is}
use Rattle.qd_doc.proofs.StretchLaws.{length-stretches, stretch_at, stretch_inside, head_pushed, last_stretch, order_of_push, order_pushed, order_later}

-- the rows of a block lie within all rows
pub block_inside : (heads : List Head) (b all : ℕ) → AreInOrder (λ (head : Head). head.start) heads all → b < length heads → ((head_at heads b).start ≤ rows_end heads b all) × (rows_end heads b all ≤ all)
block_inside heads b all order inside = rw (add-one b) (stretch_inside (λ (head : Head). head.start) heads all b (record { representative = 0; start = 0 }) order inside)

-- the last of some items, and those before it
pub front_and_last : {A : Type 0} (items : List A) (d : A) → 0 < length items → take (length items - 1) items ++ get_or items (length items - 1) d ∷ [] ≡ items
front_and_last items d some =
    let one : length items - 1 + 1 ≡ length items = omega arith in
    sym (take_more items (length items - 1) d (omega arith)) ∙ ap (λ n. take n items) one ∙ take_all (length items) items (omega arith)

abbrev at_head : Head → ℕ
at_head head = head.start

abbrev in_block : Head → List (List (List ℤ)) → Block
in_block head rows = block head.representative rows

abbrev at_start : ℕ → ℕ
at_start start = start

abbrev in_row : ℕ → List (List ℤ) → List (List ℤ)
in_row start row = row

module _ (heads : List Head) (starts : List ℕ) (values : List (List ℤ)) (blocks : AreBlocks heads starts values) where
  rows_count : length (rows_of starts values) ≡ length starts
  rows_count = length-stretches at_start in_row starts values

  order_of_rows : AreInOrder at_head heads (length (rows_of starts values))
  order_of_rows = subst (AreInOrder at_head heads) (sym rows_count) blocks.blocks

  pub blocks_count : length (stored_blocks heads starts values) ≡ length heads
  blocks_count = length-stretches at_head in_block heads (rows_of starts values)

  pub block_pushed : (representative : ℕ) → stored_blocks (heads ++ (record { representative = representative; start = length starts }) ∷ []) starts values ≡ stored_blocks heads starts values ++ block representative [] ∷ []
  block_pushed representative =
      head_pushed at_head in_block heads (record { representative = representative; start = length starts }) (rows_of starts values) order_of_rows (sym rows_count)

  pub block_still : (representative : ℕ) → length heads + 1 < 2 ^ 32 → AreBlocks (heads ++ (record { representative = representative; start = length starts }) ∷ []) starts values
  block_still representative few = record {
    blocks = order_pushed at_head heads (record { representative = representative; start = length starts }) (length starts) blocks.blocks (omega arith);
    rows = blocks.rows;
    few_blocks = omega (arith, length-append heads ((record { representative = representative; start = length starts }) ∷ []));
    few_rows = blocks.few_rows;
  }

  pub row_still : length starts + 1 < 2 ^ 32 → AreBlocks heads (starts ++ length values ∷ []) values
  row_still few = record {
    blocks = order_later at_head heads (length starts) (length (starts ++ length values ∷ [])) (omega (arith, length-append starts (length values ∷ []))) blocks.blocks;
    rows = order_pushed at_start starts (length values) (length values) blocks.rows (omega arith);
    few_blocks = blocks.few_blocks;
    few_rows = omega (arith, length-append starts (length values ∷ []));
  }

module _ (front : List Head) (head : Head) (starts : List ℕ) (values : List (List ℤ)) (blocks : AreBlocks (front ++ head ∷ []) starts values) where
  abbrev all_rows : List (List (List ℤ))
  all_rows = rows_of starts values

  order_of_all : AreInOrder at_head (front ++ head ∷ []) (length all_rows)
  order_of_all = order_of_rows (front ++ head ∷ []) starts values blocks

  -- the blocks with more rows, where the last block is seen apart
  split : (rows more : List (List (List ℤ))) → AreInOrder at_head (front ++ head ∷ []) (length rows)
      → stretches at_head in_block (front ++ head ∷ []) (rows ++ more) ≡ stretches at_head in_block front (take head.start rows) ++ block head.representative (drop head.start rows ++ more) ∷ []
  split rows more order = last_stretch at_head in_block front head rows more order

  split_here : stored_blocks (front ++ head ∷ []) starts values ≡ stretches at_head in_block front (take head.start all_rows) ++ block head.representative (drop head.start all_rows) ∷ []
  split_here =
      ap (stretches at_head in_block (front ++ head ∷ [])) (sym (append-nil all_rows))
      ∙ split all_rows [] order_of_all
      ∙ ap (λ rows. stretches at_head in_block front (take head.start all_rows) ++ block head.representative rows ∷ []) (append-nil (drop head.start all_rows))

  last_row_pushed : stored_blocks (front ++ head ∷ []) (starts ++ length values ∷ []) values ≡ with_row (stored_blocks (front ++ head ∷ []) starts values)
  last_row_pushed =
      let others : List Block = stretches at_head in_block front (take head.start all_rows) in
      let rows : List (List (List ℤ)) = drop head.start all_rows in
      ap (stretches at_head in_block (front ++ head ∷ [])) (head_pushed at_start in_row starts (length values) values blocks.rows refl)
      ∙ split all_rows ([] ∷ []) order_of_all
      ∙ sym (with_row_is others head.representative rows)
      ∙ ap with_row (sym split_here)

  rows_here : last_rows (stored_blocks (front ++ head ∷ []) starts values) ≡ drop head.start all_rows
  rows_here = ap last_rows split_here ∙ last_rows_are (stretches at_head in_block front (take head.start all_rows)) (block head.representative (drop head.start all_rows))

module _ (front : List Head) (head : Head) (before : List ℕ) (start : ℕ) (values : List (List ℤ)) (blocks : AreBlocks (front ++ head ∷ []) (before ++ start ∷ []) values) where
  -- a value at the end of the last row of the last block
  last_value_pushed : (v : List ℤ) → 0 < length (last_rows (stored_blocks (front ++ head ∷ []) (before ++ start ∷ []) values))
      → stored_blocks (front ++ head ∷ []) (before ++ start ∷ []) (values ++ v ∷ []) ≡ with_value (stored_blocks (front ++ head ∷ []) (before ++ start ∷ []) values) v
  last_value_pushed v some =
      let rows : List (List (List ℤ)) = stretches at_start in_row before (take start values) in
      let row : List (List ℤ) = drop start values in
      let grown : (more : List (List ℤ)) → rows_of (before ++ start ∷ []) (values ++ more) ≡ rows ++ (row ++ more) ∷ [] = λ more. last_stretch at_start in_row before start values more blocks.rows in
      let now : rows_of (before ++ start ∷ []) values ≡ rows ++ row ∷ [] =
      ap (rows_of (before ++ start ∷ [])) (sym (append-nil values)) ∙ grown [] ∙ ap (λ r. rows ++ r ∷ []) (append-nil row) in
      let count : length (rows_of (before ++ start ∷ []) values) ≡ length rows + 1 = ap length now ∙ length-append rows (row ∷ []) in
      let inside : head.start ≤ length rows =
      omega (arith, ap length (rows_here front head (before ++ start ∷ []) values blocks), length-drop head.start (rows_of (before ++ start ∷ []) values), count, some) in
      let order : AreInOrder at_head (front ++ head ∷ []) (length rows) =
      order_pushed at_head front head (length rows) (order_of_push at_head front head (length (rows_of (before ++ start ∷ []) values)) (order_of_all front head (before ++ start ∷ []) values blocks)).0 inside in
      let others : List Block = stretches at_head in_block front (take head.start rows) in
      let mine : List (List (List ℤ)) = drop head.start rows in
      let split_row : (last : List (List ℤ)) → stretches at_head in_block (front ++ head ∷ []) (rows ++ last ∷ []) ≡ others ++ block head.representative (mine ++ last ∷ []) ∷ [] = λ last. last_stretch at_head in_block front head rows (last ∷ []) order in
      let stored : stored_blocks (front ++ head ∷ []) (before ++ start ∷ []) values ≡ others ++ block head.representative (mine ++ row ∷ []) ∷ [] =
      ap (stretches at_head in_block (front ++ head ∷ [])) now ∙ split_row row in
      ap (stretches at_head in_block (front ++ head ∷ [])) (grown (v ∷ []))
      ∙ split_row (row ++ v ∷ [])
      ∙ sym (with_value_is others head.representative mine row v)
      ∙ ap (λ b. with_value b v) (sym stored)

module _ (heads : List Head) (starts : List ℕ) (values : List (List ℤ)) (blocks : AreBlocks heads starts values) where
  abbrev none : Head
  none = record { representative = 0; start = 0 }

  -- a row at the end of the last block
  pub row_pushed : 0 < length (stored_blocks heads starts values) → stored_blocks heads (starts ++ length values ∷ []) values ≡ with_row (stored_blocks heads starts values)
  row_pushed some =
      let heads_some : 0 < length heads = omega (arith, blocks_count heads starts values blocks) in
      subst (λ hs. AreBlocks hs starts values → stored_blocks hs (starts ++ length values ∷ []) values ≡ with_row (stored_blocks hs starts values))
      (front_and_last heads none heads_some)
      (λ (b : AreBlocks (take (length heads - 1) heads ++ get_or heads (length heads - 1) none ∷ []) starts values). last_row_pushed (take (length heads - 1) heads) (get_or heads (length heads - 1) none) starts values b)
      blocks

  -- a value at the end of the last row of the last block
  pub value_pushed : 0 < length (stored_blocks heads starts values) → 0 < length (last_rows (stored_blocks heads starts values)) → (v : List ℤ)
      → stored_blocks heads starts (values ++ v ∷ []) ≡ with_value (stored_blocks heads starts values) v
  value_pushed some row v =
      let heads_some : 0 < length heads = omega (arith, blocks_count heads starts values blocks) in
      let front : List Head = take (length heads - 1) heads in
      let head : Head = get_or heads (length heads - 1) none in
      let whole : front ++ head ∷ [] ≡ heads = front_and_last heads none heads_some in
      let b : AreBlocks (front ++ head ∷ []) starts values = subst (λ hs. AreBlocks hs starts values) (sym whole) blocks in
      let here : last_rows (stored_blocks heads starts values) ≡ drop head.start (rows_of starts values) = ap (λ hs. last_rows (stored_blocks hs starts values)) (sym whole) ∙ rows_here front head starts values b in
      let starts_some : 0 < length starts = omega (arith, rows_count heads starts values blocks, length-drop head.start (rows_of starts values), ap length here, row) in
      let before : List ℕ = take (length starts - 1) starts in
      let start : ℕ = get_or starts (length starts - 1) 0 in
      let all : before ++ start ∷ [] ≡ starts = front_and_last starts 0 starts_some in
      subst (λ hs. stored_blocks hs starts (values ++ v ∷ []) ≡ with_value (stored_blocks hs starts values) v) whole
      (subst (λ ss. stored_blocks (front ++ head ∷ []) ss (values ++ v ∷ []) ≡ with_value (stored_blocks (front ++ head ∷ []) ss values) v) all
      (last_value_pushed front head before start values (subst (λ ss. AreBlocks (front ++ head ∷ []) ss values) (sym all) b) v
      (subst (λ ss. 0 < length (last_rows (stored_blocks (front ++ head ∷ []) ss values))) (sym all) (subst (λ hs. 0 < length (last_rows (stored_blocks hs starts values))) (sym whole) row))))

  pub value_still : (v : List ℤ) → AreBlocks heads starts (values ++ v ∷ [])
  value_still v = record {
    blocks = blocks.blocks;
    rows = order_later at_start starts (length values) (length (values ++ v ∷ [])) (omega (arith, length-append values (v ∷ []))) blocks.rows;
    few_blocks = blocks.few_blocks;
    few_rows = blocks.few_rows;
  }

  module _ (b : ℕ) (inside : b < length heads) where
    rows_here_are : block_at (stored_blocks heads starts values) b
        ≡ block (head_at heads b).representative (take (rows_end heads b (length starts) - (head_at heads b).start) (drop (head_at heads b).start (rows_of starts values)))
    rows_here_are =
        rw (add-one b, ← rows_count heads starts values blocks) (stretch_at at_head in_block heads (rows_of starts values) b none (block 0 []) inside)

    pub number_is : (block_at (stored_blocks heads starts values) b).representative ≡ (head_at heads b).representative
    number_is = ap (λ (b : Block). b.representative) rows_here_are

    bounds : ((head_at heads b).start ≤ rows_end heads b (length starts)) × (rows_end heads b (length starts) ≤ length starts)
    bounds = block_inside heads b (length starts) blocks.blocks inside

    pub rows_are : length (block_at (stored_blocks heads starts values) b).rows + (head_at heads b).start ≡ rows_end heads b (length starts)
    rows_are =
        let some : rows_end heads b (length starts) - (head_at heads b).start ≤ length (drop (head_at heads b).start (rows_of starts values)) =
        omega (arith, bounds.0, bounds.1, length-drop (head_at heads b).start (rows_of starts values), rows_count heads starts values blocks) in
        omega (arith, bounds.0, ap (λ (b : Block). length b.rows) rows_here_are, length-take-le (rows_end heads b (length starts) - (head_at heads b).start) (drop (head_at heads b).start (rows_of starts values)) some)

    -- a row of the block, among all rows
    pub row_is : (r : ℕ) → (head_at heads b).start + r < rows_end heads b (length starts)
        → row_at (block_at (stored_blocks heads starts values) b).rows r ≡ item_stretch starts values ((head_at heads b).start + r)
    row_is r listed =
        let within : (head_at heads b).start + r < length starts = omega (arith, bounds.1, listed) in
        ap (λ (b : Block). row_at b.rows r) rows_here_are
        ∙ get_or-take (rows_end heads b (length starts) - (head_at heads b).start) (drop (head_at heads b).start (rows_of starts values)) r [] (omega (arith, listed))
        ∙ get_or-drop (head_at heads b).start (rows_of starts values) r []
        ∙ rw (add-one ((head_at heads b).start + r)) (stretch_at at_start in_row starts values ((head_at heads b).start + r) 0 [] within)

  -- the length of a row, and its values, among all values
  pub row_width : (row : ℕ) → row < length starts → length (item_stretch starts values row) + slice_index starts row ≡ first_start at_start (drop (row + 1) starts) (length values)
  row_width row inside =
      let within : (slice_index starts row ≤ first_start at_start (drop (row + 1) starts) (length values)) × (first_start at_start (drop (row + 1) starts) (length values) ≤ length values) =
      rw (add-one row) (stretch_inside at_start starts (length values) row 0 blocks.rows inside) in
      let some : first_start at_start (drop (row + 1) starts) (length values) - slice_index starts row ≤ length (drop (slice_index starts row) values) =
      omega (arith, within.0, within.1, length-drop (slice_index starts row) values) in
      omega (arith, within.0, length-take-le (first_start at_start (drop (row + 1) starts) (length values) - slice_index starts row) (drop (slice_index starts row) values) some)

  pub value_is : (row place : ℕ) → row < length starts → place < length (item_stretch starts values row) → get_or (item_stretch starts values row) place [] ≡ get_or values (slice_index starts row + place) []
  value_is row place inside listed =
      get_or-take (first_start at_start (drop (row + 1) starts) (length values) - slice_index starts row) (drop (slice_index starts row) values) place []
      (omega (arith, row_width row inside, listed))
      ∙ get_or-drop (slice_index starts row) values place []

-- what a caller knows of blocks that are seen
pub record IsSeen (heads : List Head) (starts : List ℕ) (values : List (List ℤ)) (now : List Block) (b : ℕ) : Type 0 where
  pub blocks : AreBlocks heads starts values
  pub is : stored_blocks heads starts values ≡ now
  pub inside : b < length now

pub seen_by : {heads : List Head} {starts : List ℕ} {values : List (List ℤ)} {now : List Block} {b : ℕ}
    → AreBlocks heads starts values → stored_blocks heads starts values ≡ now → b < length now → IsSeen heads starts values now b
seen_by blocks is inside = record { blocks = blocks; is = is; inside = inside }

module _ {heads : List Head} {starts : List ℕ} {values : List (List ℤ)} {now : List Block} {b : ℕ} (seen : IsSeen heads starts values now b) where
  pub listed : b < length heads
  listed = omega (arith, blocks_count heads starts values seen.blocks, ap length seen.is, seen.inside)

  pub number_seen : (head_at heads b).representative ≡ (block_at now b).representative
  number_seen = sym (number_is heads starts values seen.blocks b listed) ∙ ap (λ bs. (block_at bs b).representative) seen.is

  pub rows_seen : length (block_at now b).rows + (head_at heads b).start ≡ rows_end heads b (length starts)
  rows_seen =
      ap (λ bs. length (block_at bs b).rows + (head_at heads b).start) (sym seen.is)
      ∙ rows_are heads starts values seen.blocks b listed

  rows_inside : rows_end heads b (length starts) ≤ length starts
  rows_inside = (block_inside heads b (length starts) seen.blocks.blocks listed).1

  pub rows_few : length (block_at now b).rows < 2 ^ 32
  rows_few = omega (arith, rows_seen, rows_inside, seen.blocks.few_rows)

  module _ (r : ℕ) (row : r < length (block_at now b).rows) where
    pub row_listed : (head_at heads b).start + r < rows_end heads b (length starts)
    row_listed = omega (arith, rows_seen, row)

    place_listed : (head_at heads b).start + r < length starts
    place_listed = omega (arith, row_listed, rows_inside)

    row_seen : row_at (block_at now b).rows r ≡ item_stretch starts values ((head_at heads b).start + r)
    row_seen =
        ap (λ bs. row_at (block_at bs b).rows r) (sym seen.is) ∙ row_is heads starts values seen.blocks b listed r row_listed

    module _ (place : ℕ) (at : place ≡ (head_at heads b).start + r) where
      pub width_seen : length (row_at (block_at now b).rows r) + slice_index starts place
          ≡ first_start (λ start. start) (drop (place + 1) starts) (length values)
      width_seen =
          rw at (ap (λ row. length row + slice_index starts ((head_at heads b).start + r)) row_seen
          ∙ row_width heads starts values seen.blocks ((head_at heads b).start + r) place_listed)

      pub value_inside : (p : ℕ) → p < length (row_at (block_at now b).rows r) → slice_index starts place + p < length values
      value_inside p within =
          let end : (slice_index starts place ≤ first_start at_start (drop (place + 1) starts) (length values))
          × (first_start at_start (drop (place + 1) starts) (length values) ≤ length values) =
          rw (add-one place) (stretch_inside at_start starts (length values) place 0 seen.blocks.rows (omega (arith, place_listed))) in
          omega (arith, width_seen, end.1, within)

      pub value_seen : (p : ℕ) → p < length (row_at (block_at now b).rows r)
          → get_or values (slice_index starts place + p) [] ≡ get_or (row_at (block_at now b).rows r) p []
      value_seen p within =
          let here : p < length (item_stretch starts values ((head_at heads b).start + r)) = rw row_seen at within in
          rw at (sym (ap (λ row. get_or row p []) row_seen
          ∙ value_is heads starts values seen.blocks ((head_at heads b).start + r) p place_listed here))

-- what holds after a step, whatever it answered
pub after : {T E P Q : Type 0} (r : Result T E) (R : Type 0) → (P → R) → (Q → R) → OnOk r P → OnErr r Q → R
after (Ok x) R ok err p q = ok p
after (Err e) R ok err p q = err q
