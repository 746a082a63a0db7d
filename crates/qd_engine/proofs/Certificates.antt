-- The rows and blocks of a certificate, put together piece after piece.
use Rattle.qd_engine.proofs.Names.{◌≡◌, ℕ, ◌+◌, ◌<◌, List, [], ◌∷◌, Result, Ok, Err, ◌++◌, length, map, take, get_or, All, refl, ap, sym, subst, ◌∙◌, length-append, arith, ℤ, OnOk, ◌==◌, passing_below-all, simples_in, range_with_len, take_more, map-range_with_len_more, array_of, SimplesOver, count, class_at, value_at, Block, block, block_at, last_rows, with_last_rows, with_value, representatives, ◌-◌, set, get_or_push, map-append, length-set, get_or-set_same, set-set, set-get_or, All-push, rows_with_value, certified_block, certified_blocks}
use Rattle.std.proofs.Math.Seq.{set-append_seam}
use Rattle.qd_ring.proofs.LastRows.{with_value_last}

-- the values of the simple i at the places below p
abbrev pub front_of_row : (k : ℕ) → SimplesOver → ℕ → ℕ → List (List ℤ)
front_of_row k s i p = map (λ place. array_of (value_at k s i place)) (range_with_len 0 p)

-- one value more of a row
pub front_more : (k : ℕ) (s : SimplesOver) (i p : ℕ) (v : List ℤ) → v ≡ array_of (value_at k s i p) → front_of_row k s i p ++ v ∷ [] ≡ front_of_row k s i (p + 1)
front_more k s i p v is =
    ap (λ x. front_of_row k s i p ++ x ∷ []) is ∙ sym (map-range_with_len_more (λ place. array_of (value_at k s i place)) 0 p p (omega arith))

-- a fact of one more member of a list
pub all_more : {A : Type 0} (P : A → Type 0) (front now : List A) (x : A) → front ++ x ∷ [] ≡ now → All P front → P x → All P now
all_more P front now x is all holds = subst (All P) is (All-push P front x all holds)

module _ (blocks : List Block) (begun : 0 < length blocks) where
  last_block : (b : Block) → block_at (set blocks (length blocks - 1) b) (length (set blocks (length blocks - 1) b) - 1) ≡ b
  last_block b =
      ap (λ n. block_at (set blocks (length blocks - 1) b) (n - 1)) (length-set blocks (length blocks - 1) b)
      ∙ get_or-set_same blocks (length blocks - 1) b (block 0 []) (omega arith)

  pub last_of_with : (rows : List (List (List ℤ))) → last_rows (with_last_rows blocks rows) ≡ rows
  last_of_with rows = ap (λ (b : Block). b.rows) (last_block _)

  pub with_last_again : (rows other : List (List (List ℤ))) → with_last_rows (with_last_rows blocks rows) other ≡ with_last_rows blocks other
  with_last_again rows other =
      let number = (block_at blocks (length blocks - 1)).representative in
      let now = with_last_rows blocks rows in
      ap (λ (b : Block). set now (length now - 1) (block b.representative other)) (last_block (block number rows))
      ∙ ap (λ n. set now (n - 1) (block number other)) (length-set blocks (length blocks - 1) (block number rows))
      ∙ set-set blocks (length blocks - 1) (block number rows) (block number other)

  pub value_put : (rows : List (List (List ℤ))) (row : List (List ℤ)) (v : List ℤ) → with_value (with_last_rows blocks (rows ++ row ∷ [])) v ≡ with_last_rows blocks (rows ++ (row ++ v ∷ []) ∷ [])
  value_put rows row v =
      let now = with_last_rows blocks (rows ++ row ∷ []) in
      ap (λ r. with_last_rows now (rows_with_value r v)) (last_of_with (rows ++ row ∷ []))
      ∙ ap (with_last_rows now) (with_value_last rows row v)
      ∙ with_last_again (rows ++ row ∷ []) (rows ++ (row ++ v ∷ []) ∷ [])

  pub rows_kept : (rows : List (List (List ℤ))) → last_rows blocks ≡ rows → with_last_rows blocks rows ≡ blocks
  rows_kept rows is = ap (with_last_rows blocks) (sym is) ∙ set-get_or blocks (length blocks - 1) (block 0 [])

module _ (front : List Block) (number : ℕ) (rows : List (List (List ℤ))) where
  abbrev blocks : List Block
  blocks = front ++ block number rows ∷ []

  last_place : length blocks - 1 ≡ length front
  last_place = omega (arith, length-append front (block number rows ∷ []))

  last_at : block_at blocks (length blocks - 1) ≡ block number rows
  last_at = ap (block_at blocks) last_place ∙ get_or_push front (block number rows) (block 0 []) (length front) refl

  pub last_of_front : last_rows blocks ≡ rows
  last_of_front = ap (λ (b : Block). b.rows) last_at

  pub with_last_front : (other : List (List (List ℤ))) → with_last_rows blocks other ≡ front ++ block number other ∷ []
  with_last_front other =
      ap (λ (b : Block). set blocks (length blocks - 1) (block b.representative other)) last_at
      ∙ ap (λ n. set blocks n (block number other)) last_place
      ∙ set-append_seam front (block number rows) [] (block number other)

-- one row more, of the next of some simples
pub member_more : {A B : Type 0} (f : A → B) (xs : List A) (i : ℕ) (d : A) → i < length xs → map f (take i xs) ++ f (get_or xs i d) ∷ [] ≡ map f (take (i + 1) xs)
member_more f xs i d below = sym (ap (map f) (take_more xs i d below) ∙ map-append f (take i xs) (get_or xs i d ∷ []))

pub with_last_same : (blocks : List Block) (rows : List (List (List ℤ))) → length (with_last_rows blocks rows) ≡ length blocks
with_last_same blocks rows = length-set blocks (length blocks - 1) _

-- the blocks of all classes
pub all_classes : (k : ℕ) (s : SimplesOver) (c : ℕ) → c ≡ length (representatives s.cocycle.group) → map (certified_block k s) (range_with_len 0 c) ≡ certified_blocks k s
unfolding certified_blocks
all_classes k s c is = ap (λ n. map (certified_block k s) (range_with_len 0 n)) is

-- the members of a class are simples
pub members_below : (k : ℕ) (s : SimplesOver) (c : ℕ) → All (λ i. i < count k s) (simples_in k s c)
members_below k s c = λ place d below. (passing_below-all (count k s) (λ i. class_at k s i == c) place d below).below

-- what follows from what holds on an answer
pub on_ok : {T E P Q : Type 0} (r : Result T E) → (P → Q) → OnOk r P → OnOk r Q
on_ok (Ok x) f p = f p
on_ok (Err e) f p = tt
