-- Numbers by which the basis multiplies elements, one after another and as lists of one width.
use Rattle.dixon_split.proofs.Names.{◌≡◌, ℕ, zero, suc, ◌+◌, ◌*◌, ◌/◌, ◌%◌, ◌<◌, ◌≤◌, All, List, [], ◌∷◌, ◌++◌, map, length, length-append, get_or, refl, sym, ◌∙◌, ap, subst, arith, inl, inr, ◌⊎◌, concat, suc-mul, cases_lt, get_or_append_left, get_or-append-add, get_or-map, length-map, CommRing, ModRing, row_of, column_at, TwistedSubgroup, Each, number, Acts, IsPiece, IsSplitting, pieces, pieces_split, AreCentralCharacters, Zipped, eq_of_mul-eq-mul_left, get_or_push, All-head, All-tail, Element, residues, HasStructure, AreValues, Structure}
use Rattle.dixon_split.proofs.Lists.{rows_below}
use Rattle.dixon_split.proofs.Characters.{AreNumbersAt, GivesCharacters}

-- where the k-th element of the basis multiplies f by a number, it does so by u
abbrev pub ActsBy : (a : Structure) (Z : CommRing (Element a.q a.rank)) → HasStructure a Z → ℕ → ℕ → List ℕ → Type 0
ActsBy a Z H k u f = Acts Z a.q (H.basis k) (residues a f) → Z.mul (H.basis k) (residues a f) ≡ Z.mul (number Z u) (residues a f)

-- one more number
module _ (a : Structure) (es : List (List ℕ)) where
  pub values_more : (n v : ℕ) (values more e : List ℕ) → AreValues a es n values → more ≡ values ++ v ∷ [] → v < a.q → e ≡ get_or es (n / a.rank) []
      → ((Z : CommRing (Element a.q a.rank)) (H : HasStructure a Z) → Acts Z a.q (H.basis (n % a.rank)) (residues a e) → Z.mul (H.basis (n % a.rank)) (residues a e) ≡ Z.mul (number Z v) (residues a e))
      → AreValues a es (n + 1) more
  values_more n v values more e V is below here acts = record {
    count = ap length is ∙ length-append values (v ∷ []) ∙ ap (λ m. m + 1) V.count;
    below = λ m h. by_below m (subst (λ xs. m < length xs) is h) (cases_lt m n);
    acts = λ Z H m h. by_acts Z H m h (cases_lt m n);
  }
    where
      before : (m : ℕ) → m < n → get_or more m 0 ≡ get_or values m 0
      before m h = ap (λ xs. get_or xs m 0) is ∙ get_or_append_left values (v ∷ []) 0 m (let c = V.count in omega arith)

      last : (m : ℕ) → m ≡ n → get_or more m 0 ≡ v
      last m h = ap (λ xs. get_or xs m 0) is ∙ get_or_push values v 0 m (V.count ∙ sym h)

      by_below : (m : ℕ) → m < length (values ++ v ∷ []) → (m < n) ⊎ (n ≤ m) → get_or more m 0 < a.q
      by_below m h (inl l) = subst (λ u. u < a.q) (sym (before m l)) (V.below m (let c = V.count in omega arith))
      by_below m h (inr l) = subst (λ u. u < a.q) (sym (last m (let c = V.count in let d = length-append values (v ∷ []) in omega arith))) below

      by_acts : (Z : CommRing (Element a.q a.rank)) (H : HasStructure a Z) (m : ℕ) → m < n + 1 → (m < n) ⊎ (n ≤ m) → ActsBy a Z H (m % a.rank) (get_or more m 0) (get_or es (m / a.rank) [])
      by_acts Z H m h (inl l) = subst (λ u. ActsBy a Z H (m % a.rank) u (get_or es (m / a.rank) [])) (sym (before m l)) (V.acts Z H m l)
      by_acts Z H m h (inr l) =
          let same : m ≡ n = omega arith in
          subst (λ u. ActsBy a Z H (m % a.rank) u (get_or es (m / a.rank) [])) (sym (last m same))
          (subst (λ k. ActsBy a Z H (k % a.rank) v (get_or es (k / a.rank) [])) (sym same) (subst (λ f. ActsBy a Z H (n % a.rank) v f) here (acts Z H)))

-- ---- lists of one width

pub length_concat : (w : ℕ) (lists : List (List ℕ)) → All (λ list. length list ≡ w) lists → length (concat lists) ≡ length lists * w
length_concat w [] h = omega arith
length_concat w (xs ∷ lists) h =
    length-append xs (concat lists) ∙ (let a : length xs ≡ w = All-head (λ list. length list ≡ w) xs lists h in let b = length_concat w lists (All-tail (λ list. length list ≡ w) xs lists h) in
    let c : suc (length lists) * w ≡ length lists * w + w = suc-mul (length lists) w in omega arith)

pub at_concat : (w : ℕ) (lists : List (List ℕ)) → All (λ list. length list ≡ w) lists → (i c : ℕ) → i < length lists → c < w → get_or (concat lists) (i * w + c) 0 ≡ get_or (get_or lists i []) c 0
at_concat w [] all i c h k = absurd (omega arith)
at_concat w (xs ∷ lists) all zero c h k =
    ap (λ m. get_or (xs ++ concat lists) m 0) (omega arith) ∙ get_or_append_left xs (concat lists) 0 c (let a : length xs ≡ w = All-head (λ list. length list ≡ w) xs lists all in omega arith)
at_concat w (xs ∷ lists) all (suc i) c h k =
    let a : length xs ≡ w = All-head (λ list. length list ≡ w) xs lists all in
    ap (λ m. get_or (xs ++ concat lists) m 0) (let e : suc i * w ≡ i * w + w = suc-mul i w in let f : suc i * w + c ≡ length xs + (i * w + c) = omega arith in f)
    ∙ get_or-append-add xs (concat lists) (i * w + c) 0
    ∙ at_concat w lists (All-tail (λ list. length list ≡ w) xs lists all) i c (omega arith) k

one_factor : (r m n : ℕ) → 0 < r → m * r ≡ n * r → m ≡ n
one_factor r m n positive e = eq_of_mul-eq-mul_left r positive m n (omega arith)

-- ---- places of two lists

zipped_at : {X Y : Type 0} (P : X → Y → Type 0) (x : X) (y : Y) (xs : List X) (ys : List Y) → length xs ≡ length ys → ((i : ℕ) → i < length xs → P (get_or xs i x) (get_or ys i y)) → Zipped P xs ys
zipped_at P x y [] [] e h = tt
zipped_at P x y [] (v ∷ ys) e h = absurd (omega arith)
zipped_at P x y (u ∷ xs) [] e h = absurd (omega arith)
zipped_at P x y (u ∷ xs) (v ∷ ys) e h = (h 0 (omega arith), zipped_at P x y xs ys (omega arith) (λ i k. h (suc i) (omega arith)))

each_at : {X : Type 0} (P : X → Type 0) (x : X) (xs : List X) → Each P xs → (i : ℕ) → i < length xs → P (get_or xs i x)
each_at P x [] h i k = absurd (omega arith)
each_at P x (u ∷ xs) h zero k = h.0
each_at P x (u ∷ xs) h (suc i) k = each_at P x xs h.1 i (omega arith)

pub map_twice : {X Y W : Type 0} (f : X → Y) (g : Y → W) (xs : List X) → map g (map f xs) ≡ map (λ x. g (f x)) xs
map_twice f g [] = refl
map_twice f g (x ∷ xs) = ap (λ ys. g (f x) ∷ ys) (map_twice f g xs)

-- ---- the characters

module _ (ring : ModRing) (s : TwistedSubgroup) (a : Structure) (G : GivesCharacters ring s a) (es : List (List ℕ)) (are : map (residues a) es ≡ pieces G.algebra G.test a.q G.structure.basis a.rank) where
  splitting : IsSplitting G.algebra a.q G.structure.basis a.rank (map (residues a) es)
  splitting = subst (IsSplitting G.algebra a.q G.structure.basis a.rank) (sym are) (pieces_split G.algebra G.test a.q G.fixed G.structure.basis a.rank)

  -- there are as many pieces as the rank
  pub pieces_count : length es ≡ a.rank
  pieces_count = sym (length-map es (residues a)) ∙ G.counts (map (residues a) es) splitting

  module _ (values : List ℕ) (V : AreValues a es (a.rank * a.rank) values) (lists : List (List ℕ)) (joined : concat lists ≡ values) (widths : All (λ list. length list ≡ a.rank) lists) where
    lists_count : length lists ≡ a.rank
    lists_count = one_factor a.rank (length lists) a.rank G.some (sym (length_concat a.rank lists widths) ∙ ap length joined ∙ V.count)

    value_at : (i t : ℕ) → i < a.rank → t < a.rank → get_or values (i * a.rank + t) 0 ≡ get_or (get_or lists i []) t 0
    value_at i t h k = ap (λ xs. get_or xs (i * a.rank + t) 0) (sym joined) ∙ at_concat a.rank lists widths i t (let c = lists_count in omega arith) k

    numbers_at : (i : ℕ) → i < a.rank → IsPiece G.algebra a.q G.structure.basis a.rank (residues a (get_or es i [])) → AreNumbersAt a G.algebra G.structure (residues a (get_or es i [])) (get_or lists i [])
    numbers_at i h piece = record {
      count = widths i [] (let c = lists_count in omega arith);
      below = λ k below. let small : k < a.rank = (let w : length (get_or lists i []) ≡ a.rank = widths i [] (let c = lists_count in omega arith) in omega arith) in
          subst (λ u. u < a.q) (value_at i k h small) (V.below (i * a.rank + k) (let c = V.count in let row = rows_below i a.rank a.rank h in omega arith));
      acts = λ t below.
          (let at = V.acts G.algebra G.structure (i * a.rank + t) (let row = rows_below i a.rank a.rank h in omega arith) in
          let of_row = subst (λ v. ActsBy a G.algebra G.structure ((i * a.rank + t) % a.rank) (get_or values (i * a.rank + t) 0) (get_or es v [])) (row_of a.rank i t below) at in
          let of_column = subst (λ u. ActsBy a G.algebra G.structure u (get_or values (i * a.rank + t) 0) (get_or es i [])) (column_at a.rank i t below) of_row in
          subst (λ u. ActsBy a G.algebra G.structure t u (get_or es i [])) (value_at i t h below) of_column (piece.served t below));
    }

    pub values_characters : AreCentralCharacters ring s lists
    values_characters =
        G.characters (map (residues a) es) lists splitting
        (zipped_at (AreNumbersAt a G.algebra G.structure) (residues a []) [] (map (residues a) es) lists (length-map es (residues a) ∙ pieces_count ∙ sym lists_count)
        (λ i below. let inside : i < length es = (let l = length-map es (residues a) in omega arith) in
        let same = get_or-map (residues a) es i [] (residues a []) inside in
        subst (λ e. AreNumbersAt a G.algebra G.structure e (get_or lists i [])) (sym same)
        (numbers_at i (let c = pieces_count in omega arith)
        (subst (IsPiece G.algebra a.q G.structure.basis a.rank) same (each_at (IsPiece G.algebra a.q G.structure.basis a.rank) (residues a []) (map (residues a) es) splitting.each i below)))))
