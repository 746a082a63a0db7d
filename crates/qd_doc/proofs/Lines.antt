-- Lines of numbers, written one after the other.
use Rattle.qd_doc.proofs.Names.{Block, Document, List, [], ap, append-nil, append_assoc, arith, block_lines, canonical_lines, canonical_text, characters_lines, codes, decimal, drop, flat_map, flat_map-append, flat_map-cons, get_or, length, line, map, map-append, omega_lines, row_words, rows, suc, sym, take, take_all, take_more, text, value_text, ℕ, ℤ, ◌*◌, ◌++◌, ◌+◌, ◌-◌, ◌<◌, ◌∙◌, ◌∷◌, ◌≡◌, ◌≤◌}

-- numbers that follow another in a line
abbrev pub spaced : List ℕ → List ℕ
spaced numbers = flat_map (λ next. 32 ∷ next) (map decimal numbers)

-- one more number
pub spaced-take_more : (numbers : List ℕ) (i : ℕ) → i < length numbers → spaced (take (i + 1) numbers) ≡ spaced (take i numbers) ++ (32 ∷ decimal (get_or numbers i 0))
spaced-take_more numbers i within =
    ap spaced (take_more numbers i 0 within)
    ∙ ap (flat_map (λ next. 32 ∷ next)) (map-append decimal (take i numbers) (get_or numbers i 0 ∷ []))
    ∙ flat_map-append (λ next. 32 ∷ next) (map decimal (take i numbers)) (decimal (get_or numbers i 0) ∷ [])
    ∙ ap (λ last. spaced (take i numbers) ++ last) (append-nil (32 ∷ decimal (get_or numbers i 0)))

-- a text that grew by one more number
pub spaced_more : (old text numbers : List ℕ) (i : ℕ) → i < length numbers → text ≡ old ++ spaced (take i numbers)
    → (text ++ 32 ∷ []) ++ decimal (get_or numbers i 0) ≡ old ++ spaced (take (i + 1) numbers)
spaced_more old text numbers i within so_far =
    rw (spaced-take_more numbers i within, so_far) (simp append_assoc)

pub spaced_all : (old text numbers : List ℕ) (i : ℕ) → length numbers ≤ i → text ≡ old ++ spaced (take i numbers) → text ≡ old ++ spaced numbers
spaced_all old text numbers i all so_far = rw (take_all i numbers all) at so_far

-- one more row
pub rows_more : (text total : List ℕ) (count i width : ℕ) (numbers : List ℕ) → i < count
    → text ++ flat_map line (rows (count - i) width numbers) ≡ total
    → (text ++ line (map decimal (take width numbers))) ++ flat_map line (rows (count - (i + 1)) width (drop width numbers)) ≡ total
unfolding rows
rows_more text total count i width numbers listed so_far =
    let k : count - i ≡ suc (count - (i + 1)) = omega arith in
    let row = map decimal (take width numbers) in
    append_assoc text (line row) (flat_map line (rows (count - (i + 1)) width (drop width numbers)))
    ∙ (rw (k, flat_map-cons line row (rows (count - (i + 1)) width (drop width numbers))) at so_far)

pub rows_all : (text total : List ℕ) (count i width : ℕ) (numbers : List ℕ) → count ≤ i
    → text ++ flat_map line (rows (count - i) width numbers) ≡ total → text ≡ total
unfolding rows
rows_all text total count i width numbers all so_far =
    let k : count - i ≡ 0 = omega arith in
    sym (append-nil text) ∙ (rw k at so_far)

-- how many numbers are left after a row
pub rows_left : (left width count i : ℕ) → i < count → left ≡ (count - i) * width → left - width ≡ (count - (i + 1)) * width
rows_left left width count i listed e =
    let k : count - i ≡ suc (count - (i + 1)) = omega arith in
    let f : left ≡ suc (count - (i + 1)) * width = e ∙ ap (λ n. n * width) k in
    omega arith

pub rows_fit : (left width count i : ℕ) → i < count → left ≡ (count - i) * width → width ≤ left
rows_fit left width count i listed e =
    let k : count - i ≡ suc (count - (i + 1)) = omega arith in
    let f : left ≡ suc (count - (i + 1)) * width = e ∙ ap (λ n. n * width) k in
    omega arith

-- the values of a row, each after a space
abbrev pub values_text : List (List ℤ) → List ℕ
values_text values = flat_map (λ next. 32 ∷ next) (map value_text values)

-- the lines of rows
abbrev pub rows_text : List (List (List ℤ)) → List ℕ
rows_text values = flat_map line (map row_words values)

-- the lines of blocks
abbrev pub blocks_text : List Block → List ℕ
blocks_text blocks = flat_map line (flat_map block_lines blocks)

last_number : (digits rest : List ℕ) → ((digits ++ []) ++ 10 ∷ []) ++ rest ≡ digits ++ 10 ∷ rest
last_number digits rest = ap (λ text. (text ++ 10 ∷ []) ++ rest) (append-nil digits) ∙ append_assoc digits (10 ∷ []) rest

front_text : (n : ℕ) (rest : List (List (List ℕ))) → flat_map line ((codes "qdouble" ∷ codes "1" ∷ []) ∷ (codes "order" ∷ decimal n ∷ []) ∷ (codes "table" ∷ []) ∷ rest)
    ≡ (codes "qdouble 1\norder " ++ (decimal n ++ codes "\ntable\n")) ++ flat_map line rest
front_text n rest =
    ap (λ text. codes "qdouble 1\norder " ++ text)
    (last_number (decimal n) (codes "table\n" ++ flat_map line rest) ∙ sym (append_assoc (decimal n) (codes "\ntable\n") (flat_map line rest)))

roots_text : (roots : ℕ) (rest : List (List (List ℕ))) → flat_map line ((codes "roots" ∷ decimal roots ∷ []) ∷ rest)
    ≡ (codes "roots " ++ (decimal roots ++ codes "\n")) ++ flat_map line rest
roots_text roots rest =
    ap (λ text. codes "roots " ++ text)
    (last_number (decimal roots) (flat_map line rest) ∙ sym (append_assoc (decimal roots) (codes "\n") (flat_map line rest)))

-- the pieces of a canonical text, put one after the other
pub canonical_pieces : (document : Document) (a b c d k e : List ℕ)
    → a ≡ codes "qdouble 1\norder " ++ (decimal document.order ++ codes "\ntable\n")
    → b ≡ a ++ flat_map line (rows document.order document.order document.table)
    → c ≡ b ++ (codes "roots " ++ (decimal document.roots ++ codes "\n"))
    → d ≡ c ++ flat_map line (omega_lines document.order document.roots document.exponents)
    → k ≡ d ++ flat_map line (characters_lines document.characters)
    → e ≡ k ++ codes "end\n"
    → e ≡ canonical_text document
unfolding canonical_lines
canonical_pieces document a b c d k e ea eb ec ed ek ee =
    let n = document.order in
    let table = rows n n document.table in
    let exponents = omega_lines n document.roots document.exponents in
    let front = (codes "qdouble" ∷ codes "1" ∷ []) ∷ (codes "order" ∷ decimal n ∷ []) ∷ (codes "table" ∷ []) ∷ table in
    let middle = (codes "roots" ∷ decimal document.roots ∷ []) ∷ exponents in
    let given = characters_lines document.characters in
    let last = (codes "end" ∷ []) ∷ [] in
    let text : canonical_text document ≡ flat_map line front ++ (flat_map line middle ++ (flat_map line given ++ flat_map line last)) =
    flat_map-append line front (middle ++ (given ++ last))
    ∙ ap (λ more. flat_map line front ++ more) (flat_map-append line middle (given ++ last)
    ∙ ap (λ more. flat_map line middle ++ more) (flat_map-append line given last)) in
    let whole = ap (λ x. x ++ (flat_map line middle ++ (flat_map line given ++ flat_map line last))) (front_text n table)
    ∙ ap (λ y. ((codes "qdouble 1\norder " ++ (decimal n ++ codes "\ntable\n")) ++ flat_map line table) ++ (y ++ (flat_map line given ++ flat_map line last)))
    (roots_text document.roots exponents) in
    rw (ee, ek, ed, ec, eb, ea, text ∙ whole) (simp append_assoc)
