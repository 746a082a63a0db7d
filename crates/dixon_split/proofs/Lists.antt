-- Lists of one width that stand one after another.
use Rattle.dixon_split.proofs.Names.{◌≡◌, ℕ, zero, suc, ◌+◌, ◌*◌, ◌/◌, ◌%◌, ◌<◌, ◌≤◌, List, [], ◌∷◌, ◌++◌, length, take, get_or, All, refl, sym, ap, subst, ◌∙◌, arith, concat, suc-mul, All-nil, All-cons, drop, take-append-drop, length-take-le, length-drop, get_or-take, get_or-drop, mul-le-mul_right}
use Rattle.dixon_split.specs.CentralLists.{CentralLists, lists_of, central_lists, central_value}

pub length-lists_of : (w n : ℕ) (numbers : List ℕ) → length (lists_of w n numbers) ≡ n
unfolding lists_of
length-lists_of w zero numbers = refl
length-lists_of w (suc n) numbers = simp (length-lists_of w n (drop w numbers))

pub concat-lists_of : (w n : ℕ) (numbers : List ℕ) → length numbers ≡ n * w → concat (lists_of w n numbers) ≡ numbers
unfolding lists_of
concat-lists_of w zero [] e = refl
concat-lists_of w zero (x ∷ numbers) e = absurd (omega arith)
concat-lists_of w (suc n) numbers e =
    ap (λ rest. take w numbers ++ rest) (concat-lists_of w n (drop w numbers) (simp (length-drop) (omega (arith, e)))) ∙ take-append-drop w numbers

pub widths-lists_of : (w n : ℕ) (numbers : List ℕ) → n * w ≤ length numbers → All (λ list. length list ≡ w) (lists_of w n numbers)
unfolding lists_of
widths-lists_of w zero numbers h = All-nil (λ list. length list ≡ w)
widths-lists_of w (suc n) numbers h =
    All-cons (λ list. length list ≡ w) (take w numbers) (lists_of w n (drop w numbers)) (length-take-le w numbers (omega arith))
    (widths-lists_of w n (drop w numbers) (simp (length-drop) (omega arith)))

pub at-lists_of : (w n : ℕ) (numbers : List ℕ) (i c : ℕ) → i < n → c < w → get_or (get_or (lists_of w n numbers) i []) c 0 ≡ get_or numbers (i * w + c) 0
unfolding lists_of
at-lists_of w zero numbers i c h k = absurd (omega arith)
at-lists_of w (suc n) numbers zero c h k = get_or-take w numbers c 0 k ∙ ap (λ j. get_or numbers j 0) (omega arith)
at-lists_of w (suc n) numbers (suc i) c h k = at-lists_of w n (drop w numbers) i c (omega arith) k ∙ (get_or-drop w numbers (i * w + c) 0 ∙ ap (λ j. get_or numbers j 0) (omega arith))

-- what a list of numbers in lists of width w has, where the width divides its length
pub whole : (w : ℕ) (numbers : List ℕ) → length numbers % w ≡ 0 → length numbers ≡ length numbers / w * w
whole w numbers e = omega arith

pub concat-central : (w : ℕ) (numbers : List ℕ) → length numbers % w ≡ 0 → concat (central_lists w numbers).lists ≡ numbers
concat-central w numbers e = concat-lists_of w (length numbers / w) numbers (whole w numbers e)

pub widths-central : (w : ℕ) (numbers : List ℕ) → length numbers % w ≡ 0 → All (λ list. length list ≡ w) (central_lists w numbers).lists
widths-central w numbers e = let h : length numbers ≡ length numbers / w * w = whole w numbers e in widths-lists_of w (length numbers / w) numbers (omega arith)

pub rows_below : (i n w : ℕ) → i < n → i * w + w ≤ n * w
rows_below i n w h = let e : suc i * w ≤ n * w = mul-le-mul_right w h in rw (suc-mul i w) at e

-- the place of a value is one of the list's
pub place_below : (w : ℕ) (numbers : List ℕ) (central : CentralLists) (i c : ℕ) → central_lists w numbers ≡ central → length numbers % w ≡ 0
    → i < length central.lists → c < central.width → i * w + c < length numbers
place_below w numbers central i c is e = let P : CentralLists → Type 0 = λ s. i < length s.lists → c < s.width → i * w + c < length numbers in subst P is (λ h k. let n = length numbers / w in
    let all : length numbers ≡ n * w = whole w numbers e in let below : i < n = rw length-lists_of at h in
    let rows : i * w + w ≤ n * w = rows_below i n w below in omega arith)

pub value_at : (w : ℕ) (numbers : List ℕ) (central : CentralLists) (i c : ℕ) → central_lists w numbers ≡ central → i < length central.lists → c < central.width
    → get_or numbers (i * w + c) 0 ≡ central_value central i c
value_at w numbers central i c is = let P : CentralLists → Type 0 = λ s. i < length s.lists → c < s.width → get_or numbers (i * w + c) 0 ≡ central_value s i c in
    subst P is (λ h k. sym (at-lists_of w (length numbers / w) numbers i c (rw length-lists_of at h) k))

pub count_is : (w : ℕ) (numbers : List ℕ) (central : CentralLists) → central_lists w numbers ≡ central → length numbers / w ≡ length central.lists
count_is w numbers central is = let P : CentralLists → Type 0 = λ s. length numbers / w ≡ length s.lists in subst P is (sym (length-lists_of w (length numbers / w) numbers))

pub widths_are : (w : ℕ) (numbers : List ℕ) (central : CentralLists) → central_lists w numbers ≡ central → length numbers % w ≡ 0
    → All (λ list. length list ≡ central.width) central.lists
widths_are w numbers central is e = let P : CentralLists → Type 0 = λ s. All (λ list. length list ≡ s.width) s.lists in subst P is (widths-central w numbers e)
