-- The order of simples decides, and they are put into it.
use Rattle.transport.proofs.Names.{◌≡◌, ℕ, zero, suc, ◌+◌, ◌<◌, length, get_or, subst, add-one, Bool, true, false, cond, List, [], ◌∷◌, refl, sym, ap, ◌∙◌, arith, Ordering, nat_cmp, int_cmp, bool_cmp, ordering_then, is_lt, IsStrictWeakOrder, int_cmp_total, tied_itself, slice_cmp, lists_total, IsPermutation, ranks_by, sum_by-IsPermutation, ordering_reverse, IsTotalOrder, then_total, on_total, bool_cmp_total, nat_cmp_total, IsSorted, IsPermutation-refl, IsPermutation-trans, IsPermutation-cons, IsPermutation-swap, Simple, compare, insert, ascending}
use Rattle.std.specs.declared.cmp.Ordering.TheVariants.{Less, Equal, Greater}
use Rattle.std.specs.FinMap.{nat_cmp-IsAntisymmetric, int_cmp-IsAntisymmetric, slice_cmp-IsAntisymmetric}
use Rattle.transport.proofs.SortedLists.{Above, Ascends, above_at, same_list}

abbrev pub less : Simple → Simple → Bool
less a b = is_lt (compare a b)

pub compare_total : IsTotalOrder compare
compare_total =
    then_total (on_total (λ (a : Simple). a.other) bool_cmp_total)
    (then_total (on_total (λ (a : Simple). a.class) nat_cmp_total)
    (then_total (on_total (λ (a : Simple). a.degree) nat_cmp_total)
    (then_total (on_total (λ (a : Simple). a.values) (lists_total (lists_total int_cmp_total))) (on_total (λ (a : Simple). a.row) nat_cmp_total))))

weak : IsStrictWeakOrder less
weak = ranks_by compare_total (λ (a : Simple). a)

both_equal : (r s : Ordering) → ordering_then r s ≡ Equal → (r ≡ Equal) × (s ≡ Equal)
both_equal Less s e = absurd cc
both_equal Equal s e = (refl, e)
both_equal Greater s e = absurd cc

same_bool : (a b : Bool) → bool_cmp a b ≡ Equal → a ≡ b
same_bool false false e = refl
same_bool false true e = absurd cc
same_bool true false e = absurd cc
same_bool true true e = refl

tied_equal : (a b : Simple) → compare a b ≡ Equal → a ≡ b
tied_equal a b e =
    let others = both_equal (bool_cmp a.other b.other) _ e in
    let classes = both_equal (nat_cmp a.class b.class) _ others.1 in
    let degrees = both_equal (nat_cmp a.degree b.degree) _ classes.1 in
    let values = both_equal (slice_cmp (slice_cmp int_cmp) a.values b.values) _ degrees.1 in
    let other = same_bool a.other b.other others.0 in
    let class = nat_cmp-IsAntisymmetric a.class b.class classes.0 in
    let degree = nat_cmp-IsAntisymmetric a.degree b.degree degrees.0 in
    let value = slice_cmp-IsAntisymmetric (slice_cmp-IsAntisymmetric int_cmp-IsAntisymmetric) a.values b.values values.0 in
    let row = nat_cmp-IsAntisymmetric a.row b.row values.1 in
    λ i. record { other = other i; class = class i; degree = degree i; values = value i; row = row i }

irreflexive : (a : Simple) → less a a ≡ false
irreflexive a = ap is_lt (tied_itself compare_total a)

neither : (r s : Ordering) → r ≡ ordering_reverse s → is_lt r ≡ false → is_lt s ≡ false → r ≡ Equal
neither Less s turn h k = absurd cc
neither Equal s turn h k = refl
neither Greater Less turn h k = absurd cc
neither Greater Equal turn h k = absurd cc
neither Greater Greater turn h k = absurd cc

decides : (a b : Simple) → less a b ≡ false → less b a ≡ false → a ≡ b
decides a b h k = tied_equal a b (neither (compare a b) (compare b a) (compare_total.antisymm a b) h k)

-- putting an element in its place

insert_by : (P : List Simple → Type 0) (a b : Simple) (rest : List Simple) → (less b a ≡ true → P (b ∷ insert a rest)) → (less b a ≡ false → P (a ∷ b ∷ rest)) → P (insert a (b ∷ rest))
unfolding insert
insert_by P a b rest after before = by (less b a) refl
  where
    by : (t : Bool) → less b a ≡ t → P (cond t (b ∷ insert a rest) (a ∷ b ∷ rest))
    by true e = after e
    by false e = before e

insert_permutes : (a : Simple) (xs : List Simple) → IsPermutation (a ∷ xs) (insert a xs)
unfolding insert
insert_permutes a [] = IsPermutation-refl (a ∷ [])
insert_permutes a (b ∷ rest) =
    insert_by (IsPermutation (a ∷ b ∷ rest)) a b rest
    (λ e. IsPermutation-trans (a ∷ b ∷ rest) (b ∷ a ∷ rest) (b ∷ insert a rest)
    (IsPermutation-swap (a ∷ b ∷ rest) (b ∷ a ∷ rest) 0 1 (omega arith) (omega arith) refl) (IsPermutation-cons b (a ∷ rest) (insert a rest) (insert_permutes a rest)))
    (λ e. IsPermutation-refl (a ∷ b ∷ rest))

pub ascending_permutes : (xs : List Simple) → IsPermutation xs (ascending xs)
unfolding ascending
ascending_permutes [] = IsPermutation-refl []
ascending_permutes (a ∷ rest) =
    IsPermutation-trans (a ∷ rest) (a ∷ ascending rest) (insert a (ascending rest)) (IsPermutation-cons a rest (ascending rest) (ascending_permutes rest)) (insert_permutes a (ascending rest))

insert_above : (x a : Simple) (xs : List Simple) → less a x ≡ false → Above less x xs → Above less x (insert a xs)
unfolding insert
insert_above x a [] h k = (h, tt)
insert_above x a (b ∷ rest) h k = insert_by (Above less x) a b rest (λ e. (k.0, insert_above x a rest h k.1)) (λ e. (h, k))

above_lower : (a b : Simple) (xs : List Simple) → less b a ≡ false → Above less b xs → Above less a xs
above_lower a b [] h k = tt
above_lower a b (c ∷ rest) h k = (weak.chain c b a k.0 h, above_lower a b rest h k.1)

insert_ascends : (a : Simple) (xs : List Simple) → Ascends less xs → Ascends less (insert a xs)
unfolding insert
insert_ascends a [] up = (tt, tt)
insert_ascends a (b ∷ rest) up =
    insert_by (Ascends less) a b rest
    (λ e. (insert_above b a rest (weak.one_way b a e) up.0, insert_ascends a rest up.1))
    (λ e. ((e, above_lower a b rest e up.0), up))

pub ascending_ascends : (xs : List Simple) → Ascends less (ascending xs)
unfolding ascending
ascending_ascends [] = tt
ascending_ascends (a ∷ rest) = insert_ascends a (ascending rest) (ascending_ascends rest)

-- a list in ascending order with the elements of another is that one put into order
pub put_in_order : (xs ys : List Simple) → IsPermutation xs ys → Ascends less ys → ys ≡ ascending xs
put_in_order xs ys permutes up =
    same_list less irreflexive decides ys (ascending xs) up (ascending_ascends xs)
    (λ f. sum_by-IsPermutation f xs ys permutes ∙ sym (sum_by-IsPermutation f xs (ascending xs) (ascending_permutes xs)))

-- neighbours ascend
neighbours : (xs : List Simple) → Ascends less xs → (j : ℕ) (d : Simple) → suc j < length xs → less (get_or xs (suc j) d) (get_or xs j d) ≡ false
neighbours [] up j d below = absurd (omega (arith, below))
neighbours (a ∷ rest) up zero d below = above_at less a rest 0 (omega (arith, below)) d up.0
neighbours (a ∷ rest) up (suc j) d below = neighbours rest up.1 j d (omega (arith, below))

pub sorted : (xs : List Simple) → IsSorted compare (ascending xs)
sorted xs j d low below =
    subst (λ n. less (get_or (ascending xs) n d) (get_or (ascending xs) j d) ≡ false) (sym (add-one j))
    (neighbours (ascending xs) (ascending_ascends xs) j d (let next : j + 1 < length (ascending xs) = below in omega (arith, next)))
