-- The sums of a summary, one number after the other, and by a web.
use Rattle.qd_engine.proofs.Names.{◌≡◌, ℕ, ◌+◌, ◌*◌, ◌/◌, ◌%◌, ◌<◌, List, ◌++◌, map, cond, nat_eq, Result, Ok, Err, refl, ap, ◌∙◌, append_assoc, arith, sum, is_ok, OnOk, range_with_len, map-range_with_len_more, sum_by_push, edge_below, row_below, column_below, SimplesOver, count, WebEntries, count_of, fusion_number, sum_of_three, how_many, sample_end, IsWebOf}
use Rattle.qd_engine.proofs.NumberLines.{same_map}

-- one number more
pub sum_more : (f : ℕ → ℕ) (p : ℕ) → sum (map f (range_with_len 0 (p + 1))) ≡ sum (map f (range_with_len 0 p)) + f p
sum_more f p = ap sum (map-range_with_len_more f 0 p p (omega arith)) ∙ sum_by_push (λ x. x) (map f (range_with_len 0 p)) (f p)

-- the number of the place p of all three below n
abbrev pub of_place : ℕ → (ℕ → ℕ → ℕ → ℕ) → ℕ → ℕ
of_place n number p = number (p / n / n) (p / n % n) (p % n)

-- numbers that are the same below n add up to the same
pub same_sum : (n : ℕ) (number other : ℕ → ℕ → ℕ → ℕ) → ((i j l : ℕ) → i < n → j < n → l < n → number i j l ≡ other i j l) → sum_of_three n number ≡ sum_of_three n other
same_sum n number other same =
    ap sum (same_map (of_place n number) (of_place n other) (n * n * n) (λ p below. same (p / n / n) (p / n % n) (p % n) (edge_below n p below) (row_below n p below) (column_below n p below)))

module _ (k : ℕ) (s : SimplesOver) (web : WebEntries) (is : IsWebOf k s web) where
  pub web_total : sum_of_three web.simples (count_of web) ≡ sum_of_three (count k s) (fusion_number k s)
  web_total = ap (λ n. sum_of_three n (count_of web)) is.simples ∙ same_sum (count k s) (count_of web) (fusion_number k s) is.numbers.numbers

  pub web_many : how_many web.simples (count_of web) ≡ how_many (count k s) (fusion_number k s)
  web_many =
      ap (λ n. how_many n (count_of web)) is.simples
      ∙ same_sum (count k s) (λ i j l. cond (nat_eq (count_of web i j l) 0) 0 1) (λ i j l. cond (nat_eq (fusion_number k s i j l) 0) 0 1)
      (λ i j l i_below j_below l_below. ap (λ c. cond (nat_eq c 0) 0 1) (is.numbers.numbers i j l i_below j_below l_below))

-- two pieces one after the other
pub two_added : (old middle new start end first last : List ℕ) → middle ≡ old ++ start → new ≡ middle ++ end → start ≡ first → end ≡ last → new ≡ old ++ (first ++ last)
two_added old middle new start end first last before after start_is end_is =
    rw (after, before, start_is, end_is) (append_assoc old first last)

pub two_pieces : {E : Type 0} (result : Result (Unit {0}) E) (old middle new start end first last : List ℕ) → middle ≡ old ++ start → start ≡ first → end ≡ last → new ≡ cond (is_ok result) (middle ++ end) middle
    → OnOk result (new ≡ old ++ (first ++ last))
two_pieces (Ok done) old middle new start end first last before start_is end_is after = two_added old middle new start end first last before after start_is end_is
two_pieces (Err refusal) old middle new start end first last before start_is end_is after = tt

-- the end of the line by its numbers
pub same_end : (r r' m m' t t' e e' : ℕ) → r ≡ r' → m ≡ m' → t ≡ t' → e ≡ e' → sample_end r m t e ≡ sample_end r' m' t' e'
same_end r r' m m' t t' e e' a b c d = rw (a, b, c, d) refl
