-- The lines of fusion numbers and of indicators, from the web that holds the numbers.
use Rattle.qd_engine.proofs.Names.{◌≡◌, ℕ, zero, suc, ◌+◌, ◌*◌, ◌/◌, ◌%◌, ◌<◌, ◌++◌, true, List, [], ◌∷◌, length, length-append, map, All, Some, None, refl, sym, ap, ap₂, ◌∙◌, arith, nat_lt, range_with_len, length-map-range_with_len, get_or-map-range_with_len, map-range_with_len_more, fill_by_all, WebEntries, count_of, option_map, mod-lt, Plain, fusion_number, fusion_sum, SimplesOver, AreSimples, count, dimension_at, twist_at, first_lines, if◌then◌else◌, All-append, planes_are_numbers, plain_of, NotWhole, not_whole, whole_test, numbers_text, indicator_of, where_lifted, source_of, IsWebOf, HasWeb, Rows}
use Rattle.std.proofs.lemmas.Nat.{div_below}
use Rattle.qd_ring.specs.declared.cyc.Cyc.{Cyc}
use Rattle.fusion.specs.Refusal.{IsFirstNotWhole}
use Rattle.fusion.specs.Reads.{plane_of}
use Rattle.indicators.specs.Indicators.{indicator_sum}
use Rattle.root_fusion.specs.IndicatorLists.{dimensions, twists, numbers_into}
use Rattle.root_fusion.proofs.IndicatorSums.{indicators_fit}
use Rattle.data_print.specs.FusionLines.{number_line, line_if_some, product_text, products_text, fusion_text}
use Rattle.qd_engine.specs.declared.rows.Rows.TheVariants.{Stated, Lifted}

-- ---- lists that grow

pub one_longer : (front all : List ℕ) (x n : ℕ) → all ≡ front ++ x ∷ [] → length front ≡ n → length all ≡ n + 1
one_longer front all x n pushed number = ap length pushed ∙ length-append front (x ∷ []) ∙ ap (λ m. m + 1) number

pub one_more : (f : ℕ → ℕ) (front all : List ℕ) (x i : ℕ) → all ≡ front ++ x ∷ [] → front ≡ map f (range_with_len 0 i) → x ≡ f i → all ≡ map f (range_with_len 0 (i + 1))
one_more f front all x i pushed before here = rw (pushed, before, here) (sym (map-range_with_len_more f 0 i i (omega arith)))

pub all_more : (P : ℕ → Type 0) (front all : List ℕ) (x : ℕ) → all ≡ front ++ x ∷ [] → All P front → P x → All P all
all_more P front all x pushed small here = rw pushed (All-append P front (x ∷ []) small one)
  where
    one : All P (x ∷ [])
    one zero d below = here
    one (suc i) d below = absurd (omega arith)

-- ---- the lines

-- the same lines, one after the other
pub same_lines : (line other : ℕ → List ℕ) (n : ℕ) → ((i : ℕ) → i < n → line i ≡ other i) → first_lines line n ≡ first_lines other n
unfolding first_lines
same_lines line other zero same = refl
same_lines line other (suc n) same = ap₂ (λ a b. a ++ b) (same_lines line other n (λ i below. same i (omega (arith, below)))) (same n (omega arith))

same_text : (n : ℕ) (number other : ℕ → ℕ → ℕ → ℕ) → ((i j l : ℕ) → i < n → j < n → l < n → number i j l ≡ other i j l) → fusion_text n number ≡ fusion_text n other
same_text n number other same =
    same_lines (products_text n number) (products_text n other) n
    (λ i i_below. same_lines (product_text n number i) (product_text n other i) n
    (λ j j_below. same_lines (line_if_some n number i j) (line_if_some n other i j) n
    (λ l l_below. ap (λ (c : ℕ). if nat_lt 0 c then number_line i j l c else []) (same i j l i_below j_below l_below))))

module _ (k : ℕ) (s : SimplesOver) where
  -- the lines of a web that holds the numbers
  pub web_text : (web : WebEntries) → IsWebOf k s web → fusion_text web.simples (count_of web) ≡ numbers_text k s
  web_text web is =
      ap (λ n. fusion_text n (count_of web)) is.simples ∙ same_text (count k s) (count_of web) (fusion_number k s) is.numbers.numbers

  -- of lifted rows alone is there a web, and such lines
  pub web_is : (rows : Rows) (web : WebEntries) (text : List ℕ) → HasWeb k s rows (Some web) → where_lifted (source_of rows) text ≡ text × IsWebOf k s web
  web_is (Stated blocks) web text has = absurd cc
  web_is (Lifted ring) web text has = (refl, has)

  pub no_web : (rows : Rows) (text : List ℕ) → HasWeb k s rows None → where_lifted (source_of rows) text ≡ []
  no_web (Stated blocks) text has = refl
  no_web (Lifted ring) text has = absurd has

-- the first fusion sum that gives no number is the cause
pub first_not_whole : (k : ℕ) (s : SimplesOver) (i j l : ℕ) (value : Cyc k) (p : Plain) → IsFirstNotWhole k s i j l value → p ≡ plain_of k (fusion_sum k s i j l).value
    → whole_test k s ≡ Some (NotWhole i j l p)
first_not_whole k s i j l value p first same = ap (option_map (not_whole k s)) first.first_is ∙ ap (λ (v : Plain). Some (NotWhole i j l v)) (sym same)

-- ---- indicators

pub same_map : (f g : ℕ → ℕ) (n : ℕ) → ((i : ℕ) → i < n → f i ≡ g i) → map f (range_with_len 0 n) ≡ map g (range_with_len 0 n)
same_map f g n same =
    fill_by_all g (map f (range_with_len 0 n)) n 0 (length-map-range_with_len f 0 n) (λ i below. get_or-map-range_with_len f 0 n i i 0 below (omega arith) ∙ same i below)

module _ (k : ℕ) (s : SimplesOver) where
  pub dimensions_number : (dims : List ℕ) → dims ≡ dimensions k s → length dims ≡ count k s
  dimensions_number dims are = ap length are ∙ length-map-range_with_len (dimension_at k s) 0 (count k s)

  pub twists_number : (exponents : List ℕ) → exponents ≡ twists k s → length exponents ≡ count k s
  twists_number exponents are = ap length are ∙ length-map-range_with_len (twist_at k s) 0 (count k s)

  module _ (good : AreSimples k s) (web : WebEntries) (is : IsWebOf k s web) (l : ℕ) (below : l < count k s) where
    -- the plane of the web has the fusion numbers
    plane_numbers : plane_of web l ≡ numbers_into k s (fusion_number k s) l
    plane_numbers =
        planes_are_numbers k s web is.simples l
        ∙ same_map _ _ (count k s * count k s)
        (λ q q_below.
        let some : 0 < count k s = omega (arith, below) in
        is.numbers.numbers (q / count k s) (q % count k s) l (div_below q (count k s) (count k s) some q_below) (mod-lt q some) below)

    module _ (plane dims exponents : List ℕ) (m : ℕ) (plane_is : plane ≡ plane_of web l) (dims_are : dims ≡ dimensions k s) (exponents_are : exponents ≡ twists k s) where
      -- their sum fits
      pub indicator_fits : (indicator_sum k plane dims exponents m).fits ≡ true
      indicator_fits =
          rw (plane_is ∙ planes_are_numbers k s web is.simples l, dims_are)
          (indicators_fit k s good (count_of web) is.rule.numbers l below exponents m)

      -- and is that of the indicator
      pub indicator_is : (indicator_sum k plane dims exponents m).value ≡ indicator_of k s m l
      indicator_is = rw (plane_is ∙ plane_numbers, dims_are, exponents_are) refl
