-- A list that has the numbers below n in some order gives a map of these numbers, and the map back.
use Rattle.row_order.proofs.Names.{◌≡◌, ℕ, ◌<◌, ◌⊎◌, inl, inr, List, length, get_or, refl, sym, ap, ◌∙◌, subst, zero-add, range_with_len, swap, IsPermutation, length-range_with_len, get_or-range_with_len, cases_eq, IsPermutation-keeps, IsPermutation-swap, length_permutation}
use Rattle.std.proofs.lemmas.List.Edits.{swapped_from_swap, Swapped}

-- ---- b for a, and a for b
exchange_at : (m a b : ℕ) → (m ≡ a) ⊎ (m ≡ a → ⊥) → (m ≡ b) ⊎ (m ≡ b → ⊥) → ℕ
exchange_at m a b (inl e) c = b
exchange_at m a b (inr d) (inl e) = a
exchange_at m a b (inr d) (inr f) = m

exchange : ℕ → ℕ → ℕ → ℕ
exchange a b m = exchange_at m a b (cases_eq m a) (cases_eq m b)

exchange_by : (P : ℕ → Type 0) (a b m : ℕ) → (m ≡ a → P b) → (m ≡ b → P a) → ((m ≡ a → ⊥) → (m ≡ b → ⊥) → P m) → P (exchange a b m)
unfolding exchange exchange_at
exchange_by P a b m first second other = by (cases_eq m a) (cases_eq m b)
  where
    by : (c : (m ≡ a) ⊎ (m ≡ a → ⊥)) (d : (m ≡ b) ⊎ (m ≡ b → ⊥)) → P (exchange_at m a b c d)
    by (inl e) d = first e
    by (inr d) (inl e) = second e
    by (inr d) (inr f) = other d f

exchange_first : (a b : ℕ) → exchange a b a ≡ b
exchange_first a b = exchange_by (λ z. z ≡ b) a b a (λ e. refl) (λ e. e) (λ d f. absurd (d refl))

exchange_second : (a b : ℕ) → exchange a b b ≡ a
exchange_second a b = exchange_by (λ z. z ≡ a) a b b (λ e. e) (λ e. refl) (λ d f. absurd (f refl))

exchange_twice : (a b m : ℕ) → exchange a b (exchange a b m) ≡ m
exchange_twice a b m =
    exchange_by (λ z. exchange a b z ≡ m) a b m (λ e. exchange_second a b ∙ sym e) (λ e. exchange_first a b ∙ sym e)
    (λ d f. exchange_by (λ z. z ≡ m) a b m (λ e. absurd (d e)) (λ e. absurd (f e)) (λ d f. refl))

exchange_below : (n a b m : ℕ) → a < n → b < n → m < n → exchange a b m < n
exchange_below n a b m a_below b_below m_below = exchange_by (λ z. z < n) a b m (λ e. b_below) (λ e. a_below) (λ d f. m_below)

exchange_read : (f g : ℕ → ℕ) (a b : ℕ) → Swapped f g a b → (m : ℕ) → g m ≡ f (exchange a b m)
exchange_read f g a b swapped m = exchange_by (λ z. g m ≡ f z) a b m (λ e. ap g e ∙ swapped.0) (λ e. ap g e ∙ swapped.1) (λ d f. swapped.2 m d f)

-- ---- each number below n stands at one place
pub record HasNumbers (n : ℕ) (xs : List ℕ) : Type 0 where
  pub count : length xs ≡ n
  pub back : ℕ → ℕ
  pub at_below : (i : ℕ) → i < n → get_or xs i 0 < n
  pub back_below : (j : ℕ) → j < n → back j < n
  pub back_at : (i : ℕ) → i < n → back (get_or xs i 0) ≡ i
  pub at_back : (j : ℕ) → j < n → get_or xs (back j) 0 ≡ j

in_turn : (n : ℕ) → HasNumbers n (range_with_len 0 n)
in_turn n =
    let at : (i : ℕ) → i < n → get_or (range_with_len 0 n) i 0 ≡ i = λ i below. get_or-range_with_len 0 n i 0 below ∙ zero-add i in
    record {
      count = length-range_with_len 0 n;
      back = λ j. j;
      at_below = λ i below. subst (λ m. m < n) (sym (at i below)) below;
      back_below = λ j below. below;
      back_at = at;
      at_back = at;
    }

exchanged : (n : ℕ) (xs : List ℕ) (a b : ℕ) → a < length xs → b < length xs → HasNumbers n xs → HasNumbers n (swap xs a b)
exchanged n xs a b a_there b_there has =
    let a_below : a < n = subst (λ m. a < m) has.count a_there in
    let b_below : b < n = subst (λ m. b < m) has.count b_there in
    let read : (m : ℕ) → get_or (swap xs a b) m 0 ≡ get_or xs (exchange a b m) 0 =
    exchange_read (λ m. get_or xs m 0) (λ m. get_or (swap xs a b) m 0) a b (swapped_from_swap xs (swap xs a b) a b 0 a_there b_there refl) in
    record {
      count = length_permutation xs (swap xs a b) (IsPermutation-swap xs (swap xs a b) a b a_there b_there refl) ∙ has.count;
      back = λ j. exchange a b (has.back j);
      at_below = λ i below. subst (λ m. m < n) (sym (read i)) (has.at_below (exchange a b i) (exchange_below n a b i a_below b_below below));
      back_below = λ j below. exchange_below n a b (has.back j) a_below b_below (has.back_below j below);
      back_at = λ i below.
          ap (λ m. exchange a b (has.back m)) (read i) ∙ ap (exchange a b) (has.back_at (exchange a b i) (exchange_below n a b i a_below b_below below)) ∙ exchange_twice a b i;
      at_back = λ j below. read (exchange a b (has.back j)) ∙ ap (λ m. get_or xs m 0) (exchange_twice a b (has.back j)) ∙ has.at_back j below;
    }

pub has_numbers : (n : ℕ) (xs : List ℕ) → IsPermutation (range_with_len 0 n) xs → HasNumbers n xs
has_numbers n xs = IsPermutation-keeps (range_with_len 0 n) (HasNumbers n) (in_turn n) (λ l a b. exchanged n l a b) xs
