-- The lists that elimination goes through, as rows of residues.
use Rattle.prime_field.proofs.Names.{◌≡◌, ◌≢◌, ◌⊎◌, inl, inr, ℕ, suc, ◌+◌, ◌-◌, ◌*◌, ◌/◌, ◌%◌, ◌<◌, ◌≤◌, Bool, true, false, get_or, drop, List, length, refl, sym, ◌∙◌, ap, ap₂, arith, length-drop, length-take, slice_range, nat_eq, if◌then◌else◌, mod-eq_of_lt, mod-lt, mod-mul-add, mul-mod_first, mul-mod_second, div-mul-add, mul-add-lt, Below, below_equal, pick, pick_true, pick_false, is_modulus, field, field_residue, dot, IsSolved, AreBelow, column_of, matrix_of, IsTabulated, minus_multiple, modulus_over_one, modulus_positive}
use Rattle.prime_field.proofs.EliminationSteps.{dot_ext, one_more, none_more}
use Rattle.prime_field.proofs.ResidueSums.{residue_of_value, at_slice}

-- the place of row i and column j, where rows have w places
pub row_of : (w i j : ℕ) → j < w → (i * w + j) / w ≡ i
row_of w i j h = div-mul-add i w j h

pub column_at : (w i j : ℕ) → j < w → (i * w + j) % w ≡ j
column_at w i j h = mod-mul-add i w j h

pub place_in : (w n i j : ℕ) → i < n → j < w → i * w + j < n * w
place_in w n i j h k = (let a : i * w + j < w * n = mul-add-lt i w j n h k in omega arith)

-- the number at row i and column j, where each number is the value at its row and column
pub table_at : (n w : ℕ) (value : ℕ → ℕ → ℕ) (numbers : List ℕ) → IsTabulated (n * w) (λ k. value (k / w) (k % w)) numbers
    → (i j : ℕ) → i < n → j < w → get_or numbers (i * w + j) 0 ≡ value i j
table_at n w value numbers t i j h k =
    t.each (i * w + j) (place_in w n i j h k) ∙ ap₂ value (row_of w i j k) (column_at w i j k)

-- numbers are below q where the values are
pub tabulated_below : (q n : ℕ) (value : ℕ → ℕ) (numbers : List ℕ) → IsTabulated n value numbers
    → ((k : ℕ) → k < n → value k < q) → AreBelow q numbers
tabulated_below q n value numbers t below k h =
    let less : k < n = (let size = t.count in omega arith) in
    rw (t.each k less) (below k less)

module _ (q : ℕ) (listed : is_modulus q ≡ true) where
  -- the product of two lists whose residues are those of two rows
  pub dot_of_lists : (w : ℕ) (x y : List ℕ) (u v : ℕ → Below q) → length x ≡ w → ((j : ℕ) → j < w → column_of q listed x j ≡ u j)
      → ((j : ℕ) → j < w → column_of q listed y j ≡ v j)
      → dot (field q listed) (length x) (column_of q listed x) (column_of q listed y) ≡ dot (field q listed) w u v
  dot_of_lists w x y u v size left right = rw size (dot_ext (field q listed) w (column_of q listed x) (column_of q listed y) u v left right)

  -- a row taken out of a matrix
  pub row_taken : (w f : ℕ) (rows : List ℕ) (j : ℕ) → j < w → column_of q listed (slice_range rows (f * w) (f * w + w)) j ≡ matrix_of q listed w rows f j
  row_taken w f rows j h = ap (field_residue q listed) (at_slice rows (f * w) w j h)

  -- values of residues are below q
  pub values_below : (n : ℕ) (x : ℕ → Below q) (numbers : List ℕ) → IsTabulated n (λ k. (x k).value) numbers → AreBelow q numbers
  values_below n x numbers t = tabulated_below q n (λ k. (x k).value) numbers t (λ k h. (x k).below)

  pub multiples_below : (n : ℕ) (a d b : ℕ → ℕ) (c : ℕ) (numbers : List ℕ) → IsTabulated n (λ k. minus_multiple q listed (a k) (d k) c (b k)) numbers → AreBelow q numbers
  unfolding minus_multiple
  multiples_below n a d b c numbers t = tabulated_below q n _ numbers t (λ k h. mod-lt _ (modulus_positive q listed))

  pub products_below : (n w : ℕ) (u v : ℕ → ℕ → Below q) (numbers : List ℕ) → IsTabulated n (λ k. (dot (field q listed) w (u k) (v k)).value) numbers → AreBelow q numbers
  products_below n w u v numbers t = values_below n (λ k. dot (field q listed) w (u k) (v k)) numbers t

  -- ---- the identity
  pub identity_at : (w : ℕ) (rows : List ℕ) → IsTabulated (w * w) (λ k. if nat_eq (k / w) (k % w) then 1 else 0) rows
      → (i j : ℕ) → i < w → j < w → matrix_of q listed w rows i j ≡ pick (field q listed) (nat_eq i j) (field q listed).one
  identity_at w rows t i j h k =
      ap (field_residue q listed) (table_at w w (λ i j. if nat_eq i j then 1 else 0) rows t i j h k) ∙ by (nat_eq i j)
    where
      by : (b : Bool) → field_residue q listed (if b then 1 else 0) ≡ pick (field q listed) b (field q listed).one
      by true = sym (pick_true (field q listed) (field q listed).one)
      by false = sym (pick_false (field q listed) (field q listed).one)

  pub identity_below : (w : ℕ) (rows : List ℕ) → IsTabulated (w * w) (λ k. if nat_eq (k / w) (k % w) then 1 else 0) rows → AreBelow q rows
  identity_below w rows t = tabulated_below q (w * w) _ rows t (λ k h. by (nat_eq (k / w) (k % w)))
    where
      by : (b : Bool) → (if b then 1 else 0) < q
      by true = modulus_over_one q listed
      by false = omega (arith, modulus_over_one q listed)

  -- ---- one more equation
  module _ (n w : ℕ) (e : ℕ → ℕ → Below q) (rows numbers equation : List ℕ) (same : (m : ℕ) → m < w → e n m ≡ column_of q listed equation m)
      (solved : IsSolved (field q listed) n w e (matrix_of q listed w rows))
      (fails : IsTabulated w (λ f. (dot (field q listed) w (column_of q listed equation) (matrix_of q listed w rows f)).value) numbers) where
    number_is : (f : ℕ) → f < w → dot (field q listed) w (e n) (matrix_of q listed w rows f) ≡ field_residue q listed (get_or numbers f 0)
    number_is f h =
        rw (fails.each f h) (dot_ext (field q listed) w _ _ _ _ same (λ m k. refl) ∙ sym (residue_of_value q listed _))

    pub solved_already : ((f : ℕ) → f < length numbers → get_or numbers f 0 ≡ 0) → IsSolved (field q listed) (suc n) w e (matrix_of q listed w rows)
    solved_already none =
        none_more (field q listed) n w e (matrix_of q listed w rows) solved
        (λ f h. number_is f h ∙ ap (field_residue q listed) (none f (let size : length numbers ≡ w = fails.count in omega arith)))

    pub solved_next : (j c : ℕ) (next : List ℕ) → j < w → ((f : ℕ) → j < f → f < length numbers → get_or numbers f 0 ≡ 0) → (get_or numbers j 0 * c) % q ≡ 1
        → IsTabulated (w * w) (λ k. minus_multiple q listed (get_or rows k 0) (get_or numbers (k / w) 0) c (get_or rows (j * w + k % w) 0)) next
        → IsSolved (field q listed) (suc n) w e (matrix_of q listed w next)
    unfolding minus_multiple
    solved_next j c next below last product t =
        one_more (field q listed) n w e (matrix_of q listed w rows) (matrix_of q listed w next) j (field_residue q listed c) solved (record {
          below = below;
          inverse = rw (number_is j below) (below_equal _ _
              (mul-mod_first c _ q ∙ mul-mod_second c _ q ∙ ap (λ x. x % q) (omega arith) ∙ product ∙ sym (mod-eq_of_lt (modulus_over_one q listed))));
          last = λ f h k. number_is f h ∙ ap (field_residue q listed) (last f k (let size : length numbers ≡ w = fails.count in omega arith));
          each = λ f m h k.
              rw (number_is f h)
              (ap (field_residue q listed) (rw (row_of w f m k, column_at w f m k) at (t.each (f * w + m) (place_in w w f m h k)))
              ∙ residue_of_value q listed _);
        })

-- different rows or columns have different places
pub places_apart : (w i j k l : ℕ) → j < w → l < w → (k ≢ i) ⊎ (l ≢ j) → k * w + l ≢ i * w + j
places_apart w i j k l j_below l_below (inl other) same = other (sym (row_of w k l l_below) ∙ ap (λ n. n / w) same ∙ row_of w i j j_below)
places_apart w i j k l j_below l_below (inr other) same =
    other (sym (column_at w k l l_below) ∙ ap (λ n. n % w) same ∙ column_at w i j j_below)

pub length_slice : (numbers : List ℕ) (start size : ℕ) → start + size ≤ length numbers → length (slice_range numbers start (start + size)) ≡ size
length_slice numbers start size h = omega (arith, length-take (start + size - start) (drop start numbers), length-drop start numbers)

pub slice_below : (q : ℕ) (numbers : List ℕ) (start size : ℕ) → start + size ≤ length numbers → AreBelow q numbers → AreBelow q (slice_range numbers start (start + size))
slice_below q numbers start size h below k l =
    let less : k < size = omega (arith, length_slice numbers start size h) in
    rw (at_slice numbers start size k less) (below (start + k) (omega arith))
