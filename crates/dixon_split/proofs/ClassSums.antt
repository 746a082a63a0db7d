-- Class sums and their products, number by number.
use Rattle.dixon_split.proofs.Names.{◌≡◌, ℕ, zero, suc, ◌+◌, ◌*◌, ◌/◌, ◌%◌, ◌<◌, ◌≤◌, true, List, length, get_or, refl, sym, ◌∙◌, ap, subst, arith, zero-mod, mod-eq_of_lt, mod-lt, mul-le, ap₂, CommRing, sum_below, Below, mul_nought, sum_zero, sum_ext, ModRing, is_modulus, field, field_residue, AreBelow, IsTabulated, residue_of_value, row_of, column_at, TwistedSubgroup, size, phase, IsTwist, rank, regular_representatives, left_quotient, root, twisted_product, regular_sum, slice_range, div-lt_iff_lt-mul, nought_add, nought_mul, sum_suc, at_slice, place_in, length_slice, values_below, product_term, residue_root, residues_at, sum_number, term_at, product_value, constant_value, constant_number}
use Rattle.std.proofs.Common.{add-one}
use Rattle.group_table.specs.Group.{Table, product, inverse}
use Rattle.group_table.proofs.Numbers.{length-passing_below}
use Rattle.twisted.proofs.Translation.{table_group}
use Rattle.twisted.proofs.Representatives.{length-regular_representatives}
use Rattle.twisted.proofs.RegularClasses.{representatives_listed, other_test, representative_below_at}
use Rattle.dixon_split.specs.ClassSums.{residue_field}
use Rattle.dixon_split.proofs.Lists.{rows_below}
use Rattle.dixon_split.proofs.Residues.{constant_below}

-- the place of y^-1 x
pub quotient_place : (s : TwistedSubgroup) (t : Table) (i p y x : ℕ) → p ≡ product t i x → i ≡ inverse t y → t ≡ s.group → p ≡ left_quotient s y x
quotient_place s t i p y x e f h = e ∙ ap (λ i. product t i x) f ∙ ap (λ (t : Table). product t (inverse t y) x) h

module _ (q : ℕ) (listed : is_modulus q ≡ true) where
  abbrev F : CommRing (Below q)
  F = field q listed

  abbrev of : ℕ → Below q
  of v = field_residue q listed v

  product_of : (first second product : ℕ) → product ≡ (F.add (of 0) (F.mul (of first) (of second))).value → of product ≡ F.mul (of first) (of second)
  product_of first second product e =
      ap of e ∙ residue_of_value q listed (F.add (of 0) (F.mul (of first) (of second))) ∙ nought_add F (F.mul (of first) (of second))

  -- one more term, and a term that is nought
  pub term_added : (sum root first second product r : ℕ) (z : Below q) → of root ≡ z → product ≡ (F.add (of 0) (F.mul (of first) (of second))).value
      → r ≡ (F.add (of sum) (F.mul (of root) (of product))).value → r ≡ (F.add (of sum) (F.mul z (F.mul (of first) (of second)))).value
  term_added sum root first second product r z h p e = e ∙ ap₂ (λ u v. (F.add (of sum) (F.mul u v)).value) h (product_of first second product p)

  pub term_skipped : (sum first : ℕ) (z y : Below q) → sum < q → first ≡ 0 → sum ≡ (F.add (of sum) (F.mul z (F.mul (of first) y))).value
  term_skipped sum first z y below e =
      sym
      (ap (λ v. (F.add (of sum) (F.mul z (F.mul (of v) y))).value) e
      ∙ ap (λ v. (F.add (of sum) v).value) (ap (F.mul z) (nought_mul F y) ∙ mul_nought F z)
      ∙ ap (λ (v : Below q). v.value) (F.add_nought (of sum)) ∙ mod-eq_of_lt below)

  pub term_without_second : (sum second : ℕ) (z x : Below q) → sum < q → second ≡ 0 → sum ≡ (F.add (of sum) (F.mul z (F.mul x (of second)))).value
  term_without_second sum second z x below e = term_skipped sum second z x below e ∙ ap (λ v. (F.add (of sum) (F.mul z v)).value) (F.mul_comm (of second) x)

  -- a sum before its first term, and with one more
  pub sum_begun : (f : ℕ → Below q) → 0 ≡ (sum_below F 0 f).value
  sum_begun f = sym (ap (λ (v : Below q). v.value) (sum_zero F f) ∙ zero-mod q)

  pub sum_grown : (i sum next : ℕ) (f : ℕ → Below q) → sum ≡ (sum_below F i f).value → next ≡ (F.add (of sum) (f i)).value → next ≡ (sum_below F (i + 1) f).value
  sum_grown i sum next f before e =
      e ∙ ap (λ v. (F.add v (f i)).value) (ap of before ∙ residue_of_value q listed (sum_below F i f))
      ∙ ap (λ (v : Below q). v.value) (sym (sum_suc F i f)) ∙ ap (λ n. (sum_below F n f).value) (sym (add-one i))

-- at most 61 classes are regular
pub rank_small : (s : TwistedSubgroup) → IsTwist s → rank s ≤ 61
rank_small s twist =
    let listed = ap length (representatives_listed s twist) in
    let few = length-passing_below (size s) (other_test s twist) in
    let small = twist.small in
    omega (arith, length-regular_representatives s, listed, few, small.to_sixty)

pub quotient_below : (s : TwistedSubgroup) → IsTwist s → (y x : ℕ) → y < size s → x < size s → left_quotient s y x < size s
quotient_below s twist y x h k =
    let G = table_group s.group twist.group in G.op_below _ x (G.inv_below y h) k

module _ (ring : ModRing) (s : TwistedSubgroup) where
  -- products depend on the numbers at the places alone
  pub product_alike : IsTwist s → (a b : List ℕ) (p r : ℕ → Below ring.q) (x : ℕ) → x < size s → ((y : ℕ) → y < size s → residues_at ring a y ≡ p y) → ((y : ℕ) → y < size s → residues_at ring b y ≡ r y)
      → product_value ring s a b x ≡ (twisted_product (residue_field ring) (residue_root ring) s p r x).value
  product_alike twist a b p r x below ha hb =
      ap (λ (v : Below ring.q). v.value)
      (sum_ext (residue_field ring) (size s) (term_at ring s a b x) (product_term (residue_field ring) (residue_root ring) s p r x)
      (λ y h. ap₂ (λ u v. (residue_field ring).mul (root (residue_field ring) (residue_root ring) s (phase s y (left_quotient s y x))) ((residue_field ring).mul u v)) (ha y h) (hb (left_quotient s y x) (quotient_below s twist y x h below))))

  -- the numbers are those of the t-th class sum
  pub record IsSum (t : ℕ) (numbers : List ℕ) : Type 0 where
    pub count : length numbers ≡ size s
    pub below : AreBelow ring.q numbers
    pub values : (y : ℕ) → y < size s → residues_at ring numbers y ≡ regular_sum (residue_field ring) (residue_root ring) s t y

  pub row_inside : (sums : List ℕ) (t m : ℕ) → IsTabulated (rank s * size s) (sum_number ring s) sums → t < rank s → m ≡ size s → t * m + m ≤ length sums
  row_inside sums t m T below e =
      subst (λ m. t * m + m ≤ length sums) (sym e) (let row = rows_below t (rank s) (size s) below in let count = T.count in omega arith)

  sum_of_row : (sums : List ℕ) (t : ℕ) → IsTabulated (rank s * size s) (sum_number ring s) sums → t < rank s → IsSum t (slice_range sums (t * size s) (t * size s + size s))
  sum_of_row sums t T below = record {
    count = row_length;
    below = λ k h. subst (λ v. v < ring.q) (sym (at_slice sums (t * size s) (size s) k (let l = row_length in omega arith)))
        (values_below ring.q ring.listed (rank s * size s) (λ n. regular_sum (residue_field ring) (residue_root ring) s (n / size s) (n % size s)) sums T (t * size s + k)
        (let l = row_length in let i = row_inside sums t (size s) T below refl in omega arith));
    values = λ y h.
        ap (field_residue ring.q ring.listed)
        (at_slice sums (t * size s) (size s) y h ∙ T.each (t * size s + y) (place_in (size s) (rank s) t y below h)
        ∙ ap₂ (λ i j. (regular_sum (residue_field ring) (residue_root ring) s i j).value) (row_of (size s) t y h) (column_at (size s) t y h))
        ∙ residue_of_value ring.q ring.listed (regular_sum (residue_field ring) (residue_root ring) s t y);
  }
    where
      row_length : length (slice_range sums (t * size s) (t * size s + size s)) ≡ size s
      row_length = length_slice sums (t * size s) (size s) (row_inside sums t (size s) T below refl)

  pub row_is_sum : (sums row : List ℕ) (t m : ℕ) → IsTabulated (rank s * size s) (sum_number ring s) sums → t < rank s → m ≡ size s → row ≡ slice_range sums (t * m) (t * m + m) → IsSum t row
  row_is_sum sums row t m T below e is =
      subst (IsSum t) (sym (is ∙ ap (λ m. slice_range sums (t * m) (t * m + m)) e)) (sum_of_row sums t T below)

  -- the product of two class sums at a representative
  pub constant_is : IsTwist s → (len n x v : ℕ) (places a b : List ℕ) → len ≡ rank s → places ≡ regular_representatives s → IsSum (n / len / len) a → IsSum (n / len % len) b
      → x ≡ get_or places (n % len) 0 → v ≡ product_value ring s a b x → v ≡ constant_number ring s n
  constant_is twist len n x v places a b length_is places_are A B here e =
      e
      ∙ product_alike twist a b (regular_sum (residue_field ring) (residue_root ring) s (n / len / len)) (regular_sum (residue_field ring) (residue_root ring) s (n / len % len)) x
      (subst (λ x. x < size s) (sym at) (representative_below_at s twist (n % len))) A.values B.values
      ∙ ap (λ x. (twisted_product (residue_field ring) (residue_root ring) s (regular_sum (residue_field ring) (residue_root ring) s (n / len / len)) (regular_sum (residue_field ring) (residue_root ring) s (n / len % len)) x).value) at
      ∙ ap (λ r. constant_value ring s (n / r / r) (n / r % r) (n % r)) length_is
    where
      at : x ≡ get_or (regular_representatives s) (n % len) 0
      at = here ∙ ap (λ ps. get_or ps (n % len) 0) places_are

-- a list of the representatives is as long as the rank
pub length_is : (s : TwistedSubgroup) (len : ℕ) (places : List ℕ) → len ≡ length places → places ≡ regular_representatives s → len ≡ rank s
length_is s len places e is = e ∙ ap length is ∙ length-regular_representatives s

pub place_small : (s : TwistedSubgroup) → IsTwist s → (places : List ℕ) (i p : ℕ) → places ≡ regular_representatives s → p ≡ get_or places i 0 → p < size s
place_small s twist places i p is e = subst (λ v. v < size s) (sym (e ∙ ap (λ ps. get_or ps i 0) is)) (representative_below_at s twist i)

pub quotient_small : (k y x : ℕ) → 0 < k → x < y * k → x / k < y
quotient_small k y x positive h = (div-lt_iff_lt-mul positive).1 h

-- the three numbers below r that a number below r r r stands for
digits_of : (r n : ℕ) → n < r * r * r → (0 < r) × (n / r / r < r) × (n / r % r < r) × (n % r < r)
digits_of zero n h = absurd (omega arith)
digits_of (suc m) n h = (omega arith, quotient_small (suc m) (suc m) (n / suc m) (omega arith) (quotient_small (suc m) (suc m * suc m) n (omega arith) h), mod-lt (n / suc m) (omega arith), mod-lt n (omega arith))

pub digits : (r len n : ℕ) → len ≡ r → n < r * r * r → (0 < len) × (n / len / len < r) × (n / len % len < r) × (n % len < r)
digits r len n e h = subst (λ k. (0 < k) × (n / k / k < r) × (n / k % k < r) × (n % k < r)) (sym e) (digits_of r n h)

-- the two numbers below r and m that a number below r m stands for
pub two_digits : (r m len n : ℕ) → len ≡ m → n < r * m → (0 < len) × (n / len < r) × (n % len < m)
two_digits r zero len n e h = absurd (omega arith)
two_digits r (suc m) len n e h = subst (λ k. (0 < k) × (n / k < r) × (n % k < suc m)) (sym e) (omega arith, quotient_small (suc m) r n (omega arith) h, mod-lt n (omega arith))

pub digit_high : (r t j k : ℕ) → j < r → k < r → ((t * r + j) * r + k) / r / r ≡ t
digit_high r t j k h l = ap (λ n. n / r) (row_of r (t * r + j) k l) ∙ row_of r t j h

pub digit_middle : (r t j k : ℕ) → j < r → k < r → ((t * r + j) * r + k) / r % r ≡ j
digit_middle r t j k h l = ap (λ n. n % r) (row_of r (t * r + j) k l) ∙ column_at r t j h

-- their numbers are few
pub sums_few : (s : TwistedSubgroup) → IsTwist s → (len m : ℕ) → len ≡ rank s → m ≡ size s → len * m ≤ 3660
sums_few s twist len m e h =
    let a = rank_small s twist in
    let b : size s ≤ 60 = twist.small.to_sixty in
    mul-le len m 61 60 (omega arith) (omega arith)

pub squares_few : (s : TwistedSubgroup) → IsTwist s → (len : ℕ) → len ≡ rank s → len * len ≤ 3721
squares_few s twist len e = let a = rank_small s twist in mul-le len len 61 61 (omega arith) (omega arith)

pub cubes_few : (s : TwistedSubgroup) → IsTwist s → (len : ℕ) → len ≡ rank s → len * len * len ≤ 226981
cubes_few s twist len e = let a = rank_small s twist in mul-le (len * len) len 3721 61 (squares_few s twist len e) (omega arith)

module _ (ring : ModRing) (s : TwistedSubgroup) where
  pub constants_below : (n : ℕ) (numbers : List ℕ) → IsTabulated n (constant_number ring s) numbers → AreBelow ring.q numbers
  constants_below n numbers T =
      values_below ring.q ring.listed n
      (λ i. twisted_product (residue_field ring) (residue_root ring) s (regular_sum (residue_field ring) (residue_root ring) s (i / rank s / rank s)) (regular_sum (residue_field ring) (residue_root ring) s (i / rank s % rank s))
      (get_or (regular_representatives s) (i % rank s) 0))
      numbers T

  pub constant_found : (len : ℕ) (numbers : List ℕ) → len ≡ rank s → IsTabulated (len * len * len) (constant_number ring s) numbers → (t j k : ℕ) → t < rank s → j < rank s → k < rank s
      → get_or numbers ((t * len + j) * len + k) 0 ≡ constant_value ring s t j k
  constant_found len numbers e T t j k t_below j_below k_below =
      ap (λ r. get_or numbers ((t * r + j) * r + k) 0) e
      ∙ whole.each ((t * rank s + j) * rank s + k) (constant_below (rank s) t j k t_below j_below k_below)
      ∙ ap (λ u. constant_value ring s u (((t * rank s + j) * rank s + k) / rank s % rank s) (((t * rank s + j) * rank s + k) % rank s)) (digit_high (rank s) t j k j_below k_below)
      ∙ ap (λ u. constant_value ring s t u (((t * rank s + j) * rank s + k) % rank s)) (digit_middle (rank s) t j k j_below k_below)
      ∙ ap (λ u. constant_value ring s t j u) (column_at (rank s) (t * rank s + j) k k_below)
    where
      whole : IsTabulated (rank s * rank s * rank s) (constant_number ring s) numbers
      whole = subst (λ r. IsTabulated (r * r * r) (constant_number ring s) numbers) e T
