-- Tensor characters as sums over the members of a class.
use Rattle.fusion.proofs.Names.{◌≡◌, ◌+◌, ◌<◌, ◌%◌, ◌==◌, ◌&&◌, ℕ, Bool, true, false, length, get_or, refl, sym, ◌∙◌, ap, ap₂, sum_below, IsGroup, class_of, representatives, is_conductor, cyclotomic, value_nought, value_sum, value_product, CyclotomicValue, cyclotomic_ring, root, root_modulo, Formed, gamma, SimplesOver, class_at, root_exponent, full_character, commute, left_quotient, tensor_character, add-one, sum_suc, turned_product, where_so, tensor_term, members_at, tensor_part}
use Rattle.cyclotomic.specs.Laws.Values.{product_comm, sum_nought}
use Rattle.cyclotomic.proofs.Images.{root-zero}
use Rattle.algebra.proofs.RingLaws.{one_mul}
use Rattle.qd_ring.proofs.SpreadLaws.{product-nought}
use Rattle.fusion.proofs.MemberSums.{sum_of_members}

module _ (k : ℕ) where
  -- what isn't so is 0, what is so is itself
  unless_value : (test : Bool) (u : Formed k) → test ≡ false → (where_so k test u).value ≡ value_nought
  unless_value test u none = ap (λ b. (where_so k b u).value) none

  pub as_value : (test : Bool) (u : Formed k) → test ≡ true → (where_so k test u).value ≡ u.value
  as_value test u so = ap (λ b. (where_so k b u).value) so

  pub nought_product : (u v : CyclotomicValue k) → u ≡ value_nought → value_product (cyclotomic k) u v ≡ value_nought
  nought_product u v none = ap (λ a. value_product (cyclotomic k) a v) none ∙ product_comm (cyclotomic k) value_nought v ∙ product-nought (cyclotomic k) v

  pub product_nought : (u v : CyclotomicValue k) → v ≡ value_nought → value_product (cyclotomic k) u v ≡ value_nought
  product_nought u v none = ap (value_product (cyclotomic k) u) none ∙ product-nought (cyclotomic k) u

module _ (k : ℕ) (s : SimplesOver) where
  -- a full character is 0 outside of the class
  pub full_outside : (i g x : ℕ) → (class_of s.cocycle.group g == class_at k s i) ≡ false → (full_character k s i g x).value ≡ value_nought
  full_outside i g x other = unless_value k (class_of s.cocycle.group g == class_at k s i) _ other

  -- the part where a factor is 0, and where h doesn't commute with x
  pub part_without : (i j g x h : ℕ)
      → value_product (cyclotomic k) (full_character k s i h x).value (full_character k s j (left_quotient s.cocycle.group h g) x).value ≡ value_nought
      → (tensor_part k s i j g x h).value ≡ value_nought
  part_without i j g x h none = by (commute s.cocycle.group h x)
    where
      by : (b : Bool) → (where_so k b (tensor_term k s i j g x h)).value ≡ value_nought
      by true = product_nought k (root k (root_exponent k s.cocycle (gamma s.cocycle x h (left_quotient s.cocycle.group h g)))) _ none
      by false = refl

  pub part_apart : (i j g x h : ℕ) → commute s.cocycle.group h x ≡ false → (tensor_part k s i j g x h).value ≡ value_nought
  part_apart i j g x h apart = unless_value k (commute s.cocycle.group h x) (tensor_term k s i j g x h) apart

  pub part_first : (i j g x h : ℕ) → (full_character k s i h x).value ≡ value_nought → (tensor_part k s i j g x h).value ≡ value_nought
  part_first i j g x h none = part_without i j g x h (nought_product k _ _ none)

  pub part_second : (i j g x h : ℕ) → (full_character k s j (left_quotient s.cocycle.group h g) x).value ≡ value_nought → (tensor_part k s i j g x h).value ≡ value_nought
  part_second i j g x h none = part_without i j g x h (product_nought k _ _ none)

  -- the part where h doesn't commute with x, or the second element is of another class
  pub part_missed : (i j g x h : ℕ) → (commute s.cocycle.group h x && (class_of s.cocycle.group (left_quotient s.cocycle.group h g) == class_at k s j)) ≡ false
      → (tensor_part k s i j g x h).value ≡ value_nought
  part_missed i j g x h missed = by (commute s.cocycle.group h x) refl
    where
      other : ℕ
      other = left_quotient s.cocycle.group h g

      by : (b : Bool) → commute s.cocycle.group h x ≡ b → (tensor_part k s i j g x h).value ≡ value_nought
      by true so = part_second i j g x h (full_outside j other x (sym (ap (λ b. b && (class_of s.cocycle.group other == class_at k s j)) so) ∙ missed))
      by false apart = part_apart i j g x h apart

  -- the part where h commutes with x, by its factors
  pub part_is : is_conductor k ≡ true → (i j g x h e : ℕ) (u v : CyclotomicValue k) → commute s.cocycle.group h x ≡ true
      → e ≡ root_exponent k s.cocycle (gamma s.cocycle x h (left_quotient s.cocycle.group h g)) % k
      → u ≡ (full_character k s i h x).value → v ≡ (full_character k s j (left_quotient s.cocycle.group h g) x).value
      → turned_product k e u v ≡ (tensor_part k s i j g x h).value
  part_is entry i j g x h e u v so reduced first second =
      ap₂ (λ r w. value_product (cyclotomic k) r w) (ap (root k) reduced ∙ sym (root_modulo k entry _)) (ap₂ (value_product (cyclotomic k)) first second)
      ∙ sym (as_value k (commute s.cocycle.group h x) (tensor_term k s i j g x h) so)

  -- the tensor character is the sum of the parts of the members of the class of i
  pub tensor_of_members : IsGroup s.cocycle.group → (i j g x : ℕ) → class_at k s i < length (representatives s.cocycle.group)
      → (tensor_character k s i j g x).value ≡ sum_below (cyclotomic_ring k) (length (members_at k s i)) (λ q. (tensor_part k s i j g x (get_or (members_at k s i) q 0)).value)
  tensor_of_members G i j g x class_below =
      sum_of_members (cyclotomic_ring k) s.cocycle.group G (class_at k s i) class_below (λ h. (tensor_part k s i j g x h).value)
      (λ h below other. part_first i j g x h (full_outside i h x other))

module _ (k : ℕ) where
  -- what is 0 adds nothing
  pub left_out : (sum u : CyclotomicValue k) → u ≡ value_nought → sum ≡ value_sum sum u
  left_out sum u none = sym (ap (value_sum sum) none ∙ sum_nought (cyclotomic k) sum)

  -- a product with the root 1
  pub turned_none : (e : ℕ) (u v : CyclotomicValue k) → e ≡ 0 → turned_product k e u v ≡ value_product (cyclotomic k) u v
  turned_none e u v none =
      ap (λ r. value_product (cyclotomic k) r (value_product (cyclotomic k) u v)) (ap (root k) none ∙ root-zero (cyclotomic k))
      ∙ one_mul (cyclotomic_ring k) (value_product (cyclotomic k) u v)

  -- one more term that is 0
  pub nought_more : (value : ℕ → CyclotomicValue k) (n : ℕ) → sum_below (cyclotomic_ring k) n value ≡ value_nought → value n ≡ value_nought
      → sum_below (cyclotomic_ring k) (n + 1) value ≡ value_nought
  nought_more value n before none =
      ap (λ m. sum_below (cyclotomic_ring k) m value) (add-one n) ∙ sum_suc (cyclotomic_ring k) n value
      ∙ sym (left_out (sum_below (cyclotomic_ring k) n value) (value n) none) ∙ before
