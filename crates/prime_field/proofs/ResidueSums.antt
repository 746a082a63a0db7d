-- Sums and products modulo q, as those of residues.
use Rattle.prime_field.proofs.Names.{◌≡◌, ℕ, ◌+◌, ◌-◌, ◌*◌, ◌%◌, ◌<◌, true, get_or, drop, List, [], ◌∷◌, ◌++◌, length, length-append, add-one, sym, ◌∙◌, ap, arith, mod-eq_of_lt, mod-mod, mod-add-mod, add-mod-mod, mul-mod_first, mul-mod_second, slice_range, get_or_push, get_or_append_left, get_or-take, get_or-drop, below_more, IsTabulated, Below, below_equal, sum_below, sum_suc, nought_add, neg_mul, power, power_suc, power_mod, RootOfUnity, is_modulus, field, field_residue}

-- remainders of the parts of a sum or product
pub ruleset inner_remainders = (mod-mod, mod-add-mod, add-mod-mod, mul-mod_first, mul-mod_second)

module _ (q : ℕ) (listed : is_modulus q ≡ true) where
  -- the residue of a residue's value
  pub residue_of_value : (x : Below q) → field_residue q listed x.value ≡ x
  residue_of_value x = below_equal _ _ (mod-eq_of_lt x.below)

  -- numbers below q with one residue are one
  pub same_residue : (a b : ℕ) → a < q → b < q → field_residue q listed a ≡ field_residue q listed b → a ≡ b
  same_residue a b a_below b_below e = sym (mod-eq_of_lt a_below) ∙ ap (λ x. x.value) e ∙ mod-eq_of_lt b_below

  pub sum_residue : (a b : ℕ) → field_residue q listed ((a + b) % q) ≡ (field q listed).add (field_residue q listed a) (field_residue q listed b)
  sum_residue a b = below_equal _ _ (simp inner_remainders)

  pub product_residue : (a b : ℕ) → field_residue q listed (a * b % q) ≡ (field q listed).mul (field_residue q listed a) (field_residue q listed b)
  product_residue a b = below_equal _ _ (simp inner_remainders)

  -- one more factor
  pub power_step : (z p i : ℕ) → field_residue q listed p ≡ power (field q listed) (field_residue q listed z) i → field_residue q listed (p * z % q) ≡ power (field q listed) (field_residue q listed z) (i + 1)
  power_step z p i e =
      rw (add-one i, power_suc (field q listed) (field_residue q listed z) i, ← e) (product_residue p z)

  -- the multiple by a power of a root of unity, with the exponent reduced
  pub multiple_residue : (k : ℕ) (u : RootOfUnity (field q listed) k) (e p a : ℕ) → field_residue q listed p ≡ power (field q listed) u.root (e % k)
      → field_residue q listed (p * a % q) ≡ (field q listed).mul (power (field q listed) u.root e) (field_residue q listed a)
  multiple_residue k u e p a h = rw (power_mod (field q listed) u.root k u.cycle e, ← h) (product_residue p a)

  pub plus_product_value : (a x y : ℕ) → (a + x * y) % q ≡ ((field q listed).add (field_residue q listed a) ((field q listed).mul (field_residue q listed x) (field_residue q listed y))).value
  plus_product_value a x y = simp inner_remainders

  -- a - d c b, with the number q - d c in place of -d c
  pub minus_product_value : (a d c b f : ℕ) → f ≡ ((field q listed).add (field_residue q listed 0) ((field q listed).mul (field_residue q listed d) (field_residue q listed c))).value
      → ((field q listed).add (field_residue q listed a) ((field q listed).mul (field_residue q listed ((q - f) % q)) (field_residue q listed b))).value
      ≡ ((field q listed).add (field_residue q listed a) ((field q listed).neg ((field q listed).mul ((field q listed).mul (field_residue q listed d) (field_residue q listed c)) (field_residue q listed b)))).value
  minus_product_value a d c b f e =
      let R = field q listed in
      let product = R.mul (field_residue q listed d) (field_residue q listed c) in
      let value : f ≡ product.value = e ∙ ap (λ z. z.value) (nought_add R product) in
      let negative : field_residue q listed ((q - f) % q) ≡ R.neg product =
      below_equal _ _ (mod-mod (q - f) q ∙ ap (λ z. (q - z) % q) value) in
      ap (λ z. (R.add (field_residue q listed a) z).value)
      (ap (λ z. R.mul z (field_residue q listed b)) negative ∙ neg_mul R product (field_residue q listed b))

  -- one more term of a sum
  pub sum_step : (i s t : ℕ) (f : ℕ → Below q) (x y : Below q) → s ≡ (sum_below (field q listed) i f).value → f i ≡ (field q listed).mul x y
      → t ≡ ((field q listed).add (field_residue q listed s) ((field q listed).mul x y)).value → t ≡ (sum_below (field q listed) (i + 1) f).value
  sum_step i s t f x y before term e =
      let sum_is : field_residue q listed s ≡ sum_below (field q listed) i f = ap (field_residue q listed) before ∙ residue_of_value _ in
      rw (add-one i, sum_suc (field q listed) i f, term, ← sum_is) e

-- one more value of a table
pub tabulated_push : (n v : ℕ) (value : ℕ → ℕ) (numbers more : List ℕ) → IsTabulated n value numbers → more ≡ numbers ++ v ∷ [] → v ≡ value n → IsTabulated (n + 1) value more
tabulated_push n v value numbers more t e here = rw e (record {
  count = length-append numbers (v ∷ []) ∙ ap (λ m. m + 1) t.count;
  each = below_more (λ k. get_or (numbers ++ v ∷ []) k 0 ≡ value k) n
      (λ k h. get_or_append_left numbers (v ∷ []) 0 k (let size = t.count in omega arith) ∙ t.each k h)
      (get_or_push numbers v 0 n t.count ∙ here);
})

-- a part of a list, number by number
pub at_slice : (numbers : List ℕ) (start size j : ℕ) → j < size → get_or (slice_range numbers start (start + size)) j 0 ≡ get_or numbers (start + j) 0
at_slice numbers start size j h = get_or-take (start + size - start) (drop start numbers) j 0 (omega arith) ∙ get_or-drop start numbers j 0
