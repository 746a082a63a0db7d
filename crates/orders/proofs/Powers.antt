-- Powers and inverses in a finite group.
use Rattle.std.proofs.Common.{◌≡◌, ℕ, zero, suc, ◌+◌, ◌*◌, ◌/◌, ◌%◌, ◌<◌, refl, sym, ap, ◌∙◌, add-zero, add-suc, mul-zero, mul-suc}
use Rattle.std.proofs.Math.Nat.{div-add-mod}
use Rattle.orders.specs.Group.{IsGroupBelow, power}

module _ (n : ℕ) (op : ℕ → ℕ → ℕ) (unit : ℕ) (G : IsGroupBelow n op unit) where
  -- a power of an element is an element
  pub power_below : (g j : ℕ) → g < n → power op unit g j < n
  unfolding power
  power_below g zero p = G.unit_below
  power_below g (suc j) p = G.closed (power op unit g j) g (power_below g j p) p

  -- g^1 = g
  pub power_one : (g : ℕ) → g < n → power op unit g 1 ≡ g
  unfolding power
  power_one g p = G.unit_left g p

  -- g^(i + j) = g^i g^j
  pub power_add : (g i j : ℕ) → g < n → power op unit g (i + j) ≡ op (power op unit g i) (power op unit g j)
  unfolding power
  power_add g i zero p = rw add-zero (sym (G.unit_right (power op unit g i) (power_below g i p)))
  power_add g i (suc j) p =
      rw add-suc (ap (λ x. op x g) (power_add g i j p)
      ∙ G.associative (power op unit g i) (power op unit g j) g (power_below g i p) (power_below g j p) p)

  -- g^(i j) = (g^i)^j
  pub power_product : (g i j : ℕ) → g < n → power op unit g (i * j) ≡ power op unit (power op unit g i) j
  unfolding power
  power_product g i zero p = rw mul-zero
  power_product g i (suc j) p =
      rw mul-suc (power_add g (i * j) i p ∙ ap (λ x. op x (power op unit g i)) (power_product g i j p))

  -- each power of the identity is the identity
  pub power_unit : (j : ℕ) → power op unit unit j ≡ unit
  unfolding power
  power_unit zero = refl
  power_unit (suc j) = ap (λ x. op x unit) (power_unit j) ∙ G.unit_right unit G.unit_below

  -- h undoes g from the right
  undo_right : (x g h : ℕ) → x < n → g < n → h < n → op g h ≡ unit → op (op x g) h ≡ x
  undo_right x g h p q r e = G.associative x g h p q r ∙ ap (λ y. op x y) e ∙ G.unit_right x p

  -- an inverse on the right is an inverse on the left
  pub right_inverse_left : (g h : ℕ) → g < n → h < n → op g h ≡ unit → op h g ≡ unit
  right_inverse_left g h p q e =
      let (k, r, d) = G.right_inverse h q in
      sym (undo_right (op h g) h k (G.closed h g q p) q r d)
      ∙ ap (λ x. op x k) (G.associative h g h q p q ∙ ap (λ x. op h x) e ∙ G.unit_right h q)
      ∙ d

  -- a factor on the right cancels
  pub cancel_right : (x y g : ℕ) → x < n → y < n → g < n → op x g ≡ op y g → x ≡ y
  cancel_right x y g p q r e =
      let (h, s, d) = G.right_inverse g r in
      sym (undo_right x g h p r s d) ∙ ap (λ z. op z h) e ∙ undo_right y g h q r s d

  -- h undoes g from the left
  undo_left : (x g h : ℕ) → x < n → g < n → h < n → op h g ≡ unit → op h (op g x) ≡ x
  undo_left x g h p q r e = sym (G.associative h g x r q p) ∙ ap (λ y. op y x) e ∙ G.unit_left x p

  -- a factor on the left cancels
  pub cancel_left : (x y g : ℕ) → x < n → y < n → g < n → op g x ≡ op g y → x ≡ y
  cancel_left x y g p q r e =
      let (h, s, d) = G.right_inverse g r in
      let left = right_inverse_left g h r s d in
      sym (undo_left x g h p r s left) ∙ ap (op h) e ∙ undo_left y g h q r s left

  -- an element has one inverse
  pub inverse_unique : (g h k : ℕ) → g < n → h < n → k < n → op g h ≡ unit → op g k ≡ unit → h ≡ k
  inverse_unique g h k p q r e d = cancel_left h k g q r p (e ∙ sym d)

  -- two powers that agree: the power by their distance is the identity
  pub power_repeats : (g i d : ℕ) → g < n → power op unit g i ≡ power op unit g (i + d) → power op unit g d ≡ unit
  power_repeats g i d p e =
      sym (cancel_left unit (power op unit g d) (power op unit g i) G.unit_below (power_below g d p) (power_below g i p)
      (G.unit_right (power op unit g i) (power_below g i p) ∙ e ∙ power_add g i d p))

  -- a power by a multiple of k is the identity, if that by k is
  pub power_multiple : (g k q : ℕ) → g < n → power op unit g k ≡ unit → power op unit g (k * q) ≡ unit
  power_multiple g k q p e = power_product g k q p ∙ ap (λ x. power op unit x q) e ∙ power_unit q

  -- only the remainder modulo k matters, if the power by k is the identity
  pub power_modulo : (g k j : ℕ) → g < n → power op unit g k ≡ unit → power op unit g (j % k) ≡ power op unit g j
  power_modulo g k j p e =
      let parts : j ≡ k * (j / k) + j % k = sym (div-add-mod j k) in
      sym (G.unit_left (power op unit g (j % k)) (power_below g (j % k) p))
      ∙ ap (λ x. op x (power op unit g (j % k))) (sym (power_multiple g k (j / k) p e))
      ∙ sym (power_add g (k * (j / k)) (j % k) p)
      ∙ ap (power op unit g) (sym parts)
