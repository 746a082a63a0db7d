-- A product of an additive map and a 2-cocycle is a 3-cocycle (cup product).
use Rattle.cocycle_make.proofs.Names.{◌≡◌, ℕ, ◌+◌, ◌*◌, ◌/◌, ◌%◌, ◌<◌, None, refl, sym, ap, ◌∙◌, arith, zero-mod, mul-add, add-mul, mul_assoc, mul_comm, div-add-mod', Same, same_of, same_sym, same_trans, same_add_right, same_mul_left, same_mul_right, IsGroupBelow, product, identity_of, table_by, exponents_by, cochain_of, cocycle_fault, IsLawful, lawful}
use Rattle.group_make.proofs.Tables.{product_by, table_group, table_identity}

-- laws for a formula of products are laws for its table
pub lawful_by : (n e : ℕ) (op : ℕ → ℕ → ℕ) → IsGroupBelow n op e → (roots : ℕ) (at : ℕ → ℕ → ℕ → ℕ) → IsLawful n op e roots at
    → cocycle_fault (cochain_of (table_by n op) roots (exponents_by n at)) ≡ None
lawful_by n e op B roots at L = lawful (table_by n op) (table_group n e op B) roots at by
  where
    unit : identity_of (table_by n op) ≡ e
    unit = table_identity n e op B

    by : IsLawful n (product (table_by n op)) (identity_of (table_by n op)) roots at
    by = record {
      first = λ h k q r. rw unit (L.first h k q r);
      second = λ g k p r. rw unit (L.second g k p r);
      third = λ g h p q. rw unit (L.third g h p q);
      closed = λ g h k l p q r s. rw (product_by n h k op q r, product_by n g h op p q, product_by n k l op r s) (L.closed g h k l p q r s);
    }

-- an additive map f and a 2-cocycle c, both modulo m, with so many turns of q
pub record IsCup (n : ℕ) (op : ℕ → ℕ → ℕ) (e m roots q : ℕ) (f : ℕ → ℕ) (c : ℕ → ℕ → ℕ) : Type 0 where
  pub turns : Same roots (q * m) 0
  pub additive : (g h : ℕ) → g < n → h < n → Same m (f (op g h)) (f g + f h)
  pub unit : f e ≡ 0
  pub left : (h : ℕ) → h < n → c e h ≡ 0
  pub right : (h : ℕ) → h < n → c h e ≡ 0
  pub closed : (h k l : ℕ) → h < n → k < n → l < n → Same m (c h k + c (op h k) l) (c k l + c h (op k l))

-- a congruence modulo m, scaled by q
scaled : (m roots q a b : ℕ) → Same roots (q * m) 0 → Same m a b → Same roots (q * a) (q * b)
scaled m roots q a b turns same = same_trans (rest a) (same_trans (same_of roots (ap (λ z. q * z) same.same)) (same_sym (rest b)))
  where
    rest : (x : ℕ) → Same roots (q * x) (q * (x % m))
    rest x =
        let whole : q * (x / m * m + x % m) ≡ q * m * (x / m) + q * (x % m) = mul-add q (x / m * m) (x % m) ∙ ap (λ z. z + q * (x % m)) (ap (λ z. q * z) (mul_comm (x / m) m) ∙ sym (mul_assoc q m (x / m))) in
        let none : Same roots (q * m * (x / m)) 0 = same_trans (same_mul_right (x / m) turns) (same_of roots (let z : 0 * (x / m) ≡ 0 = omega arith in z)) in
        same_trans (same_of roots (ap (λ z. q * z) (sym (div-add-mod' x m)) ∙ whole))
        (same_trans (same_add_right (q * (x % m)) none) (same_of roots (let z : 0 + q * (x % m) ≡ q * (x % m) = omega arith in z)))

cup_step : (m roots q fg fh fgh hk hk_l kl h_kl : ℕ) → Same roots (q * m) 0 → Same m fgh (fg + fh) → Same m (hk + hk_l) (kl + h_kl)
    → Same roots (q * fg * hk + q * fg * hk_l + q * fh * kl) (q * fgh * kl + q * fg * h_kl)
cup_step m roots q fg fh fgh hk hk_l kl h_kl turns additive closed =
    let front : q * fg * hk + q * fg * hk_l + q * fh * kl ≡ q * (fg * (hk + hk_l) + fh * kl) =
    rw (mul-add q (fg * (hk + hk_l)) (fh * kl), mul-add fg hk hk_l, mul-add q (fg * hk) (fg * hk_l), mul_assoc q fg hk, mul_assoc q fg hk_l, mul_assoc q fh kl) refl in
    let back : q * fgh * kl + q * fg * h_kl ≡ q * (fgh * kl + fg * h_kl) =
    rw (mul-add q (fgh * kl) (fg * h_kl), mul_assoc q fgh kl, mul_assoc q fg h_kl) refl in
    let middle : fg * (kl + h_kl) + fh * kl ≡ (fg + fh) * kl + fg * h_kl = rw (mul-add fg kl h_kl, add-mul fg fh kl) (omega arith) in
    let inner : Same m (fg * (hk + hk_l) + fh * kl) (fgh * kl + fg * h_kl) =
    same_trans (same_add_right (fh * kl) (same_mul_left fg closed)) (same_trans (same_of m middle) (same_add_right (fg * h_kl) (same_mul_right kl (same_sym additive)))) in
    same_trans (same_of roots front) (same_trans (scaled m roots q _ _ turns inner) (same_of roots (sym back)))

pub cup : (n : ℕ) (op : ℕ → ℕ → ℕ) (e m roots q : ℕ) (f : ℕ → ℕ) (c : ℕ → ℕ → ℕ) → IsCup n op e m roots q f c → IsLawful n op e roots (λ x y z. q * f x * c y z)
cup n op e m roots q f c C = record {
  first = λ h k p r. ap (λ z. z % roots) (let none : q * f e * c h k ≡ 0 = rw C.unit (omega arith) in none) ∙ zero-mod roots;
  second = λ g k p r. ap (λ z. z % roots) (let none : q * f g * c e k ≡ 0 = rw (C.left k r) (omega arith) in none) ∙ zero-mod roots;
  third = λ g h p r. ap (λ z. z % roots) (let none : q * f g * c h e ≡ 0 = rw (C.right h r) (omega arith) in none) ∙ zero-mod roots;
  closed = λ g h k l p r s t. cup_step m roots q _ _ _ _ _ _ _ C.turns (C.additive g h p r) (C.closed h k l r s t);
}
