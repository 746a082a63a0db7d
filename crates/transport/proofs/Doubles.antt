-- The twisted quantum double of a cocycle, as the setting of full characters.
use Rattle.transport.proofs.Names.{◌≡◌, ℕ, ◌+◌, ◌*◌, ◌/◌, ◌%◌, ◌<◌, true, refl, sym, ap, ◌∙◌, arith, zero-mul, mul_comm, mul_assoc, Below, below_equal, finite_below, representative_of, transporter_of, transporter_is, Cochain, IsCocycle, is_conductor, cyclotomic, CyclotomicValue, cyclotomic_ring, root, root_modulo, root_conjugate, conjugation, group, exponent, Setting, Classes, div-add-mod, add-mul, mul-add-mod_self_left, representative_below, representative_of_conjugate, three_cocycle, classes_by_conjugates, root_exponent}
use Rattle.algebra.specs.Roots.{Roots}
use Rattle.algebra.specs.Congruences.{Same}
use Rattle.classes.specs.Conjugacy.{conjugate}
use Rattle.cyclotomic.proofs.Images.{root-zero, root-sum}

-- a multiple of a number modulo the same multiple of a modulus
scaled_mod : (n q v k : ℕ) → q * n ≡ k → (v * q) % k ≡ (v % n * q) % k
scaled_mod n q v k whole =
    let turned : n * (v / n) * q ≡ k * (v / n) = mul_comm (n * (v / n)) q ∙ sym (mul_assoc q n (v / n)) ∙ ap (λ m. m * (v / n)) whole in
    ap (λ m. m % k) (ap (λ m. m * q) (sym (div-add-mod v n)) ∙ add-mul (n * (v / n)) (v % n) q ∙ ap (λ m. m + v % n * q) turned)
    ∙ mul-add-mod_self_left k (v / n) (v % n * q)

whole_multiple : (k n : ℕ) → k % n ≡ 0 → k / n * n ≡ k
whole_multiple k n multiple = let parts = div-add-mod k n in mul_comm (k / n) n ∙ omega (arith, parts, multiple)

module _ (k : ℕ) (entry : is_conductor k ≡ true) (w : Cochain) (W : IsCocycle w) (multiple : k % w.roots ≡ 0) where
  pub root_same : (v u : ℕ) → Same w.roots v u → root k (root_exponent k w v) ≡ root k (root_exponent k w u)
  root_same v u same =
      let q = k / w.roots in
      let whole = whole_multiple k w.roots multiple in
      root_modulo k entry (v * q)
      ∙ ap (root k) (scaled_mod w.roots q v k whole ∙ ap (λ r. (r * q) % k) same.same ∙ sym (scaled_mod w.roots q u k whole))
      ∙ sym (root_modulo k entry (u * q))

  -- the roots with exponents modulo the number of roots
  abbrev pub phase_roots : Roots (cyclotomic_ring k) w.roots
  phase_roots = record {
    root = λ v. root k (root_exponent k w v);
    root_zero = ap (root k) (zero-mul (k / w.roots)) ∙ root-zero (cyclotomic k);
    root_add = λ v u. ap (root k) (add-mul v u (k / w.roots)) ∙ root-sum (cyclotomic k) (root_exponent k w v) (root_exponent k w u);
    root_same = root_same;
  }

  pub order_positive : 0 < w.group.order
  order_positive = W.cochain.small.from_one

  -- the group, the ring and the phases
  abbrev pub double : Setting (CyclotomicValue k) (Below w.group.order)
  double = record {
    group = group w W;
    finite = finite_below w.group.order order_positive;
    ring = cyclotomic_ring k;
    involution = conjugation k entry;
    modulus = w.roots;
    roots = phase_roots;
    root_bar = λ v. root_conjugate k entry (root_exponent k w v);
    cochain = exponent w;
    cocycle = three_cocycle w W;
  }

module _ (w : Cochain) (W : IsCocycle w) where
  pub conjugate_value_is : (c g : Below w.group.order) → ((group w W).op ((group w W).op c g) ((group w W).inv c)).value ≡ conjugate w.group c.value g.value
  unfolding conjugate
  conjugate_value_is c g = refl

  abbrev pub representative : Below w.group.order → Below w.group.order
  representative g = record { value = representative_of w.group g.value; below = representative_below w.group W.cochain.group g.value g.below }

  abbrev pub carrier : Below w.group.order → Below w.group.order
  carrier g = record { value = transporter_of w.group g.value; below = (transporter_is w.group W.cochain.group g.value g.below).below }

  -- the classes, with least representatives and least transporters
  abbrev pub double_classes : Classes (group w W)
  double_classes =
      classes_by_conjugates (group w W) representative carrier
      (λ g. below_equal _ _ (conjugate_value_is (carrier g) (representative g) ∙ (transporter_is w.group W.cochain.group g.value g.below).carries))
      (λ c g.
      below_equal _ _
      (ap (representative_of w.group) (conjugate_value_is c g) ∙ representative_of_conjugate w.group W.cochain.group c.value g.value c.below g.below))
