-- A cocycle of the images under a map that respects products is a cocycle.
use Rattle.cocycle_make.proofs.Names.{◌≡◌, ℕ, ◌%◌, ◌<◌, Bool, true, false, cond, List, None, Some, refl, sym, ap, ◌∙◌, slice_index, zero-mod, eqb-true, first_none-at, IsGroupBelow, Table, product, identity_of, IsGroup, Cochain, value, cocycle_fault, IsCocycle, IsLawful, lawful, inflated, is_multiplicative, map_fault}
use Rattle.group_table.proofs.Sentences.{group_below, identity_below}
use Rattle.cochain.proofs.Sentences.{first_one, second_one, third_one, closed_at}
use Rattle.scan.proofs.Searches.{passes}
use Rattle.cocycle_make.specs.declared.refusal.InflateRefusal.TheVariants.{BadMap}

-- an element that is its own square is the identity
own_square : (n : ℕ) (op : ℕ → ℕ → ℕ) (e x : ℕ) → IsGroupBelow n op e → x < n → op x x ≡ x → x ≡ e
own_square n op e x B below square =
    let (y, y_below, right) = B.right_inverse x below in
    sym (B.unit_right x below) ∙ ap (λ z. op x z) (sym right) ∙ sym (B.associative x x y below below y_below) ∙ ap (λ z. op z y) square ∙ right

module _ (t : Table) (map : List ℕ) (w : Cochain) (T : IsGroup t) (W : IsCocycle w)
    (inside : (g : ℕ) → g < t.order → slice_index map g < w.group.order) (respects : map_fault t map w.group ≡ None) where
  abbrev image : ℕ → ℕ
  image g = slice_index map g

  image_of_product : (g h : ℕ) → g < t.order → h < t.order → image (product t g h) ≡ product w.group (image g) (image h)
  image_of_product g h p q =
      eqb-true _ _ (passes (is_multiplicative t map w.group g h) (BadMap g h) (first_none-at t.order h _ (first_none-at t.order g _ respects p) q))

  unit_below : identity_of t < t.order
  unit_below = identity_below t T

  image_of_identity : image (identity_of t) ≡ identity_of w.group
  image_of_identity =
      let e = identity_of t in
      own_square w.group.order (product w.group) (identity_of w.group) (image e) (group_below w.group W.cochain.group) (inside e unit_below)
      (sym (image_of_product e e unit_below unit_below) ∙ ap image ((group_below t T).unit_left e unit_below))

  laws : IsLawful t.order (product t) (identity_of t) w.roots (λ x y z. value w (image x) (image y) (image z))
  laws = record {
    first = λ h k p q. ap (λ z. z % w.roots) (rw image_of_identity (first_one w W (image h) (image k) (inside h p) (inside k q) below)) ∙ zero-mod w.roots;
    second = λ g k p q. ap (λ z. z % w.roots) (rw image_of_identity (second_one w W (image g) (image k) (inside g p) (inside k q) below)) ∙ zero-mod w.roots;
    third = λ g h p q. ap (λ z. z % w.roots) (rw image_of_identity (third_one w W (image g) (image h) (inside g p) (inside h q) below)) ∙ zero-mod w.roots;
    closed = λ g h k l p q r s.
        rw (image_of_product h k q r, image_of_product g h p q, image_of_product k l r s)
        (record { same = closed_at w W (image g) (image h) (image k) (image l) (inside g p) (inside h q) (inside k r) (inside l s) });
  }
    where
      below : identity_of w.group < w.group.order
      below = identity_below w.group W.cochain.group

  pub inflated_lawful : cocycle_fault (inflated t map w) ≡ None
  inflated_lawful = lawful t T w.roots (λ x y z. value w (image x) (image y) (image z)) laws
