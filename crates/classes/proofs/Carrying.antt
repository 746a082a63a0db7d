-- The conjugate c x c^-1 in a group whose elements are a type, and the group of a table on its elements as a type.
use Rattle.classes.proofs.Names.{◌≡◌, ℕ, ◌<◌, refl, sym, ◌∙◌, ap, arith, Table, product, identity_of, inverse, IsGroup, two_sided_inverse}
use Rattle.algebra.specs.Groups.{Group}
use Rattle.algebra.specs.Below.{Below, IsGroupBelow}
use Rattle.algebra.proofs.BelowLaws.{group_below}
use Rattle.algebra.proofs.GroupLaws.{group_rules, op_cancel_right}
use Rattle.group_table.proofs.Sentences as sentences

-- c x c^-1
unfoldable pub carry : {G : Type 0} → Group G → G → G → G
carry P c x = P.op (P.op c x) (P.inv c)

module _ {G : Type 0} (P : Group G) where
  pub carry_is : (c x : G) → carry P c x ≡ P.op (P.op c x) (P.inv c)
  unfolding carry
  carry_is c x = refl

  -- by a product: first by its right factor
  pub carry_op : (d c x : G) → carry P (P.op d c) x ≡ carry P d (carry P c x)
  carry_op d c x = simp (carry_is, group_rules, P)

  -- of a product: factor by factor
  pub op_carry : (c x y : G) → carry P c (P.op x y) ≡ P.op (carry P c x) (carry P c y)
  op_carry c x y = simp (carry_is, group_rules, P)

  pub carry_one : (x : G) → carry P P.one x ≡ x
  carry_one x = simp (carry_is, group_rules, P)

  pub one_carry : (c : G) → carry P c P.one ≡ P.one
  one_carry c = simp (carry_is, group_rules, P)

  -- (c x c^-1) c = c x
  pub carry_move : (c x : G) → P.op (carry P c x) c ≡ P.op c x
  carry_move c x = simp (carry_is, group_rules, P)

  pub carry_back : (c x : G) → carry P (P.inv c) (carry P c x) ≡ x
  carry_back c x = simp (carry_is, group_rules, P)

  -- c x c^-1 = x exactly where c and x commute
  pub carry_of_commuting : (c x : G) → P.op c x ≡ P.op x c → carry P c x ≡ x
  carry_of_commuting c x h = op_cancel_right P c (carry P c x) x (carry_move c x ∙ h)

  pub commuting_of_carry : (c x : G) → carry P c x ≡ x → P.op c x ≡ P.op x c
  commuting_of_carry c x h = sym (carry_move c x) ∙ ap (λ y. P.op y c) h

  -- v c^-1 is the conjugate of c^-1 v
  pub carry_left : (c v : G) → carry P c (P.op (P.inv c) v) ≡ P.op v (P.inv c)
  carry_left c v = simp (carry_is, group_rules, P)

-- the element with the number x
abbrev pub element : {n : ℕ} (x : ℕ) → x < n → Below n
element x p = record { value = x; below = p }

pub neither_below : (x y : ℕ) → (x < y → ⊥) → (y < x → ⊥) → x ≡ y
neither_below x y not_below not_above = omega arith

-- equal elements have one number
pub same_value : {n : ℕ} {x y : Below n} → x ≡ y → x.value ≡ y.value
same_value {n} e = ap (λ (z : Below n). z.value) e

-- a group by its table, with its inverses
pub table_group : (t : Table) → IsGroup t → IsGroupBelow t.order (product t) (inverse t) (identity_of t)
table_group t group =
    let g = sentences.group_below t group in
    record {
      one_below = g.unit_below;
      op_below = g.closed;
      inv_below = λ x p. (two_sided_inverse t group x p).below;
      op_assoc = g.associative;
      one_op = g.unit_left;
      op_one = g.unit_right;
      inv_op = λ x p. (two_sided_inverse t group x p).left;
      op_inv = λ x p. (two_sided_inverse t group x p).right;
    }

abbrev pub element_group : (t : Table) → IsGroup t → Group (Below t.order)
element_group t group = group_below (table_group t group)
