-- Tables by formulas.
use Rattle.group_make.proofs.Names.{◌≡◌, ℕ, ◌<◌, List, ◌∙◌, IsGroupBelow, is_group, identity_is_unit, table_by}
use Rattle.group_table.specs.Group.{product, identity_of, IsGroup}
use Rattle.group_table.proofs.Square.{length-by_pairs, pair_at}

-- the product of g and h stands in row g at place h
pub product_by : (n g h : ℕ) (op : ℕ → ℕ → ℕ) → g < n → h < n → product (table_by n op) g h ≡ op g h
product_by n g h op p q = pair_at n op g h p q

-- two formulas that agree on the elements give the same group
pub same_group : (n u : ℕ) (op other : ℕ → ℕ → ℕ) → IsGroupBelow n op u → ((g h : ℕ) → g < n → h < n → other g h ≡ op g h) → IsGroupBelow n other u
same_group n u op other B same = record {
  unit_below = B.unit_below;
  closed = λ g h p q. rw (same g h p q) (B.closed g h p q);
  unit_left = λ g p. same u g B.unit_below p ∙ B.unit_left g p;
  unit_right = λ g p. same g u p B.unit_below ∙ B.unit_right g p;
  right_inverse = λ g p. let (h, q, e) = B.right_inverse g p in (h, q, same g h p q ∙ e);
  associative = λ g h k p q r.
      let first : other g h ≡ op g h = same g h p q in
      let last : other h k ≡ op h k = same h k q r in
      rw (first, last, same (op g h) k (B.closed g h p q) r, same g (op h k) p (B.closed h k q r)) (B.associative g h k p q r);
}

module _ (n u : ℕ) (op : ℕ → ℕ → ℕ) (B : IsGroupBelow n op u) where
  by_table : IsGroupBelow n (product (table_by n op)) u
  by_table = same_group n u op (product (table_by n op)) B (λ g h p q. product_by n g h op p q)

  -- the table of a formula that gives a group is a group
  pub table_group : IsGroup (table_by n op)
  table_group = is_group (table_by n op) u by_table (length-by_pairs n op)

  -- its identity is that of the formula
  pub table_identity : identity_of (table_by n op) ≡ u
  table_identity = identity_is_unit (table_by n op) u by_table

-- a table that lists the products of a formula
pub made_group : (order n : ℕ) (op : ℕ → ℕ → ℕ) (entries : List ℕ) → order ≡ n → entries ≡ (table_by order op).entries → IsGroup (table_by n op)
    → IsGroup (record { order = order; entries = entries })
made_group order n op entries same listed group = rw (listed, same) group
