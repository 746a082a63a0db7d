-- The dimension of a simple: the members of its class are a part of the group.
use Rattle.transport.proofs.Names.{◌≡◌, ℕ, ◌*◌, ◌<◌, List, length, get_or, sym, ap, ◌∙◌, arith, get_or_default_zero, Below, below_equal, finite_below, total_ext, total_pick, pick, IsGroup, Table, representative_of, transporter_of, transporter_is, cyclotomic, value_one, CyclotomicValue, whole, Setting, Classes, IsPart, in_class, dimension, All-get_or, IsMember, members_are, member_below, members_exactly, member_itself, representative_same, in_class_true, in_class_of, dimension_is, dimension_of_class, vacuum_class, SimplesOver, count, degree_at, dimension_at, AreSimples}
use Rattle.group_table.proofs.Numbers.{passing_below-ascending}
use Rattle.classes.specs.Conjugacy.{conjugate, is_conjugate, members_of}
use Rattle.transport.proofs.Doubles.{double_classes}
use Rattle.transport.proofs.DoubleSimples.{setting, simples, at, represents, whole_multiple}
use Rattle.transport.proofs.GoodTables.{first, vacuum}

-- the members of a class ascend, so that each stands at one place
member_injective : (t : Table) (a p r : ℕ) → p < length (members_of t a) → r < length (members_of t a) → get_or (members_of t a) p 0 ≡ get_or (members_of t a) r 0 → p ≡ r
unfolding members_of
member_injective t a p r p_below r_below e =
    let up = passing_below-ascending t.order (is_conjugate t a) in
    grind (arith, e, up p r, up r p)

module _ (k : ℕ) (s : SimplesOver) (S : AreSimples k s) where
  abbrev T : Setting (CyclotomicValue k) (Below s.cocycle.group.order)
  T = setting k s S

  abbrev C : Classes (setting k s S).group
  C = double_classes s.cocycle S.cocycle

  abbrev t : Table
  t = s.cocycle.group

  lawful : IsGroup s.cocycle.group
  lawful = S.cocycle.cochain.group

  module _ (i : Below (count k s)) where
    abbrev a : ℕ
    a = (at k s S i).value

    abbrev members : List ℕ
    members = members_of s.cocycle.group (at k s S i).value

    pub some_member : 0 < length (members_of s.cocycle.group (at k s S i).value)
    some_member = let (p, there, stands) = member_itself t lawful a (at k s S i).below in omega (arith, there)

    abbrev member : Below (length (members_of s.cocycle.group (at k s S i).value)) → Below s.cocycle.group.order
    member p = record { value = get_or members p.value 0; below = member_below t lawful a p.value p.below }

    member_part : IsPart (in_class T C (simples k s S) i) member
    member_part = record {
      injective = λ p r e. below_equal p r (member_injective t a p.value r.value p.below r.below (ap (λ (x : Below s.cocycle.group.order). x.value) e));
      within = λ p.
          let here : IsMember t a (get_or members p.value 0) = All-get_or (IsMember t a) members p.value 0 p.below (members_are t lawful a) in
          in_class_of T C (simples k s S) i (member p)
          (below_equal _ _ (sym (representative_same t lawful a (get_or members p.value 0) (at k s S i).below here.below here.conjugates) ∙ (represents k s S i).represents));
      found = λ x inside.
          let same : representative_of t x.value ≡ a = ap (λ (y : Below s.cocycle.group.order). y.value) (in_class_true T C (simples k s S) i x inside) in
          let there = transporter_is t lawful x.value x.below in
          let (p, below, stands) = (members_exactly t lawful a x.value (at k s S i).below).1
          (transporter_of t x.value, there.below, ap (conjugate t (transporter_of t x.value)) (sym same) ∙ there.carries) in
          (record { value = p; below = below }, below_equal _ _ (sym (get_or_default_zero members p x.value below) ∙ stands));
    }

    -- the abstract dimension is the size of the class times the degree
    pub dimension_whole : dimension T C (simples k s S) i ≡ whole k (dimension_at k s i.value)
    dimension_whole =
        dimension_of_class T C (simples k s S) i (finite_below (length members) some_member) member member_part
        ∙ sym (whole_multiple k (length members * degree_at k s i.value))

  -- the vacuum has the dimension 1
  pub vacuum_dimension : dimension T C (simples k s S) (first k s S) ≡ value_one (cyclotomic k)
  vacuum_dimension =
      let v = first k s S in
      dimension_is T C (simples k s S) v
      ∙ total_ext T.ring T.finite _ _ (λ g. ap (λ b. pick T.ring b ((simples k s S).value v T.group.one)) (vacuum_class T C (simples k s S) v (vacuum k s S) g))
      ∙ total_pick T.ring T.finite T.group.one (λ g. (simples k s S).value v T.group.one)
      ∙ (vacuum k s S).values_one T.group.one
