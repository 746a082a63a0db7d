-- Sums over all pairs of elements that commute, and over all simples.
use Rattle.transport.proofs.Names.{◌≡◌, ℕ, zero, suc, ◌+◌, ◌*◌, ◌/◌, ◌%◌, ◌<◌, Bool, true, false, ◌==◌, refl, sym, ap, ap₂, ◌∙◌, arith, if◌then◌else◌, zero-mul, CommRing, sum_below, pick, equals, total, Below, sum_zero, sum_suc, sum_ext, pick_of, pick_off, value_nought, CyclotomicValue, cyclotomic_ring, Formed, where_so, whole, Setting, Commuting, commute_true, sum_split, pick_cong, commuting_test, commuting_sum, commuting_sum_is, group_order_multiple, SimplesOver, count, AreSimples, commute, pair_sum, at_equal}
use Rattle.std.proofs.lemmas.Nat.{div-mul-add, mod-mul-add}
use Rattle.characters.specs.Tables.{group_order}
use Rattle.transport.proofs.Listed.{vacuum_is}
use Rattle.transport.proofs.Doubles.{order_positive}
use Rattle.transport.proofs.DoubleSimples.{setting, divides, whole_multiple}
use Rattle.transport.proofs.CharacterLaws.{where_picked}
use Rattle.transport.proofs.GoodTables.{total_numbers, equals_numbers, numbered}
use Rattle.transport.proofs.Wholes.{whole_product}

-- a sum over p below m n by p / n and p % n is a double sum
pub double_sum : {A : Type 0} (R : CommRing A) (m n : ℕ) (f : ℕ → ℕ → A) → sum_below R (m * n) (λ p. f (p / n) (p % n)) ≡ sum_below R m (λ g. sum_below R n (f g))
double_sum R zero n f = ap (λ a. sum_below R a (λ p. f (p / n) (p % n))) (zero-mul n) ∙ sum_zero R _ ∙ sym (sum_zero R _)
double_sum R (suc m) n f =
    let more : suc m * n ≡ m * n + n = omega arith in
    ap (λ a. sum_below R a (λ p. f (p / n) (p % n))) more ∙ sum_split R (m * n) n _
    ∙ ap₂ R.add (double_sum R m n f) (sum_ext R n _ _ (λ h below. ap₂ f (div-mul-add m n h below) (mod-mul-add m n h below)))
    ∙ sym (sum_suc R m _)

-- a value that a test picks
pub pick_if : (k : ℕ) (test : Bool) (u : CyclotomicValue k) → pick (cyclotomic_ring k) test u ≡ (if test then u else value_nought)
pick_if k true u = pick_of (cyclotomic_ring k) true u refl
pick_if k false u = pick_off (cyclotomic_ring k) false u refl

module _ (k : ℕ) (s : SimplesOver) (S : AreSimples k s) where
  abbrev T : Setting (CyclotomicValue k) (Below s.cocycle.group.order)
  T = setting k s S

  abbrev positive : 0 < s.cocycle.group.order
  positive = order_positive k S.conductor s.cocycle S.cocycle (divides k s S)

  test_is : (g x : Below s.cocycle.group.order) → commuting_test T g x ≡ commute s.cocycle.group g.value x.value
  unfolding commuting_test equals
  test_is g x = refl

  -- a total over the elements
  pub element_sum : (F : Below s.cocycle.group.order → CyclotomicValue k) (f : ℕ → CyclotomicValue k) → ((g : Below s.cocycle.group.order) → F g ≡ f g.value)
      → total (cyclotomic_ring k) T.finite F ≡ sum_below (cyclotomic_ring k) s.cocycle.group.order f
  element_sum F f same = total_numbers (cyclotomic_ring k) s.cocycle.group.order positive F f same

  -- where a test holds
  pub where_commuting : (g x : Below s.cocycle.group.order) (u : CyclotomicValue k) (v : Formed k) → (Commuting T g x → u ≡ v.value)
      → pick (cyclotomic_ring k) (commuting_test T g x) u ≡ (where_so k (commute s.cocycle.group g.value x.value) v).value
  where_commuting g x u v same =
      pick_cong (cyclotomic_ring k) (commuting_test T g x) u v.value (λ h. same (commute_true T g x h))
      ∙ ap (λ b. pick (cyclotomic_ring k) b v.value) (test_is g x) ∙ where_picked k (commute s.cocycle.group g.value x.value) v

  -- a sum over all pairs that commute
  pub pair_sum_is : (F : Below s.cocycle.group.order → Below s.cocycle.group.order → CyclotomicValue k) (f : ℕ → ℕ → Formed k)
      → ((g x : Below s.cocycle.group.order) → Commuting T g x → F g x ≡ (f g.value x.value).value) → commuting_sum T F ≡ (pair_sum k s f).value
  pair_sum_is F f same =
      let n = s.cocycle.group.order in
      commuting_sum_is T F
      ∙ element_sum _ (λ g. sum_below (cyclotomic_ring k) n (λ x. (where_so k (commute s.cocycle.group g x) (f g x)).value))
      (λ g. element_sum _ (λ x. (where_so k (commute s.cocycle.group g.value x) (f g.value x)).value) (λ x. where_commuting g x (F g x) (f g.value x.value) (same g x)))
      ∙ sym (double_sum (cyclotomic_ring k) n n (λ g x. (where_so k (commute s.cocycle.group g x) (f g x)).value))

  -- a total over the simples
  pub simples_sum : (F : Below (count k s) → CyclotomicValue k) (f : ℕ → CyclotomicValue k) → ((i : Below (count k s)) → F i ≡ f i.value)
      → total (cyclotomic_ring k) (numbered k s S) F ≡ sum_below (cyclotomic_ring k) (count k s) f
  simples_sum F f same = total_numbers (cyclotomic_ring k) (count k s) (vacuum_is k s S).0 F f same

  pub at_equal_is : (i j : Below (count k s)) (u v : CyclotomicValue k) → u ≡ v → pick (cyclotomic_ring k) (equals (numbered k s S) i j) u ≡ at_equal k i.value j.value v
  at_equal_is i j u v same =
      ap (pick (cyclotomic_ring k) (equals (numbered k s S) i j)) same ∙ ap (λ b. pick (cyclotomic_ring k) b v) (equals_numbers (count k s) (vacuum_is k s S).0 i j)
      ∙ pick_if k (i.value == j.value) v

  -- the order of the group
  pub order_is : group_order T ≡ whole k s.cocycle.group.order
  order_is = group_order_multiple T ∙ sym (whole_multiple k s.cocycle.group.order)

  pub square_is : T.ring.mul (group_order T) (group_order T) ≡ whole k (s.cocycle.group.order * s.cocycle.group.order)
  square_is = ap₂ T.ring.mul order_is order_is ∙ whole_product k s.cocycle.group.order s.cocycle.group.order
