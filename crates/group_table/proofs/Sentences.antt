-- The laws of a group as plain sentences, from a table that breaks none.
use Rattle.std.proofs.Common.{◌≡◌, ℕ, ◌<◌, true, nat_eq, nat_lt, Some, None, sym, ap, ◌∙◌, arith, ◌%◌}
use Rattle.std.specs.Prelude.{List, slice_index, is_some, unwrap_or}
use Rattle.std.proofs.lemmas.Bool.{ltb-true, eqb-true}
use Rattle.scan.proofs.Places.{or_none, and_true, first_none-at, first_some, all_below-at}
use Rattle.scan.proofs.Searches.{passes, let_through, some_of}
use Rattle.orders.specs.Group.{IsGroupBelow, power}
use Rattle.orders.proofs.Powers.{power_modulo, right_inverse_left}
use Rattle.orders.proofs.Exponents.{power_of_size}
use Rattle.group_table.specs.Group.{Table, product, entry_fault, is_identity, two_sided_identity, identity_of, identity_fault, inverse_of, inverse, inverse_fault, associates, associativity_fault, group_fault, IsGroup, ListsInverses}
use Rattle.group_table.specs.declared.fault.GroupFault.TheVariants.{Entry, NoIdentity, NoInverse, NotAssociative}

pub product_below : (t : Table) (g h : ℕ) → entry_fault t ≡ None → g < t.order → h < t.order → product t g h < t.order
product_below t g h lawful g_below h_below =
    ltb-true _ _ (passes (nat_lt (product t g h) t.order) (Entry g h) (first_none-at t.order h _ (first_none-at t.order g _ lawful g_below) h_below))

-- no law is broken exactly where each one of the four holds
pub record Laws (t : Table) : Type 0 where
  pub entries : entry_fault t ≡ None
  pub has_identity : identity_fault t ≡ None
  pub inverses : inverse_fault t ≡ None
  pub associativity : associativity_fault t ≡ None

pub laws_of : (t : Table) → group_fault t ≡ None → Laws t
unfolding group_fault
laws_of t lawful =
    let a = or_none (entry_fault t) _ lawful in
    let b = or_none (identity_fault t) _ a.1 in
    let c = or_none (inverse_fault t) _ b.1 in
    record { entries = a.0; has_identity = b.0; inverses = c.0; associativity = c.1 }

pub record IsIdentity (t : Table) (e : ℕ) : Type 0 where
  pub below : e < t.order
  pub left : (h : ℕ) → h < t.order → product t e h ≡ h
  pub right : (h : ℕ) → h < t.order → product t h e ≡ h

identity_at : (t : Table) (e : ℕ) → two_sided_identity t ≡ Some e → IsIdentity t e
identity_at t e found =
    let f = first_some t.order _ e found in
    let here = let_through (is_identity t f.place) f.place e f.here in
    let all : is_identity t e ≡ true = sym (ap (is_identity t) here.1) ∙ here.0 in
    record {
      below = let b : f.place < t.order = f.below in let same : f.place ≡ e = here.1 in omega arith;
      left = λ h below. eqb-true _ _ (and_true _ _ (all_below-at t.order h _ all below)).0;
      right = λ h below. eqb-true _ _ (and_true _ _ (all_below-at t.order h _ all below)).1;
    }

-- a group has an identity
pub identity_is : (t : Table) → identity_fault t ≡ None → IsIdentity t (identity_of t)
identity_is t lawful =
    let found = some_of (two_sided_identity t) (passes (is_some (two_sided_identity t)) NoIdentity lawful) in
    let same : identity_of t ≡ found.0 = ap (λ o. unwrap_or o 0) found.1 in
    rw same (identity_at t found.0 found.1)

-- every element has a right inverse
pub record IsInverse (t : Table) (g h : ℕ) : Type 0 where
  pub below : h < t.order
  pub right : product t g h ≡ identity_of t

pub inverse_at : (t : Table) (g h : ℕ) → inverse_of t g ≡ Some h → IsInverse t g h
inverse_at t g h found =
    let f = first_some t.order _ h found in
    let here = let_through (nat_eq (product t g f.place) (identity_of t)) f.place h f.here in
    let b : f.place < t.order = f.below in
    let same : f.place ≡ h = here.1 in
    record { below = omega arith; right = rw (← same) (eqb-true _ _ here.0) }

pub has_inverse : (t : Table) (g : ℕ) → inverse_fault t ≡ None → g < t.order → (h : ℕ) × (inverse_of t g ≡ Some h)
has_inverse t g lawful below = some_of (inverse_of t g) (passes (is_some (inverse_of t g)) (NoInverse g) (first_none-at t.order g _ lawful below))

pub associative : (t : Table) (g h k : ℕ) → associativity_fault t ≡ None → g < t.order → h < t.order → k < t.order
    → product t (product t g h) k ≡ product t g (product t h k)
associative t g h k lawful g_below h_below k_below =
    eqb-true _ _
    (passes (associates t g h k) (NotAssociative g h k) (first_none-at t.order k _ (first_none-at t.order h _ (first_none-at t.order g _ lawful g_below) h_below) k_below))

-- the sentences of a group

pub laws : (t : Table) → IsGroup t → Laws t
laws t group = laws_of t group.lawful

pub identity_below : (t : Table) → IsGroup t → identity_of t < t.order
identity_below t group = (identity_is t (laws t group).has_identity).below

pub closed : (t : Table) (g h : ℕ) → IsGroup t → g < t.order → h < t.order → product t g h < t.order
closed t g h group g_below h_below = product_below t g h (laws t group).entries g_below h_below

-- a group by its table is a group whose elements are the numbers below its order
pub group_below : (t : Table) → IsGroup t → IsGroupBelow t.order (product t) (identity_of t)
group_below t group =
    let sentences = laws t group in
    let identity = identity_is t sentences.has_identity in
    record {
      unit_below = identity.below;
      closed = λ g h p q. product_below t g h sentences.entries p q;
      unit_left = λ g p. identity.left g p;
      unit_right = λ g p. identity.right g p;
      right_inverse = λ g p.
          let (h, found) = has_inverse t g sentences.inverses p in
          let inverse = inverse_at t g h found in
          (h, inverse.below, inverse.right);
      associative = λ g h k p q r. associative t g h k sentences.associativity p q r;
    }

-- the inverse is found
pub inverse_found : (t : Table) (g : ℕ) → IsGroup t → g < t.order → inverse_of t g ≡ Some (inverse t g)
inverse_found t g group below =
    let (h, found) = has_inverse t g (laws t group).inverses below in
    found ∙ ap (λ o. Some (unwrap_or o 0)) (sym found)

-- the inverse is an element whose product with g, on either side, is the identity
pub record IsTwoSidedInverse (t : Table) (g h : ℕ) : Type 0 where
  pub below : h < t.order
  pub right : product t g h ≡ identity_of t
  pub left : product t h g ≡ identity_of t

pub two_sided : (t : Table) (g h : ℕ) → IsGroup t → g < t.order → inverse_of t g ≡ Some h → IsTwoSidedInverse t g h
two_sided t g h group g_below found =
    let inverse = inverse_at t g h found in
    record {
      below = inverse.below;
      right = inverse.right;
      left = right_inverse_left _ _ _ (group_below t group) g h g_below inverse.below inverse.right;
    }

pub two_sided_inverse : (t : Table) → IsGroup t → (g : ℕ) → g < t.order → IsTwoSidedInverse t g (inverse t g)
two_sided_inverse t group g below = two_sided t g (inverse t g) group below (inverse_found t g group below)

-- so is the number that stands in the list of inverses
pub listed_inverse : (t : Table) (inverses : List ℕ) (g : ℕ) → IsGroup t → ListsInverses t inverses → g < t.order
    → IsTwoSidedInverse t g (slice_index inverses g)
listed_inverse t inverses g group lists below = two_sided t g _ group below (lists.each g below)

-- only the remainder modulo the order of the group matters
pub power_reduced : (t : Table) (g j : ℕ) → IsGroup t → g < t.order
    → power (product t) (identity_of t) g (j % t.order) ≡ power (product t) (identity_of t) g j
power_reduced t g j group g_below =
    power_modulo _ _ _ (group_below t group) g t.order j g_below (power_of_size _ _ _ (group_below t group) g g_below)
