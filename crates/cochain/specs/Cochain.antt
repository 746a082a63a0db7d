-- A 3-cochain of a finite group with values in the N-th roots of unity, written by their exponents modulo N, and the
-- first law of a normalised 3-cocycle that it breaks (Dijkgraaf, Pasquier, Roche 1990).
use Rattle.std.specs.Prelude.{◌≡◌, ℕ, ◌+◌, ◌*◌, ◌/◌, ◌%◌, ◌<◌, ◌≤◌, Bool, true, ◌||◌, ◌==◌, List, length, map, slice_index, Option, Some, None, if◌then◌else◌}
use Rattle.std.specs.List.{range_with_len}
use Rattle.scan.specs.First.{option_or, first}
use Rattle.group_table.specs.Group.{Table, product, identity_of, IsGroup, IsSmall}
use Rattle.cochain.specs.declared.fault.CocycleFault.{CocycleFault}
use Rattle.cochain.specs.declared.fault.CocycleFault.TheVariants.{NotNormalised, NotCocycle}

-- a group, how many roots of unity there are, and one exponent for each triple of elements
pub record Cochain : Type 0 where
  pub group : Table
  pub roots : ℕ
  pub exponents : List ℕ

-- the exponents as they are given, taken modulo the number of roots
abbrev pub reduced : ℕ → List ℕ → List ℕ
reduced roots exponents = map (λ v. v % roots) exponents

-- the cochain of a group with these exponents
abbrev pub cochain_of : Table → ℕ → List ℕ → Cochain
cochain_of group roots exponents = record { group = group; roots = roots; exponents = reduced roots exponents }

-- the exponents that a formula gives, one for each triple of elements, in the order of their places
abbrev pub exponents_by : ℕ → (ℕ → ℕ → ℕ → ℕ) → List ℕ
exponents_by n at = map (λ i. at (i / n / n) (i / n % n) (i % n)) (range_with_len 0 (n * n * n))

-- w(g,h,k), an exponent modulo the number of roots
abbrev pub value : Cochain → ℕ → ℕ → ℕ → ℕ
value w g h k = slice_index w.exponents ((g * w.group.order + h) * w.group.order + k)

-- First law: w is 1 wherever an argument is the identity.
abbrev pub has_identity : Cochain → ℕ → ℕ → ℕ → Bool
has_identity w g h k = (g == identity_of w.group) || (h == identity_of w.group) || (k == identity_of w.group)

abbrev pub is_normal_at : Cochain → ℕ → ℕ → ℕ → Bool
is_normal_at w g h k = if has_identity w g h k then value w g h k == 0 else true

abbrev pub normal_fault_in : Cochain → ℕ → ℕ → Option CocycleFault
normal_fault_in w g h = first w.group.order (λ k. if is_normal_at w g h k then None else Some (NotNormalised g h k))

abbrev pub normal_fault : Cochain → Option CocycleFault
normal_fault w = first w.group.order (λ g. first w.group.order (λ h. normal_fault_in w g h))

-- Second law: w(g,h,k) w(g,hk,l) w(h,k,l) = w(gh,k,l) w(g,h,kl), as an equation of sums modulo the number of roots.
abbrev pub left_side : Cochain → ℕ → ℕ → ℕ → ℕ → ℕ
left_side w g h k l = value w g h k + value w g (product w.group h k) l + value w h k l

abbrev pub right_side : Cochain → ℕ → ℕ → ℕ → ℕ → ℕ
right_side w g h k l = value w (product w.group g h) k l + value w g h (product w.group k l)

abbrev pub is_closed_at : Cochain → ℕ → ℕ → ℕ → ℕ → Bool
is_closed_at w g h k l = left_side w g h k l % w.roots == right_side w g h k l % w.roots

abbrev pub closure_fault_in : Cochain → ℕ → ℕ → ℕ → Option CocycleFault
closure_fault_in w g h k = first w.group.order (λ l. if is_closed_at w g h k l then None else Some (NotCocycle g h k l))

abbrev pub closure_fault_at : Cochain → ℕ → ℕ → Option CocycleFault
closure_fault_at w g h = first w.group.order (λ k. closure_fault_in w g h k)

abbrev pub closure_fault : Cochain → Option CocycleFault
closure_fault w = first w.group.order (λ g. first w.group.order (λ h. closure_fault_at w g h))

-- the first law that fails, at its least place
unfoldable pub cocycle_fault : Cochain → Option CocycleFault
cocycle_fault w = option_or (normal_fault w) (closure_fault w)

-- the numbers of roots that the program works with
pub record IsRoots (roots : ℕ) : Type 0 where
  pub from_one : 1 ≤ roots
  pub to_most : roots ≤ 64

-- a cochain of a group: one exponent for each triple, below the number of roots
pub record IsCochain (w : Cochain) : Type 0 where
  pub group : IsGroup w.group
  pub small : IsSmall w.group.order
  pub number : IsRoots w.roots
  pub cube : length w.exponents ≡ w.group.order * w.group.order * w.group.order
  pub below : (i : ℕ) → i < length w.exponents → slice_index w.exponents i < w.roots

-- a normalised 3-cocycle: a cochain that breaks no law
pub record IsCocycle (w : Cochain) : Type 0 where
  pub cochain : IsCochain w
  pub lawful : cocycle_fault w ≡ None
