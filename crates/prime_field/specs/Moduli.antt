-- The moduli of the fields, and the first condition of a modulus that a number doesn't meet (this project's choice).
use Rattle.std.specs.Prelude.{◌≡◌, ℕ, ◌%◌, ◌≤◌, ◌<◌, ◌==◌, ◌&&◌, nat_lt, Bool, List, [], ◌∷◌, Option, Some, None, is_some, if◌then◌else◌}
use Rattle.std.specs.List.{list_any}
use Rattle.scan.specs.First.{option_or, first}
use Rattle.cyclotomic.specs.Cyclotomic.{cyclotomic}
use Rattle.prime_field.specs.Evaluation.{reduced, is_root}
use Rattle.prime_field.specs.declared.fault.ModulusFault.{ModulusFault}
use Rattle.prime_field.specs.declared.fault.ModulusFault.TheVariants.{Range, Unlisted, DividesConductor, NoRoot}

-- the moduli: each is a prime, and for each conductor K one of those over 60 is 1 modulo K
unfoldable pub moduli : List ℕ
moduli = 5 ∷ 7 ∷ 13 ∷ 17 ∷ 61 ∷ 73 ∷ 97 ∷ 101 ∷ 109 ∷ 113 ∷ 127 ∷ 193 ∷ 197 ∷ 241 ∷ 337 ∷ []

-- q is listed
unfoldable pub is_modulus : ℕ → Bool
is_modulus q = list_any (λ m. m == q) moduli

-- the least root modulo q of the cyclotomic polynomial Phi_K
unfoldable pub least_root : ℕ → ℕ → Option ℕ
least_root q k = first q (λ r. if is_root q (reduced q (cyclotomic k)) r then Some r else None)

-- First condition: above < q < 65,536.
abbrev pub range_fault : ℕ → ℕ → Option ModulusFault
range_fault q above = if nat_lt above q && nat_lt q 65536 then None else Some (Range q above)

-- Second condition: q is listed.
abbrev pub listing_fault : ℕ → Option ModulusFault
listing_fault q = if is_modulus q then None else Some (Unlisted q)

-- Third condition: q doesn't divide K.
abbrev pub divisor_fault : ℕ → ℕ → Option ModulusFault
divisor_fault q k = if k % q == 0 then Some (DividesConductor q k) else None

-- Fourth condition: Phi_K has a root modulo q.
abbrev pub root_fault : ℕ → ℕ → Option ModulusFault
root_fault q k = if is_some (least_root q k) then None else Some (NoRoot q k)

-- the first condition that fails
unfoldable pub modulus_fault : ℕ → ℕ → ℕ → Option ModulusFault
modulus_fault q above k = option_or (range_fault q above) (option_or (listing_fault q) (option_or (divisor_fault q k) (root_fault q k)))

-- q is over 60, is 1 modulo K, and is a valid modulus for K and every bound up to 60
pub record ServesConductor (q k : ℕ) : Type 0 where
  pub over : 60 < q
  pub congruent : q % k ≡ 1
  pub valid : (above : ℕ) → above ≤ 60 → modulus_fault q above k ≡ None
