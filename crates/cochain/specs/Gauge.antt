-- A cocycle times the coboundary of a normalised 2-cochain b (Dijkgraaf, Pasquier, Roche 1990). It stands for the same
-- class of cocycles.
use Rattle.std.specs.Prelude.{◌≡◌, ℕ, ◌+◌, ◌-◌, ◌*◌, ◌%◌, Bool, true, ◌||◌, ◌==◌, List, slice_index, Option, Some, None, if◌then◌else◌}
use Rattle.scan.specs.First.{first}
use Rattle.group_table.specs.Group.{product, identity_of}
use Rattle.cochain.specs.Cochain.{Cochain, value, cochain_of, exponents_by}
use Rattle.cochain.specs.declared.fault.GaugeRefusal.{GaugeRefusal}
use Rattle.cochain.specs.declared.fault.GaugeRefusal.TheVariants.{NotNormal, Memory}

-- b(g,h), an exponent modulo the number of roots
abbrev pub pair_value : Cochain → List ℕ → ℕ → ℕ → ℕ
pair_value w b g h = slice_index b (g * w.group.order + h) % w.roots

-- b is 1 wherever an argument is the identity
abbrev pub is_normal_pair : Cochain → List ℕ → ℕ → ℕ → Bool
is_normal_pair w b g h =
    if (g == identity_of w.group) || (h == identity_of w.group) then pair_value w b g h == 0 else true

-- the least pair at which it is not
abbrev pub gauge_fault_in : Cochain → List ℕ → ℕ → Option GaugeRefusal
gauge_fault_in w b g = first w.group.order (λ h. if is_normal_pair w b g h then None else Some (NotNormal g h))

abbrev pub gauge_fault : Cochain → List ℕ → Option GaugeRefusal
gauge_fault w b = first w.group.order (gauge_fault_in w b)

-- w(g,h,k) b(h,k) b(g,hk) / (b(gh,k) b(g,h)), as a sum of exponents; two multiples of the number of roots keep it from
-- falling below 0
abbrev pub gauged_value : Cochain → List ℕ → ℕ → ℕ → ℕ → ℕ
gauged_value w b g h k =
    value w g h k + pair_value w b h k + pair_value w b g (product w.group h k) + 2 * w.roots
    - (pair_value w b (product w.group g h) k + pair_value w b g h)

-- the gauged cocycle
abbrev pub gauged : Cochain → List ℕ → Cochain
gauged w b = cochain_of w.group w.roots (exponents_by w.group.order (gauged_value w b))

-- the refusal is exactly the fault of b; want of memory says nothing
abbrev pub RefusesGauge : GaugeRefusal → Option GaugeRefusal → Type 0
RefusesGauge Memory fault = Unit {0}
RefusesGauge (NotNormal g h) fault = fault ≡ Some (NotNormal g h)
