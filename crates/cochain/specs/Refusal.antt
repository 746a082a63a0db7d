-- What a refusal of exponents says.
use Rattle.std.specs.Prelude.{◌≡◌, Option, Some}
use Rattle.cochain.specs.declared.fault.CocycleFault.{CocycleFault}
use Rattle.cochain.specs.declared.fault.CocycleRefusal.{CocycleRefusal}
use Rattle.cochain.specs.declared.fault.CocycleRefusal.TheVariants.{Fault, Memory}

-- the fault is exactly the first one; want of memory says nothing
abbrev pub Refuses : CocycleRefusal → Option CocycleFault → Type 0
Refuses (Fault f) fault = fault ≡ Some f
Refuses Memory fault = Unit {0}
