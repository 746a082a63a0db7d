-- What a refusal of a table says.
use Rattle.std.specs.Prelude.{◌≡◌, Option, Some}
use Rattle.group_table.specs.declared.fault.GroupFault.{GroupFault}
use Rattle.group_table.specs.declared.fault.GroupRefusal.{GroupRefusal}
use Rattle.group_table.specs.declared.fault.GroupRefusal.TheVariants.{Fault, Memory}

-- the fault is exactly the first one; want of memory says nothing
abbrev pub Refuses : GroupRefusal → Option GroupFault → Type 0
Refuses (Fault f) fault = fault ≡ Some f
Refuses Memory fault = Unit {0}
