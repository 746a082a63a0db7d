-- What refuses the numbers that a group is made of, and what a refusal says.
use Rattle.std.specs.Prelude.{◌≡◌, ℕ, ◌*◌, ◌%◌, ◌^◌, ◌&&◌, ◌==◌, nat_le, Option, Some, None, if◌then◌else◌}
use Rattle.scan.specs.First.{option_or}
use Rattle.group_make.specs.declared.refusal.MakeRefusal.{MakeRefusal}
use Rattle.group_make.specs.declared.refusal.MakeRefusal.TheVariants.{Size, Action, Memory}

-- the order of the group is not from 1 to 60
abbrev pub size_fault : ℕ → Option MakeRefusal
size_fault order = if nat_le 1 order && nat_le order 60 then None else Some (Size order)

-- r^m is not 1 modulo n
abbrev pub action_fault : ℕ → ℕ → ℕ → Option MakeRefusal
action_fault n m r = if r ^ m % n == 1 % n then None else Some (Action (r ^ m % n))

-- what refuses a semidirect product: its order, and then its action
abbrev pub semidirect_fault : ℕ → ℕ → ℕ → Option MakeRefusal
semidirect_fault n m r = option_or (size_fault (n * m)) (action_fault n m r)

-- the refusal is exactly the fault of the numbers; want of memory says nothing
abbrev pub Refuses : MakeRefusal → Option MakeRefusal → Type 0
Refuses Memory fault = Unit {0}
Refuses (Size order) fault = fault ≡ Some (Size order)
Refuses (Action power) fault = fault ≡ Some (Action power)
