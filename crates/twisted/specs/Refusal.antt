-- What a refusal of a product says.
use Rattle.std.specs.Prelude.{ℕ}
use Rattle.twisted.specs.declared.product.MulRefusal.{MulRefusal}
use Rattle.twisted.specs.declared.product.MulRefusal.TheVariants.{Overflow, Memory}

-- a place that is named overflows; want of memory says nothing
abbrev pub Refuses : MulRefusal → (ℕ → Type 0) → Type 0
Refuses (Overflow place) overflows = overflows place
Refuses Memory overflows = Unit {0}
