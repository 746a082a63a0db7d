-- What a refusal of the matrix S says.
use Rattle.std.specs.Prelude.{ℕ}
use Rattle.transport.specs.Simples.{SimplesOver}
use Rattle.modular_st.specs.Numerators.{IsOverflow}
use Rattle.modular_st.specs.declared.refusal.StRefusal.{StRefusal}
use Rattle.modular_st.specs.declared.refusal.StRefusal.TheVariants.{Overflow, Memory}

-- the site is that of a numerator that overflows; want of memory says nothing
abbrev pub Refuses : (k : ℕ) → SimplesOver → StRefusal → Type 0
Refuses k s (Overflow site) = IsOverflow k s site
Refuses k s Memory = Unit {0}
