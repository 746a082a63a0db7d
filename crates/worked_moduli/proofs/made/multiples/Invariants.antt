use Rattle.std.proofs.Common.{◌*◌}
use Rattle.prime_field.specs.ResidueLists.{IsTabulated}
use Rattle.worked_moduli.proofs.made.multiples.Given as goal

abbrev pub invariant-loop-k : goal.invariant-loop-k
invariant-loop-k g l = IsTabulated l.k (λ k. k * l.step) l.list
