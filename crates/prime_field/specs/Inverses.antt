-- Inverses modulo q (Gauss 1801).
use Rattle.std.specs.Prelude.{ℕ, ◌*◌, ◌%◌, ◌==◌, Option, Some, None, if◌then◌else◌}
use Rattle.scan.specs.First.{first}

-- the least b below q whose product with a is 1 modulo q
unfoldable pub inverse_modulo : ℕ → ℕ → Option ℕ
inverse_modulo q a = first q (λ b. if (a * b) % q == 1 then Some b else None)
