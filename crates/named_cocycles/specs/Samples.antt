-- Samples: a few cocycles that have names, gauged by the numbers of a generator that a number starts.
use Rattle.std.specs.Prelude.{ℕ, zero, suc, ◌+◌, ◌*◌, ◌/◌, ◌%◌, ◌^◌, Bool, true, ◌||◌, ◌==◌, List, map, if◌then◌else◌}
use Rattle.std.specs.List.{range_with_len}
use Rattle.group_table.specs.Group.{Table, identity_of}
use Rattle.group_make.specs.Formulas.{dicyclic_group}
use Rattle.cochain.specs.Cochain.{Cochain}
use Rattle.cochain.specs.Gauge.{gauged}
use Rattle.cocycle_make.specs.Cocycles.{trivial_cocycle, type_two_cocycle, type_three_cocycle}
use Rattle.named_cocycles.specs.Makers.{reflections_cocycle}

-- the cocycle that sample s gauges, by s modulo 4
abbrev pub sample_base : ℕ → Cochain
sample_base s =
    if s % 4 == 0 then type_three_cocycle 2 2 2 1
    else if s % 4 == 1 then reflections_cocycle 3
    else if s % 4 == 2 then trivial_cocycle (dicyclic_group 2) 2
    else type_two_cocycle 4 2 1

-- the modulus of its rows
abbrev pub sample_modulus : ℕ → ℕ
sample_modulus s = if (s % 4 == 0) || (s % 4 == 1) then 13 else 17

-- One step of the generator: the linear congruential one that the standard of C shows (ISO 9899:1990).
abbrev pub next_number : ℕ → ℕ
next_number v = (v * 1103515245 + 12345) % 2 ^ 31

-- the pair of elements at place i of all pairs, row after row, has the identity
abbrev pub has_identity : Table → ℕ → Bool
has_identity t i = (i / t.order == identity_of t) || (i % t.order == identity_of t)

-- what the generator has come to at place i: it begins with s, and goes one step at each pair before that has not the identity
unfoldable pub number_at : Table → ℕ → ℕ → ℕ
number_at t s zero = s % 2 ^ 31
number_at t s (suc i) = if has_identity t i then number_at t s i else next_number (number_at t s i)

-- the exponent of the 2-cochain at place i: 0 at a pair with the identity, else the number after it without its 16 lowest bits
abbrev pub gauge_number : Cochain → ℕ → ℕ → ℕ
gauge_number w s i = if has_identity w.group i then 0 else number_at w.group s (i + 1) / 65536 % w.roots

abbrev pub gauge_numbers : Cochain → ℕ → List ℕ
gauge_numbers w s = map (gauge_number w s) (range_with_len 0 (w.group.order * w.group.order))

-- sample s
abbrev pub sample_cocycle : ℕ → Cochain
sample_cocycle s = gauged (sample_base s) (gauge_numbers (sample_base s) s)
