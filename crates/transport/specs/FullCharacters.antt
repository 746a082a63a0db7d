-- The full characters of the simples of a twisted quantum double, as the characters of induced modules (Coste, Gannon, Ruelle 2000).
-- Every index g, x and h is an element of the group; i is a simple.
use Rattle.std.specs.Prelude.{ℕ, ◌*◌, ◌/◌, ◌==◌, unwrap_or}
use Rattle.classes.specs.Conjugacy.{class_of, transporter_of}
use Rattle.cochain.specs.Cochain.{Cochain}
use Rattle.cyclotomic.specs.CyclotomicRing.{CyclotomicValue}
use Rattle.twisted.specs.Twist.{place_of}
use Rattle.table_check.specs.Formed.{Formed, given, turned, where_so}
use Rattle.slant.specs.Phases.{carried, transport_phase}
use Rattle.transport.specs.Simples.{SimplesOver, class_at, over_at, value_at}

-- the exponent modulo K of the root with exponent v modulo N
abbrev pub root_exponent : ℕ → Cochain → ℕ → ℕ
root_exponent k w v = v * (k / w.roots)

module _ (k : ℕ) (s : SimplesOver) where
  -- the value of i at the element x of the centraliser of its class's representative
  abbrev pub element_value : ℕ → ℕ → CyclotomicValue k
  element_value i x = value_at k s i (unwrap_or (place_of (over_at k s i) x) 0)

  -- e(th_g(x,c) / th_g(c, c^-1 x c)) times the value of i at c^-1 x c
  abbrev pub carried_value : ℕ → ℕ → ℕ → ℕ → Formed k
  carried_value i g x c =
      turned k (root_exponent k s.cocycle (transport_phase s.cocycle g x c)) (given k (element_value i (carried s.cocycle.group x c)))

  -- the full character of i at g and x that commute, with the least c that carries the representative a of the class of g to g = c a c^-1;
  -- 0 where g isn't in the class of i
  abbrev pub full_character : ℕ → ℕ → ℕ → Formed k
  full_character i g x = where_so k (class_of s.cocycle.group g == class_at k s i) (carried_value i g x (transporter_of s.cocycle.group g))
