-- Conjugation phases, regular places and the rank of the centre (textbook). Every index is a place.
use Rattle.std.specs.Prelude.{ℕ, ◌+◌, ◌-◌, ◌%◌, Bool, true, ◌==◌, List, filter, count_by, if◌then◌else◌}
use Rattle.scan.specs.First.{all_below}
use Rattle.group_table.specs.Group.{product}
use Rattle.classes.specs.Conjugacy.{conjugate, representatives}
use Rattle.twisted.specs.Twist.{TwistedSubgroup, size, phase}

-- ka(c,x) = th(c,x) - th(c x c^-1, c), modulo the modulus
unfoldable pub kappa : TwistedSubgroup → ℕ → ℕ → ℕ
kappa s c x = (phase s c x + (s.modulus - phase s (conjugate s.group c x) c)) % s.modulus

-- th(x,y) = th(y,x), where x and y commute. Both are below the modulus, so that they are the same number
abbrev pub is_symmetric_at : TwistedSubgroup → ℕ → ℕ → Bool
is_symmetric_at s x y = if product s.group x y == product s.group y x then phase s x y == phase s y x else true

-- x is regular: th(x,y) = th(y,x) for every y that commutes with x
unfoldable pub is_regular : TwistedSubgroup → ℕ → Bool
is_regular s x = all_below (size s) (is_symmetric_at s x)

-- the representatives of the classes that are regular, in the order of the classes: the identity first, then ascending
unfoldable pub regular_representatives : TwistedSubgroup → List ℕ
regular_representatives s = filter (is_regular s) (representatives s.group)

-- the rank: how many classes are regular
unfoldable pub rank : TwistedSubgroup → ℕ
rank s = count_by (is_regular s) (representatives s.group)
