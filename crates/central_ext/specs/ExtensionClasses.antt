-- Conjugacy in the extension of a twist, and the numbers of its classes by first appearance (the order of the pairs is this
-- project's).
use Rattle.std.specs.Prelude.{ℕ, ◌+◌, ◌*◌, ◌/◌, ◌%◌, Bool, ◌&&◌, ◌==◌, length, Some, None, is_some, unwrap_or, if◌then◌else◌}
use Rattle.scan.specs.First.{first}
use Rattle.group_table.specs.Numbers.{passing_below}
use Rattle.twisted.specs.Twist.{TwistedSubgroup, size}
use Rattle.central_ext.specs.declared.pair.Pair.{Pair}
use Rattle.central_ext.specs.Extension.{ext_product, ext_inverse}

-- how many pairs there are
abbrev pub pair_count : TwistedSubgroup → ℕ
pair_count s = size s * s.modulus

-- the pairs in order: the pair (p,i) has the number p M + i, where M is the modulus
abbrev pub pair_number : TwistedSubgroup → Pair → ℕ
pair_number s a = a.place * s.modulus + a.root

-- the pair with the number t
abbrev pub pair_at : TwistedSubgroup → ℕ → Pair
pair_at s t = record { place = t / s.modulus; root = t % s.modulus }

-- a and b are one pair
abbrev pub is_same_pair : Pair → Pair → Bool
is_same_pair a b = (a.place == b.place) && (a.root == b.root)

-- c a c^-1
abbrev pub ext_conjugate : TwistedSubgroup → Pair → Pair → Pair
ext_conjugate s c a = ext_product s (ext_product s c a) (ext_inverse s c)

-- c a c^-1 = b for some pair c (textbook)
unfoldable pub are_conjugate : TwistedSubgroup → Pair → Pair → Bool
are_conjugate s a b = is_some (first (pair_count s) (λ t. if is_same_pair (ext_conjugate s (pair_at s t) a) b then Some t else None))

-- the number of the first pair of the class of the pair t: the least one that is conjugate to it. It is one itself, so the 0 of
-- none is never met
unfoldable pub first_of_class : TwistedSubgroup → ℕ → ℕ
first_of_class s t = unwrap_or (first (pair_count s) (λ u. if are_conjugate s (pair_at s u) (pair_at s t) then Some u else None)) 0

-- the pair t is the first of its class
abbrev pub is_first_of_class : TwistedSubgroup → ℕ → Bool
is_first_of_class s t = first_of_class s t == t

-- the number of the class of the pair t, by first appearance: how many classes begin before its own
unfoldable pub class_number : TwistedSubgroup → ℕ → ℕ
class_number s t = length (passing_below (first_of_class s t) (is_first_of_class s))

-- (c,0) carries a to b
abbrev pub carries_to : TwistedSubgroup → Pair → Pair → ℕ → Bool
carries_to s a b c = is_same_pair (ext_conjugate s (record { place = c; root = 0 }) a) b
