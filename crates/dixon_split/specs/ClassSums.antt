-- Class sums of a twist over the residues modulo a prime, and their products, as numbers below the prime.
use Rattle.std.specs.Prelude.{ℕ, ◌/◌, ◌%◌, List, slice_index}
use Rattle.algebra.specs.Below.{Below}
use Rattle.prime_field.specs.declared.mod_ring.ModRing.{ModRing}
use Rattle.prime_field.specs.Field.{field_residue}
pub use Rattle.prime_field.specs.RingObject.{residue_field, residue_root}
use Rattle.twisted.specs.Twist.{TwistedSubgroup, size}
use Rattle.twisted.specs.Regular.{regular_representatives, rank}
use Rattle.twisted.specs.Algebra.{product_term, twisted_product, class_sum}
use Rattle.centre_algebra.specs.CentralCharacters.{regular_sum}

-- the residues of numbers, by place
abbrev pub residues_at : (ring : ModRing) → List ℕ → ℕ → Below ring.q
residues_at ring numbers y = field_residue ring.q ring.listed (slice_index numbers y)

-- the class sum of p at the place y
abbrev pub class_sum_value : ModRing → TwistedSubgroup → ℕ → ℕ → ℕ
class_sum_value ring s p y = (class_sum (residue_field ring) (residue_root ring) s p y).value

-- the class sums of the regular classes one after another, place by place, at n
abbrev pub sum_number : ModRing → TwistedSubgroup → ℕ → ℕ
sum_number ring s n = (regular_sum (residue_field ring) (residue_root ring) s (n / size s) (n % size s)).value

-- the term at y of the product of the elements with these numbers at the place x
abbrev pub term_at : (ring : ModRing) → TwistedSubgroup → List ℕ → List ℕ → ℕ → ℕ → Below ring.q
term_at ring s a b x y = product_term (residue_field ring) (residue_root ring) s (residues_at ring a) (residues_at ring b) x y

-- the product of the elements with these numbers at the place x
abbrev pub product_value : ModRing → TwistedSubgroup → List ℕ → List ℕ → ℕ → ℕ
product_value ring s a b x = (twisted_product (residue_field ring) (residue_root ring) s (residues_at ring a) (residues_at ring b) x).value

-- the product of the t-th and the j-th class sum at the k-th representative: the number of the k-th class sum in it
abbrev pub constant_value : ModRing → TwistedSubgroup → ℕ → ℕ → ℕ → ℕ
constant_value ring s t j k =
    let F = residue_field ring in
    let U = residue_root ring in
    (twisted_product F U s (regular_sum F U s t) (regular_sum F U s j) (slice_index (regular_representatives s) k)).value

-- those numbers at n, row after row: t slowest, then j, then k
abbrev pub constant_number : ModRing → TwistedSubgroup → ℕ → ℕ
constant_number ring s n = constant_value ring s (n / rank s / rank s) (n / rank s % rank s) (n % rank s)
