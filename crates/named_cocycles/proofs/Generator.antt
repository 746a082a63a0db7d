-- The generator of samples, one pair after the other.
use Rattle.named_cocycles.proofs.Names.{◌≡◌, ℕ, suc, ◌+◌, ◌*◌, ◌/◌, ◌%◌, ◌^◌, ◌<◌, Bool, cond, List, [], ◌∷◌, ◌++◌, map, refl, sym, ◌∙◌, add-one, arith, range_with_len, map-range_with_len_more, Table, Cochain, next_number, has_identity, number_at, gauge_number}

pub number-start : (t : Table) (s : ℕ) → number_at t s 0 ≡ s % 2 ^ 31
unfolding number_at
number-start t s = refl

number-suc : (t : Table) (s i : ℕ) → number_at t s (suc i) ≡ cond (has_identity t i) (number_at t s i) (next_number (number_at t s i))
unfolding number_at
number-suc t s i = refl

pub number-more : (t : Table) (s i : ℕ) → number_at t s (i + 1) ≡ cond (has_identity t i) (number_at t s i) (next_number (number_at t s i))
number-more t s i = rw add-one (number-suc t s i)

pub number_step : (t : Table) (s i v next : ℕ) (b : Bool) → b ≡ has_identity t i → v ≡ number_at t s i → next ≡ cond b v (next_number v) → next ≡ number_at t s (i + 1)
number_step t s i v next b is before after = rw (number-more t s i, after, is, before) refl

pub exponent_step : (w : Cochain) (s i next roots x : ℕ) (b : Bool) → b ≡ has_identity w.group i → next ≡ number_at w.group s (i + 1) → roots ≡ w.roots → x ≡ cond b 0 (next / 65536 % roots)
    → x ≡ gauge_number w s i
exponent_step w s i next roots x b is at same number = rw (number, is, at, same) refl

-- the numbers of the pairs before place i, and that of the pair there
pub numbers_more : (w : Cochain) (s i v : ℕ) (front all : List ℕ) → all ≡ front ++ v ∷ [] → front ≡ map (gauge_number w s) (range_with_len 0 i) → v ≡ gauge_number w s i
    → all ≡ map (gauge_number w s) (range_with_len 0 (i + 1))
numbers_more w s i v front all pushed before here = rw (pushed, before, here) (sym (map-range_with_len_more (gauge_number w s) 0 i i (omega arith)))
