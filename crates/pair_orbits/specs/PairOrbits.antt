-- Pairs of elements of a group, carried by conjugation of both elements at once (textbook). Pairs are numbered row after row; the choice
-- of the least pair of an orbit is this project's.
use Rattle.std.specs.Prelude.{ℕ, ◌+◌, ◌*◌, ◌/◌, ◌%◌, Bool, ◌&&◌, ◌==◌, not, nat_lt, List, length, map, Some, None, is_some, if◌then◌else◌}
use Rattle.scan.specs.First.{first, all_below}
use Rattle.group_table.specs.Group.{Table, product}
use Rattle.group_table.specs.Numbers.{passing_below}
use Rattle.classes.specs.Conjugacy.{conjugate}
use Rattle.pair_orbits.specs.declared.pair.Pair.{Pair}

-- the number of the pair of g and h
abbrev pub pair_number : Table → ℕ → ℕ → ℕ
pair_number t g h = g * t.order + h

-- the elements of the pair with the number p
abbrev pub first_of : Table → ℕ → ℕ
first_of t p = p / t.order

abbrev pub second_of : Table → ℕ → ℕ
second_of t p = p % t.order

-- whether they commute
abbrev pub is_commuting : Table → ℕ → Bool
is_commuting t p = product t (first_of t p) (second_of t p) == product t (second_of t p) (first_of t p)

-- the pairs whose elements do, ascending
unfoldable pub commuting_pairs_of : Table → List ℕ
commuting_pairs_of t = passing_below (t.order * t.order) (is_commuting t)

-- the pair of c g c^-1 and c h c^-1, where g and h are the elements of the pair p
unfoldable pub conjugate_pair : Table → ℕ → ℕ → ℕ
conjugate_pair t c p = pair_number t (conjugate t c (first_of t p)) (conjugate t c (second_of t p))

-- whether some c carries the pair p to the pair q
unfoldable pub are_conjugate : Table → ℕ → ℕ → Bool
are_conjugate t p q = is_some (first t.order (λ c. if conjugate_pair t c p == q then Some c else None))

-- the conjugates of the pair p, ascending
unfoldable pub conjugates_of : Table → ℕ → List ℕ
conjugates_of t p = passing_below (t.order * t.order) (are_conjugate t p)

-- the elements that carry it to itself, ascending
unfoldable pub fixing : Table → ℕ → List ℕ
fixing t p = passing_below t.order (λ c. conjugate_pair t c p == p)

-- whether no conjugate of the pair p is less: by the first element, then by the second
unfoldable pub is_least : Table → ℕ → Bool
is_least t p = all_below t.order (λ c. not (nat_lt (conjugate_pair t c p) p))

-- the commuting pairs that are the least of their conjugates, ascending
unfoldable pub least_pairs : Table → List ℕ
least_pairs t = passing_below (t.order * t.order) (λ p. is_commuting t p && is_least t p)

-- the pair p, with the number of its conjugates as its weight
abbrev pub weighted_pair : Table → ℕ → Pair
weighted_pair t p = record { g = first_of t p; h = second_of t p; weight = length (conjugates_of t p) }

-- the orbits of commuting pairs, each by its least pair, ascending
abbrev pub listed_pairs : Table → List Pair
listed_pairs t = map (weighted_pair t) (least_pairs t)
