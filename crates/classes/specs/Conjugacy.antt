-- Conjugacy in a group by its table: classes, centralisers and transporters (textbook). The order of the classes and the choice of the least are this project's.
use Rattle.std.specs.Prelude.{ℕ, Bool, ◌&&◌, ◌==◌, not, List, ◌∷◌, length, slice_index, Option, Some, None, is_some, unwrap_or, if◌then◌else◌}
use Rattle.scan.specs.First.{first}
use Rattle.group_table.specs.Group.{Table, product, inverse, identity_of}
use Rattle.group_table.specs.Numbers.{passing_below}

-- k a k^-1
unfoldable pub conjugate : Table → ℕ → ℕ → ℕ
conjugate t k a = product t (product t k a) (inverse t k)

-- the least k with k a k^-1 = g, if there is one
abbrev pub least_transporter : Table → ℕ → ℕ → Option ℕ
least_transporter t a g = first t.order (λ k. if conjugate t k a == g then Some k else None)

-- g is k a k^-1 for some k
abbrev pub is_conjugate : Table → ℕ → ℕ → Bool
is_conjugate t a g = is_some (least_transporter t a g)

-- the representative of the class of g: the least element to which g is conjugate. It is one itself, so 0 is never met
unfoldable pub representative_of : Table → ℕ → ℕ
representative_of t g = unwrap_or (first t.order (λ a. if is_conjugate t a g then Some a else None)) 0

-- the least k that carries the representative a of the class of g to g: k a k^-1 = g. There is one, so 0 is never met
unfoldable pub transporter_of : Table → ℕ → ℕ
transporter_of t g = unwrap_or (least_transporter t (representative_of t g) g) 0

-- the representatives other than the identity: the elements that are least in their class, ascending
unfoldable pub other_representatives : Table → List ℕ
other_representatives t = passing_below t.order (λ a. (representative_of t a == a) && not (a == identity_of t))

-- the representatives in the order of the classes: the identity first
abbrev pub representatives : Table → List ℕ
representatives t = identity_of t ∷ other_representatives t

-- the number of the class of g: the place of its representative. There is one, so 0 is met at the identity alone
unfoldable pub class_of : Table → ℕ → ℕ
class_of t g =
    unwrap_or (first (length (representatives t)) (λ c. if slice_index (representatives t) c == representative_of t g then Some c else None)) 0

-- the members of the class of a, ascending
unfoldable pub members_of : Table → ℕ → List ℕ
members_of t a = passing_below t.order (is_conjugate t a)

-- the centraliser of a: the elements x with x a = a x, ascending
unfoldable pub centraliser_of : Table → ℕ → List ℕ
centraliser_of t a = passing_below t.order (λ x. product t x a == product t a x)

-- the representative of the class with the number c
abbrev pub representative_at : Table → ℕ → ℕ
representative_at t c = slice_index (representatives t) c
