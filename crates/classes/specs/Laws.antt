-- What holds of conjugacy in each group (textbook).
use Rattle.std.specs.Prelude.{◌≡◌, ℕ, ◌*◌, ◌<◌, ◌≤◌, ◌↔◌, true, length, Contains}
use Rattle.group_table.specs.Group.{Table, IsGroup, product, identity_of}
use Rattle.classes.specs.Conjugacy.{conjugate, is_conjugate, representative_of, transporter_of, representatives, representative_at, class_of, members_of, centraliser_of}

-- e a e^-1 = a
abbrev pub ConjugateByIdentity : Type 0
ConjugateByIdentity = (t : Table) → IsGroup t → (a : ℕ) → a < t.order → conjugate t (identity_of t) a ≡ a

-- (k h) a (k h)^-1 = k (h a h^-1) k^-1
abbrev pub ConjugateByProduct : Type 0
ConjugateByProduct =
    (t : Table) → IsGroup t → (k h a : ℕ) → k < t.order → h < t.order → a < t.order →
    conjugate t (product t k h) a ≡ conjugate t k (conjugate t h a)

-- k (a b) k^-1 = (k a k^-1) (k b k^-1)
abbrev pub ConjugateOfProduct : Type 0
ConjugateOfProduct =
    (t : Table) → IsGroup t → (k a b : ℕ) → k < t.order → a < t.order → b < t.order →
    conjugate t k (product t a b) ≡ product t (conjugate t k a) (conjugate t k b)

-- the members of the class of a are the elements k a k^-1
abbrev pub MembersExactly : Type 0
MembersExactly =
    (t : Table) → IsGroup t → (a g : ℕ) → a < t.order →
    Contains (members_of t a) g ↔ ((k : ℕ) × (k < t.order) × (conjugate t k a ≡ g))

-- x is in the centraliser of a exactly where x a = a x
abbrev pub CentraliserExactly : Type 0
CentraliserExactly =
    (t : Table) → IsGroup t → (a x : ℕ) → Contains (centraliser_of t a) x ↔ ((x < t.order) × (product t x a ≡ product t a x))

-- the class equation: the size of the class of a times that of its centraliser is the order of the group
abbrev pub ClassEquation : Type 0
ClassEquation =
    (t : Table) → IsGroup t → (a : ℕ) → a < t.order → length (members_of t a) * length (centraliser_of t a) ≡ t.order

-- the representative of the class of g is conjugate to g
abbrev pub RepresentativeConjugate : Type 0
RepresentativeConjugate = (t : Table) → IsGroup t → (g : ℕ) → g < t.order → is_conjugate t (representative_of t g) g ≡ true

-- no lower element is
abbrev pub RepresentativeLeast : Type 0
RepresentativeLeast =
    (t : Table) → IsGroup t → (g a : ℕ) → g < t.order → a < t.order → is_conjugate t a g ≡ true → representative_of t g ≤ a

-- conjugate elements have one representative
abbrev pub RepresentativeOfConjugate : Type 0
RepresentativeOfConjugate =
    (t : Table) → IsGroup t → (k g : ℕ) → k < t.order → g < t.order → representative_of t (conjugate t k g) ≡ representative_of t g

-- the transporter of g carries its representative to g
abbrev pub TransporterCarries : Type 0
TransporterCarries =
    (t : Table) → IsGroup t → (g : ℕ) → g < t.order → conjugate t (transporter_of t g) (representative_of t g) ≡ g

-- the class of g has the representative of g
abbrev pub ClassRepresents : Type 0
ClassRepresents =
    (t : Table) → IsGroup t → (g : ℕ) → g < t.order → representative_at t (class_of t g) ≡ representative_of t g

-- the class of the representative of a class is that class
abbrev pub ClassOfRepresentative : Type 0
ClassOfRepresentative =
    (t : Table) → IsGroup t → (c : ℕ) → c < length (representatives t) → class_of t (representative_at t c) ≡ c
