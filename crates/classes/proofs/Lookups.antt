-- What is looked up in the classes that are kept.
use Rattle.classes.proofs.Names.{◌≡◌, ℕ, ◌<◌, ◌≤◌, List, length, get_or, map, length-map, All-get_or, Table, IsGroup, representatives, other_representatives, class_at, Class}
use Rattle.classes.proofs.Counting.{classes_at_most}
use Rattle.classes.proofs.Conjugacy.{IsRepresentative, others_represent}

-- there are few of them
pub few_kept : (t : Table) (classes : List Class) → IsGroup t → classes ≡ map (class_at t) (representatives t) → length classes ≤ t.order
few_kept t classes group are = rw (are, length-map) (classes_at_most t group)

-- a representative other than the identity
pub other_at : (t : Table) (others : List ℕ) (i : ℕ) → IsGroup t → others ≡ other_representatives t → i < length others → IsRepresentative t (get_or others i 0)
other_at t others i group are below = All-get_or (IsRepresentative t) others i 0 below (rw are (others_represent t group))

pub other_below : (t : Table) (others : List ℕ) (i : ℕ) → IsGroup t → others ≡ other_representatives t → i < length others → get_or others i 0 < t.order
other_below t others i group are below = (other_at t others i group are below).below
