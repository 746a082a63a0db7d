-- The values of lifted rows are small: each is a sum of as many roots of unity as its row has for degree, and that is at most 7.
use Rattle.qd_engine.proofs.Names.{◌≡◌, ℕ, ◌<◌, ◌≤◌, true, Option, Some, None, sym, subst, arith, representative_at, representative_at_is, Cochain, IsCocycle, is_conductor, least_conductor, CyclotomicValue, ModRing, AreRootRows, degree_few, twist_of, twist_lawful, RowsOver, characters_of, root_order, size, class_twist, class_table, lifts_cause, lifted_blocks, ServesCocycle, lifted_root_rows, roots_size, IsRootRow, document_in, exponents_of, given_in, conductor_of, lifted_by, IsLifted, HasRows, ValuesAreSmall, LiftedAreSmall, LiftedSizes, RowSource}
use Rattle.cyclotomic.specs.Fit.{value_size}
use Rattle.qd_engine.proofs.ConductorLaws.{least_is_conductor}
use Rattle.qd_engine.proofs.LiftedRows.{numbers_of_field, field_serves, table_here, tables_number}

-- a value of a row of roots over at most 60 places
root_row_small : (k m : ℕ) (value : ℕ → CyclotomicValue k) → is_conductor k ≡ true → m ≤ 60 → IsRootRow k m value → (x : ℕ) → x < m → value_size (value x) ≤ 7
root_row_small k m value conductor few row x below =
    let of_degree : value_size (value x) ≤ row.degree = roots_size k conductor row.degree (value x) (row.roots x below) in
    omega (arith, of_degree, degree_few row.degree m row.square few)

-- the tables of a field
field_small : (ring : ModRing) (w : Cochain) → is_conductor ring.conductor ≡ true → ServesCocycle ring w → lifts_cause ring w ≡ None
    → ValuesAreSmall w ring.conductor (lifted_blocks ring w)
unfolding twist_of
field_small ring w conductor serves lifted c below i x i_below x_below =
    let k = ring.conductor in
    let blocks = lifted_blocks ring w in
    let lawful = twist_lawful w serves.cocycle (representative_at w.group c) (representative_at_is w.group serves.cocycle.cochain.group c below).below in
    let roots = lifted_root_rows ring w serves lifted c (subst (λ n. c < n) (sym (tables_number w blocks)) below) in
    let here : AreRootRows (class_twist w c) (class_table k blocks c) =
    subst (λ (t : RowsOver). AreRootRows t.over (characters_of k t.rows)) (table_here w blocks c below) roots in
    root_row_small k (size (class_twist w c)) ((class_table k blocks c).chi i) conductor lawful.small.to_sixty (here.row i i_below) x x_below

-- the tables of a valid modulus
modulus_small : (q : ℕ) (w : Cochain) → IsCocycle w → least_conductor (root_order w) ≡ Some (conductor_of w) → IsLifted q w → LiftedAreSmall q w
modulus_small q w cocycle conductor lifted =
    let k = conductor_of w in
    let ring = lifted.ring in
    let same = (numbers_of_field q k ring lifted.field).1 in
    let is_entry = subst (λ n. is_conductor n ≡ true) (sym same) (least_is_conductor (root_order w) k conductor).0 in
    let serves = field_serves q w ring cocycle conductor lifted.valid lifted.field in
    subst (λ (f : Option ModRing). ValuesAreSmall w k (lifted_by w f)) (sym lifted.field)
    (subst (λ n. ValuesAreSmall w n (lifted_blocks ring w)) same (field_small ring w is_entry serves lifted.lifted))

pub lifted_sizes : LiftedSizes
lifted_sizes command q lifts bytes accepted =
    let w = exponents_of (document_in command bytes) in
    let verified = accepted.verified lifts.report lifts.reports in
    modulus_small q w accepted.cocycle verified.conductor (subst (λ (source : RowSource). HasRows source w (given_in (document_in command bytes))) lifts.source verified.source)
