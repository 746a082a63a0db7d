-- The good tables of a cocycle's classes are good tables of its twisted quantum double.
use Rattle.transport.proofs.Names.{◌≡◌, ℕ, ◌*◌, ◌<◌, Bool, true, false, ◌==◌, length, refl, sym, ap, ap₂, ◌∙◌, arith, subst, eq-eqb, pick, multiple, sum_below, equals, total, Group, conj, Below, below_equal, finite_below, multiple_is_mul, total_ext, equals_true, equals_of, CommRing, identity_of, class_of, representative_of, representative_at, class_represents, class_of_representative, class_below, cyclotomic, value_one, value_nought, CyclotomicValue, cyclotomic_ring, root, TwistedSubgroup, size, element, place_of, IsTwist, place_group, theta, identities_agree, identity_below, if◌then◌else◌, ◌/◌, Characters, RowsOver, characters_of, Formed, whole, given, conjugated, multiplied, IsGood, Setting, conjugation_root, IsPart, place_there, unwrap_or, get_or_default, IsTorsionFree, Finite, total_below, conjugate_value, twisted_centraliser, phase_exponent, kappa_at_places, places, some_place, kappa, kappas_agree, slant_phase, conjugation_phase, root_exponent, degree_value, product_sum, product_term, sum_term, row_term, column_term, conjugate_value_at, IsVacuum, SimplesOver, Simple, no_simple, table_at, simple_of, simples_of, count, simple_at, class_at, degree_at, value_at, over_at, IsVacuumAt, AreSimples, element_value}
use Rattle.classes.specs.Conjugacy.{conjugate}
use Rattle.twisted.proofs.Representatives.{rank_is}
use Rattle.transport.proofs.CharacterLaws.{where_picked}
use Rattle.characters.specs.PlaceTables.{GoodTableAtPlaces, row_product}
use Rattle.characters.specs.Tables.{GoodTables}
use Rattle.cyclotomic.proofs.Orthogonality.{cancel_multiple, multiple-is}
use Rattle.characters.proofs.PlaceTableLaws.{good_at_elements}
use Rattle.transport.proofs.Listed.{row_is_simple, vacuum_is, over_is_twist, place_small}
use Rattle.transport.proofs.Distinct.{same_row, other_number}
use Rattle.transport.proofs.Doubles.{double_classes}
use Rattle.transport.proofs.DoubleSimples.{modulus_is, at_identity, setting, simples, at, row, tw, tw_lawful, place, at_place, centraliser, phase_root, value_at_place, whole_multiple}

-- a total over the numbers below n, by their sum
pub total_numbers : {A : Type 0} (R : CommRing A) (n : ℕ) (positive : 0 < n) (f : Below n → A) (g : ℕ → A) → ((x : Below n) → f x ≡ g x.value)
    → total R (finite_below n positive) f ≡ sum_below R n g
total_numbers R n positive f g same = total_ext R (finite_below n positive) f (λ x. g x.value) same ∙ total_below R n positive g

pub equals_numbers : (n : ℕ) (positive : 0 < n) (x y : Below n) → equals (finite_below n positive) x y ≡ (x.value == y.value)
unfolding equals
equals_numbers n positive x y = refl

place_conjugate_is : (t : TwistedSubgroup) (lawful : IsTwist t) (b p : Below (size t))
    → ((place_group t lawful).op ((place_group t lawful).op b p) ((place_group t lawful).inv b)).value ≡ conjugate t.group b.value p.value
unfolding conjugate
place_conjugate_is t lawful b p = refl

conjugation_value : (k : ℕ) (s : SimplesOver) (S : AreSimples k s) (a b x : Below s.cocycle.group.order)
    → conjugation_root (setting k s S) a b x ≡ root k (root_exponent k s.cocycle (kappa s.cocycle a.value b.value x.value))
unfolding conjugation_root conjugation_phase slant_phase kappa theta conj conjugate
conjugation_value k s S a b x = refl

module _ (k : ℕ) (s : SimplesOver) (S : AreSimples k s) (a : Below s.cocycle.group.order) (least : representative_of s.cocycle.group a.value ≡ a.value) where
  abbrev T : Setting (CyclotomicValue k) (Below s.cocycle.group.order)
  T = setting k s S

  -- the class of a, and its table
  abbrev c : ℕ
  c = class_of s.cocycle.group a.value

  represents_a : representative_at s.cocycle.group c ≡ a.value
  represents_a = class_represents s.cocycle.group S.cocycle.cochain.group a.value a.below ∙ least

  c_below : c < length s.tables
  c_below = subst (λ n. c < n) (sym S.tables.count) (class_below s.cocycle.group S.cocycle.cochain.group a.value a.below)

  abbrev table : RowsOver
  table = table_at s.tables c

  abbrev chars : Characters k
  chars = characters_of k table.rows

  over_is_tw : table.over ≡ tw k s S a
  over_is_tw = S.tables.over c c_below ∙ ap (twisted_centraliser s.cocycle) represents_a

  good : IsGood (tw k s S a) chars
  good = subst (λ t. IsGood t chars) over_is_tw (S.good c c_below)

  -- the simple of a row
  index : (r : Below (length table.rows)) → (j : ℕ) × (j < count k s) × (simple_at k s j ≡ simple_of k c table r.value)
  index r =
      let (j, below, stands) = row_is_simple k s.tables c r.value c_below r.below in
      (j, below, get_or_default (simples_of k s.tables) j no_simple (simple_of k c table r.value) below ∙ stands)

  abbrev simple : Below (length table.rows) → Below (count k s)
  simple r = record { value = (index r).0; below = (index r).1 }

  simple_is : (r : Below (length table.rows)) → simple_at k s (simple r).value ≡ simple_of k c table r.value
  simple_is r = (index r).2

  simple_at_a : (r : Below (length table.rows)) → at k s S (simple r) ≡ a
  simple_at_a r = below_equal _ _ (ap (λ (b : Simple). representative_at s.cocycle.group b.class) (simple_is r) ∙ represents_a)

  class_of_simple : (i : Below (count k s)) → at k s S i ≡ a → class_at k s i.value ≡ c
  class_of_simple i same =
      sym (class_of_representative s.cocycle.group S.cocycle.cochain.group (class_at k s i.value) (subst (λ n. class_at k s i.value < n) S.tables.count (row k s S i).class_below))
      ∙ ap (λ (x : Below s.cocycle.group.order). class_of s.cocycle.group x.value) same

  part : IsPart (λ i. equals T.finite a (at k s S i)) simple
  part = record {
    injective = λ p r e.
        below_equal p r
        (ap (λ (b : Simple). b.row) (sym (simple_is p)) ∙ ap (λ (i : Below (count k s)). (simple_at k s i.value).row) e ∙ ap (λ (b : Simple). b.row) (simple_is r));
    within = λ r. equals_of T.finite a (at k s S (simple r)) (sym (simple_at_a r));
    found = λ i inside.
        let same : at k s S i ≡ a = sym (equals_true T.finite a (at k s S i) inside) in
        let class = class_of_simple i same in
        let r : Below (length table.rows) =
        record { value = (simple_at k s i.value).row; below = subst (λ n. (simple_at k s i.value).row < length (table_at s.tables n).rows) class (row k s S i).row_below } in (
          r,
          below_equal (simple r) i
              (same_row k s.tables (simple r).value i.value (simple r).below i.below (ap (λ (b : Simple). b.class) (simple_is r) ∙ sym class) (ap (λ (b : Simple). b.row) (simple_is r))),
        );
  }

  -- its values at places
  entry_is : (r : Below (length table.rows)) (p : Below (size (tw k s S a))) → element_value k s (simple r).value (element (tw k s S a) p.value) ≡ chars.chi r.value p.value
  entry_is r p =
      subst (λ (b : Below s.cocycle.group.order). (q : ℕ) → q < size (tw k s S b) → element_value k s (simple r).value (element (tw k s S b) q) ≡ value_at k s (simple r).value q)
      (simple_at_a r) (value_at_place k s S (simple r)) p.value p.below
      ∙ ap (λ (b : Simple). (characters_of k (table_at s.tables b.class).rows).chi b.row p.value) (simple_is r)

  abbrev R : CommRing (CyclotomicValue k)
  R = cyclotomic_ring k

  abbrev m : ℕ
  m = size (tw k s S a)

  abbrev e : ℕ
  e = identity_of (tw k s S a).group

  rows_positive : 0 < length table.rows
  rows_positive = omega (arith, good.count, rank_is (tw k s S a) (tw_lawful k s S a))

  abbrev Q : Group (Below (size (tw k s S a)))
  Q = place k s S a

  abbrev F : Finite (Below (size (tw k s S a)))
  F = places (tw k s S a) (tw_lawful k s S a)

  abbrev N : Finite (Below (length table.rows))
  N = finite_below (length table.rows) rows_positive

  conjugation_root_is : (b p : Below (size (tw k s S a))) → conjugation_root T a (at_place k s S a b) (at_place k s S a p) ≡ root k (phase_exponent k (tw k s S a) (kappa_at_places (tw k s S a) b.value p.value))
  conjugation_root_is b p =
      kappa_root (at_place k s S a b) (at_place k s S a p)
      ∙ ap (root k)
      (ap (root_exponent k s.cocycle) (sym (kappas_agree s.cocycle S.cocycle a.value b.value p.value a.below b.below p.below))
      ∙ ap (λ n. kappa_at_places (tw k s S a) b.value p.value * (k / n)) (sym (modulus_is s.cocycle a.value)))
    where
      kappa_root : (b x : Below s.cocycle.group.order) → conjugation_root T a b x ≡ root k (root_exponent k s.cocycle (kappa s.cocycle a.value b.value x.value))
      kappa_root b x = conjugation_value k s S a b x

  -- the degree, and rows of E_i
  degree_chi : (r : Below (length table.rows)) → chars.chi r.value e ≡ multiple R (degree_at k s (simple r).value) (value_one (cyclotomic k))
  degree_chi r =
      let unit : Below (size (tw k s S a)) = record { value = e; below = identity_below (tw k s S a).group (tw_lawful k s S a).group } in
      sym (entry_is r unit) ∙ ap (element_value k s (simple r).value) (identities_agree s.cocycle S.cocycle a.value a.below) ∙ at_identity k s S (simple r)

  row_product_is : (r t : Below (length table.rows)) (p : Below (size (tw k s S a)))
      → row_product (simples k s S) a Q F (at_place k s S a) N simple r t p ≡ (product_sum (tw k s S a) chars r.value t.value p.value).value
  row_product_is r t p =
      total_numbers R m (some_place (tw k s S a) (tw_lawful k s S a)) _ (λ y. (product_term (tw k s S a) chars r.value t.value p.value y).value)
      (λ y.
      ap₂ R.mul (phase_root k s S a y (Q.op (Q.inv y) p)) (ap₂ (λ u v. R.mul (conjugate_value k u) (conjugate_value k v)) (entry_is r y) (entry_is t (Q.op (Q.inv y) p))))

  chosen : (b : Bool) (u v : Formed k) → b ≡ true → (if b then u else v).value ≡ u.value
  chosen b u v h = ap (λ b. (if b then u else v).value) h

  passed_over : (b : Bool) (u v : Formed k) → b ≡ false → (if b then u else v).value ≡ v.value
  passed_over b u v h = ap (λ b. (if b then u else v).value) h

  good_places : GoodTableAtPlaces (simples k s S) a Q F (at_place k s S a) N simple
  good_places = record {
    unitary = λ r p.
        entry_is r (Q.inv p) ∙ good.unitary r.value p.value r.below p.below
        ∙ sym (ap₂ (λ z u. R.mul z (conjugate_value k u)) (phase_root k s S a p (Q.inv p)) (entry_is r p));
    product_self = λ r p.
        let d = degree_at k s (simple r).value in
        let sum = product_sum (tw k s S a) chars r.value r.value p.value in
        let one = eq-eqb r.value r.value refl in
        ap (multiple R d) (row_product_is r r p) ∙ multiple_is_mul R d sum.value ∙ ap (λ z. R.mul z sum.value) (sym (degree_chi r))
        ∙ sym (chosen (r.value == r.value) (multiplied k (degree_value (tw k s S a) chars r.value) sum) sum one)
        ∙ good.product r.value r.value p.value r.below r.below p.below
        ∙ chosen (r.value == r.value) (multiplied k (given k (whole k m)) (conjugate_value_at (tw k s S a) chars r.value p.value)) (given k value_nought) one
        ∙ ap₂ R.mul (whole_multiple k m) (ap (conjugate_value k) (sym (entry_is r p))) ∙ sym (multiple_is_mul R m _);
    product_other = λ r t p differ.
        let sum = product_sum (tw k s S a) chars r.value t.value p.value in
        let apart = other_number r.value t.value (λ same. differ (below_equal r t same)) in
        row_product_is r t p ∙ sym (passed_over (r.value == t.value) (multiplied k (degree_value (tw k s S a) chars r.value) sum) sum apart)
        ∙ good.product r.value t.value p.value r.below t.below p.below
        ∙ passed_over (r.value == t.value) (multiplied k (given k (whole k m)) (conjugate_value_at (tw k s S a) chars r.value p.value)) (given k value_nought) apart;
    sum = λ p.
        total_numbers R (length table.rows) rows_positive _ (λ r. (sum_term (tw k s S a) chars p.value r).value)
        (λ r. multiple_is_mul R (degree_at k s (simple r).value) _ ∙ ap₂ R.mul (sym (degree_chi r)) (ap (conjugate_value k) (entry_is r p)))
        ∙ good.sum p.value p.below ∙ sym (where_picked k (p.value == e) (given k (whole k m))) ∙ ap₂ (pick R) (sym (equals_is p (record { value = e; below = Q.one.below }))) (whole_multiple k m);
    column = λ p q.
        total_numbers R (length table.rows) rows_positive _ (λ r. (row_term (tw k s S a) chars p.value q.value r).value)
        (λ r. ap₂ (λ u v. R.mul (conjugate_value k u) v) (entry_is r p) (entry_is r q))
        ∙ good.column p.value q.value p.below q.below
        ∙ sym (total_numbers R m (some_place (tw k s S a) (tw_lawful k s S a)) _ (λ b. (column_term (tw k s S a) p.value q.value b).value)
        (λ b.
        ap₂ (pick R) (equals_is (Q.op (Q.op b p) (Q.inv b)) q ∙ ap (λ n. n == q.value) (place_conjugate b p)) (ap (conjugate_value k) (conjugation_root_is b p))
        ∙ where_picked k (conjugate (tw k s S a).group b.value p.value == q.value)
        (conjugated k (given k (root k (phase_exponent k (tw k s S a) (kappa_at_places (tw k s S a) b.value p.value)))))));
  }
    where
      equals_is : (x y : Below (size (tw k s S a))) → equals F x y ≡ (x.value == y.value)
      equals_is x y = equals_numbers m (some_place (tw k s S a) (tw_lawful k s S a)) x y

      place_conjugate : (b p : Below (size (tw k s S a))) → (Q.op (Q.op b p) (Q.inv b)).value ≡ conjugate (tw k s S a).group b.value p.value
      place_conjugate b p = place_conjugate_is (tw k s S a) (tw_lawful k s S a) b p

-- a good table for each class
module _ (k : ℕ) (s : SimplesOver) (S : AreSimples k s) where
  abbrev pub numbered : Finite (Below (count k s))
  numbered = finite_below (count k s) (vacuum_is k s S).0

  pub good_tables : GoodTables (simples k s S) numbered
  good_tables = record {
    table = λ a least.
        let same = ap (λ (x : Below s.cocycle.group.order). x.value) least in
        good_at_elements (setting k s S) (double_classes s.cocycle S.cocycle) (simples k s S) numbered a (place k s S a)
        (places (tw k s S a) (tw_lawful k s S a)) (at_place k s S a) (centraliser k s S a) (N k s S a same) (simple k s S a same) (part k s S a same) (good_places k s S a same);
  }

  -- the vacuum is the first simple
  abbrev pub first : Below (count k s)
  first = record { value = 0; below = (vacuum_is k s S).0 }

  pub vacuum : IsVacuum (simples k s S) first
  vacuum = record {
    at_one = below_equal _ _ is.representative;
    values_one = λ x. is.values (unwrap_or (place_of (over_at k s 0) x.value) 0) (some_place_of x.value);
  }
    where
      is : IsVacuumAt k s 0
      is = (vacuum_is k s S).1

      some_place_of : (x : ℕ) → unwrap_or (place_of (over_at k s 0) x) 0 < size (over_at k s 0)
      some_place_of x =
          place_small (over_at k s 0) (λ p. element (over_at k s 0) p ≡ x) (place_of (over_at k s 0) x) (unwrap_or (place_of (over_at k s 0) x) 0)
          (over_is_twist k s S (class_at k s 0) (row k s S first).class_below) (place_there (over_at k s 0) x (place_of (over_at k s 0) x) refl) refl

-- whole multiples cancel in the cyclotomic ring
pub torsion_free : (k : ℕ) → IsTorsionFree (cyclotomic_ring k)
torsion_free k = record { cancel = λ n u positive e. cancel_multiple n u positive (sym (multiple-is (cyclotomic k) n u) ∙ e) }
