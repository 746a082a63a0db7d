-- The twists of the simples, as roots of the ring, and the relations of S and T.
use Rattle.transport.proofs.Names.{◌≡◌, ℕ, ◌*◌, ◌<◌, true, Option, refl, sym, ap, ap₂, ◌∙◌, ◌==◌, unwrap_or, CommRing, sum_below, conj, Below, below_equal, sum_ext, mul_sum, first_finds, Cochain, identity_of, cyclotomic, value_product, value_one, CyclotomicValue, cyclotomic_ring, root, conjugate, root_conjugate, TwistedSubgroup, place_of, theta, whole, twist_left, twist_right, is_same, where_holds, twist_of, Characters, is_same-Decides, Setting, Classes, Commuting, slant_root, commuting_product, mul_pick, sum_pick, sum_exchange, sum_mul, twisted_centraliser, slant_phase, HasTwist, SimplesOver, count, twist_at, over_at, characters_at, simple_at, degree_at, class_at, value_at, AreSimples, root_exponent, Matrix, at_equal, product_of, adjoint, s_entry, twist_root, by_twists, by_s, OfAllSimples, TwistsAct, TwistsUnitary, StepsAreInverse, STSRelation, STCubeRelation, SFourthRelation, HasModularData}
use Rattle.table_check.proofs.Good.{twist_there}
use Rattle.characters.specs.Twists.{AreTwists}
use Rattle.characters.proofs.TwistLaws.{twist_acts}
use Rattle.characters.proofs.Relations.{s_t_s, s_t_cubed, s_fourth}
use Rattle.transport.proofs.Doubles.{double_classes}
use Rattle.transport.proofs.DoubleSimples.{setting, simples, at, row, over_is, degree, at_identity, whole_multiple}
use Rattle.transport.proofs.CharacterLaws.{character_is}
use Rattle.transport.proofs.GoodTables.{numbered, good_tables, torsion_free}
use Rattle.transport.proofs.Wholes.{whole_product}
use Rattle.transport.proofs.PairSums.{pick_if, simples_sum, at_equal_is, order_is, square_is}
use Rattle.transport.proofs.SMatrixLaws.{simple, entry_is, characters_orthogonal, s_symmetric, vacuum_row, vacuum_entry, s_is_unitary, adjoint_is_unitary, squares_of_dimensions}

at_is : (w : Cochain) (a : ℕ) → (twisted_centraliser w a).at ≡ a
unfolding twisted_centraliser
at_is w a = refl

-- the twist that is found is one
twist_found : {k : ℕ} (t : TwistedSubgroup) (table : Characters k) (r : ℕ) → HasTwist t table r → (twist_left t table r).value ≡ (twist_right t table r (unwrap_or (twist_of t table r) 0)).value
twist_found {k} t table r has =
    let test = λ (v : ℕ). is_same (twist_left t table r).value (twist_right t table r v).value in
    let holds : test has.twist ≡ true = (is_same-Decides (twist_left t table r).value (twist_right t table r has.twist).value).1 has.same in
    let (v, found) = first_finds k has.twist (λ v. where_holds (test v) v) has.twist has.below (ap (λ b. where_holds b has.twist) holds) in
    (twist_there t table r v found).1 ∙ ap (λ (o : Option ℕ). (twist_right t table r (unwrap_or o 0)).value) (sym found)

-- products of matrices associate
product_assoc : {A : Type 0} (R : CommRing A) (n : ℕ) (a : ℕ → A) (b : ℕ → ℕ → A) (c : ℕ → A) →
    sum_below R n (λ l. R.mul (sum_below R n (λ m. R.mul (a m) (b m l))) (c l)) ≡ sum_below R n (λ m. R.mul (a m) (sum_below R n (λ l. R.mul (b m l) (c l))))
product_assoc R n a b c =
    sum_ext R n _ _ (λ l below. sum_mul R n _ (c l)) ∙ sum_exchange R n n _
    ∙ sum_ext R n _ _ (λ m below. sum_ext R n _ _ (λ l inside. R.mul_assoc (a m) (b m l) (c l)) ∙ sym (mul_sum R n (a m) _))

module _ (k : ℕ) (s : SimplesOver) (S : AreSimples k s) where
  abbrev T : Setting (CyclotomicValue k) (Below s.cocycle.group.order)
  T = setting k s S

  abbrev C : Classes (setting k s S).group
  C = double_classes s.cocycle S.cocycle

  abbrev R : CommRing (CyclotomicValue k)
  R = cyclotomic_ring k

  -- the twist of a simple
  abbrev pub twist : Below (count k s) → CyclotomicValue k
  twist i = twist_root k s i.value

  at_itself : (i : Below (count k s)) → (simples k s S).value i (at k s S i) ≡ value_product (cyclotomic k) (twist i) ((simples k s S).value i T.group.one)
  at_itself i =
      let over = over_at k s i.value in
      let own : over.at ≡ (at k s S i).value = ap (λ (t : TwistedSubgroup). t.at) (over_is k s S i) ∙ at_is s.cocycle (at k s S i).value in
      let good = S.good (class_at k s i.value) (row k s S i).class_below in
      let r = (simple_at k s i.value).row in
      let degree_value : (characters_at k s i.value).chi r (identity_of over.group) ≡ (simples k s S).value i T.group.one =
      (degree k s S i).1 ∙ whole_multiple k (degree_at k s i.value) ∙ sym (at_identity k s S i) in
      ap (λ a. value_at k s i.value (unwrap_or (place_of over a) 0)) (sym own)
      ∙ twist_found over (characters_at k s i.value) r (good.twist r (row k s S i).row_below)
      ∙ ap (value_product (cyclotomic k) (twist i)) degree_value

  pub twists : AreTwists (simples k s S) twist
  twists = record {
    unit = λ i. root_conjugate k S.conductor (twist_at k s i.value);
    at_itself = at_itself;
  }

  slant_is : (g x y : Below s.cocycle.group.order) → slant_root T g x y ≡ root k (root_exponent k s.cocycle (theta s.cocycle g.value x.value y.value))
  unfolding slant_root slant_phase theta conj
  slant_is g x y = refl

pub twists_act : OfAllSimples TwistsAct
twists_act k s S i g x i_below g_below x_below commutes =
    let I = simple k s S i i_below in
    let G : Below s.cocycle.group.order = record { value = g; below = g_below } in
    let X : Below s.cocycle.group.order = record { value = x; below = x_below } in
    let T = setting k s S in
    let commuting : Commuting T G X = below_equal _ _ commutes in
    let product_commutes : Commuting T G (T.group.op G X) = sym (commuting_product T G X G refl (sym commuting)) in
    sym (ap₂ (value_product (cyclotomic k)) (slant_is k s S G G X) (character_is k s S I G (T.group.op G X) product_commutes))
    ∙ twist_acts T (double_classes s.cocycle S.cocycle) (simples k s S) (numbered k s S) (good_tables k s S) (torsion_free k) (twist k s S) (twists k s S) I G X commuting
    ∙ ap (value_product (cyclotomic k) (twist_root k s i)) (character_is k s S I G X commuting)

pub twists_unitary : OfAllSimples TwistsUnitary
twists_unitary k s S i below = root_conjugate k S.conductor (twist_at k s i)

-- a matrix times two whose product is a multiple of the identity
times_both : (k n : ℕ) (a : ℕ → CyclotomicValue k) (b c : Matrix k) (u : CyclotomicValue k) (j : ℕ) → ((m : ℕ) → m < n → product_of k n b c m j ≡ at_equal k m j u) → j < n
    → sum_below (cyclotomic_ring k) n (λ l. value_product (cyclotomic k) (sum_below (cyclotomic_ring k) n (λ m. value_product (cyclotomic k) (a m) (b m l))) (c l j))
    ≡ value_product (cyclotomic k) u (a j)
times_both k n a b c u j multiple below =
    let R = cyclotomic_ring k in
    product_assoc R n a b (λ l. c l j)
    ∙ sum_ext R n _ _ (λ m inside. ap (R.mul (a m)) (multiple m inside ∙ sym (pick_if k (m == j) u)) ∙ mul_pick R (m == j) (a m) u)
    ∙ sum_pick R n j (λ m. R.mul (a m) u) below ∙ R.mul_comm (a j) u

-- what is multiplied by two inverse factors
times_inverses : (k : ℕ) (a r q : CyclotomicValue k) → value_product (cyclotomic k) r q ≡ value_one (cyclotomic k) → value_product (cyclotomic k) (value_product (cyclotomic k) a r) q ≡ a
times_inverses k a r q unit = let R = cyclotomic_ring k in R.mul_assoc a r q ∙ ap (R.mul a) unit ∙ R.mul_one a

pub steps_are_inverse : OfAllSimples StepsAreInverse
steps_are_inverse k s S =
    let square = whole k (s.cocycle.group.order * s.cocycle.group.order) in
    let x = twist_root k s in
    record {
      s_undone = λ a i j below.
          times_both k (count k s) (a i) (s_entry k s) (adjoint k (s_entry k s)) square j (λ m inside. s_is_unitary k s S m j inside below) below;
      adjoint_undone = λ a i j below.
          times_both k (count k s) (a i) (adjoint k (s_entry k s)) (s_entry k s) square j (λ m inside. adjoint_is_unitary k s S m j inside below) below;
      twists_undone = λ a i j below. times_inverses k (a i j) (x j) (conjugate k (x j)) (twists_unitary k s S j below);
      inverse_undone = λ a i j below.
          times_inverses k (a i j) (conjugate k (x j)) (x j) ((cyclotomic_ring k).mul_comm (conjugate k (x j)) (x j) ∙ twists_unitary k s S j below);
    }

pub s_t_s_relation : OfAllSimples STSRelation
s_t_s_relation k s S i j i_below j_below =
    let I = simple k s S i i_below in
    let J = simple k s S j j_below in
    let mul = value_product (cyclotomic k) in
    sum_ext (cyclotomic_ring k) (count k s) _ _ (λ l below. (cyclotomic_ring k).mul_assoc (s_entry k s i l) (twist_root k s l) (s_entry k s l j))
    ∙ sym (simples_sum k s S _ (λ l. mul (s_entry k s i l) (mul (twist_root k s l) (s_entry k s l j)))
    (λ l. ap₂ (λ u v. mul u (mul (twist_root k s l.value) v)) (entry_is k s S I l) (entry_is k s S l J)))
    ∙ s_t_s (setting k s S) (double_classes s.cocycle S.cocycle) (simples k s S) (numbered k s S) (good_tables k s S) (torsion_free k) (twist k s S) (twists k s S) I J
    ∙ ap₂ (λ n u. mul n (mul (mul (conjugate k (twist_root k s i)) (conjugate k (twist_root k s j))) u)) (order_is k s S) (entry_is k s S I J)

pub s_t_cube_relation : OfAllSimples STCubeRelation
s_t_cube_relation k s S i j i_below j_below =
    let R = cyclotomic_ring k in
    let m = count k s in
    let I = simple k s S i i_below in
    let J = simple k s S j j_below in
    let M = s_entry k s in
    let x = twist_root k s in
    let inner = λ (l : ℕ). sum_below R m (λ o. R.mul (M l o) (R.mul (x o) (M o j))) in
    ap (λ u. R.mul u (x j))
    (sum_ext R m _ _ (λ l below. R.mul_assoc (by_s k s (by_twists k s M) i l) (x l) (M l j))
    ∙ product_assoc R m (λ l. R.mul (M i l) (x l)) M (λ o. R.mul (x o) (M o j)))
    ∙ sum_mul R m _ (x j)
    ∙ sum_ext R m _ _ (λ l below. R.mul_assoc (R.mul (M i l) (x l)) (inner l) (x j) ∙ R.mul_assoc (M i l) (x l) (R.mul (inner l) (x j)))
    ∙ sym (simples_sum k s S _ (λ l. R.mul (M i l) (R.mul (x l) (R.mul (inner l) (x j))))
    (λ l. ap₂ (λ u v. R.mul u (R.mul (x l.value) (R.mul v (x j)))) (entry_is k s S I l)
    (simples_sum k s S _ (λ o. R.mul (M l.value o) (R.mul (x o) (M o j))) (λ o. ap₂ (λ u v. R.mul u (R.mul (x o.value) v)) (entry_is k s S l o) (entry_is k s S o J)))))
    ∙ s_t_cubed (setting k s S) (double_classes s.cocycle S.cocycle) (simples k s S) (numbered k s S) (good_tables k s S) (torsion_free k) (twist k s S) (twists k s S) I J
    ∙ ap₂ R.mul (order_is k s S) (simples_sum k s S _ (λ l. R.mul (M i l) (M l j)) (λ l. ap₂ R.mul (entry_is k s S I l) (entry_is k s S l J)))

pub s_fourth_relation : OfAllSimples SFourthRelation
s_fourth_relation k s S i j i_below j_below =
    let R = cyclotomic_ring k in
    let m = count k s in
    let n = s.cocycle.group.order in
    let I = simple k s S i i_below in
    let J = simple k s S j j_below in
    let M = s_entry k s in
    let square = by_s k s M in
    product_assoc R m (square i) M (λ l. M l j)
    ∙ sym (simples_sum k s S _ (λ o. R.mul (square i o) (square o j))
    (λ o. ap₂ R.mul
    (simples_sum k s S _ (λ l. R.mul (M i l) (M l o.value)) (λ l. ap₂ R.mul (entry_is k s S I l) (entry_is k s S l o)))
    (simples_sum k s S _ (λ l. R.mul (M o.value l) (M l j)) (λ l. ap₂ R.mul (entry_is k s S o l) (entry_is k s S l J)))))
    ∙ s_fourth (setting k s S) (double_classes s.cocycle S.cocycle) (simples k s S) (numbered k s S) (good_tables k s S) (torsion_free k) I J
    ∙ at_equal_is k s S I J _ _ (ap₂ R.mul (square_is k s S) (square_is k s S) ∙ whole_product k (n * n) (n * n))

pub modular_data : OfAllSimples HasModularData
modular_data k s S = record {
  characters = characters_orthogonal k s S;
  symmetric = s_symmetric k s S;
  vacuum_row = vacuum_row k s S;
  vacuum_entry = vacuum_entry k s S;
  unitary = s_is_unitary k s S;
  squares = squares_of_dimensions k s S;
  twists = twists_act k s S;
  product = s_t_s_relation k s S;
  cube = s_t_cube_relation k s S;
  fourth = s_fourth_relation k s S;
}
