-- The full characters by good tables are those of the twisted quantum double, so that its laws hold of them.
use Rattle.transport.proofs.Names.{◌≡◌, ℕ, ◌<◌, Bool, true, false, ◌==◌, refl, sym, ap, ap₂, ◌∙◌, eqb-true, eq-eqb, subst, pick, equals, conj, Below, below_equal, pick_of, pick_off, equals_true, equals_of, class_of, representative_of, representative_at, transporter_of, class_represents, class_of_representative, class_below, cyclotomic, value_product, CyclotomicValue, cyclotomic_ring, root, theta, carried, transport_phase, group, Formed, where_so, Setting, Classes, Commuting, in_class, same_test, conjugate_value, slant_phase, carrying_phase, transport_root, character, term, commuting_conj, carried_back, full_character_at, transporter_independent, covariance, pair_term_is, pair_term_invariant, SimplesOver, count, class_at, AreSimples, root_exponent, carried_value, full_character, pair_term, TransporterIndependent, Covariant, TermsInvariant}
use Rattle.transport.proofs.Listed.{simple_is_row}
use Rattle.transport.proofs.Doubles.{double_classes, conjugate_value_is}
use Rattle.transport.proofs.DoubleSimples.{setting, simples, at}

-- a value that stands where a test holds is picked by it
pub where_picked : (k : ℕ) (test : Bool) (u : Formed k) → pick (cyclotomic_ring k) test u.value ≡ (where_so k test u).value
where_picked k true u = pick_of (cyclotomic_ring k) true u.value refl
where_picked k false u = pick_off (cyclotomic_ring k) false u.value refl

module _ (k : ℕ) (s : SimplesOver) (S : AreSimples k s) where
  abbrev Element : Type 0
  Element = Below s.cocycle.group.order

  abbrev C : Classes (group s.cocycle S.cocycle)
  C = double_classes s.cocycle S.cocycle

  abbrev T : Setting (CyclotomicValue k) (Below s.cocycle.group.order)
  T = setting k s S

  -- the class of a simple
  class_test : (i : Below (count k s)) (g : Element) → in_class T C (simples k s S) i g ≡ (class_of s.cocycle.group g.value == class_at k s i.value)
  unfolding in_class
  class_test i g =
      let t = s.cocycle.group in
      let lawful = S.cocycle.cochain.group in
      let class = class_at k s i.value in
      let class_there = subst (λ n. class < n) S.tables.count (simple_is_row k s.tables i.value i.below).class_below in
      same_test (equals T.finite (C.representative g) (at k s S i)) (class_of t g.value == class)
      (λ h.
      let same : representative_of t g.value ≡ representative_at t class = ap (λ x. x.value) (equals_true T.finite (C.representative g) (at k s S i) h) in
      eq-eqb (class_of t g.value) class
      (sym (class_of_representative t lawful (class_of t g.value) (class_below t lawful g.value g.below))
      ∙ ap (class_of t) (class_represents t lawful g.value g.below ∙ same) ∙ class_of_representative t lawful class class_there))
      (λ h.
      equals_of T.finite (C.representative g) (at k s S i)
      (below_equal _ _ (sym (class_represents t lawful g.value g.below) ∙ ap (representative_at t) (eqb-true (class_of t g.value) class h))))

  pub transport_is : (g x c : Element) → transport_root T g x c ≡ root k (root_exponent k s.cocycle (transport_phase s.cocycle g.value x.value c.value))
  unfolding transport_root carrying_phase slant_phase transport_phase theta conj
  transport_is g x c = refl

  -- what is carried along c
  carried_is : (i : Below (count k s)) (g x c : Element)
      → T.ring.mul (transport_root T g x c) ((simples k s S).value i (conj T.group x c)) ≡ (carried_value k s i.value g.value x.value c.value).value
  unfolding conj
  carried_is i g x c = ap (λ r. T.ring.mul r ((simples k s S).value i (conj T.group x c))) (transport_is g x c)

  pub character_is : (i : Below (count k s)) (g x : Element) → Commuting T g x → character T C (simples k s S) i g x ≡ (full_character k s i.value g.value x.value).value
  character_is i g x commuting =
      full_character_at T C (simples k s S) i g x commuting ∙ ap₂ (pick (cyclotomic_ring k)) (class_test i g) (carried_is i g x (C.carrier g))
      ∙ where_picked k (class_of s.cocycle.group g.value == class_at k s i.value) (carried_value k s i.value g.value x.value (transporter_of s.cocycle.group g.value))

  -- at a conjugate pair
  character_at_conjugates : (i : Below (count k s)) (g x c : Element) → Commuting T g x
      → character T C (simples k s S) i (conj T.group g c) (conj T.group x c)
      ≡ (full_character k s i.value (carried s.cocycle.group g.value c.value) (carried s.cocycle.group x.value c.value)).value
  unfolding conj
  character_at_conjugates i g x c commuting = character_is i (conj T.group g c) (conj T.group x c) (commuting_conj T g x c commuting)

  pub term_is : (i j : Below (count k s)) (g h : Element) → Commuting T g h → term T C (simples k s S) i j g h ≡ (pair_term k s i.value j.value g.value h.value).value
  term_is i j g h commuting =
      pair_term_is T C (simples k s S) i j g h
      ∙ ap₂ (λ u v. T.ring.mul (conjugate_value k u) (conjugate_value k v)) (character_is i g h commuting) (character_is j h g (sym commuting))

  term_at_conjugates : (i j : Below (count k s)) (g h c : Element) → Commuting T g h
      → term T C (simples k s S) i j (conj T.group g c) (conj T.group h c)
      ≡ (pair_term k s i.value j.value (carried s.cocycle.group g.value c.value) (carried s.cocycle.group h.value c.value)).value
  unfolding conj
  term_at_conjugates i j g h c commuting = term_is i j (conj T.group g c) (conj T.group h c) (commuting_conj T g h c commuting)

pub transporters_agree : TransporterIndependent
transporters_agree k s S i g x c i_below g_below x_below c_below commutes carries =
    let I : Below (count k s) = record { value = i; below = i_below } in
    let G : Below s.cocycle.group.order = record { value = g; below = g_below } in
    let X : Below s.cocycle.group.order = record { value = x; below = x_below } in
    let K : Below s.cocycle.group.order = record { value = c; below = c_below } in
    let T = setting k s S in
    let C = double_classes s.cocycle S.cocycle in
    let commuting : Commuting T G X = below_equal _ _ commutes in
    let whole : T.group.op (T.group.op K (at k s S I)) (T.group.inv K) ≡ G = below_equal _ _ (conjugate_value_is s.cocycle S.cocycle K (at k s S I) ∙ carries) in
    let along : conj T.group G K ≡ at k s S I = ap (λ z. conj T.group z K) (sym whole) ∙ carried_back T.group K (at k s S I) in
    sym (character_is k s S I G X commuting) ∙ transporter_independent T C (simples k s S) I G X K along commuting ∙ carried_is k s S I G X K

pub characters_covariant : Covariant
characters_covariant k s S i g x c i_below g_below x_below c_below commutes =
    let I : Below (count k s) = record { value = i; below = i_below } in
    let G : Below s.cocycle.group.order = record { value = g; below = g_below } in
    let X : Below s.cocycle.group.order = record { value = x; below = x_below } in
    let K : Below s.cocycle.group.order = record { value = c; below = c_below } in
    let T = setting k s S in
    let commuting : Commuting T G X = below_equal _ _ commutes in
    sym (character_is k s S I G X commuting) ∙ covariance T (double_classes s.cocycle S.cocycle) (simples k s S) I G X K commuting
    ∙ ap₂ (value_product (cyclotomic k)) (transport_is k s S G X K) (character_at_conjugates k s S I G X K commuting)

pub terms_invariant : TermsInvariant
terms_invariant k s S i j g h c i_below j_below g_below h_below c_below commutes =
    let I : Below (count k s) = record { value = i; below = i_below } in
    let J : Below (count k s) = record { value = j; below = j_below } in
    let G : Below s.cocycle.group.order = record { value = g; below = g_below } in
    let H : Below s.cocycle.group.order = record { value = h; below = h_below } in
    let K : Below s.cocycle.group.order = record { value = c; below = c_below } in
    let T = setting k s S in
    let commuting : Commuting T G H = below_equal _ _ commutes in
    sym (term_at_conjugates k s S I J G H K commuting) ∙ pair_term_invariant T (double_classes s.cocycle S.cocycle) (simples k s S) I J G H K commuting
    ∙ term_is k s S I J G H commuting
