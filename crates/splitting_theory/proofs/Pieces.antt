-- The pieces of one: nonzero idempotents, in order, that add up to one.
use Rattle.splitting_theory.proofs.Names.{◌≡◌, ℕ, zero, suc, ◌+◌, ◌-◌, ◌<◌, ◌≤◌, Bool, true, false, List, [], ◌∷◌, ◌++◌, refl, sym, ◌∙◌, ap, subst, arith, inl, inr, ◌⊎◌, ◌≢◌, flat_map, add-zero, add-suc, cases_lt, ap₂, CommRing, sum_below, sum_list, mul_nought, mul_left_comm, sum_zero, sum_suc, sum_list_nil, sum_list_cons, sum_list_append, sum_list_push, sum_list_single, Each, Pairwise, IsFixed, ZeroTest, number, part, parts_below, pieces, Acts, IsPiece, Precedes, IsSplitting}
use Rattle.splitting_theory.proofs.Lists.{each_append, each_map, pairwise_append, each_flat, pairwise_flat}
use Rattle.splitting_theory.proofs.Parts.{part_acts, part_within, part_idempotent, part_of_part, apart, parts_apart, part_served, parts_total}

module _ {B : Type 0} (Z : CommRing B) (T : ZeroTest Z) (q : ℕ) where
  pub parts_zero : (k e : B) → parts_below Z T q k e zero ≡ []
  unfolding parts_below
  parts_zero k e = refl

  pub parts_skip : (k e : B) (n : ℕ) → T.is_nought (part Z q k e n) ≡ true → parts_below Z T q k e (suc n) ≡ parts_below Z T q k e n
  unfolding parts_below
  parts_skip k e n h = rw h refl

  pub parts_keep : (k e : B) (n : ℕ) → T.is_nought (part Z q k e n) ≡ false → parts_below Z T q k e (suc n) ≡ parts_below Z T q k e n ++ part Z q k e n ∷ []
  unfolding parts_below
  parts_keep k e n h = rw h refl

  pub pieces_zero : (at : ℕ → B) → pieces Z T q at zero ≡ Z.one ∷ []
  unfolding pieces
  pieces_zero at = refl

  pub pieces_suc : (at : ℕ → B) (t : ℕ) → pieces Z T q at (suc t) ≡ flat_map (λ e. parts_below Z T q (at t) e q) (pieces Z T q at t)
  unfolding pieces
  pieces_suc at t = refl

  -- p is the part of e at a number below n, and isn't nought
  pub record IsAt (k e : B) (n : ℕ) (p : B) : Type 0 where
    pub value : ℕ
    pub below : value < n
    pub is : p ≡ part Z q k e value
    pub there : p ≢ Z.nought

  -- the two are parts of e, the first at a lower number
  pub record AreAt (k e : B) (p r : B) : Type 0 where
    pub low : ℕ
    pub high : ℕ
    pub less : low < high
    pub below : high < q
    pub left : p ≡ part Z q k e low
    pub right : r ≡ part Z q k e high

  at_more : (k e : B) (n : ℕ) (p : B) → IsAt k e n p → IsAt k e (suc n) p
  at_more k e n p h = record { value = h.value; below = (let b = h.below in omega arith); is = h.is; there = h.there }

  pub parts_at : (k e : B) (n : ℕ) → Each (IsAt k e n) (parts_below Z T q k e n)
  parts_at k e zero = subst (Each (IsAt k e zero)) (sym (parts_zero k e)) tt
  parts_at k e (suc n) = cases (each_map (IsAt k e n) (IsAt k e (suc n)) (at_more k e n) (parts_below Z T q k e n) (parts_at k e n)) (T.is_nought (part Z q k e n)) refl
    where
      cases : Each (IsAt k e (suc n)) (parts_below Z T q k e n) → (b : Bool) → T.is_nought (part Z q k e n) ≡ b → Each (IsAt k e (suc n)) (parts_below Z T q k e (suc n))
      cases before true h = subst (Each (IsAt k e (suc n))) (sym (parts_skip k e n h)) before
      cases before false h =
          subst (Each (IsAt k e (suc n))) (sym (parts_keep k e n h))
          (each_append (IsAt k e (suc n)) (parts_below Z T q k e n) (part Z q k e n ∷ []) before
          (record { value = n; below = omega arith; is = refl; there = T.fails (part Z q k e n) h }, tt))

  pub parts_pairs : (k e : B) (n : ℕ) → n ≤ q → Pairwise (AreAt k e) (parts_below Z T q k e n)
  parts_pairs k e zero small = subst (Pairwise (AreAt k e)) (sym (parts_zero k e)) tt
  parts_pairs k e (suc n) small = cases (parts_pairs k e n (omega arith)) (T.is_nought (part Z q k e n)) refl
    where
      later : (p : B) → IsAt k e n p → Each (AreAt k e p) (part Z q k e n ∷ [])
      later p h = (record { low = h.value; high = n; less = h.below; below = omega arith; left = h.is; right = refl }, tt)

      cases : Pairwise (AreAt k e) (parts_below Z T q k e n) → (b : Bool) → T.is_nought (part Z q k e n) ≡ b → Pairwise (AreAt k e) (parts_below Z T q k e (suc n))
      cases before true h = subst (Pairwise (AreAt k e)) (sym (parts_skip k e n h)) before
      cases before false h =
          subst (Pairwise (AreAt k e)) (sym (parts_keep k e n h))
          (pairwise_append (AreAt k e) (parts_below Z T q k e n) (part Z q k e n ∷ []) before (tt, tt)
          (each_map (IsAt k e n) (λ p. Each (AreAt k e p) (part Z q k e n ∷ [])) later (parts_below Z T q k e n) (parts_at k e n)))

  pub parts_sum : (k e : B) (n : ℕ) → sum_list Z (parts_below Z T q k e n) ≡ sum_below Z n (λ v. part Z q k e v)
  parts_sum k e zero = ap (sum_list Z) (parts_zero k e) ∙ sum_list_nil Z ∙ sym (sum_zero Z (λ v. part Z q k e v))
  parts_sum k e (suc n) = cases (parts_sum k e n) (T.is_nought (part Z q k e n)) refl
    where
      cases : sum_list Z (parts_below Z T q k e n) ≡ sum_below Z n (λ v. part Z q k e v) → (b : Bool) → T.is_nought (part Z q k e n) ≡ b → sum_list Z (parts_below Z T q k e (suc n)) ≡ sum_below Z (suc n) (λ v. part Z q k e v)
      cases before true h =
          ap (sum_list Z) (parts_skip k e n h) ∙ before ∙ sym (Z.add_nought (sum_below Z n (λ v. part Z q k e v)))
          ∙ ap (λ a. Z.add (sum_below Z n (λ v. part Z q k e v)) a) (sym (T.passes (part Z q k e n) h)) ∙ sym (sum_suc Z n (λ v. part Z q k e v))
      cases before false h =
          ap (sum_list Z) (parts_keep k e n h) ∙ sum_list_push Z (parts_below Z T q k e n) (part Z q k e n)
          ∙ ap (λ a. Z.add a (part Z q k e n)) before ∙ sym (sum_suc Z n (λ v. part Z q k e v))

module _ {B : Type 0} (Z : CommRing B) (T : ZeroTest Z) (q : ℕ) (I : IsFixed Z q) (at : ℕ → B) where
  -- what a number does to e it does to a part of e
  on_part : (k c e p : B) (u v : ℕ) → p ≡ part Z q k e v → Z.mul e e ≡ e → Z.mul c e ≡ Z.mul (number Z u) e → Z.mul c p ≡ Z.mul (number Z u) p
  on_part k c e p u v is h i = ap (λ a. Z.mul c a) is ∙ part_served Z q I c (number Z u) k e v h i ∙ ap (λ a. Z.mul (number Z u) a) (sym is)

  acts_here : (k e p : B) (v : ℕ) → p ≡ part Z q k e v → Z.mul k p ≡ Z.mul (number Z v) p
  acts_here k e p v is = ap (λ a. Z.mul k a) is ∙ part_acts Z q I k e v ∙ ap (λ a. Z.mul (number Z v) a) (sym is)

  part_piece : (t : ℕ) (e p : B) → IsPiece Z q at t e → IsAt Z T q (at t) e q p → IsPiece Z q at (suc t) p
  part_piece t e p piece place = record {
    there = place.there;
    idempotent = ap (λ a. Z.mul a a) place.is ∙ part_idempotent Z q I (at t) e place.value piece.idempotent ∙ sym place.is;
    served = λ s h. serve s (cases_lt s t) h;
  }
    where
      serve : (s : ℕ) → (s < t) ⊎ (t ≤ s) → s < suc t → Acts Z q (at s) p
      serve s (inl k) h =
          let before = piece.served s k in
          record { value = before.value; below = before.below; acts = on_part (at t) (at s) e p before.value place.value place.is piece.idempotent before.acts }
      serve s (inr k) h =
          let same : t ≡ s = omega arith in
          record { value = place.value; below = place.below; acts = ap (λ j. Z.mul (at j) p) (sym same) ∙ acts_here (at t) e p place.value place.is }

  own_pair : (t : ℕ) (e p r : B) → IsPiece Z q at t e → AreAt Z T q (at t) e p r → Precedes Z q at (suc t) p r
  own_pair t e p r piece places = record {
    apart = ap₂ Z.mul places.left places.right ∙ parts_apart Z q I (at t) e places.low places.high places.less places.below;
    place = t;
    place_below = omega arith;
    before = λ s h. (let before = piece.served s h in record {
      value = before.value;
      below = before.below;
      left = on_part (at t) (at s) e p before.value places.low places.left piece.idempotent before.acts;
      right = on_part (at t) (at s) e r before.value places.high places.right piece.idempotent before.acts;
    });
    here = record {
      low = places.low;
      high = places.high;
      less = places.less;
      below = places.below;
      left = acts_here (at t) e p places.low places.left;
      right = acts_here (at t) e r places.high places.right;
    };
  }

  cross_pair : (t : ℕ) (e f p r : B) → IsPiece Z q at t e → IsPiece Z q at t f → Precedes Z q at t e f → IsAt Z T q (at t) e q p → IsAt Z T q (at t) f q r → Precedes Z q at (suc t) p r
  cross_pair t e f p r left right pair of_e of_f = record {
    apart =
        ap₂ Z.mul of_e.is of_f.is ∙ ap₂ Z.mul (sym (part_within Z q I (at t) e e of_e.value left.idempotent)) (sym (part_within Z q I (at t) f f of_f.value right.idempotent))
        ∙ none (part Z q (at t) e of_e.value) e (part Z q (at t) f of_f.value) f pair.apart;
    place = pair.place;
    place_below = (let h = pair.place_below in omega arith);
    before = λ s h. (let before = pair.before s h in record {
      value = before.value;
      below = before.below;
      left = on_part (at t) (at s) e p before.value of_e.value of_e.is left.idempotent before.left;
      right = on_part (at t) (at s) f r before.value of_f.value of_f.is right.idempotent before.right;
    });
    here = record {
      low = pair.here.low;
      high = pair.here.high;
      less = pair.here.less;
      below = pair.here.below;
      left = on_part (at t) (at pair.place) e p pair.here.low of_e.value of_e.is left.idempotent pair.here.left;
      right = on_part (at t) (at pair.place) f r pair.here.high of_f.value of_f.is right.idempotent pair.here.right;
    };
  }
    where
      none : (a b c d : B) → Z.mul b d ≡ Z.nought → Z.mul (Z.mul a b) (Z.mul c d) ≡ Z.nought
      none a b c d h = Z.mul_assoc a b (Z.mul c d) ∙ ap (λ x. Z.mul a x) (mul_left_comm Z b c d ∙ ap (λ x. Z.mul c x) h ∙ mul_nought Z c) ∙ mul_nought Z a

  pieces_sum : (t : ℕ) (es : List B) → Each (IsPiece Z q at t) es → sum_list Z (flat_map (λ e. parts_below Z T q (at t) e q) es) ≡ sum_list Z es
  pieces_sum t [] h = refl
  pieces_sum t (e ∷ es) h =
      sum_list_append Z (parts_below Z T q (at t) e q) (flat_map (λ e. parts_below Z T q (at t) e q) es)
      ∙ ap₂ Z.add (parts_sum Z T q (at t) e q ∙ parts_total Z q I (at t) e) (pieces_sum t es h.1) ∙ sym (sum_list_cons Z e es)

  next_splitting : (t : ℕ) (es : List B) → IsSplitting Z q at t es → IsSplitting Z q at (suc t) (flat_map (λ e. parts_below Z T q (at t) e q) es)
  next_splitting t es h = record {
    each = each_flat (λ e. parts_below Z T q (at t) e q) (IsPiece Z q at t) (IsPiece Z q at (suc t))
        (λ e piece. each_map (IsAt Z T q (at t) e q) (IsPiece Z q at (suc t)) (λ p. part_piece t e p piece) (parts_below Z T q (at t) e q) (parts_at Z T q (at t) e q)) es h.each;
    order = pairwise_flat (λ e. parts_below Z T q (at t) e q) (IsPiece Z q at t) (Precedes Z q at t) (Precedes Z q at (suc t))
        (λ e piece. own e piece (parts_below Z T q (at t) e q) (parts_pairs Z T q (at t) e q (omega arith)))
        (λ e f left right pair. each_map (IsAt Z T q (at t) e q) (λ p. Each (Precedes Z q at (suc t) p) (parts_below Z T q (at t) f q))
        (λ p of_e. each_map (IsAt Z T q (at t) f q) (Precedes Z q at (suc t) p) (λ r of_f. cross_pair t e f p r left right pair of_e of_f) (parts_below Z T q (at t) f q) (parts_at Z T q (at t) f q))
        (parts_below Z T q (at t) e q) (parts_at Z T q (at t) e q)) es h.each h.order;
    whole = pieces_sum t es h.each ∙ h.whole;
  }
    where
      own : (e : B) → IsPiece Z q at t e → (ps : List B) → Pairwise (AreAt Z T q (at t) e) ps → Pairwise (Precedes Z q at (suc t)) ps
      own e piece [] k = tt
      own e piece (p ∷ ps) k = (each_map (AreAt Z T q (at t) e p) (Precedes Z q at (suc t) p) (λ r. own_pair t e p r piece) ps k.0, own e piece ps k.1)

  -- the pieces split one
  pub pieces_split : (t : ℕ) → IsSplitting Z q at t (pieces Z T q at t)
  pieces_split zero = subst (IsSplitting Z q at zero) (sym (pieces_zero Z T q at)) record {
    each = (record { there = I.one_there; idempotent = Z.mul_one Z.one; served = λ s h. absurd (omega arith) }, tt);
    order = (tt, tt);
    whole = sum_list_single Z Z.one;
  }
  pieces_split (suc t) = subst (IsSplitting Z q at (suc t)) (sym (pieces_suc Z T q at t)) (next_splitting t (pieces Z T q at t) (pieces_split t))

module _ {B : Type 0} (Z : CommRing B) (T : ZeroTest Z) where
  pub test_true : (x : B) → x ≡ Z.nought → T.is_nought x ≡ true
  test_true x e = cases (T.is_nought x) refl
    where
      cases : (b : Bool) → T.is_nought x ≡ b → T.is_nought x ≡ true
      cases true h = h
      cases false h = absurd (T.fails x h e)

  pub test_false : (x : B) → x ≢ Z.nought → T.is_nought x ≡ false
  test_false x e = cases (T.is_nought x) refl
    where
      cases : (b : Bool) → T.is_nought x ≡ b → T.is_nought x ≡ false
      cases true h = absurd (e (T.passes x h))
      cases false h = h

module _ {B : Type 0} (Z : CommRing B) (T : ZeroTest Z) (q : ℕ) (I : IsFixed Z q) (k e : B) (u : ℕ) (small : u < q) (there : e ≢ Z.nought) (idem : Z.mul e e ≡ e) (acts : Z.mul k e ≡ Z.mul (number Z u) e) where
  part_here : part Z q k e u ≡ e
  part_here = sym (part_within Z q I k e e u idem) ∙ part_of_part Z q I k e e u acts idem

  part_elsewhere : (v : ℕ) → v < q → (v < u) ⊎ (u < v) → part Z q k e v ≡ Z.nought
  part_elsewhere v below (inl h) = apart Z q I k (part Z q k e v) v u h small (part_acts Z q I k e v) (part_served Z q I k (number Z u) k e v idem acts)
  part_elsewhere v below (inr h) = apart Z q I k (part Z q k e v) u v h below (part_served Z q I k (number Z u) k e v idem acts) (part_acts Z q I k e v)

  parts_before : (n : ℕ) → n ≤ u → parts_below Z T q k e n ≡ []
  parts_before zero h = parts_zero Z T q k e
  parts_before (suc n) h =
      parts_skip Z T q k e n (test_true Z T (part Z q k e n) (part_elsewhere n (omega arith) (inl (omega arith)))) ∙ parts_before n (omega arith)

  parts_after : (d : ℕ) → suc (u + d) ≤ q → parts_below Z T q k e (suc (u + d)) ≡ e ∷ []
  parts_after zero h =
      ap (λ n. parts_below Z T q k e (suc n)) (add-zero u)
      ∙ parts_keep Z T q k e u (test_false Z T (part Z q k e u) (λ none. there (sym part_here ∙ none)))
      ∙ ap₂ (λ ps p. ps ++ p ∷ []) (parts_before u (omega arith)) part_here
  parts_after (suc d) h =
      ap (λ n. parts_below Z T q k e (suc n)) (add-suc u d)
      ∙ parts_skip Z T q k e (suc (u + d)) (test_true Z T (part Z q k e (suc (u + d))) (part_elsewhere (suc (u + d)) (omega arith) (inr (omega arith))))
      ∙ parts_after d (omega arith)

  -- an idempotent that k multiplies by one number is its only part
  pub parts_single : parts_below Z T q k e q ≡ e ∷ []
  parts_single = let whole : suc (u + (q - suc u)) ≡ q = omega arith in ap (λ n. parts_below Z T q k e n) (sym whole) ∙ parts_after (q - suc u) (omega arith)
