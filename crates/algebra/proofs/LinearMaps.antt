-- Laws of linear maps of a module, and of the polynomials that act on it.
use Rattle.algebra.proofs.Names.{◌≡◌, ℕ, zero, suc, ◌+◌, ◌≤◌, List, [], ◌∷◌, ◌++◌, length, length-append, refl, sym, ◌∙◌, ap, arith, map, length-map, CommRing, LinearMap, iterate, horner, act, act_monic}
use Rattle.algebra.proofs.RingLaws.{mul_nought}

module _ {A V : Type 0} {R : CommRing A} (T : LinearMap R V) where
  pub plus_assoc : (u v w : V) → T.add (T.add u v) w ≡ T.add u (T.add v w)
  plus_assoc = T.add_assoc

  pub plus_comm : (u v : V) → T.add u v ≡ T.add v u
  plus_comm = T.add_comm

  pub plus_none : (v : V) → T.add v T.nought ≡ v
  plus_none = T.add_nought

  pub none_plus : (v : V) → T.add T.nought v ≡ v
  none_plus v = T.add_comm T.nought v ∙ T.add_nought v

  pub plus_left_comm : (u v w : V) → T.add u (T.add v w) ≡ T.add v (T.add u w)
  plus_left_comm u v w = sym (T.add_assoc u v w) ∙ ap (λ z. T.add z w) (T.add_comm u v) ∙ T.add_assoc v u w

  pub scale_none : (c : A) → T.scale c T.nought ≡ T.nought
  scale_none c =
      ap (T.scale c) (sym (T.scale_zero T.nought)) ∙ sym (T.scale_product c R.nought T.nought)
      ∙ ap (λ z. T.scale z T.nought) (mul_nought R c) ∙ T.scale_zero T.nought

  pub scale_comm : (c d : A) (v : V) → T.scale c (T.scale d v) ≡ T.scale d (T.scale c v)
  scale_comm c d v = sym (T.scale_product c d v) ∙ ap (λ z. T.scale z v) (R.mul_comm c d) ∙ T.scale_product d c v

  pub move_none : T.map T.nought ≡ T.nought
  move_none = ap T.map (sym (T.scale_zero T.nought)) ∙ T.map_scale R.nought T.nought ∙ T.scale_zero (T.map T.nought)

  -- v + c e - c e = v
  pub back : (c : A) (v e : V) → T.add (T.add v (T.scale c e)) (T.scale (R.neg c) e) ≡ v
  back c v e = simp (T.add_assoc, ← T.scale_sum, R.add_neg, T.scale_zero, T.add_nought)

  pub horner_nil : (v u : V) → horner T [] v u ≡ u
  unfolding horner
  horner_nil v u = refl

  pub horner_cons : (c : A) (f : List A) (v u : V) → horner T (c ∷ f) v u ≡ T.add (T.scale c v) (T.map (horner T f v u))
  unfolding horner
  horner_cons c f v u = refl

pub ruleset plus_rules = (plus_assoc, plus_comm, plus_left_comm, plus_none, none_plus)

module _ {A V : Type 0} {R : CommRing A} (T : LinearMap R V) where
  -- a polynomial at T is linear, and commutes with T
  pub horner_plus : (f : List A) (u v x y : V) → horner T f (T.add u v) (T.add x y) ≡ T.add (horner T f u x) (horner T f v y)
  horner_plus [] u v x y = simp horner_nil
  horner_plus (c ∷ f) u v x y = simp (horner_cons, horner_plus f u v x y, T.scale_add, T.map_add, plus_rules, T)

  pub horner_scale : (f : List A) (d : A) (v x : V) → horner T f (T.scale d v) (T.scale d x) ≡ T.scale d (horner T f v x)
  horner_scale [] d v x = simp horner_nil
  horner_scale (c ∷ f) d v x = simp (horner_cons, horner_scale f d v x, T.scale_add, T.map_scale, scale_comm T c d v)

  pub horner_move : (f : List A) (v x : V) → horner T f (T.map v) (T.map x) ≡ T.map (horner T f v x)
  horner_move [] v x = simp horner_nil
  horner_move (c ∷ f) v x = simp (horner_cons, horner_move f v x, T.map_add, T.map_scale)

  pub act_none : (f : List A) → horner T f T.nought T.nought ≡ T.nought
  act_none [] = horner_nil T T.nought T.nought
  act_none (c ∷ f) = simp (horner_cons, act_none f, scale_none, move_none, T.add_nought)

  -- polynomials at T commute
  pub horner_act : (q f : List A) (v u : V) → horner T q (act T f v) (act T f u) ≡ act T f (horner T q v u)
  horner_act q [] v u = simp (horner_nil, act_none)
  horner_act q (c ∷ f) v u = simp (horner_cons, horner_plus, horner_scale, horner_move, horner_act q f v u)

  pub iterate-zero : (v : V) → iterate T.map 0 v ≡ v
  unfolding iterate
  iterate-zero v = refl

  pub iterate-suc : (k : ℕ) (v : V) → iterate T.map (suc k) v ≡ T.map (iterate T.map k v)
  unfolding iterate
  iterate-suc k v = refl

  -- what stands after the coefficients comes with a power of T
  pub horner_split : (f : List A) (v u : V) → horner T f v u ≡ T.add (iterate T.map (length f) u) (act T f v)
  horner_split [] v u = simp (horner_nil, iterate-zero, T.add_nought)
  horner_split (c ∷ f) v u = simp (horner_cons, horner_split f v u, iterate-suc, T.map_add, plus_rules, T)

  pub iterate-scale : (k : ℕ) (c : A) (v : V) → iterate T.map k (T.scale c v) ≡ T.scale c (iterate T.map k v)
  iterate-scale zero c v = simp iterate-zero
  iterate-scale (suc k) c v = simp (iterate-suc, iterate-scale k c v, T.map_scale)

  pub horner_append : (f g : List A) (v u : V) → horner T (f ++ g) v u ≡ horner T f v (horner T g v u)
  horner_append [] g v u = sym (horner_nil T v (horner T g v u))
  horner_append (c ∷ f) g v u = simp (horner_cons, horner_append f g v u)

  pub horner_one : (c : A) (v : V) → act T (c ∷ []) v ≡ T.scale c v
  horner_one c v = simp (horner_cons, horner_nil, move_none, T.add_nought)

  -- one more coefficient at the end
  pub act_push : (f : List A) (c : A) (v : V) → act T (f ++ c ∷ []) v ≡ T.add (T.scale c (iterate T.map (length f) v)) (act T f v)
  act_push f c v = horner_append f (c ∷ []) v T.nought ∙ horner_split f v (act T (c ∷ []) v) ∙ simp (horner_one, iterate-scale)

  pub monic_is : (f : List A) (v : V) → act T (f ++ R.one ∷ []) v ≡ act_monic T f v
  monic_is f v = horner_append f (R.one ∷ []) v T.nought ∙ ap (horner T f v) (horner_one R.one v ∙ T.scale_one v)

  -- ---- the same for the action, and that it respects the map
  pub act-nil : (v : V) → act T [] v ≡ T.nought
  act-nil v = horner_nil T v T.nought

  pub act-cons : (c : A) (f : List A) (v : V) → act T (c ∷ f) v ≡ T.add (T.scale c v) (T.map (act T f v))
  act-cons c f v = horner_cons T c f v T.nought

  pub act-one : (v : V) → act T (R.one ∷ []) v ≡ v
  act-one v = horner_one R.one v ∙ T.scale_one v

  pub act-add : (f : List A) (u v : V) → act T f (T.add u v) ≡ T.add (act T f u) (act T f v)
  act-add f u v = ap (horner T f (T.add u v)) (sym (T.add_nought T.nought)) ∙ horner_plus f u v T.nought T.nought

  pub act-scale : (f : List A) (c : A) (v : V) → act T f (T.scale c v) ≡ T.scale c (act T f v)
  act-scale f c v = ap (horner T f (T.scale c v)) (sym (scale_none T c)) ∙ horner_scale f c v T.nought

  pub act-map : (f : List A) (v : V) → act T f (T.map v) ≡ T.map (act T f v)
  act-map f v = ap (horner T f (T.map v)) (sym (move_none T)) ∙ horner_move f v T.nought

  pub act_comm : (f g : List A) (v : V) → act T f (act T g v) ≡ act T g (act T f v)
  act_comm f g v = ap (horner T f (act T g v)) (sym (act_none g)) ∙ horner_act f g v T.nought

  pub act-iterate : (f : List A) (k : ℕ) (v : V) → act T f (iterate T.map k v) ≡ iterate T.map k (act T f v)
  act-iterate f zero v = simp iterate-zero
  act-iterate f (suc k) v = simp (iterate-suc, act-map, act-iterate f k v)

  -- ---- products of monic polynomials, by their lower coefficients

  -- the shorter list added at the front of the longer
  unfoldable pub plus_front : List A → List A → List A
  plus_front [] g = g
  plus_front (c ∷ f) [] = []
  plus_front (c ∷ f) (d ∷ g) = R.add c d ∷ plus_front f g

  pub length_plus_front : (f g : List A) → length (plus_front f g) ≡ length g
  unfolding plus_front
  length_plus_front [] g = refl
  length_plus_front (c ∷ f) [] = refl
  length_plus_front (c ∷ f) (d ∷ g) = ap suc (length_plus_front f g)

  pub horner_plus_front : (f g : List A) (v u : V) → length f ≤ length g
      → horner T (plus_front f g) v u ≡ T.add (horner T f v T.nought) (horner T g v u)
  unfolding plus_front
  horner_plus_front [] g v u h = simp (horner_nil, none_plus)
  horner_plus_front (c ∷ f) [] v u h = absurd (omega arith)
  horner_plus_front (c ∷ f) (d ∷ g) v u h =
      simp (horner_cons, horner_plus_front f g v u (omega arith), T.scale_sum, T.map_add, plus_rules, T)

  pub act_scaled : (f : List A) (c : A) (v : V) → act T (map (R.mul c) f) v ≡ T.scale c (act T f v)
  act_scaled [] c v = simp (horner_nil, scale_none)
  act_scaled (d ∷ f) c v = simp (horner_cons, act_scaled f c v, T.scale_product, T.map_scale, T.scale_add)

  unfoldable pub monic_times : List A → List A → List A
  monic_times [] g = g
  monic_times (c ∷ f) g = plus_front (map (R.mul c) (g ++ R.one ∷ [])) (R.nought ∷ monic_times f g)

  pub length_monic_times : (f g : List A) → length (monic_times f g) ≡ length f + length g
  unfolding monic_times
  length_monic_times [] g = omega arith
  length_monic_times (c ∷ f) g =
      let inner : length (monic_times f g) ≡ length f + length g = length_monic_times f g in
      length_plus_front (map (R.mul c) (g ++ R.one ∷ [])) (R.nought ∷ monic_times f g) ∙ omega arith

  pub act_monic_times : (f g : List A) (v : V) → act_monic T (monic_times f g) v ≡ act_monic T f (act_monic T g v)
  unfolding monic_times
  act_monic_times [] g v = simp horner_nil
  act_monic_times (c ∷ f) g v =
      let inner : length (monic_times f g) ≡ length f + length g = length_monic_times f g in
      horner_plus_front (map (R.mul c) (g ++ R.one ∷ [])) (R.nought ∷ monic_times f g) v v (omega (arith, length-map {A = A} {B = A}, length-append {A = A}))
      ∙ simp (act_scaled, monic_is, horner_cons, T.scale_zero, act_monic_times f g v, none_plus)
