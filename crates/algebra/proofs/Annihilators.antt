-- A linear map of a module over a field that n elements span is a root of a monic polynomial of degree n.
use Rattle.algebra.proofs.Names.{◌≡◌, ◌≢◌, ◌⊎◌, inl, inr, ℕ, zero, suc, ◌+◌, List, [], ◌∷◌, ◌++◌, length, length-append, refl, sym, ◌∙◌, ap, subst, arith, map, length-map, CommRing, Field, LinearMap, iterate, horner, act, act_monic, IsStable, Reaches}
use Rattle.algebra.proofs.RingLaws.{neg_mul}
use Rattle.algebra.proofs.FieldLaws.{decide}
use Rattle.algebra.proofs.LinearMaps.{plus_rules, back, horner_nil, horner_cons, horner_plus, horner_scale, horner_move, act_none, horner_act, horner_split, horner_one, act_push, plus_front, length_plus_front, horner_plus_front, act_scaled, monic_times, length_monic_times, act_monic_times}

-- a part that sums and multiples don't leave
pub record IsSubspace {A V : Type 0} {R : CommRing A} (T : LinearMap R V) (U : V → Type 0) : Type 0 where
  pub plus : (u v : V) → U u → U v → U (T.add u v)
  pub scale : (c : A) (v : V) → U v → U (T.scale c v)

-- v and a multiple of x add up to one of the part U
abbrev pub Widened : {A V : Type 0} {R : CommRing A} (T : LinearMap R V) (U : V → Type 0) → V → V → Type 0
Widened {A} T U x v = (c : A) × U (T.add v (T.scale c x))

-- u and a polynomial with k coefficients, at T, on v, add up to one of the part W
abbrev Krylov : {A V : Type 0} {R : CommRing A} (T : LinearMap R V) (W : V → Type 0) → V → ℕ → V → Type 0
Krylov {A} T W v k u = (q : List A) × (length q ≡ k) × W (T.add u (act T q v))

-- the monic polynomial takes u into the part W
abbrev Kills : {A V : Type 0} {R : CommRing A} (T : LinearMap R V) (W : V → Type 0) → List A → V → Type 0
Kills T W q u = W (act_monic T q u)

-- x takes the place of one of the listed elements
pub record IsExchanged {A V : Type 0} {R : CommRing A} (T : LinearMap R V) (U : V → Type 0) (es : List V) (x : V) : Type 0 where
  pub rest : List V
  pub shorter : suc (length rest) ≡ length es
  pub reaches : (v : V) → Reaches T U es v → Reaches T (Widened T U x) rest v

-- a monic polynomial of degree d takes everything into the part W
pub record IsKilled {A V : Type 0} {R : CommRing A} (T : LinearMap R V) (W : V → Type 0) (d : ℕ) : Type 0 where
  pub lower : List A
  pub degree : length lower ≡ d
  pub kills : (v : V) → W (act_monic T lower v)

module _ {A V : Type 0} {R : CommRing A} (T : LinearMap R V) where
  pub reach_plus : (U : V → Type 0) → IsSubspace T U → (es : List V) (u v : V) → Reaches T U es u → Reaches T U es v
      → Reaches T U es (T.add u v)
  unfolding Reaches
  reach_plus U s [] u v h k = s.plus u v h k
  reach_plus U s (e ∷ es) u v (c, h) (d, k) =
      let sum : T.add (T.add u (T.scale c e)) (T.add v (T.scale d e)) ≡ T.add (T.add u v) (T.scale (R.add c d) e) =
      simp (T.scale_sum, plus_rules, T) in
      (R.add c d, subst (Reaches T U es) sum (reach_plus U s es (T.add u (T.scale c e)) (T.add v (T.scale d e)) h k))

  pub reach_scale : (U : V → Type 0) → IsSubspace T U → (es : List V) (a : A) (v : V) → Reaches T U es v → Reaches T U es (T.scale a v)
  unfolding Reaches
  reach_scale U s [] a v h = s.scale a v h
  reach_scale U s (e ∷ es) a v (c, h) =
      let product : T.scale a (T.add v (T.scale c e)) ≡ T.add (T.scale a v) (T.scale (R.mul a c) e) = simp (T.scale_add, T.scale_product) in
      (R.mul a c, subst (Reaches T U es) product (reach_scale U s es a (T.add v (T.scale c e)) h))

  reach_weaker : (U W : V → Type 0) → ((v : V) → U v → W v) → (es : List V) (v : V) → Reaches T U es v → Reaches T W es v
  unfolding Reaches
  reach_weaker U W h [] v k = h v k
  reach_weaker U W h (e ∷ es) v (c, k) = (c, reach_weaker U W h es (T.add v (T.scale c e)) k)

  reach_widened : (U : V → Type 0) (x : V) (es : List V) (c : A) (v : V) → Reaches T U es (T.add v (T.scale c x))
      → Reaches T (Widened T U x) es v
  unfolding Reaches
  reach_widened U x [] c v h = (c, h)
  reach_widened U x (e ∷ es) c v (d, h) =
      let turned : T.add (T.add v (T.scale c x)) (T.scale d e) ≡ T.add (T.add v (T.scale d e)) (T.scale c x) = simp (plus_rules, T) in
      (d, reach_widened U x es c (T.add v (T.scale d e)) (subst (Reaches T U es) turned h))

module _ {A V : Type 0} {R : CommRing A} (F : Field R) (T : LinearMap R V) where
  -- v + d e - (d / c) (x + c e) = v - (d / c) x
  without : (c d : A) (v x e : V) → c ≢ R.nought
      → T.add (T.add v (T.scale d e)) (T.scale (R.neg (R.mul d (F.inverse c))) (T.add x (T.scale c e))) ≡ T.add v (T.scale (R.neg (R.mul d (F.inverse c))) x)
  without c d v x e h =
      let t = R.neg (R.mul d (F.inverse c)) in
      let whole : R.mul t c ≡ R.neg d =
      neg_mul R (R.mul d (F.inverse c)) c
      ∙ ap R.neg (R.mul_assoc d (F.inverse c) c ∙ ap (R.mul d) (R.mul_comm (F.inverse c) c ∙ F.mul_inverse c h) ∙ R.mul_one d) in
      let opened : T.add (T.add v (T.scale d e)) (T.scale t (T.add x (T.scale c e))) ≡ T.add (T.add (T.add v (T.scale t x)) (T.scale d e)) (T.scale (R.neg d) e) =
      simp (T.scale_add, ← T.scale_product, whole, plus_rules, T) in
      opened ∙ back T d (T.add v (T.scale t x)) e

  pub exchange : (U : V → Type 0) → IsSubspace T U → (es : List V) (x : V) → Reaches T U es x → U x ⊎ IsExchanged T U es x
  unfolding Reaches
  exchange U s [] x h = inl h
  exchange U s (e ∷ es) x (c, h) = elim (decide R F c) [
    | inl nought ↦
        let there : Reaches T U es x = subst (Reaches T U es) (simp (nought, T.scale_zero, T.add_nought)) h in
        elim (exchange U s es x there) [
          | inl own ↦ inl own
          | inr other ↦ inr (record {
            rest = e ∷ other.rest;
            shorter = ap suc other.shorter;
            reaches = λ v k. (k.0, other.reaches (T.add v (T.scale k.0 e)) k.1);
          })
        ]
    | inr some ↦ inr (record {
      rest = es;
      shorter = refl;
      reaches = λ v k.
          let t = R.neg (R.mul k.0 (F.inverse c)) in
          reach_widened T U x es t v
          (subst (Reaches T U es) (without c k.0 v x e some)
          (reach_plus T U s es (T.add v (T.scale k.0 e)) (T.scale t (T.add x (T.scale c e))) k.1 (reach_scale T U s es t (T.add x (T.scale c e)) h)));
    })
  ]

module _ {A V : Type 0} {R : CommRing A} (T : LinearMap R V) (W : V → Type 0) (stable : IsStable T W) where
  horner_within : (f : List A) (v u : V) → W v → W u → W (horner T f v u)
  horner_within [] v u h k = subst W (sym (horner_nil T v u)) k
  horner_within (c ∷ f) v u h k =
      subst W (sym (horner_cons T c f v u)) (stable.plus (T.scale c v) (T.map (horner T f v u)) (stable.scale c v h) (stable.move (horner T f v u) (horner_within f v u h k)))

  kills_stable : (q : List A) → IsStable T (Kills T W q)
  kills_stable q = record {
    none = subst W (sym (act_none T q)) stable.none;
    plus = λ u v h k. subst W (sym (horner_plus T q u v u v)) (stable.plus (act_monic T q u) (act_monic T q v) h k);
    scale = λ c v h. subst W (sym (horner_scale T q c v v)) (stable.scale c (act_monic T q v) h);
    move = λ v h. subst W (sym (horner_move T q v v)) (stable.move (act_monic T q v) h);
  }

  -- where q takes v into the part, it takes what v and its images reach
  krylov_kills : (q : List A) (v : V) (k : ℕ) → W (act_monic T q v) → (u : V) → Krylov T W v k u → Kills T W q u
  krylov_kills q v k own u (f, size, h) =
      let inner : W (act T f (act_monic T q v)) = horner_within f (act_monic T q v) T.nought own stable.none in
      let whole : W (act_monic T q (T.add u (act T f v))) = horner_within q (T.add u (act T f v)) (T.add u (act T f v)) h h in
      let other : V = act T f (act_monic T q v) in
      let split : act_monic T q (T.add u (act T f v)) ≡ T.add (act_monic T q u) (T.scale R.one other) =
      simp (horner_plus, horner_act, T.scale_one) in
      subst W (ap (λ z. T.add z (T.scale (R.neg R.one) other)) split ∙ back T R.one (act_monic T q u) other)
      (stable.plus (act_monic T q (T.add u (act T f v))) (T.scale (R.neg R.one) other) whole (stable.scale (R.neg R.one) other inner))

  krylov_subspace : (v : V) (k : ℕ) → IsSubspace T (Krylov T W v k)
  krylov_subspace v k = record {
    plus = λ x y (f, size, h) (g, size', l).
        let sum : T.add (T.add x (act T f v)) (T.add y (act T g v)) ≡ T.add (T.add x y) (act T (plus_front T f g) v) =
        simp (horner_plus_front T f g v T.nought (omega arith), plus_rules, T) in
        (plus_front T f g, length_plus_front T f g ∙ size', subst W sum (stable.plus (T.add x (act T f v)) (T.add y (act T g v)) h l));
    scale = λ c x (f, size, h).
        let product : T.scale c (T.add x (act T f v)) ≡ T.add (T.scale c x) (act T (map (R.mul c) f) v) =
        simp (T.scale_add, act_scaled) in
        (map (R.mul c) f, length-map f (R.mul c) ∙ size, subst W product (stable.scale c (T.add x (act T f v)) h));
  }

  krylov_next : (v : V) (k : ℕ) (u : V) → Widened T (Krylov T W v k) (iterate T.map k v) u → Krylov T W v (suc k) u
  krylov_next v k u (c, (f, size, h)) =
      let longer : T.add (T.add u (T.scale c (iterate T.map k v))) (act T f v) ≡ T.add u (act T (f ++ c ∷ []) v) =
      simp (act_push, size, T.add_assoc) in
      (f ++ c ∷ [], omega (arith, length-append f (c ∷ [])), subst W longer h)

  widened_krylov : (e u : V) → Widened T W e u → Krylov T W e 1 u
  widened_krylov e u (c, h) = (c ∷ [], refl, subst W (ap (T.add u) (sym (horner_one T c e))) h)

  own_power : (q : List A) (v : V) (k : ℕ) → length q ≡ k → W (T.add (iterate T.map k v) (act T q v)) → W (act_monic T q v)
  own_power q v k size h = subst W (ap (λ i. T.add (iterate T.map i v) (act T q v)) (sym size) ∙ sym (horner_split T q v v)) h

module _ {A V : Type 0} {R : CommRing A} (F : Field R) (T : LinearMap R V) where
  killed_from : (n : ℕ) (W : V → Type 0) → IsStable T W → (v : V) (k : ℕ) (es : List V) → length es ≡ n
      → ((u : V) → Reaches T (Krylov T W v k) es u) → IsKilled T W (k + n)
  unfolding Reaches
  killed_from zero W stable v k (e ∷ es) size all = absurd (omega arith)
  killed_from zero W stable v k [] size all =
      let own = all (iterate T.map k v) in
      let kills : W (act_monic T own.0 v) = own_power T W stable own.0 v k own.1 own.2 in
      record {
        lower = own.0;
        degree = (let e : length own.0 ≡ k = own.1 in omega arith);
        kills = λ u. krylov_kills T W stable own.0 v k kills u (all u);
      }
  killed_from (suc n) W stable v k [] size all = absurd (omega arith)
  killed_from (suc n) W stable v k (e ∷ es) size all =
      elim (exchange F T (Krylov T W v k) (krylov_subspace T W stable v k) (e ∷ es) (iterate T.map k v) (all (iterate T.map k v))) [
        | inl own ↦
            let kills : W (act_monic T own.0 v) = own_power T W stable own.0 v k own.1 own.2 in
            let later : IsKilled T (Kills T W own.0) (1 + n) =
            killed_from n (Kills T W own.0) (kills_stable T W stable own.0) e 1 es (omega arith) (λ u.
            let reached : Reaches T (Kills T W own.0) (e ∷ es) u =
            reach_weaker T (Krylov T W v k) (Kills T W own.0) (krylov_kills T W stable own.0 v k kills) (e ∷ es) u (all u) in
            reach_weaker T (Widened T (Kills T W own.0) e) (Krylov T (Kills T W own.0) e 1) (widened_krylov T (Kills T W own.0) (kills_stable T W stable own.0) e) es u
            (reach_widened T (Kills T W own.0) e es reached.0 u reached.1)) in
            record {
              lower = monic_times T own.0 later.lower;
              degree =
                  (let a : length own.0 ≡ k = own.1 in let b : length later.lower ≡ 1 + n = later.degree in omega (arith, length_monic_times T own.0 later.lower));
              kills = λ u. subst W (sym (act_monic_times T own.0 later.lower u)) (later.kills u);
            }
        | inr other ↦
            let later : IsKilled T W (suc k + n) = killed_from n W stable v (suc k) other.rest (let a = other.shorter in omega arith)
            (λ u. reach_weaker T (Widened T (Krylov T W v k) (iterate T.map k v)) (Krylov T W v (suc k)) (krylov_next T W stable v k) other.rest u (other.reaches u (all u))) in
            record { lower = later.lower; degree = (let b : length later.lower ≡ suc k + n = later.degree in omega arith); kills = later.kills }
      ]

  -- where n elements reach everything from a stable part, a monic polynomial of degree n takes everything into it
  pub killed : (W : V → Type 0) → IsStable T W → (es : List V) → ((u : V) → Reaches T W es u) → IsKilled T W (length es)
  killed W stable es all =
      let start : (u : V) → W u → Krylov T W T.nought 0 u =
      λ u h. ([], refl, subst W (sym (ap (T.add u) (horner_nil T T.nought T.nought) ∙ T.add_nought u)) h) in
      let result : IsKilled T W (0 + length es) =
      killed_from (length es) W stable T.nought 0 es refl (λ u. reach_weaker T W (Krylov T W T.nought 0) start es u (all u)) in
      record { lower = result.lower; degree = (let b : length result.lower ≡ 0 + length es = result.degree in omega arith); kills = result.kills }
