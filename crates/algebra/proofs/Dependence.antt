-- In a module over a field that n elements span, n + 1 elements are dependent (Steinitz 1913).
use Rattle.algebra.proofs.Names.{◌≡◌, ◌≢◌, inl, inr, ℕ, zero, suc, ◌<◌, cond, List, [], ◌∷◌, length, refl, sym, ◌∙◌, ap, subst, arith, nat_eq, eq-eqb, ne_eqb, ap₂, CommRing, Field, LinearMap, Reaches}
use Rattle.algebra.proofs.LinearMaps.{none_plus}
use Rattle.algebra.proofs.Annihilators.{IsSubspace, Widened, reach_plus, reach_scale, exchange}

-- c, but d at n
unfoldable pub put : {A : Type 0} → ℕ → (ℕ → A) → A → ℕ → A
put n c d i = cond (nat_eq i n) d (c i)

module _ {A : Type 0} (n : ℕ) (c : ℕ → A) (d : A) where
  pub put_here : put n c d n ≡ d
  unfolding put
  put_here = ap (λ b. cond b d (c n)) (eq-eqb n n refl)

  pub put_below : (i : ℕ) → i < n → put n c d i ≡ c i
  unfolding put
  put_below i h = ap (λ b. cond b d (c i)) (ne_eqb i n (λ e. omega arith))

module _ {A V : Type 0} {R : CommRing A} (T : LinearMap R V) where
  -- c0 x0 + c1 x1 + .., over the places below n
  unfoldable pub combination : ℕ → (ℕ → A) → (ℕ → V) → V
  combination zero c x = T.nought
  combination (suc n) c x = T.add (combination n c x) (T.scale (c n) (x n))

  combination_ext : (n : ℕ) (c d : ℕ → A) (x : ℕ → V) → ((i : ℕ) → i < n → c i ≡ d i) → combination n c x ≡ combination n d x
  unfolding combination
  combination_ext zero c d x h = refl
  combination_ext (suc n) c d x h =
      ap₂ T.add (combination_ext n c d x (λ i k. h i (omega arith))) (ap (λ z. T.scale z (x n)) (h n (omega arith)))

  combination_none : (n : ℕ) (x : ℕ → V) → combination n (λ i. R.nought) x ≡ T.nought
  unfolding combination
  combination_none zero x = refl
  combination_none (suc n) x = ap₂ T.add (combination_none n x) (T.scale_zero (x n)) ∙ T.add_nought T.nought

  combination_put : (n : ℕ) (c : ℕ → A) (d : A) (x : ℕ → V)
      → combination (suc n) (put n c d) x ≡ T.add (combination n c x) (T.scale d (x n))
  unfolding combination
  combination_put n c d x = ap₂ T.add (combination_ext n (put n c d) c x (put_below n c d)) (ap (λ z. T.scale z (x n)) (put_here n c d))

-- a combination of the elements x at the places up to n, with coefficients that aren't all nought, lies in the part U
pub record HasRelation {A V : Type 0} {R : CommRing A} (T : LinearMap R V) (U : V → Type 0) (n : ℕ) (x : ℕ → V) : Type 0 where
  pub coefficient : ℕ → A
  pub place : ℕ
  pub place_below : place < suc n
  pub there : coefficient place ≢ R.nought
  pub inside : U (combination T (suc n) coefficient x)

module _ {A V : Type 0} {R : CommRing A} (F : Field R) (T : LinearMap R V) where
  widened_subspace : (U : V → Type 0) → IsSubspace T U → (x : V) → IsSubspace T (Widened T U x)
  unfolding Reaches
  widened_subspace U s x = record { plus = λ u v h k. reach_plus T U s (x ∷ []) u v h k; scale = λ c v h. reach_scale T U s (x ∷ []) c v h }

  own_relation : (n : ℕ) (U : V → Type 0) (x : ℕ → V) → U (x n) → HasRelation T U n x
  own_relation n U x own = record {
    coefficient = put n (λ i. R.nought) R.one;
    place = n;
    place_below = omega arith;
    there = λ e. F.one_is_not_nought (sym (put_here n (λ i. R.nought) R.one) ∙ e);
    inside = subst U
        (sym (combination_put T n (λ i. R.nought) R.one x ∙ ap₂ T.add (combination_none T n x) (T.scale_one (x n)) ∙ none_plus T (x n))) own;
  }

  -- where n elements reach everything from the part, some combination of n + 1 elements lies in it
  pub relation : (n : ℕ) (U : V → Type 0) → IsSubspace T U → (es : List V) → length es ≡ n → ((v : V) → Reaches T U es v) → (x : ℕ → V)
      → HasRelation T U n x
  unfolding Reaches
  relation zero U s (e ∷ es) size all x = absurd (omega arith)
  relation zero U s [] size all x = own_relation zero U x (all (x zero))
  relation (suc n) U s es size all x = elim (exchange F T U s es (x (suc n)) (all (x (suc n)))) [
    | inl own ↦ own_relation (suc n) U x own
    | inr other ↦
        let r = relation n (Widened T U (x (suc n))) (widened_subspace U s (x (suc n))) other.rest (let h = other.shorter in omega arith) (λ v. other.reaches v (all v)) x in
        record {
          coefficient = put (suc n) r.coefficient r.inside.0;
          place = r.place;
          place_below = (let h = r.place_below in omega arith);
          there = λ e. r.there (sym (put_below (suc n) r.coefficient r.inside.0 r.place r.place_below) ∙ e);
          inside = subst U (sym (combination_put T (suc n) r.coefficient r.inside.0 x)) r.inside.1;
        }
  ]
