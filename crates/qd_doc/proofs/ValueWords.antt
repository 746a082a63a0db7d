-- What a token says as a value is the value whose text it is.
use Rattle.qd_doc.proofs.Names.{Bool, Err, IsRead, List, None, NotValue, Ok, Option, Plain, Result, Some, Spells, ValueFault, ap, arith, capped, codes, coefficients_of, coefficients_read, cond, drop, drop-append_seam, eq-eqb, false, found_small, found_wide, is_small, length, length-append, length-map, length-replicate, nat_eq, nought_small, nought_spelled, outcome_not_value, outcome_value, outcome_wide, padded, plain, pointwise, pointwise_decides, pos, refl, replicate, small_value, subst, sym, take, take-append_seam, true, true≢false, unread, value_of, ℕ, ℤ, ◌-◌, ◌∙◌, ◌≡◌, ◌≤◌}
use Rattle.std.proofs.Common.{eqb-true}
use Rattle.qd_ring.specs.declared.plain.ValueFault.TheVariants.{Wide}

-- a word is this one exactly where the test says so
pub same_word : (text word : List ℕ) → pointwise nat_eq text word ≡ true → text ≡ word
same_word text word e = (pointwise_decides (λ x y. (eqb-true x y, eq-eqb x y)) text word).0 e

module _ (phi : ℕ) (text : List ℕ) (small : phi ≤ 42) where
  -- the coefficients that are found
  module _ (front : List ℤ) (found : coefficients_of phi 0 false text ≡ Some front) where
    front_count : length front ≡ phi
    front_count =
        let r = coefficients_read phi 0 false text front (omega arith) found in
        ap length (sym r.cut_is) ∙ length-map r.coefficients capped ∙ r.count

    padded_count : length (padded phi front) ≡ 42
    padded_count = length-append front (replicate (42 - phi) (pos 0)) ∙ omega (arith, front_count, length-replicate (42 - phi) (pos 0))

    padded_zeros : drop phi (padded phi front) ≡ replicate (42 - phi) (pos 0)
    padded_zeros = ap (λ n. drop n (padded phi front)) (sym front_count) ∙ drop-append_seam front (replicate (42 - phi) (pos 0))

    padded_front : coefficients_of phi 0 false text ≡ Some (take phi (padded phi front))
    padded_front = found ∙ ap Some (sym (ap (λ n. take n (padded phi front)) (sym front_count) ∙ take-append_seam front (replicate (42 - phi) (pos 0))))

    read_by_size : (b : Bool) → is_small (padded phi front) ≡ b → IsRead text phi (cond b (Ok (plain (padded phi front))) (Err Wide))
    read_by_size true e = (found_small text phi small (padded phi front) padded_count padded_zeros padded_front e, e)
    read_by_size false e = found_wide text phi small (padded phi front) padded_count padded_zeros padded_front e

  read_by_front : (o : Option (List ℤ)) → coefficients_of phi 0 false text ≡ o → (text ≡ codes "0" → ⊥) → IsRead text phi (small_value phi o)
  read_by_front None e other = unread text phi small other e
  read_by_front (Some front) e other = read_by_size front e (is_small (padded phi front)) refl

  read_by_nought : (b : Bool) → pointwise nat_eq text (codes "0") ≡ b → IsRead text phi (cond b (Ok (plain (replicate 42 (pos 0)))) (small_value phi (coefficients_of phi 0 false text)))
  read_by_nought true e =
      (subst (λ (t : List ℕ). Spells t phi (replicate 42 (pos 0))) (sym (same_word text (codes "0") e)) (nought_spelled phi), nought_small)
  read_by_nought false e =
      read_by_front (coefficients_of phi 0 false text) refl
      (λ nought. let own : pointwise nat_eq text (codes "0") ≡ true = rw nought refl in absurd (true≢false (sym own ∙ e)))

  -- what a token says is what its text spells
  pub value_read : IsRead text phi (value_of phi text)
  unfolding value_of
  value_read = read_by_nought (pointwise nat_eq text (codes "0")) refl

  -- what a text is read as is determined
  same_outcome : (a b : Result Plain ValueFault) → IsRead text phi a → IsRead text phi b → a ≡ b
  same_outcome a (Ok p) x y = outcome_value text phi small a x p.coefficients y.0 y.1
  same_outcome a (Err Wide) x y = (outcome_wide text phi small a x).1 y
  same_outcome a (Err NotValue) x y = (outcome_not_value text phi small a x).1 y

  pub value_is : (answer : Result Plain ValueFault) → IsRead text phi answer → value_of phi text ≡ answer
  value_is answer read = same_outcome (value_of phi text) answer value_read read
