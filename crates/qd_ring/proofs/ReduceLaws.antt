-- Reduction in place: the window moves down by one place at a time, and holds the remainder of what stood from there on.
use Rattle.qd_ring.proofs.Names.{◌≡◌, ℕ, zero, suc, ◌+◌, ◌*◌, ◌≤◌, ◌<◌, true, List, [], ◌∷◌, ◌++◌, length, get_or, take, drop, refl, sym, ap, ◌∙◌, subst, arith, length-drop, drop-cons, take-append_seam, drop-append_seam, take-length, get_or-take, length-take-le, ℤ, pos, ap₂, degree, cancelled, remainder, cyclotomic, is_conductor, phi_of, reduction_of, size_of, value_size, Value, value_of, value_one, value_of-act, cyclotomic_is, cyclotomic_degree, total_of, size-act, size-cons, step_size}
use Rattle.std.proofs.Common.{append_assoc}
use Rattle.cyclotomic.specs.Laws.Remainders.{remainder-cons, length-remainder, length-cancelled, remainder-itself}
use Rattle.qd_ring.proofs.BufferLaws.{magnitude_at}

pub total-drop : (n : ℕ) (xs : List ℤ) → total_of (drop n xs) ≤ total_of xs
unfolding total_of
total-drop zero xs = omega arith
total-drop (suc n) [] = omega arith
total-drop (suc n) (a ∷ xs) = omega (arith, total-drop n xs)

take-take_suc : {A : Type 0} (o : ℕ) (xs : List A) → take o (take (suc o) xs) ≡ take o xs
take-take_suc zero xs = refl
take-take_suc (suc o) [] = refl
take-take_suc (suc o) (a ∷ xs) = ap (λ z. a ∷ z) (take-take_suc o xs)

module _ (k : ℕ) (entry : is_conductor k ≡ true) where
  -- the remainder of a polynomial is no greater than the sum of its magnitudes
  pub remainder_size : (p : List ℤ) → size_of (remainder (cyclotomic k) p) ≤ total_of p
  unfolding value_of
  remainder_size p =
      let m = cyclotomic k in
      let bound : value_size (value_of m p) ≤ total_of p * 1 =
      subst (λ (v : Value (degree m)). value_size v ≤ total_of p * 1) (sym (value_of-act m p)) (size-act m p (value_one m) 1 (step_size k entry)) in
      omega (arith, bound)

  module _ (o : ℕ) (b b0 : List ℤ) (same : length b ≡ length b0) (inside : suc o + phi_of k ≤ length b) (below : take (suc o) b ≡ take (suc o) b0) (window : take (phi_of k) (drop (suc o) b) ≡ remainder (cyclotomic k) (drop (suc o) b0)) where
    -- the window of a step
    pub window_is : take (suc (phi_of k)) (drop o b) ≡ get_or b0 o (pos 0) ∷ remainder (cyclotomic k) (drop (suc o) b0)
    window_is =
        let here : get_or b o (pos 0) ≡ get_or b0 o (pos 0) =
        sym (get_or-take (suc o) b o (pos 0) (omega arith)) ∙ ap (λ z. get_or z o (pos 0)) below ∙ get_or-take (suc o) b0 o (pos 0) (omega arith) in
        ap (take (suc (phi_of k))) (drop-cons b o (pos 0) (omega arith))
        ∙ ap₂ (λ x y. x ∷ y) here window

    pub window_size : size_of (take (suc (phi_of k)) (drop o b)) ≤ total_of b0
    window_size =
        omega
        (arith, ap size_of window_is, size-cons (get_or b0 o (pos 0)) (remainder (cyclotomic k) (drop (suc o) b0)), magnitude_at b0 o, remainder_size (drop (suc o) b0), total-drop (suc o) b0)

    module _ (w rest : List ℤ) (c : ℤ) (changed : w ≡ cancelled (reduction_of k ++ (pos 1 ∷ [])) (take (suc (phi_of k)) (drop o b)) ++ (c ∷ [])) where
      cut : List ℤ
      cut = cancelled (cyclotomic k) (get_or b0 o (pos 0) ∷ remainder (cyclotomic k) (drop (suc o) b0))

      length-cut : length cut ≡ phi_of k
      unfolding cut
      length-cut =
          length-cancelled (cyclotomic k) (get_or b0 o (pos 0)) (remainder (cyclotomic k) (drop (suc o) b0)) (length-remainder (cyclotomic k) (drop (suc o) b0))
          ∙ cyclotomic_degree k entry

      changed_is : w ≡ cut ++ (c ∷ [])
      unfolding cut
      changed_is =
          changed ∙ ap₂ (λ x y. cancelled x y ++ (c ∷ [])) (sym (cyclotomic_is k entry)) window_is

      front : length (take o b) ≡ o
      front = length-take-le o b (omega arith)

      pub step_below : take o (take o b ++ (w ++ rest)) ≡ take o b0
      step_below =
          ap (λ n. take n (take o b ++ (w ++ rest))) (sym front)
          ∙ take-append_seam (take o b) (w ++ rest)
          ∙ sym (take-take_suc o b) ∙ ap (take o) below ∙ take-take_suc o b0

      pub step_window : take (phi_of k) (drop o (take o b ++ (w ++ rest))) ≡ remainder (cyclotomic k) (drop o b0)
      unfolding cut
      step_window =
          let long : o < length b0 = omega arith in
          ap (λ n. take (phi_of k) (drop n (take o b ++ (w ++ rest)))) (sym front)
          ∙ ap (take (phi_of k)) (drop-append_seam (take o b) (w ++ rest))
          ∙ ap (λ z. take (phi_of k) (z ++ rest)) changed_is
          ∙ ap (take (phi_of k)) (append_assoc cut (c ∷ []) rest)
          ∙ ap (λ n. take n (cut ++ ((c ∷ []) ++ rest))) (sym length-cut)
          ∙ take-append_seam cut ((c ∷ []) ++ rest)
          ∙ sym (remainder-cons (cyclotomic k) (get_or b0 o (pos 0)) (drop (suc o) b0))
          ∙ ap (remainder (cyclotomic k)) (sym (drop-cons b0 o (pos 0) long))

  -- the window at the upper end has its own remainder
  pub window_start : (b : List ℤ) (at : ℕ) → at + phi_of k ≡ length b → take (phi_of k) (drop at b) ≡ remainder (cyclotomic k) (drop at b)
  window_start b at e =
      let long : length (drop at b) ≡ phi_of k = omega (arith, length-drop at b) in
      ap (λ n. take n (drop at b)) (sym long) ∙ take-length (drop at b)
      ∙ sym (remainder-itself (cyclotomic k) (drop at b) (long ∙ sym (cyclotomic_degree k entry)))
