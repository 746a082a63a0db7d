-- Steps of the loop that reads the coefficients of a value.
use Rattle.qd_ring.proofs.Names.{◌≡◌, ℕ, suc, ◌+◌, ◌-◌, ◌<◌, ◌≤◌, Bool, true, false, List, [], ◌∷◌, ◌++◌, length, take, drop, set, refl, ap, sym, ◌∙◌, arith, ltb, replicate, length-set, length-drop, Option, Some, None, take-add, take_more_set, drop-set-lt, take-replicate, drop-replicate, drop-drop, drop_all, take_all, lt-ltb, le-ltb, ℤ, pos, option_map, append_assoc, Term, term_of, coefficients_of}
use Rattle.qd_ring.proofs.TermLaws.{term_read}
use Rattle.qd_ring.proofs.CoefficientLaws.{skipped_to_term, term_missed, no_term_missed, ended, not_begun}

-- what is read of the rest of a text
pub rest_read : (later : Bool) (at : ℕ) (text : List ℕ) (o : Option Term) → o ≡ term_of later (take (length text - at) (drop at text)) → term_of later (drop at text) ≡ o
rest_read later at text o h = ap (term_of later) (sym (take_all (length text - at) (drop at text) (simp length-drop (omega arith)))) ∙ sym h

-- the coefficients so far, and how the rest of the text goes on
pub record ReadSoFar (phi : ℕ) (text : List ℕ) (next at : ℕ) (cs : List ℤ) : Type 0 where
  pub at_within : at ≤ length text
  pub next_within : next ≤ phi
  pub count : length cs ≡ 42
  pub zeros : drop next cs ≡ replicate (42 - next) (pos 0)
  pub reads : coefficients_of phi 0 false text ≡ option_map (λ ds. take next cs ++ ds) (coefficients_of (phi - next) next (ltb 0 at) (drop at text))

module _ (phi : ℕ) (text : List ℕ) (next at : ℕ) (cs : List ℤ) (small : phi ≤ 42) (r : ReadSoFar phi text next at cs) (term : Term) (found : term_of (ltb 0 at) (drop at text) ≡ Some term) where
  pub term_longer : 0 < term.len
  term_longer = (term_read (ltb 0 at) (drop at text) term found).longer

  front : next ≤ term.power → term.power < 42 → take term.power cs ≡ take next cs ++ replicate (term.power - next) (pos 0)
  front low high =
      let place : next + (term.power - next) ≡ term.power = omega arith in
      ap (λ n. take n cs) (sym place) ∙ take-add next (term.power - next) cs
      ∙ ap (λ xs. take next cs ++ xs) (ap (take (term.power - next)) r.zeros ∙ take-replicate (term.power - next) (42 - next) (pos 0) (omega arith))

  -- one more term
  pub read_term_more : next ≤ term.power → term.power < phi → at + term.len ≤ length text → ReadSoFar phi text (term.power + 1) (at + term.len) (set cs term.power term.coefficient)
  read_term_more low high within =
      let k : ℕ = term.power - next in
      let n : ℕ = phi - (term.power + 1) in
      let place : next + k ≡ term.power = omega arith in
      let count : phi - next ≡ k + suc n = omega arith in
      let p : suc (next + k) ≡ term.power + 1 = omega arith in
      let inside : term.power < length cs = omega (arith, r.count) in
      let list : (ds : List ℤ) → take next cs ++ (replicate k (pos 0) ++ (term.coefficient ∷ ds)) ≡ take (term.power + 1) (set cs term.power term.coefficient) ++ ds =
      λ ds. sym (append_assoc (take next cs) (replicate k (pos 0)) (term.coefficient ∷ ds)) ∙ ap (λ xs. xs ++ (term.coefficient ∷ ds)) (sym (front low (omega arith)))
      ∙ sym (append_assoc (take term.power cs) (term.coefficient ∷ []) ds) ∙ ap (λ xs. xs ++ ds) (sym (take_more_set cs term.power term.coefficient inside)) in
      record {
        at_within = within;
        next_within = omega arith;
        count = length-set cs term.power term.coefficient ∙ r.count;
        zeros = drop-set-lt (term.power + 1) cs term.power term.coefficient (omega arith) ∙ ap (λ m. drop m cs) (omega arith)
            ∙ sym (drop-drop (k + 1) next cs) ∙ ap (drop (k + 1)) r.zeros ∙ drop-replicate (k + 1) (42 - next) (pos 0) ∙ ap (λ m. replicate m (pos 0)) (omega arith);
        reads = rw (lt-ltb 0 (at + term.len) (omega (arith, term_longer)))
            (rw (count, skipped_to_term k n next (ltb 0 at) (drop at text) term found (sym place), p, drop-drop) at r.reads
            ∙ joined (coefficients_of n (term.power + 1) true (drop (at + term.len) text)) list);
      }
    where
      joined : (o : Option (List ℤ)) → ((ds : List ℤ) → take next cs ++ (replicate (term.power - next) (pos 0) ++ (term.coefficient ∷ ds)) ≡ take (term.power + 1) (set cs term.power term.coefficient) ++ ds)
          → option_map (λ ds. take next cs ++ ds) (option_map (λ ds. replicate (term.power - next) (pos 0) ++ (term.coefficient ∷ ds)) o) ≡ option_map (λ ds. take (term.power + 1) (set cs term.power term.coefficient) ++ ds) o
      joined None list = refl
      joined (Some ds) list = ap (λ xs. Some xs) (list ds)

  -- a term of a power that is too low or too high
  pub read_low : term.power < next → coefficients_of phi 0 false text ≡ None
  read_low low = r.reads ∙ ap (option_map (λ ds. take next cs ++ ds)) (term_missed (phi - next) next (ltb 0 at) (drop at text) term found (λ i a b e. omega arith))

  pub read_high : phi ≤ term.power → coefficients_of phi 0 false text ≡ None
  read_high high = r.reads ∙ ap (option_map (λ ds. take next cs ++ ds)) (term_missed (phi - next) next (ltb 0 at) (drop at text) term found (λ i a b e. omega (arith, r.next_within)))

module _ (phi : ℕ) (text : List ℕ) (next at : ℕ) (cs : List ℤ) (small : phi ≤ 42) (r : ReadSoFar phi text next at cs) where
  -- no term where text is left
  pub read_no_term : term_of (ltb 0 at) (drop at text) ≡ None → at < length text → coefficients_of phi 0 false text ≡ None
  read_no_term none more =
      r.reads ∙ ap (option_map (λ ds. take next cs ++ ds))
      (no_term_missed (phi - next) next (ltb 0 at) (drop at text) none (simp length-drop (omega arith)))

  -- the end of the text
  pub read_all : 0 < at → length text ≤ at → coefficients_of phi 0 false text ≡ Some (take phi cs)
  read_all begun done =
      let place : next + (phi - next) ≡ phi = omega (arith, r.next_within) in
      let front : take phi cs ≡ take next cs ++ replicate (phi - next) (pos 0) =
      ap (λ n. take n cs) (sym place) ∙ take-add next (phi - next) cs
      ∙ ap (λ xs. take next cs ++ xs) (ap (take (phi - next)) r.zeros ∙ take-replicate (phi - next) (42 - next) (pos 0) (omega (arith, r.next_within))) in
      rw front (rw (lt-ltb 0 at begun, drop_all at text done, ended (phi - next) next) at r.reads)

  pub read_empty : at ≡ 0 → length text ≤ at → coefficients_of phi 0 false text ≡ None
  read_empty none done = rw (le-ltb 0 at (omega arith), drop_all at text done, not_begun (phi - next) next) at r.reads

  -- from phi on there are zeros
  pub read_zeros : drop phi cs ≡ replicate (42 - phi) (pos 0)
  read_zeros =
      ap (λ n. drop n cs) (omega (arith, r.next_within)) ∙ sym (drop-drop (phi - next) next cs) ∙ ap (drop (phi - next)) r.zeros
      ∙ drop-replicate (phi - next) (42 - next) (pos 0) ∙ ap (λ m. replicate m (pos 0)) (omega (arith, r.next_within))
