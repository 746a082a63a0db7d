-- Lines that were added so far are a front of all lines.
use Rattle.data_print.proofs.Names.{◌≡◌, ℕ, zero, suc, ◌+◌, ◌≤◌, List, [], ◌++◌, refl, sym, ap, ◌∙◌, append_assoc, arith, add-one, ◌⊎◌, inl, inr, Result, Ok, Err, OnErr, first_lines, AddsFront}
use Rattle.std.proofs.lemmas.List.{append-nil}

pub first_lines-step : (line : ℕ → List ℕ) (n : ℕ) → first_lines line (n + 1) ≡ first_lines line n ++ line n
unfolding first_lines
first_lines-step line n = rw add-one refl

-- one more line is added to a text
pub first_lines-more : (line : ℕ → List ℕ) (n : ℕ) (old now next text : List ℕ) → now ≡ old ++ first_lines line n → text ≡ line n → next ≡ now ++ text → next ≡ old ++ first_lines line (n + 1)
first_lines-more line n old now next text so_far is added = added ∙ rw (first_lines-step, so_far, is) (append_assoc old (first_lines line n) (line n))

below_or_same : (c n : ℕ) → c ≤ suc n → (c ≤ n) ⊎ (c ≡ suc n)
below_or_same c n le = grind arith

-- what is left of the lines after the first c of them
lines_left : (line : ℕ → List ℕ) (n c : ℕ) → c ≤ n → (rest : List ℕ) × (first_lines line n ≡ first_lines line c ++ rest)
unfolding first_lines
lines_left line zero c le = let none : c ≡ 0 = omega arith in rw none ([], refl)
lines_left line (suc n) c le =
    elim (below_or_same c n le) [
      | inl less ↦
          let (rest, parts) = lines_left line n c less in
          (rest ++ line n, ap (λ (x : List ℕ). x ++ line n) parts ∙ append_assoc (first_lines line c) rest (line n))
      | inr all ↦ rw all ([], sym (append-nil (first_lines line n ++ line n)))
    ]

pub lines_front : (line : ℕ → List ℕ) (n c : ℕ) (old new : List ℕ) → c ≤ n → new ≡ old ++ first_lines line c → AddsFront old new (first_lines line n)
lines_front line n c old new le is = let (rest, parts) = lines_left line n c le in (first_lines line c, rest, parts, is)

-- a front of the lines is a front of the lines with more after them
pub front_of_longer : (old new text more : List ℕ) → AddsFront old new text → AddsFront old new (text ++ more)
front_of_longer old new text more (front, rest, parts, is) = (front, rest ++ more, ap (λ (x : List ℕ). x ++ more) parts ∙ append_assoc front rest more, is)

-- all of the lines are a front of the lines with more after them
pub all_is_front : (old new text more : List ℕ) → new ≡ old ++ text → AddsFront old new (text ++ more)
all_is_front old new text more is = (text, more, refl, is)

pub on_err : {T E P : Type 0} (r : Result T E) → P → OnErr r P
on_err (Ok x) p = tt
on_err (Err e) p = p
