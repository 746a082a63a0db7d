use Rattle.prime_field.proofs.Names.{◌≡◌, ◌≢◌, ◌⊎◌, ◌<◌, ◌+◌, ◌*◌, ℕ, List, get_or, get_or-set_other, subst, slice_set, Square, entry}
use Rattle.prime_field.proofs.ResidueRows.{places_apart}
use Rattle.prime_field.proofs.matrix.Matrix.set.Goals as goal

others : (w i j k l v : ℕ) (numbers : List ℕ) (now : Square) → record { width = w; numbers = numbers } ≡ now → j < now.width → l < now.width → (k ≢ i) ⊎ (l ≢ j)
    → get_or (slice_set numbers (i * w + j) v) (k * w + l) 0 ≡ entry now k l
others w i j k l v numbers now e =
    subst (λ (s : Square). j < s.width → l < s.width → (k ≢ i) ⊎ (l ≢ j) → get_or (slice_set numbers (i * w + j) v) (k * w + l) 0 ≡ entry s k l) e
    (λ j_below l_below apart. let other : k * w + l ≢ i * w + j = places_apart w i j k l j_below l_below apart in get_or-set_other numbers (i * w + j) (k * w + l) v 0 other)

pub returns-clause-others : goal.returns-clause-others
returns-clause-others c = λ k l k_below l_below apart.
    others c.self.inside.width c.args.i c.args.j k l c.args.v c.self.inside.numbers.items c.args.self.now c.self.view_is c.requires.j_below l_below apart
