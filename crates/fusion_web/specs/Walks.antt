-- Walks along the rings of a web: what they have left.
use Rattle.std.specs.Prelude.{◌≡◌, ℕ, ◌<◌, ◌≤◌, Option, Some, None, MatchOption, List, [], length}
use Rattle.fusion_web.specs.Entries.{WebEntries, IsWeb, entry_at, row_from, into_from}
use Rattle.fusion_web.specs.Links.{pair_number, key_of, Follows}
use Rattle.fusion_web.specs.declared.side.Side.{Side}

module _ (web : WebEntries) where
  -- from the entry at the next place on
  abbrev pub row_rest : Option ℕ → List (ℕ × ℕ)
  row_rest None = []
  row_rest (Some p) = let e = entry_at web.entries p in row_from web e.i e.j e.k

  abbrev pub into_rest : Option ℕ → List (ℕ × ℕ × ℕ)
  into_rest None = []
  into_rest (Some p) = let e = entry_at web.entries p in into_from web e.k (pair_number web.simples e)

  -- the next place is one of the web
  pub record IsWalk (next : Option ℕ) : Type 0 where
    pub over : IsWeb web
    pub inside : (p : ℕ) → next ≡ Some p → p < length web.entries

  -- the place after p in its ring, where p isn't the last there
  abbrev pub LeadsTo : Side → ℕ → Option ℕ → Type 0
  LeadsTo side p next =
      let key : ℕ → ℕ = λ r. key_of side web.simples (entry_at web.entries r) in
      MatchOption next ((q : ℕ) × (Follows side web p q × (key q ≤ key p))) (λ q. Follows side web p q × (key p < key q))
