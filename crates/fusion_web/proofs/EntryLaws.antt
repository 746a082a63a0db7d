-- Entries of a web, and their counts.
use Rattle.fusion_web.proofs.Names.{◌≡◌, ℕ, zero, suc, ◌+◌, ◌<◌, ◌⊎◌, Bool, true, false, List, [], ◌∷◌, ◌++◌, Some, None, length, get_or, refl, sym, ap, subst, ◌∙◌, arith, inl, inr, eq-eqb, length-append, find, option_map_or, eqb-true, get_or_push, get_or_append_left, Entry, WebEntries, IsEntry, IsWeb, AreApart, entry_at, no_entry, is_entry_of, count_of, most_nodes}
use Rattle.scan.proofs.Places.{and_true}
use Rattle.fusion_web.proofs.RingLaws.{below_suc}

pub cases : (b : Bool) → (b ≡ true) ⊎ (b ≡ false)
cases true = inl refl
cases false = inr refl

-- the only element that passes is found
find_only : {X : Type 0} (test : X → Bool) (xs : List X) (p : ℕ) (d : X) → p < length xs → test (get_or xs p d) ≡ true
    → ((q : ℕ) → q < length xs → test (get_or xs q d) ≡ true → q ≡ p) → find test xs ≡ Some (get_or xs p d)
find_only test [] p d inside passes only = absurd (omega arith)
find_only test (x ∷ xs) zero d inside passes only = rw passes refl
find_only {X} test (x ∷ xs) (suc p) d inside passes only =
    elim (cases (test x)) [
      | inl first ↦ absurd (let wrong = only 0 (omega arith) first in omega (arith, wrong))
      | inr other ↦ rw other (find_only test xs p d (omega arith) passes (λ q below here. let e = only (suc q) (omega arith) here in omega (arith, e)))
    ]

-- where none passes, none is found
pub find_none : {X : Type 0} (test : X → Bool) (xs : List X) (d : X) → ((q : ℕ) → q < length xs → test (get_or xs q d) ≡ true → ⊥) → find test xs ≡ None
find_none test [] d none = refl
find_none {X} test (x ∷ xs) d none =
    elim (cases (test x)) [
      | inl first ↦ absurd (none 0 (omega arith) first)
      | inr other ↦ rw other (find_none test xs d (λ q below here. none (suc q) (omega arith) here))
    ]

-- the test of an entry
pub record IsOf (i j k : ℕ) (e : Entry) : Type 0 where
  pub i_is : e.i ≡ i
  pub j_is : e.j ≡ j
  pub k_is : e.k ≡ k

pub is_of : (i j k : ℕ) (e : Entry) → is_entry_of i j k e ≡ true → IsOf i j k e
is_of i j k e passes =
    let parts = and_true _ _ passes in
    let pair = and_true _ _ parts.0 in record { i_is = eqb-true _ _ pair.0; j_is = eqb-true _ _ pair.1; k_is = eqb-true _ _ parts.1 }

passes_itself : (e : Entry) → is_entry_of e.i e.j e.k e ≡ true
passes_itself e = rw (eq-eqb e.i e.i refl, eq-eqb e.j e.j refl, eq-eqb e.k e.k refl) refl

-- the count of an entry is that of its three simples
pub count_of-entry : (web : WebEntries) → AreApart web.entries → (p : ℕ) → p < length web.entries
    → count_of web (entry_at web.entries p).i (entry_at web.entries p).j (entry_at web.entries p).k ≡ (entry_at web.entries p).count
count_of-entry web apart p inside =
    let e = entry_at web.entries p in
    ap (λ found. option_map_or (λ (e : Entry). e.count) found 0)
    (find_only (is_entry_of e.i e.j e.k) web.entries p no_entry inside (passes_itself e)
    (λ q below here. let is = is_of e.i e.j e.k (entry_at web.entries q) here in apart q p below inside is.i_is is.j_is is.k_is))

-- where there is no entry, the count is 0
pub count_of-none : (web : WebEntries) (i j k : ℕ) → ((q : ℕ) → q < length web.entries → IsOf i j k (entry_at web.entries q) → ⊥) → count_of web i j k ≡ 0
count_of-none web i j k none =
    ap (λ found. option_map_or (λ (e : Entry). e.count) found 0)
    (find_none (is_entry_of i j k) web.entries no_entry (λ q below here. none q below (is_of i j k (entry_at web.entries q) here)))

-- in a web, a count of 0 says that there is no entry
pub absent : (web : WebEntries) (i j k : ℕ) → IsWeb web → count_of web i j k ≡ 0 → (q : ℕ) → q < length web.entries → IsOf i j k (entry_at web.entries q) → ⊥
absent web i j k is none q below here =
    let e = entry_at web.entries q in
    let count : count_of web e.i e.j e.k ≡ e.count = count_of-entry web is.apart q below in
    let same : count_of web e.i e.j e.k ≡ count_of web i j k =
    ap (λ i. count_of web i e.j e.k) here.i_is ∙ ap (λ j. count_of web i j e.k) here.j_is ∙ ap (count_of web i j) here.k_is in
    let some = (is.each q below).some in
    omega (arith, count, same, none, some)

-- the entries with one more
module _ (web : WebEntries) (e : Entry) where
  abbrev pub with_entry : WebEntries
  with_entry = record web { entries = web.entries ++ e ∷ [] }

  pub entry_before : (p : ℕ) → p < length web.entries → entry_at (web.entries ++ e ∷ []) p ≡ entry_at web.entries p
  entry_before p inside = get_or_append_left web.entries (e ∷ []) no_entry p inside

  pub entry_last : entry_at (web.entries ++ e ∷ []) (length web.entries) ≡ e
  entry_last = get_or_push web.entries e no_entry (length web.entries) refl

  count_is : length (web.entries ++ e ∷ []) ≡ length web.entries + 1
  count_is = length-append web.entries (e ∷ [])

  module _ (is : IsWeb web) (entry : IsEntry web.simples e) (new : count_of web e.i e.j e.k ≡ 0) where
    not_before : (p : ℕ) → p < length web.entries → (entry_at web.entries p).i ≡ e.i → (entry_at web.entries p).j ≡ e.j → (entry_at web.entries p).k ≡ e.k → ⊥
    not_before p inside i_is j_is k_is = absent web e.i e.j e.k is new p inside (record { i_is = i_is; j_is = j_is; k_is = k_is })

    apart_still : AreApart (web.entries ++ e ∷ [])
    apart_still p q p_below q_below i_same j_same k_same = elim (below_suc p (length web.entries) (omega (arith, count_is))) [
      | inl p_last ↦ elim (below_suc q (length web.entries) (omega (arith, count_is))) [
        | inl q_last ↦ p_last ∙ sym q_last
        | inr q_before ↦
            let mine = ap (entry_at (web.entries ++ e ∷ [])) p_last ∙ entry_last in
            let other = entry_before q q_before in
            absurd (not_before q q_before (ap (λ (x : Entry). x.i) (sym other) ∙ sym i_same ∙ ap (λ (x : Entry). x.i) mine)
            (ap (λ (x : Entry). x.j) (sym other) ∙ sym j_same ∙ ap (λ (x : Entry). x.j) mine) (ap (λ (x : Entry). x.k) (sym other) ∙ sym k_same ∙ ap (λ (x : Entry). x.k) mine))
      ]
      | inr p_before ↦
          let mine = entry_before p p_before in
          elim (below_suc q (length web.entries) (omega (arith, count_is))) [
            | inl q_last ↦
                let other = ap (entry_at (web.entries ++ e ∷ [])) q_last ∙ entry_last in
                absurd (not_before p p_before (ap (λ (x : Entry). x.i) (sym mine) ∙ i_same ∙ ap (λ (x : Entry). x.i) other)
                (ap (λ (x : Entry). x.j) (sym mine) ∙ j_same ∙ ap (λ (x : Entry). x.j) other) (ap (λ (x : Entry). x.k) (sym mine) ∙ k_same ∙ ap (λ (x : Entry). x.k) other))
            | inr q_before ↦
                let other = entry_before q q_before in
                is.apart p q p_before q_before (ap (λ (x : Entry). x.i) (sym mine) ∙ i_same ∙ ap (λ (x : Entry). x.i) other)
                (ap (λ (x : Entry). x.j) (sym mine) ∙ j_same ∙ ap (λ (x : Entry). x.j) other) (ap (λ (x : Entry). x.k) (sym mine) ∙ k_same ∙ ap (λ (x : Entry). x.k) other)
          ]
    ]

    each_still : (p : ℕ) → p < length (web.entries ++ e ∷ []) → IsEntry web.simples (entry_at (web.entries ++ e ∷ []) p)
    each_still p below = elim (below_suc p (length web.entries) (omega (arith, count_is))) [
      | inl last ↦ subst (IsEntry web.simples) (sym (ap (entry_at (web.entries ++ e ∷ [])) last ∙ entry_last)) entry
      | inr before ↦ subst (IsEntry web.simples) (sym (entry_before p before)) (is.each p before)
    ]

    pub web_more : length web.entries < most_nodes → IsWeb with_entry
    web_more room = record { some = is.some; few = is.few; limit = omega (arith, count_is, room); each = each_still; apart = apart_still }
