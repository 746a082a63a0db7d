-- Walks along rings.
use Rattle.fusion_web.proofs.Names.{◌≡◌, ℕ, zero, suc, ◌+◌, ◌-◌, ◌*◌, ◌/◌, ◌%◌, ◌<◌, ◌≤◌, Bool, true, false, cond, nat_lt, List, [], ◌∷◌, Option, Some, None, length, map, refl, sym, ap, subst, ◌∙◌, arith, inl, inr, eq-eqb, ◌==◌, filter, find, range_with_len, option_map_or, cases_lt, lt-ltb, ltb-false, ne_eqb, div-mul-add, mod-mul-add, div-add-mod', row_fits, ap₂, WebEntries, IsWeb, entry_at, count_of, kept_from, row_from, row_of, into_from, into_of, IsNext, IsFirst, IsEmpty, pair_number, Follows, IsHead, row_rest, into_rest, LeadsTo, Side, Row, Into}
use Rattle.fusion_web.proofs.EntryLaws.{cases, count_of-entry, count_of-none}
use Rattle.fusion_web.proofs.WebLaws.{pair_apart}

module _ {A : Type 0} (keep : A → Bool) (item : ℕ → A) (n : ℕ) where
  -- from a number of which the item is kept
  kept_step : (x : ℕ) → x < n → keep (item x) ≡ true → kept_from keep item n x ≡ item x ∷ kept_from keep item n (x + 1)
  kept_step x inside keeps =
      let count : n - x ≡ suc (n - (x + 1)) = omega arith in
      ap (λ l. filter keep (map item (range_with_len x l))) count ∙ ap (λ b. cond b (item x ∷ kept_from keep item n (x + 1)) (kept_from keep item n (x + 1))) keeps

  kept_skip : (x : ℕ) → x < n → keep (item x) ≡ false → kept_from keep item n x ≡ kept_from keep item n (x + 1)
  kept_skip x inside drops =
      let count : n - x ≡ suc (n - (x + 1)) = omega arith in
      ap (λ l. filter keep (map item (range_with_len x l))) count ∙ ap (λ b. cond b (item x ∷ kept_from keep item n (x + 1)) (kept_from keep item n (x + 1))) drops

  kept_end : (x : ℕ) → n ≤ x → kept_from keep item n x ≡ []
  kept_end x past = let count : n - x ≡ 0 = omega arith in ap (λ l. filter keep (map item (range_with_len x l))) count

  -- over numbers of which no item is kept
  kept_gap : (d x y : ℕ) → x + d ≡ y → ((z : ℕ) → x ≤ z → z < y → z < n → keep (item z) ≡ false) → kept_from keep item n x ≡ kept_from keep item n y
  kept_gap zero x y is drops = ap (kept_from keep item n) (omega arith)
  kept_gap (suc d) x y is drops = elim (cases_lt x n) [
    | inl inside ↦ kept_skip x inside (drops x (omega arith) (omega arith) inside) ∙ kept_gap d (x + 1) y (omega arith) (λ z from. drops z (omega arith))
    | inr past ↦ kept_end x past ∙ sym (kept_end y (omega arith))
  ]

  -- along a ring, where an item is kept only if some place of the ring has its number for a key
  module _ (ring key : ℕ → ℕ) (m c : ℕ) (gap : (z : ℕ) → ((r : ℕ) → r < m → ring r ≡ c → key r ≡ z → ⊥) → keep (item z) ≡ false) where
    rest_first : (p : ℕ) → IsFirst ring key m c p → kept_from keep item n 0 ≡ kept_from keep item n (key p)
    rest_first p first = kept_gap (key p) 0 (key p) (omega arith) (λ z from below inside. gap z (λ r under here same. let least = first.least r under here in omega arith))

    rest_empty : IsEmpty ring key m c → kept_from keep item n 0 ≡ []
    rest_empty empty = kept_gap n 0 n (omega arith) (λ z from below inside. gap z (λ r under here same. empty r under here)) ∙ kept_end n (omega arith)

    rest_next : (p q : ℕ) → ring p ≡ c → IsNext ring key m p q → key p < key q → kept_from keep item n (key p + 1) ≡ kept_from keep item n (key q)
    rest_next p q at is up =
        kept_gap (key q - (key p + 1)) (key p + 1) (key q) (omega arith)
        (λ z from below inside. gap z (λ r under here same. let after = is.greater up r under (here ∙ sym at) (omega arith) in omega arith))

    rest_last : (p q : ℕ) → ring p ≡ c → IsNext ring key m p q → key q ≤ key p → kept_from keep item n (key p + 1) ≡ []
    rest_last p q at is down =
        elim (cases_lt (key p + 1) n) [
          | inl inside ↦
              kept_gap (n - (key p + 1)) (key p + 1) n (omega arith)
              (λ z from below inside. gap z (λ r under here same. let most = is.around down r under (here ∙ sym at) in omega (arith, most.1)))
              ∙ kept_end n (omega arith)
          | inr past ↦ kept_end (key p + 1) past
        ]

none_of : (c : ℕ) → nat_lt 0 c ≡ false → c ≡ 0
none_of c none = let most : c ≤ 0 = ltb-false 0 c none in omega arith

-- a pair's number
below_square : (i j n : ℕ) → i < n → j < n → i * n + j < n * n
below_square i j n first second = omega (arith, second, row_fits i n n n first (omega arith))

-- the count that a list of results has for k
abbrev pub lookup : ℕ → List (ℕ × ℕ) → ℕ
lookup k results = option_map_or (λ s. s.1) (find (λ s. s.0 == k) results) 0

pub lookup_here : (k : ℕ) (s : ℕ × ℕ) (results : List (ℕ × ℕ)) → s.0 ≡ k → lookup k (s ∷ results) ≡ s.1
lookup_here k s results e = ap (λ b. option_map_or (λ (s : ℕ × ℕ). s.1) (cond b (Some s) (find (λ (s : ℕ × ℕ). s.0 == k) results)) 0) (eq-eqb s.0 k e)

pub lookup_there : (k : ℕ) (s : ℕ × ℕ) (results : List (ℕ × ℕ)) → (s.0 ≡ k → ⊥) → lookup k (s ∷ results) ≡ lookup k results
lookup_there k s results other = ap (λ b. option_map_or (λ (s : ℕ × ℕ). s.1) (cond b (Some s) (find (λ (s : ℕ × ℕ). s.0 == k) results)) 0) (ne_eqb s.0 k other)

module _ (web : WebEntries) where
  abbrev pair_at : ℕ → ℕ
  pair_at r = pair_number web.simples (entry_at web.entries r)

  abbrev result_at : ℕ → ℕ
  result_at r = (entry_at web.entries r).k

  abbrev comes : ℕ × ℕ → Bool
  comes s = nat_lt 0 s.1

  abbrev comes_from : ℕ × ℕ × ℕ → Bool
  comes_from s = nat_lt 0 s.2

  abbrev row_item : ℕ → ℕ → ℕ → ℕ × ℕ
  row_item i j k = (k, count_of web i j k)

  abbrev into_item : ℕ → ℕ → ℕ × ℕ × ℕ
  into_item k q = (q / web.simples, q % web.simples, count_of web (q / web.simples) (q % web.simples) k)

  -- one step: the results from x on have it where x is it, else those from x + 1 on
  lookup_step : (i j k x : ℕ) → x < web.simples → (x ≡ k → ⊥) → lookup k (row_from web i j x) ≡ lookup k (row_from web i j (x + 1))
  lookup_step i j k x inside other = elim (cases (comes (row_item i j x))) [
    | inl some ↦
        ap (lookup k) (kept_step comes (row_item i j) web.simples x inside some) ∙ lookup_there k (row_item i j x) (row_from web i j (x + 1)) other
    | inr none ↦ ap (lookup k) (kept_skip comes (row_item i j) web.simples x inside none)
  ]

  lookup_past : (d i j k x : ℕ) → x + d ≡ web.simples → k < x → lookup k (row_from web i j x) ≡ 0
  lookup_past zero i j k x end past = ap (lookup k) (kept_end comes (row_item i j) web.simples x (omega arith))
  lookup_past (suc d) i j k x end past = lookup_step i j k x (omega arith) (λ e. omega arith) ∙ lookup_past d i j k (x + 1) (omega arith) (omega arith)

  lookup_from : (d i j k x : ℕ) → x + d ≡ k → k < web.simples → lookup k (row_from web i j x) ≡ count_of web i j k
  lookup_from zero i j k x at inside =
      let e : x ≡ k = omega arith in
      ap (λ x. lookup k (row_from web i j x)) e
      ∙ elim (cases (comes (row_item i j k))) [
        | inl some ↦
            ap (lookup k) (kept_step comes (row_item i j) web.simples k inside some) ∙ lookup_here k (row_item i j k) (row_from web i j (k + 1)) refl
        | inr none ↦
            let nought : count_of web i j k ≡ 0 = none_of (count_of web i j k) none in
            ap (lookup k) (kept_skip comes (row_item i j) web.simples k inside none)
            ∙ lookup_past (web.simples - (k + 1)) i j k (k + 1) (omega arith) (omega arith) ∙ sym nought
      ]
  lookup_from (suc d) i j k x at inside = lookup_step i j k x (omega arith) (λ e. omega arith) ∙ lookup_from d i j k (x + 1) (omega arith) inside

  -- the results of a pair have for k its count
  pub lookup-row_of : (i j k : ℕ) → k < web.simples → lookup k (row_of web i j) ≡ count_of web i j k
  lookup-row_of i j k inside = lookup_from k i j k 0 (omega arith) inside

  module _ (is : IsWeb web) where
    -- a count is 0 where the pair has no entry with that result
    row_gap : (i j z : ℕ) → ((r : ℕ) → r < length web.entries → pair_at r ≡ i * web.simples + j → result_at r ≡ z → ⊥)
        → nat_lt 0 (count_of web i j z) ≡ false
    row_gap i j z none =
        ap (nat_lt 0) (count_of-none web i j z (λ q below here. none q below (ap₂ (λ a b. a * web.simples + b) here.i_is here.j_is) here.k_is))

    -- or the result no entry with that pair
    into_gap : (k z : ℕ) → ((r : ℕ) → r < length web.entries → result_at r ≡ k → pair_at r ≡ z → ⊥)
        → nat_lt 0 (count_of web (z / web.simples) (z % web.simples) k) ≡ false
    into_gap k z none =
        ap (nat_lt 0) (count_of-none web (z / web.simples) (z % web.simples) k
        (λ q below here. none q below here.k_is (ap₂ (λ a b. a * web.simples + b) here.i_is here.j_is ∙ div-add-mod' z web.simples)))

    -- what the entry at p gives in the ring of its pair
    row_here : (p : ℕ) → p < length web.entries → let e = entry_at web.entries p in row_from web e.i e.j e.k ≡ (e.k, e.count) ∷ row_from web e.i e.j (e.k + 1)
    row_here p inside =
        let e = entry_at web.entries p in
        let count : count_of web e.i e.j e.k ≡ e.count = count_of-entry web is.apart p inside in
        let entry = is.each p inside in
        kept_step comes (row_item e.i e.j) web.simples e.k entry.k_below (ap (nat_lt 0) count ∙ lt-ltb 0 e.count entry.some)
        ∙ ap (λ c. (e.k, c) ∷ row_from web e.i e.j (e.k + 1)) count

    pub row_next : (p q : ℕ) → p < length web.entries → Follows Row web p q → (entry_at web.entries p).k < (entry_at web.entries q).k
        → row_rest web (Some p) ≡ ((entry_at web.entries p).k, (entry_at web.entries p).count) ∷ row_rest web (Some q)
    row_next p q inside follows up =
        let e = entry_at web.entries p in
        let f = entry_at web.entries q in
        let pair = pair_apart f.i f.j e.i e.j web.simples (is.each q follows.inside).j_below (is.each p inside).j_below follows.same in
        let rest : row_from web e.i e.j (e.k + 1) ≡ row_from web e.i e.j f.k =
        rest_next comes (row_item e.i e.j) web.simples pair_at result_at (length web.entries)
        (pair_number web.simples e) (row_gap e.i e.j) p q refl follows up in
        row_here p inside ∙ ap (λ rest. (e.k, e.count) ∷ rest) (rest ∙ ap₂ (λ i j. row_from web i j f.k) (sym pair.0) (sym pair.1))

    pub row_ends : (p q : ℕ) → p < length web.entries → Follows Row web p q → (entry_at web.entries q).k ≤ (entry_at web.entries p).k
        → row_rest web (Some p) ≡ ((entry_at web.entries p).k, (entry_at web.entries p).count) ∷ []
    row_ends p q inside follows down =
        let e = entry_at web.entries p in
        row_here p inside
        ∙ ap (λ rest. (e.k, e.count) ∷ rest)
        (rest_last comes (row_item e.i e.j) web.simples pair_at result_at (length web.entries)
        (pair_number web.simples e) (row_gap e.i e.j) p q refl follows down)

    pub row_begins : (i j : ℕ) (head : Option ℕ) → j < web.simples → IsHead Row web (i * web.simples + j) head → row_rest web head ≡ row_of web i j
    row_begins i j None inside empty =
        sym (rest_empty comes (row_item i j) web.simples pair_at result_at (length web.entries)
        (i * web.simples + j) (row_gap i j) empty)
    row_begins i j (Some p) inside first =
        let e = entry_at web.entries p in
        let pair = pair_apart e.i e.j i j web.simples (is.each p first.inside).j_below inside first.here in
        ap₂ (λ a b. row_from web a b e.k) pair.0 pair.1
        ∙ sym (rest_first comes (row_item i j) web.simples pair_at result_at (length web.entries)
        (i * web.simples + j) (row_gap i j) p first)

    -- what the entry at p gives in the ring of its result
    into_here : (p : ℕ) → p < length web.entries → let e = entry_at web.entries p in
        into_from web e.k (pair_number web.simples e) ≡ (e.i, e.j, e.count) ∷ into_from web e.k (pair_number web.simples e + 1)
    into_here p inside =
        let e = entry_at web.entries p in
        let n = web.simples in
        let q = pair_number n e in
        let entry = is.each p inside in
        let i_is : q / n ≡ e.i = div-mul-add e.i n e.j entry.j_below in
        let j_is : q % n ≡ e.j = mod-mul-add e.i n e.j entry.j_below in
        let count : count_of web (q / n) (q % n) e.k ≡ e.count = ap₂ (λ i j. count_of web i j e.k) i_is j_is ∙ count_of-entry web is.apart p inside in
        let below : q < n * n = below_square e.i e.j n entry.i_below entry.j_below in
        kept_step comes_from (into_item e.k) (n * n) q below (ap (nat_lt 0) count ∙ lt-ltb 0 e.count entry.some)
        ∙ ap (λ s. s ∷ into_from web e.k (q + 1)) (ap₂ (λ i j. (i, j, count_of web (q / n) (q % n) e.k)) i_is j_is ∙ ap (λ c. (e.i, e.j, c)) count)

    pub into_next : (p q : ℕ) → p < length web.entries → Follows Into web p q → pair_at p < pair_at q
        → into_rest web (Some p) ≡ ((entry_at web.entries p).i, (entry_at web.entries p).j, (entry_at web.entries p).count) ∷ into_rest web (Some q)
    into_next p q inside follows up =
        let e = entry_at web.entries p in
        into_here p inside
        ∙ ap (λ rest. (e.i, e.j, e.count) ∷ rest)
        (rest_next comes_from (into_item e.k) (web.simples * web.simples) result_at pair_at (length web.entries) e.k (into_gap e.k) p q refl follows up
        ∙ ap (λ k. into_from web k (pair_at q)) (sym follows.same))

    pub into_ends : (p q : ℕ) → p < length web.entries → Follows Into web p q → pair_at q ≤ pair_at p
        → into_rest web (Some p) ≡ ((entry_at web.entries p).i, (entry_at web.entries p).j, (entry_at web.entries p).count) ∷ []
    into_ends p q inside follows down =
        let e = entry_at web.entries p in
        into_here p inside
        ∙ ap (λ rest. (e.i, e.j, e.count) ∷ rest)
        (rest_last comes_from (into_item e.k) (web.simples * web.simples) result_at pair_at (length web.entries) e.k (into_gap e.k) p q refl follows down)

    pub into_begins : (k : ℕ) (head : Option ℕ) → IsHead Into web k head → into_rest web head ≡ into_of web k
    into_begins k None empty = sym (rest_empty comes_from (into_item k) (web.simples * web.simples) result_at pair_at (length web.entries) k (into_gap k) empty)
    into_begins k (Some p) first =
        ap (λ c. into_from web c (pair_at p)) first.here
        ∙ sym (rest_first comes_from (into_item k) (web.simples * web.simples) result_at pair_at (length web.entries) k (into_gap k) p first)

    -- a step of a walk
    pub row_step : (p : ℕ) (next : Option ℕ) → p < length web.entries → LeadsTo web Row p next
        → row_rest web (Some p) ≡ ((entry_at web.entries p).k, (entry_at web.entries p).count) ∷ row_rest web next
    row_step p None inside leads = row_ends p leads.0 inside leads.1.0 leads.1.1
    row_step p (Some q) inside leads = row_next p q inside leads.0 leads.1

    pub into_step : (p : ℕ) (next : Option ℕ) → p < length web.entries → LeadsTo web Into p next
        → into_rest web (Some p) ≡ ((entry_at web.entries p).i, (entry_at web.entries p).j, (entry_at web.entries p).count) ∷ into_rest web next
    into_step p None inside leads = into_ends p leads.0 inside leads.1.0 leads.1.1
    into_step p (Some q) inside leads = into_next p q inside leads.0 leads.1

    pub leads_inside : (side : Side) (p : ℕ) (next : Option ℕ) → LeadsTo web side p next → (q : ℕ) → next ≡ Some q → q < length web.entries
    leads_inside side p None leads q e = absurd (cc)
    leads_inside side p (Some r) leads q e = let same : r ≡ q = cc in subst (λ q. q < length web.entries) same leads.0.inside
