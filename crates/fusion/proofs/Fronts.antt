-- Webs while fusion numbers are added.
use Rattle.fusion.proofs.Names.{◌≡◌, ℕ, ◌+◌, ◌*◌, ◌/◌, ◌%◌, ◌<◌, ◌≤◌, ◌==◌, ◌&&◌, Bool, true, false, [], refl, sym, ap, ap₂, ◌∙◌, subst, arith, eq-eqb, if◌then◌else◌, mul-le-mul, div-mul-add, mod-mul-add, and_true, WebEntries, count_of, SimplesOver, count, nat_lt, most_nodes, fusion_number, triple, HasCount, IsFront}
use Rattle.std.proofs.lemmas.Bool.{eqb-true, lt-ltb, le-ltb, ltb-true, ltb-false}
use Rattle.fusion.proofs.Places.{pair_below}

-- three simples
record Same (i j l a b c : ℕ) : Type 0 where
  first : i ≡ a
  second : j ≡ b
  third : l ≡ c

same_triple : (m i j l a b c : ℕ) → j < m → l < m → b < m → c < m → triple m a b c ≡ triple m i j l → Same i j l a b c
same_triple m i j l a b c j_below l_below b_below c_below same =
    let pairs : i * m + j ≡ a * m + b = sym (div-mul-add (i * m + j) m l l_below) ∙ ap (λ t. t / m) (sym same) ∙ div-mul-add (a * m + b) m c c_below in
    record {
      first = sym (div-mul-add i m j j_below) ∙ ap (λ t. t / m) pairs ∙ div-mul-add a m b b_below;
      second = sym (mod-mul-add i m j j_below) ∙ ap (λ t. t % m) pairs ∙ mod-mul-add a m b b_below;
      third = sym (mod-mul-add (i * m + j) m l l_below) ∙ ap (λ t. t % m) (sym same) ∙ mod-mul-add (a * m + b) m c c_below;
    }

tested : (i j l a b c : ℕ) → Same i j l a b c → (((i == a) && (j == b)) && (l == c)) ≡ true
tested i j l a b c same = ap₂ (λ x y. x && y) (ap₂ (λ x y. x && y) (eq-eqb _ _ same.first) (eq-eqb _ _ same.second)) (eq-eqb _ _ same.third)

means : (i j l a b c : ℕ) → (((i == a) && (j == b)) && (l == c)) ≡ true → Same i j l a b c
means i j l a b c test =
    let outer = and_true _ _ test in
    let inner = and_true _ _ outer.0 in record { first = eqb-true _ _ inner.0; second = eqb-true _ _ inner.1; third = eqb-true _ _ outer.1 }

-- a number that isn't q is before q + 1 exactly where it is before q
before_more : (t q : ℕ) → (t ≡ q → ⊥) → nat_lt t (q + 1) ≡ nat_lt t q
before_more t q apart = by (nat_lt t q) refl
  where
    by : (b : Bool) → nat_lt t q ≡ b → nat_lt t (q + 1) ≡ b
    by true e = lt-ltb t (q + 1) (let less = ltb-true t q e in omega (arith, less))
    by false e = le-ltb t (q + 1) (let more = ltb-false t q e in omega (arith, more, apart))

-- the greatest number of triples
pub triple_below : (m i j l : ℕ) → m ≤ 64 → i < m → j < m → l < m → triple m i j l < most_nodes
triple_below m i j l few i_below j_below l_below =
    let pair = pair_below i m j m i_below j_below in
    let all = pair_below (i * m + j) (m * m) l m pair l_below in
    let squares = mul-le-mul few few in
    let cubes = mul-le-mul squares few in omega (arith, all, cubes)

module _ (k : ℕ) (s : SimplesOver) where
  -- what the web doesn't have yet
  pub front_absent : (web : WebEntries) (i j l : ℕ) → i < count k s → j < count k s → l < count k s → IsFront k s (triple (count k s) i j l) web → count_of web i j l ≡ 0
  front_absent web i j l i_below j_below l_below front =
      let q = triple (count k s) i j l in
      front.counts i j l i_below j_below l_below ∙ ap (λ b. if b then fusion_number k s i j l else 0) (le-ltb q q (omega arith))

  -- one more number
  pub front_more : (before after : WebEntries) (i j l v : ℕ) → j < count k s → l < count k s → v ≡ fusion_number k s i j l
      → IsFront k s (triple (count k s) i j l) before → HasCount before after i j l v → IsFront k s (triple (count k s) i j l + 1) after
  front_more before after i j l v j_below l_below number front has = record {
    simples = has.simples ∙ front.simples;
    few = omega (arith, has.few, front.few);
    counts = counts;
  }
    where
      m : ℕ
      m = count k s

      q : ℕ
      q = triple (count k s) i j l

      counts : (a b c : ℕ) → a < count k s → b < count k s → c < count k s
          → count_of after a b c ≡ (if nat_lt (triple (count k s) a b c) (triple (count k s) i j l + 1) then fusion_number k s a b c else 0)
      counts a b c a_below b_below c_below = has.counts a b c ∙ by (((i == a) && (j == b)) && (l == c)) refl
        where
          by : (test : Bool) → (((i == a) && (j == b)) && (l == c)) ≡ test
              → (if test then v else count_of before a b c) ≡ (if nat_lt (triple (count k s) a b c) (triple (count k s) i j l + 1) then fusion_number k s a b c else 0)
          by true e =
              let same = means i j l a b c e in
              let here : triple m a b c ≡ q = ap₂ (λ x y. x * m + y) (ap₂ (λ x y. x * m + y) (sym same.first) (sym same.second)) (sym same.third) in
              number
              ∙ ap (λ x. fusion_number k s x j l) same.first ∙ ap (λ x. fusion_number k s a x l) same.second ∙ ap (fusion_number k s a b) same.third
              ∙ ap (λ t. if t then fusion_number k s a b c else 0) (sym (lt-ltb (triple m a b c) (q + 1) (omega (arith, here))))
          by false e =
              front.counts a b c a_below b_below c_below
              ∙ ap (λ t. if t then fusion_number k s a b c else 0)
              (sym (before_more (triple m a b c) q
              (λ here. let wrong : true ≡ false = sym (tested i j l a b c (same_triple m i j l a b c j_below l_below b_below c_below here)) ∙ e in absurd cc)))

  -- all numbers
  pub front_all : (web : WebEntries) (i : ℕ) → i ≡ count k s → IsFront k s (triple (count k s) i 0 0) web
      → (a b c : ℕ) → a < count k s → b < count k s → c < count k s → count_of web a b c ≡ fusion_number k s a b c
  front_all web i all front a b c a_below b_below c_below =
      let m = count k s in
      let pair = pair_below a m b m a_below b_below in
      let inside = pair_below (a * m + b) (m * m) c m pair c_below in
      let end : triple m i 0 0 ≡ m * m * m = ap (λ n. (n * m + 0) * m + 0) all ∙ omega arith in
      front.counts a b c a_below b_below c_below
      ∙ ap (λ t. if t then fusion_number k s a b c else 0) (lt-ltb (triple m a b c) (triple m i 0 0) (omega (arith, inside, end)))

  -- the same place
  pub front_at : (web : WebEntries) (q r : ℕ) → q ≡ r → IsFront k s q web → IsFront k s r web
  front_at web q r same front = subst (λ t. IsFront k s t web) same front

  -- the web of no numbers
  pub front_none : (web : WebEntries) → web ≡ record { simples = count k s; entries = [] } → IsFront k s (triple (count k s) 0 0 0) web
  front_none web empty = subst (IsFront k s (triple (count k s) 0 0 0)) (sym empty) (record {
    simples = refl;
    few = omega arith;
    counts = λ a b c a_below b_below c_below. ap (λ t. if t then fusion_number k s a b c else 0) (sym (le-ltb (triple (count k s) a b c) (triple (count k s) 0 0 0) (omega arith)));
  })
