use Rattle.fusion.proofs.Names.{◌≡◌, ◌<◌, ℕ, List, Option, length, get_or, sym, ap, ◌∙◌, subst, arith, Vec, Box, sum_below, sum_zero, cyclotomic, value_product, CyclotomicValue, cyclotomic_ring, listed_pairs, Monomial, folded_value, sum_below_more, count, tensor_character, Weighted, value_or_nought, listed_at, places_of, weighted_conjugate, IsWeighted, AreWeighted, orbit_term}
use Rattle.fusion.proofs.Lists.{item_read}
use Rattle.fusion.proofs.OrbitSums.{fusion_sum_of_orbits, orbit_product, place_below}
use Rattle.fusion.proofs.inner.folded_sum.Goals as goal
use Rattle.fusion.proofs.inner.folded_sum.Given.{Over}
use Rattle.fusion.proofs.inner.folded_sum.Goals.{After-deref-weighted-items, After-weighted-item}

-- the row that was read
row_is : (g : Over) (c : After-deref-weighted-items g) → AreWeighted g.row.K c.args.simples.now c.args.l c.deref-weighted-items.result.now
row_is g c =
    let k = g.row.K in
    let s = c.args.simples.now in
    let holds : ℕ → Vec (Weighted k) → Type 0 = λ l row. AreWeighted k s l row.items in
    subst (λ (row : List (Weighted k)). AreWeighted k s c.args.l row) (sym c.deref-weighted-items.ensures.value)
    (item_read holds (count k s) c.args.conjugates.now.items c.args.l c.index.result.now c.requires.conjugates c.requires.l_below c.index.ensures)

-- the place of the pair
abbrev place : (g : Over) (c : After-weighted-item g) → ℕ
place g c = get_or (places_of g.row.K c.args.simples.now c.args.l) c.loop-weighted.weighted-index 0

inside : (g : Over) (c : After-weighted-item g) → c.loop-weighted.weighted-index < length (places_of g.row.K c.args.simples.now c.args.l)
inside g c = let row = row_is g (goal.at.After-weighted-item g c).After-deref-weighted-items in omega (arith, c.loop-weighted-test.true, row.count_is)

listed : (g : Over) (c : After-weighted-item g) → place g c < length (listed_pairs c.args.simples.now.cocycle.group)
listed g c = place_below g.row.K c.args.simples.now c.args.l c.loop-weighted.weighted-index (inside g c)

-- the conjugate that was read
item_is : (g : Over) (c : After-weighted-item g) → IsWeighted g.row.K c.args.simples.now c.args.l (place g c) c.weighted-item.result
item_is g c =
    let k = g.row.K in
    let s = c.args.simples.now in
    let holds : ℕ → Weighted k → Type 0 = λ q weighted. IsWeighted k s c.args.l (get_or (places_of k s c.args.l) q 0) weighted in
    item_read holds (length (places_of k s c.args.l)) c.deref-weighted-items.result.now c.loop-weighted.weighted-index c.weighted-item.result
    (row_is g (goal.at.After-weighted-item g c).After-deref-weighted-items) (inside g c) c.weighted-item.is

pub loop-weighted-init : goal.loop-weighted-init
loop-weighted-init g c = c.zero-folded.ensures.value ∙ sym (sum_zero (cyclotomic_ring g.row.K) _)

pub index-requires-in-loop-weighted : goal.index-requires-in-loop-weighted
index-requires-in-loop-weighted g c =
    let at = (goal.at.index-requires-in-loop-weighted g c).After-weighted-item in
    let is = item_is g at in omega (arith, is.place_is, listed g at, c.requires.tensors.count_is, c.args.tensors.now.ok.0)

pub loop-weighted-preserved : goal.loop-weighted-preserved
loop-weighted-preserved g c =
    let k = g.row.K in
    let s = c.args.simples.now in
    let i = c.args.i in
    let j = c.args.j in
    let l = c.args.l in
    let at = (goal.at.loop-weighted-preserved g c).After-weighted-item in
    let p = place g at in
    let is = item_is g at in
    let tensor = c.index-in-loop-weighted.result.now in
    let holds : ℕ → Option (Box (List Monomial)) → Type 0 = λ p u. value_or_nought k u ≡ (tensor_character k s i j (listed_at k s p).g (listed_at k s p).h).value in
    let read = subst (λ m. tensor ≡ get_or c.args.tensors.now.items m tensor) is.place_is c.index-in-loop-weighted.ensures in
    let tensor_is = item_read holds (length (listed_pairs s.cocycle.group)) c.args.tensors.now.items p tensor c.requires.tensors (listed g at) read in
    let value : ℕ → CyclotomicValue k = λ q. orbit_term k s i j l (get_or (places_of k s l) q 0) in
    c.add_pair.ensures.value (weighted_conjugate k s l (listed_at k s p)) is.stands c.if-not-add_pair.false
    ∙ sum_below_more (cyclotomic_ring k) value c.loop-weighted.weighted-index (folded_value k c.loop-weighted.folded)
    (value_product (cyclotomic k) (value_or_nought k tensor) (weighted_conjugate k s l (listed_at k s p))) c.loop-weighted.invariant
    (orbit_product k s i j l p (value_or_nought k tensor) tensor_is)

pub returns : goal.returns
returns g c =
    let k = g.row.K in
    let s = c.args.simples.now in
    let row = row_is g (goal.at.returns g c).After-deref-weighted-items in
    let value : ℕ → CyclotomicValue k = λ q. orbit_term k s c.args.i c.args.j c.args.l (get_or (places_of k s c.args.l) q 0) in
    let all : c.loop-weighted.weighted-index ≡ length (places_of k s c.args.l) = omega (arith, c.loop-weighted-test.false, c.loop-weighted.auto, row.count_is) in
    record {
      value = c.finish.ensures.value ∙ c.loop-weighted.invariant ∙ ap (λ n. sum_below (cyclotomic_ring k) n value) all
          ∙ sym (fusion_sum_of_orbits k s c.count-count.ensures.simples c.args.i c.args.j c.args.l c.requires.i_below c.requires.j_below c.requires.l_below);
    }
