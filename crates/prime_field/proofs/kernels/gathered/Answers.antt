use Rattle.prime_field.proofs.Names.{◌<◌, ◌/◌, ◌%◌, arith, mod-lt, div-lt_iff_lt-mul}
use Rattle.prime_field.proofs.ResidueRows.{place_in}
use Rattle.prime_field.proofs.kernels.gathered.Goals as goal

pub bounds-rows-place : goal.bounds-rows-place
bounds-rows-place c =
    let w = c.args.w in
    let k = c.loop-k.k in
    let row : k / w < c.len.result = (div-lt_iff_lt-mul c.requires.some).1 c.loop-k-test.true in
    let place = c.requires.places_below (k / w) (omega (arith, row, c.len.ensures.count)) in
    let there = place_in w w c.at.result (k % w) (omega (arith, place, c.at.ensures.number)) (mod-lt k c.requires.some) in
    omega (arith, there, c.requires.square)
