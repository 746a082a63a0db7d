-- The window moves down, and ends at the first places.
use Rattle.qd_ring.proofs.Names.{◌≡◌, ◌+◌, ◌-◌, ◌^◌, ◌<◌, ◌≤◌, suc, length, take, drop, ap, sym, subst, ◌∙◌, refl, arith, ℕ, ◌++◌, [], ◌∷◌, pos, ap₂, leading, phi_of, reduction_of, cancelled, remainder, cyclotomic, size_of, reduction_length, reduction_ternary}
use borrow.Rule.Slice.PartMut.{put_mid, post_of, same_len_mid}
use Rattle.qd_ring.proofs.ReduceLaws.{window_size, window_start, step_below, step_window}
use Rattle.qd_ring.proofs.cyc_buffer.reduce.Goals as goal

pub loop-at-init : goal.loop-at-init
loop-at-init c =
    let low_is = ap length c.reduction-low.ensures ∙ reduction_length c.args.k c.requires.conductor in
    let whole : length c.args.buffer.now - length c.reduction-low.result.now + phi_of c.args.k ≡ length c.args.buffer.now =
    omega (arith, low_is, c.requires.size) in
    record {
      inside = omega (arith, whole);
      below = refl;
      window = window_start c.args.k c.requires.conductor c.args.buffer.now (length c.args.buffer.now - length c.reduction-low.result.now) whole;
    }

pub cancel-requires-clause-ternary : goal.cancel-requires-clause-ternary
cancel-requires-clause-ternary c =
    subst (λ z. size_of z ≤ 1) (sym c.reduction-low.ensures) (reduction_ternary c.args.k c.requires.conductor)

pub cancel-requires-clause-room : goal.cancel-requires-clause-room
cancel-requires-clause-room c =
    let o = c.loop-at.at - 1 in
    let b = c.loop-at.buffer in
    let b0 = c.args.buffer.now in
    let low_is = ap length c.reduction-low.ensures ∙ reduction_length c.args.k c.requires.conductor in
    let at_is : c.loop-at.at ≡ suc o = omega (arith, c.loop-at-test.true) in
    let inside : suc o + phi_of c.args.k ≤ length b = omega (arith, at_is, c.loop-at.invariant.inside) in
    let count : o + length c.reduction-low.result.now + 1 - o ≡ suc (phi_of c.args.k) = omega (arith, low_is) in
    let bound =
    window_size c.args.k c.requires.conductor o b b0 c.loop-at.auto.buffer inside (subst (λ n. take n b ≡ take n b0) at_is c.loop-at.invariant.below)
    (subst (λ n. take (phi_of c.args.k) (drop n b) ≡ remainder (cyclotomic c.args.k) (drop n b0)) at_is c.loop-at.invariant.window) in
    subst (λ n. size_of (take n (drop o b)) < 2 ^ 126) (sym count) (omega (arith, bound, c.requires.room))

pub loop-at-preserved : goal.loop-at-preserved
loop-at-preserved c =
    let k = c.args.k in
    let n = phi_of k in
    let o = c.loop-at.at - 1 in
    let b = c.loop-at.buffer in
    let b0 = c.args.buffer.now in
    let low = c.reduction-low.result.now in
    let w = c.cancel.new.window in
    let low_is = ap length c.reduction-low.ensures ∙ reduction_length k c.requires.conductor in
    let at_is : c.loop-at.at ≡ suc o = omega (arith, c.loop-at-test.true) in
    let inside : suc o + n ≤ length b = omega (arith, at_is, c.loop-at.invariant.inside) in
    let taken : ℕ = o + length low + 1 - o in
    let count : taken ≡ suc n = omega (arith, low_is) in
    let below = subst (λ i. take i b ≡ take i b0) at_is c.loop-at.invariant.below in
    let window = subst (λ i. take n (drop i b) ≡ remainder (cyclotomic k) (drop i b0)) at_is c.loop-at.invariant.window in
    let last = leading (take taken (drop o b)) in
    let changed : w ≡ cancelled (reduction_of k ++ (pos 1 ∷ [])) (take (suc n) (drop o b)) ++ (last ∷ []) =
    c.cancel.ensures
    ∙ ap₂ (λ x y. cancelled (x ++ (pos 1 ∷ [])) (take y (drop o b)) ++ (last ∷ [])) c.reduction-low.ensures count in
    let rest = post_of o taken b in
    let kept : length (put_mid o taken b w) ≡ length b = same_len_mid o taken b w c.cancel.auto.window in
    record {
      inside = omega (arith, kept, inside);
      below = step_below k c.requires.conductor o b b0 c.loop-at.auto.buffer inside below window w rest last changed;
      window = step_window k c.requires.conductor o b b0 c.loop-at.auto.buffer inside below window w rest last changed;
    }

pub returns : goal.returns
returns c =
    let ended : c.loop-at.at ≡ 0 = omega (arith, c.loop-at-test.false) in
    subst (λ n. take (phi_of c.args.k) (drop n c.loop-at.buffer) ≡ remainder (cyclotomic c.args.k) (drop n c.args.buffer.now)) ended c.loop-at.invariant.window
