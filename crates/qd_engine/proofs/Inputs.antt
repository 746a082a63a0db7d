-- What came is what was left, where the source tells that.
use Rattle.qd_engine.proofs.Names.{◌≡◌, ℕ, ◌+◌, ◌<◌, List, length, Option, Some, None, refl, ap, ◌∙◌, arith, length-append, TakesOver, OfInput}

-- where more was taken than this, more was left
pub more_was_left : (most : ℕ) (before after : Option (List ℕ)) → TakesOver most before after → OfInput before (λ bytes. most < length bytes)
more_was_left most None after (taken, long, consumed) = (taken, tt, long)
more_was_left most (Some left) None (taken, long, consumed) = absurd consumed
more_was_left most (Some left) (Some rest) (taken, long, consumed) =
    let parts : length left ≡ length taken + length rest = ap length consumed ∙ length-append taken rest in
    (left, refl, omega arith)
