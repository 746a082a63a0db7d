use Rattle.qd_text.proofs.Names.{◌≡◌, drop, false, blanked, runs, tokens_from}
use Rattle.qd_text.proofs.token.token_start.Given as goal

-- the tokens are those that are left, where `inside` says whether a comment is open
abbrev pub invariant-loop-at : goal.invariant-loop-at
invariant-loop-at l = runs false l.at (blanked l.inside (drop l.at l.bytes)) ≡ tokens_from l.from l.bytes
