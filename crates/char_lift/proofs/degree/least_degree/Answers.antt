use Rattle.char_lift.proofs.Names.{◌≡◌, rules, Some, None, if◌then◌else◌, is_degree, least_degree}
use Rattle.char_lift.proofs.DegreeLaws.{degree_square}
use Rattle.char_lift.proofs.degree.least_degree.Goals as goal

found_is : (c : goal.After-first_below) → c.first_below.result ≡ least_degree c.args.powers.now.q c.args.m c.args.t
unfolding least_degree
found_is c = c.first_below.ensures.least (λ d. if is_degree c.args.powers.now.q c.args.m c.args.t d then Some d else None) (λ i result below post. search rules)

pub returns-clause-least : goal.returns-clause-least
returns-clause-least c = found_is c

pub returns-clause-small : goal.returns-clause-small
returns-clause-small c = degree_square c.args.powers.now.q c.args.m c.args.t c.first_below.result (found_is c)
