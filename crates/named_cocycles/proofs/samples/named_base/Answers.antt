use Rattle.named_cocycles.proofs.Names.{◌≡◌, ◌%◌, arith, mod-lt}
use Rattle.named_cocycles.proofs.Gauges.{ok_is, base_zero, base_one, base_two, base_three}
use Rattle.named_cocycles.proofs.samples.named_base.Goals as goal

pub returns-in-0-clause-made : goal.returns-in-0-clause-made
returns-in-0-clause-made c = ok_is c.type_three.result _ _ _ (base_zero c.args.s (omega arith)) c.type_three.ensures.made

pub returns-in-1-clause-made : goal.returns-in-1-clause-made
returns-in-1-clause-made c = ok_is c.reflections.result _ _ _ (base_one c.args.s (omega arith)) c.reflections.ensures.made

pub returns-in-2-clause-made : goal.returns-in-2-clause-made
returns-in-2-clause-made c = ok_is c.plain_dicyclic.result _ _ _ (base_two c.args.s (omega arith)) c.plain_dicyclic.ensures.made

pub returns-in_default-clause-made : goal.returns-in_default-clause-made
returns-in_default-clause-made c = ok_is c.type_two.result _ _ _ (base_three c.args.s (omega arith)) c.type_two.ensures.made
