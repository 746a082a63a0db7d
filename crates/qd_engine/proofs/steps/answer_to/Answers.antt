use Rattle.qd_engine.proofs.steps.answer_to.Goals as goal

pub returns-in-Made : goal.returns-in-Made
returns-in-Made c = record { follows = c.answer_to_maker.ensures.follows c.args.bytes.now.items }

pub returns-in-Sampled : goal.returns-in-Sampled
returns-in-Sampled c = record { follows = c.answer_to_sample.ensures.follows c.args.bytes.now.items }
