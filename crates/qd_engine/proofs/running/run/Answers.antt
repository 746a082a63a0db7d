use Rattle.qd_engine.proofs.Names.{texts, said_by, Rises}
use Rattle.qd_engine.proofs.Meaning.{answer_comes, done_means, plan_decides, acceptable_done}
use Rattle.qd_engine.proofs.Taken.{prepared_ends, prepared_takes, drained_if_done}
use Rattle.qd_engine.proofs.running.run.Goals as goal

pub returns-clause-written : goal.returns-clause-written
returns-clause-written g c =
    prepared_ends (texts c.args.words.now.items) (g.S.Source.left c.args.source.now) (Rises (g.S.Source.faults c.args.source.now) (g.S.Source.faults c.prepare-prepared.new.source)) _ _
    (said_by c.say.result.why) c.prepare-prepared.result c.prepare-prepared.ensures.prepares c.say.ensures.said

pub returns-clause-done : goal.returns-clause-done
returns-clause-done g c = done_means _ _ _ _ _ c.say.result.why (returns-clause-written g c)

pub returns-clause-cause : goal.returns-clause-cause
returns-clause-cause g c = answer_comes _ _ _ _ _ _ (returns-clause-written g c)

pub returns-clause-decided : goal.returns-clause-decided
returns-clause-decided g c = λ bytes told sure sure_sink. plan_decides _ bytes _ told _ sure _ _ _ (returns-clause-written g c) sure_sink

pub returns-clause-complete : goal.returns-clause-complete
returns-clause-complete g c = λ bytes told sure accepts roomy. acceptable_done _ _ _ _ _ c.say.result.why bytes (returns-clause-written g c) told sure accepts roomy

pub returns-clause-taken : goal.returns-clause-taken
returns-clause-taken g c = prepared_takes _ _ _ _ (said_by c.say.result.why) c.prepare-prepared.result c.say.ensures.said c.prepare-prepared.ensures.taken

pub returns-clause-drained : goal.returns-clause-drained
returns-clause-drained g c = λ reads. drained_if_done _ _ _ c.say.result.why c.prepare-prepared.result c.say.ensures.said (c.prepare-prepared.ensures.drained reads)
