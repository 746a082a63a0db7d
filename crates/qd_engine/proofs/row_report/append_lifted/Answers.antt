use Rattle.qd_engine.proofs.RankLaws.{ranks_few, ranks_small}
use Rattle.qd_engine.proofs.row_report.append_lifted.Goals as goal

pub few_simples-requires-clause-few : goal.few_simples-requires-clause-few
few_simples-requires-clause-few c = ranks_few c.args.w c.args.list c.requires.list

pub few_simples-requires-clause-small : goal.few_simples-requires-clause-small
few_simples-requires-clause-small c = ranks_small c.args.w c.args.list c.requires.list
