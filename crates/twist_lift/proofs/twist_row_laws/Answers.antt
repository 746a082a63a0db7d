use Rattle.twist_lift.proofs.TwistLaws.{twist_rows_are_roots, twist_rows_miss_clauses}
use Rattle.twist_lift.proofs.ServedClasses.{serves_classes}
use Rattle.twist_lift.proofs.twist_row_laws.Goals as goal

pub returns-clause-roots : goal.returns-clause-roots
returns-clause-roots c = twist_rows_are_roots c.args.ring.now

pub returns-clause-misses : goal.returns-clause-misses
returns-clause-misses c = twist_rows_miss_clauses c.args.ring.now

pub returns-clause-classes : goal.returns-clause-classes
returns-clause-classes c = serves_classes c.args.ring.now
