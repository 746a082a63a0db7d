use Rattle.transport.proofs.Names.{subst, arith, IsCocycle, classes_at_most}
use Rattle.transport.proofs.simples.Simples.of.Goals as goal

pub invariant_of-result : goal.invariant_of-result
invariant_of-result g c =
    let W = subst IsCocycle c.w.view_is c.w.invariant in
    let most = classes_at_most c.args.w.group W.cochain.group in
    record {
      simples = record {
        conductor = c.tables.invariant.0;
        cocycle = W;
        tables = c.requires.tables;
        shaped = c.in_ok-entries.ensures.good.shaped;
        good = c.in_ok-entries.ensures.good.good;
      };
      classes_are = c.requires.classes;
      listed = c.in_ok-entries.ensures.listed;
      few = omega (arith, c.in_ok-entries.ensures.few, c.requires.tables.count, most, W.cochain.small.to_sixty);
    }
