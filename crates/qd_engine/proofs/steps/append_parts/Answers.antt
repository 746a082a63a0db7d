use Rattle.qd_engine.proofs.Names.{◌++◌, sym, ap, ◌∙◌, append-nil, part_text}
use Rattle.qd_engine.specs.declared.command.Part.TheVariants.{Blank}
use Rattle.qd_engine.proofs.Parts.{no_parts, parts_more}
use Rattle.qd_engine.proofs.steps.append_parts.Goals as goal

pub loop-part-init : goal.loop-part-init
loop-part-init c = record {
  text = sym (ap (λ text. c.args.out.now.items ++ text) (no_parts (part_text c.args.w.now)) ∙ append-nil c.args.out.now.items);
  known = tt;
}

pub loop-part-preserved : goal.loop-part-preserved
loop-part-preserved c = record {
  text = parts_more (part_text c.args.w.now) c.args.parts.now c.loop-part.part-index Blank c.args.out.now.items c.loop-part.out.items c.append_part.new.out.items c.loop-part-test.true
      c.loop-part.invariant.text c.in_ok-append_part.ensures.added;
  known = c.in_ok-append_part.ensures.known;
}
