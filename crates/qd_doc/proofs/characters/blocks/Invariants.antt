use Rattle.qd_doc.proofs.Names.{IsOffset, [], length, read_blocks, tokens_from, ◌-◌, ◌≡◌}
use Rattle.qd_doc.specs.declared.part.Stage.TheVariants as stages
use Rattle.qd_doc.proofs.Parts.{IsOpen}
use Rattle.qd_doc.proofs.characters.blocks.Given as goal

-- the parts that are left, put into the blocks so far, give what all give
abbrev pub invariant-loop-blocks : goal.invariant-loop-blocks
invariant-loop-blocks l = record {
  offset : IsOffset l.bytes.items l.next;
  opened : IsOpen l.stage l.blocks;
  left : read_blocks (length l.bytes.items) l.phi l.stage l.blocks (tokens_from l.next l.bytes.items)
      ≡ read_blocks (length l.bytes.items) l.phi stages.Conductor [] (tokens_from l.at l.bytes.items);
}

abbrev pub decreases-loop-blocks : goal.decreases-loop-blocks
decreases-loop-blocks l = length l.bytes.items - l.next
