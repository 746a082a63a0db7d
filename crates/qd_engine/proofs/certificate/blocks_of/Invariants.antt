use Rattle.qd_engine.proofs.Names.{◌≡◌, All, map, range_with_len, Block, IsValueOf, certified_block}
use Rattle.qd_engine.proofs.certificate.blocks_of.Given as goal

-- the blocks of the classes before c
abbrev pub invariant-loop-c : goal.invariant-loop-c
invariant-loop-c g l = record {
  added : l.blocks ≡ map (certified_block g.row.K l.simples) (range_with_len 0 l.c);
  values : All (λ (block : Block). All (λ row. All (IsValueOf g.row.K) row) block.rows) l.blocks;
}
