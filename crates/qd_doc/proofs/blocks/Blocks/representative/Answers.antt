use Rattle.qd_doc.proofs.Names.{Head, ap, arith, get_or_read, ◌∙◌}
use Rattle.qd_doc.proofs.BlockLists.{seen_by, listed, number_seen}
use Rattle.qd_doc.proofs.blocks.Blocks.representative.Goals as goal

pub index-requires : goal.index-requires
index-requires c = omega (arith, listed (seen_by c.self.invariant c.self.view_is c.requires.listed))

pub returns : goal.returns
returns c =
    let seen = seen_by c.self.invariant c.self.view_is c.requires.listed in
    record {
      number = ap (λ (head : Head). head.representative)
          (get_or_read c.self.inside.heads.items c.args.b c.index.result.now (listed seen) c.index.ensures (record { representative = 0; start = 0 }))
          ∙ number_seen seen;
    }
