use Rattle.modular_st.proofs.Names.{arith, sym, ◌∙◌, subst, AreCommuting}
use Rattle.modular_st.proofs.KeptRows.{exchanged_commute}
use Rattle.modular_st.proofs.conjugates.conjugates.Goals as goal

pub kept_rows-requires-2 : goal.kept_rows-requires-2
kept_rows-requires-2 g c =
    let t = c.args.simples.now.cocycle.group in
    let same = c.as_slice-2.ensures.value ∙ c.in_ok-exchanged.ensures.pairs in
    (omega arith, (omega arith, subst (AreCommuting t) (sym same) (exchanged_commute t c.in_ok-pairs.pairs c.in_ok-pairs.ensures.commute)))
