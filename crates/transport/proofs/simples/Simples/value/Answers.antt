use Rattle.transport.proofs.Names.{◌≡◌, ◌<◌, length, subst, sym, arith, cyclotomic_value, size, vec_len, SimplesOver, Simple, count, over_at, table_at, value_at}
use Rattle.transport.proofs.Listed.{entry_kept, values_count, kept_value}
use Rattle.transport.proofs.simples.Simples.value.Goals as goal

pub index-requires-2 : goal.index-requires-2
index-requires-2 g c =
    let k = g.row.K in
    let e = c.index.result.now in
    let below = subst (λ (s : SimplesOver). c.args.i < count k s) (sym c.self.view_is) c.requires.i_below in
    let place = subst (λ (s : SimplesOver). c.args.p < size (over_at k s c.args.i)) (sym c.self.view_is) c.requires.p_below in
    let tables = c.self.inside.tables in
    let kept = entry_kept k tables c.self.inside.entries.items c.self.invariant.listed c.args.i e below c.index.ensures in
    let there : c.args.p < size (table_at tables e.class).over = subst (λ (a : Simple). c.args.p < size (table_at tables a.class).over) (sym kept) place in
    let long : length e.values.items ≡ size (table_at tables e.class).over =
    values_count k tables c.self.inside.entries.items c.self.invariant.listed c.args.i e below c.index.ensures in
    let same : vec_len e.values ≡ length e.values.items = e.values.ok.0 in
    omega (arith, there, long, same)

pub returns : goal.returns
returns g c =
    let k = g.row.K in
    let below = subst (λ (s : SimplesOver). c.args.i < count k s) (sym c.self.view_is) c.requires.i_below in
    let place = subst (λ (s : SimplesOver). c.args.p < size (over_at k s c.args.i)) (sym c.self.view_is) c.requires.p_below in
    record {
      value = subst (λ (s : SimplesOver). cyclotomic_value k c.index-2.result.now.coefficients ≡ value_at k s c.args.i c.args.p) c.self.view_is
          (kept_value k (record { cocycle = c.self.inside.cocycle; tables = c.self.inside.tables }) c.self.inside.entries.items c.self.invariant.listed c.args.i c.args.p c.index.result.now c.index-2.result.now below c.index.ensures place c.index-2.ensures);
    }
