use Rattle.qd_engine.proofs.Names.{◌≡◌, ◌*◌, ◌++◌, sym, ap, ap₂, subst, ◌∙◌, arith, OnOk, is_ok, CyclotomicValue, indicator_line}
use Rattle.qd_engine.proofs.NumberLines.{dimensions_number, twists_number, indicator_fits, indicator_is}
use Rattle.qd_engine.proofs.indicator_lines.append_simple.Goals as goal

pub indicator-requires : goal.indicator-requires
indicator-requires g c =
    let k = g.row.K in
    let s = c.args.simples.now in
    let number = dimensions_number k s c.args.dims.now c.requires.dimensions in
    let simples = c.requires.web.simples ∙ sym number in (
      omega arith,
      (
        c.count-count.ensures.simples.conductor,
        (
          twists_number k s c.args.exponents.now c.requires.twists ∙ sym number,
          (c.in_ok-plane.ensures.squares ∙ ap₂ (λ m n. m * n) simples simples, c.requires.below),
        ),
      ),
    )

pub unreachable-requires : goal.unreachable-requires
unreachable-requires g c =
    let fits = indicator_fits g.row.K c.args.simples.now c.count-count.ensures.simples c.args.web.now c.requires.web c.args.l c.requires.l_below
    c.in_ok-plane.plane c.args.dims.now c.args.exponents.now c.args.m c.in_ok-plane.ensures.plane c.requires.dimensions c.requires.twists in
    let wrong = sym (ap is_ok c.in-Err.is) ∙ c.indicator.ensures.fits ∙ fits in
    cc

pub returns : goal.returns
returns g c =
    let is = indicator_is g.row.K c.args.simples.now c.count-count.ensures.simples c.args.web.now c.requires.web c.args.l c.requires.l_below
    c.in_ok-plane.plane c.args.dims.now c.args.exponents.now c.args.m c.in_ok-plane.ensures.plane c.requires.dimensions c.requires.twists in
    record {
      added = subst (λ (v : CyclotomicValue g.row.K). OnOk c.append_indicator.result (c.append_indicator.new.out.items ≡ c.args.out.now.items ++ indicator_line c.args.l v))
          (c.in-Ok.ensures.sum ∙ is) c.append_indicator.ensures.added;
    }
