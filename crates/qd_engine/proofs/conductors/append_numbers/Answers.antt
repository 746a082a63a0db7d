use Rattle.qd_engine.proofs.Names.{◌≡◌, ◌++◌, ◌≤◌, None, sym, ap, refl, subst, arith, OnOk, IfErr, SimplesOver, source_of, numbers_cause, row_part_text, parts_text, LateReport, StopsLate}
use Rattle.qd_engine.proofs.Following.{follow_late, follow_next}
use Rattle.qd_engine.proofs.LateLaws.{stops_late}
use Rattle.qd_engine.proofs.SimpleCounts.{simples_number}
use Rattle.qd_engine.proofs.conductors.append_numbers.Goals as goal

pub web_of-requires : goal.web_of-requires
web_of-requires g c =
    let is = c.in_ok-simples.ensures.tested.1 in
    let number = simples_number g.row.K c.args.w c.in_ok-simples.simples (ap (λ (s : SimplesOver). s.cocycle) is) c.in_ok-simples.ensures.good in
    (omega arith, (c.in_ok-simples.ensures.rooted, λ asked. subst (λ n. n ≤ 64) (sym number) (c.requires.few asked)))

pub returns : goal.returns
returns g c =
    let (none, is) = c.in_ok-simples.ensures.tested in
    let k = g.row.K in
    let rows = c.args.rows.now in
    let parts = c.args.parts.now in
    let result = c.append_row_parts.result in
    let numbers = subst (λ (s : SimplesOver). numbers_cause k s rows parts ≡ None) is c.in_ok-web.ensures.tested.0 in
    let late = stops_late k c.in_ok-simples.simples c.in_ok-simples.ensures.good rows parts result c.in_ok-simples.ensures.rooted c.append_row_parts.ensures.refused in
    record {
      follows = follow_next _ _ result _ _ none
          (follow_next _ _ result _ _ numbers
          (follow_late None _ _ result refl
          (subst (λ (s : SimplesOver). OnOk result (c.append_row_parts.new.out.items ≡ c.args.out.now.items ++ parts_text (row_part_text (source_of rows) k s) parts)) is c.append_row_parts.ensures.added)
          (subst (λ (s : SimplesOver). IfErr result (StopsLate (LateReport (source_of rows) k s parts))) is late)));
    }
