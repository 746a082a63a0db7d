use Rattle.fusion.proofs.Names.{◌∷◌, [], length, ap, ◌∙◌, arith, length-append, WebEntries, Entry, count_of}
use Rattle.fusion.proofs.web.add_count.Goals as goal

pub returns-in-Ok : goal.returns-in-Ok
returns-in-Ok c =
    let before = c.args.web.now in
    let e : Entry = record { i = c.args.i; j = c.args.j; k = c.args.k; count = c.args.number } in
    let added = c.in-Ok.ensures.added in
    record {
      counts = record {
        simples = ap (λ (web : WebEntries). web.simples) added;
        few = omega (arith, ap (λ (web : WebEntries). length web.entries) added, length-append before.entries (e ∷ []));
        counts = λ a b c'. ap (λ (web : WebEntries). count_of web a b c') added ∙ c.web_laws.ensures.counts before e c.simples-simples.ensures.web c.requires.absent a b c';
      };
    }
