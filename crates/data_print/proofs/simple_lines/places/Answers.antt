use Rattle.data_print.proofs.Names.{◌<◌, length, ap, ◌∙◌, subst, sym, ap₂}
use Rattle.classes.specs.Conjugacy.{centraliser_of, representative_at}
use Rattle.data_print.proofs.Places.{places_of}
use Rattle.data_print.proofs.simple_lines.places.Goals as goal

pub returns : goal.returns
returns g c = record {
  places = c.len.ensures.count ∙ ap length c.centraliser.ensures.centraliser
      ∙ ap₂ (λ t a. length (centraliser_of t (representative_at t a))) c.classes.ensures.classes c.class.ensures.class
      ∙ places_of g.row.K c.args.simples.now c.args.i c.classes.ensures.simples (subst (λ a. a < length c.args.simples.now.tables) c.class.ensures.class (subst (λ n. c.class.result < n) (sym c.classes.ensures.simples.tables.count) c.class.ensures.below));
}
