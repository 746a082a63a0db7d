use Rattle.dixon_split.proofs.Residues.{tabulated_element, tabulated_image}
use Rattle.dixon_split.proofs.images.image.Goals as goal

pub returns-clause-element : goal.returns-clause-element
returns-clause-element c = tabulated_element c.args.algebra.now c.args.t c.args.e.now c.in_ok-next.next.items c.in_ok-next.ensures.values

pub returns-clause-image : goal.returns-clause-image
returns-clause-image c = λ Z H. tabulated_image c.args.algebra.now c.args.t c.args.e.now c.requires.t_below Z H c.in_ok-next.next.items c.in_ok-next.ensures.values
