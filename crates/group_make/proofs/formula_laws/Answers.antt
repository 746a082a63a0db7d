use Rattle.group_table.proofs.Lawful.{lawful}
use Rattle.group_make.proofs.Tables.{product_by, table_group}
use Rattle.group_make.proofs.Extensions.{cyclic_below}
use Rattle.group_make.proofs.formula_laws.Goals as goal
use Rattle.group_make.proofs.FormulaGroups.{dihedral_below, dicyclic_below, product_below, semidirect_below}

pub returns : goal.returns
returns c = record {
  complete = lawful;
  products = product_by;
  cyclic = λ n positive. table_group n 0 _ (cyclic_below n positive);
  semidirect = λ n m r p q action. table_group _ _ _ (semidirect_below n m r p q action);
  dihedral = λ n positive. table_group _ _ _ (dihedral_below n positive);
  dicyclic = λ n positive. table_group _ _ _ (dicyclic_below n positive);
  product = λ a b c p q r. table_group _ _ _ (product_below a b c p q r);
}
