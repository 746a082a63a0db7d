use Rattle.transport.proofs.TwistRoots.{twists_act, twists_unitary, steps_are_inverse, s_t_s_relation, s_t_cube_relation, s_fourth_relation, modular_data}
use Rattle.transport.proofs.relation_laws.Goals as goal

pub returns : goal.returns
returns c = record {
  acts = twists_act;
  inverse = twists_unitary;
  steps = steps_are_inverse;
  product = s_t_s_relation;
  cube = s_t_cube_relation;
  fourth = s_fourth_relation;
  modular_data = modular_data;
}
