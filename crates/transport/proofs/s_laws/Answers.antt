use Rattle.transport.proofs.SMatrixLaws.{characters_orthogonal, s_symmetric, vacuum_row, vacuum_entry, s_is_unitary, adjoint_is_unitary, squares_of_dimensions}
use Rattle.transport.proofs.s_laws.Goals as goal

pub returns : goal.returns
returns c = record {
  orthogonal = characters_orthogonal;
  symmetric = s_symmetric;
  vacuum_row = vacuum_row;
  vacuum_entry = vacuum_entry;
  unitary = s_is_unitary;
  adjoint = adjoint_is_unitary;
  squares = squares_of_dimensions;
}
