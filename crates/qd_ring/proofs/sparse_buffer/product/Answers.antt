-- The first k places of the buffer are empty.
use Rattle.qd_ring.proofs.Names.{conductor_bounds}
use Rattle.qd_ring.proofs.sparse_buffer.product.Goals as goal

pub slice_bounds-buffer-end : goal.slice_bounds-buffer-end
slice_bounds-buffer-end c = (conductor_bounds c.args.k c.requires.conductor).0
