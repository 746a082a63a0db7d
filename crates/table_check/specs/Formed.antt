-- Values as they are formed, passed on from the ring.
pub use Rattle.qd_ring.specs.Formed.{Formed, given, whole, conjugated, multiplied, turned, listed, where_so, Forms}
