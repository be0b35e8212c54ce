-- The ends of links that routers and banks hold.
use Rattle.std.specs.Prelude.{◌≡◌, List, Some, slice_get}
use Rattle.link_queue.specs.declared.links.Link.{Link}
use Rattle.link_queue.specs.Ends.{IsTx, IsRx}
use Rattle.chip_node.specs.declared.ends.InEnd.{InEnd}
use Rattle.chip_node.specs.declared.ends.OutEnd.{OutEnd}

-- at the end's place in the list of links stands the link whose receiving end it is
pub record IsInEndOf (links : List Link) (e : InEnd) : Type 0 where
  pub of : Link
  pub stands : slice_get links e.link ≡ Some of
  pub is_end : IsRx of e.rx

-- at the end's place in the list of links stands the link whose sending end it is
pub record IsOutEndOf (links : List Link) (e : OutEnd) : Type 0 where
  pub of : Link
  pub stands : slice_get links e.link ≡ Some of
  pub is_end : IsTx of e.tx
