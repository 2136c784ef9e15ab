-- What the objects outside the program report of themselves, all together.
use Rattle.ats_base.specs.Outside.{ShelfTold, SinkTold}
use Rattle.ats_base.specs.Links.{CallerTold, DoorTold}

pub record Outside : Type 0 where
  pub shelf : ShelfTold
  pub sink : SinkTold
  pub caller : CallerTold
  pub door : DoorTold
