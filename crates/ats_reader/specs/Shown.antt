-- Rows, documents and terms in the room that the caller gives for them.
use Rattle.std.specs.Prelude.{◌≡◌, List, length, take, drop}

-- these stand at the front of the room, and the rest of it is as it was
pub record IsShown (A : Type 0) (shown before after : List A) : Type 0 where
  pub front : take (length shown) after ≡ shown
  pub rest : drop (length shown) after ≡ drop (length shown) before
