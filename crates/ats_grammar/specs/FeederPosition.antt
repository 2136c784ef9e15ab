-- The position of a feeder in the bytes that it was fed.
use Rattle.std.specs.Prelude.{ℕ}
use Rattle.ats_grammar.specs.declared.feeder.Place.{Place}
use Rattle.ats_grammar.specs.declared.feeder.Place.TheVariants as place

-- how many bytes of the next field it was fed
abbrev pub came_in : Place → ℕ
came_in (place.Reading stand) = stand.came
came_in (place.Refused fault) = 0
