-- Which bytes a feeder was fed, by its state.
use Rattle.std.specs.Prelude.{◌≡◌, ◌≢◌, ℕ, List, [], length}
use Rattle.ats_grammar.specs.declared.fault.ShapeKind.TheVariants.{Cut}
use Rattle.ats_grammar.specs.declared.feeder.Place.{Place}
use Rattle.ats_grammar.specs.declared.feeder.Place.TheVariants as place
use Rattle.ats_grammar.specs.declared.feeder.Feeder.{Feeder}
use Rattle.ats_grammar.specs.Front.{IsFirst}
use Rattle.ats_grammar.specs.Grammar.{proof_schema}
use Rattle.ats_grammar.specs.ReaderState.{remaining}
use Rattle.ats_grammar.specs.PiecePosition.{IsAt, IsWaiting}
use Rattle.ats_grammar.specs.Table.{head}

abbrev pub StandsAt : Place → List ℕ → Type 0
StandsAt (place.Reading stand) bytes = IsAt bytes stand [] × IsWaiting (head (remaining stand.state)) stand.came
StandsAt (place.Refused fault) bytes = IsFirst proof_schema bytes fault × (fault.kind ≢ Cut)

-- The feeder was fed these bytes: `fed` is their number. It is either after their whole fields and inside the next one,
-- or has their first fault, which is no cut.
abbrev pub StandsFor : Feeder → List ℕ → Type 0
StandsFor feeder bytes = (length bytes ≡ feeder.fed) × StandsAt feeder.place bytes
