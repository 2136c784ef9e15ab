use Rattle.ats_lists.proofs.FormatPlaces.{list-within, list-turns}
use Rattle.ats_lists.proofs.format_laws.list_strings_are_shallow.Goals as goal

pub returns-clause-depth : goal.returns-clause-depth
returns-clause-depth g c = list-within g.H.HashKind.hash

pub returns-clause-turns : goal.returns-clause-turns
returns-clause-turns g c = list-turns g.H.HashKind.hash
