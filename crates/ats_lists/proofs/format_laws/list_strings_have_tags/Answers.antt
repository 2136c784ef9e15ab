use Rattle.ats_lists.proofs.FormatLaws.{list-empty, list-tagged}
use Rattle.ats_lists.proofs.format_laws.list_strings_have_tags.Goals as goal

pub returns-clause-tagged : goal.returns-clause-tagged
returns-clause-tagged g c = list-tagged g.H.HashKind.hash

pub returns-clause-empty : goal.returns-clause-empty
returns-clause-empty g c = list-empty g.H.HashKind.hash
