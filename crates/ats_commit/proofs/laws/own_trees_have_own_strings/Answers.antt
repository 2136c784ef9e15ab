use Rattle.ats_commit.proofs.OwnPlaces.{shown_are_ours}
use Rattle.ats_commit.proofs.laws.own_trees_have_own_strings.Goals as goal

pub returns : goal.returns
returns g c = shown_are_ours g.H.HashKind.hash
