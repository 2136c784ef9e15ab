use Rattle.ats_dict.proofs.LeafLemmas.{leaf_parts}
use Rattle.ats_dict.proofs.laws.leaves_tell_their_parts.Goals as goal

pub returns : goal.returns
returns call = leaf_parts
