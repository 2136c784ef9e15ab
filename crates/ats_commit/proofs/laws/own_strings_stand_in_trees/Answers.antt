use Rattle.ats_tree.specs.declared.places.Tree.TheVariants.{List as ListTree, Terms as TermsTree}
use Rattle.ats_commit.specs.Places.{in_tree, numbers_at}
use Rattle.ats_commit.proofs.OwnPlaces.{own_within, own_fits, none_in_list, none_past}
use Rattle.ats_commit.proofs.laws.own_strings_stand_in_trees.Goals as goal

pub returns-clause-within : goal.returns-clause-within
returns-clause-within g c archive query place h few there =
    own_within g.H.HashKind.hash archive query place.tree (numbers_at place) h few there

pub returns-clause-fits : goal.returns-clause-fits
returns-clause-fits g c archive query place few there =
    own_fits g.H.HashKind.hash archive query place.tree (numbers_at place) few there

pub returns-clause-lists : goal.returns-clause-lists
returns-clause-lists g c archive query number at none = none_in_list g.H.HashKind.hash archive query number (numbers_at (in_tree (ListTree number) at)) none

pub returns-clause-documents : goal.returns-clause-documents
returns-clause-documents g c archive query doc at past = none_past g.H.HashKind.hash archive query doc (numbers_at (in_tree (TermsTree doc) at)) past
