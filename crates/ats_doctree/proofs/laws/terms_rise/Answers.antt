use Rattle.ats_doctree.proofs.Positions.{terms_rise}
use Rattle.ats_doctree.proofs.laws.terms_rise.Goals as goal

pub returns-clause-all : goal.returns-clause-all
returns-clause-all c items i j is up inside = terms_rise items is i j up inside
