use Rattle.ats_tree.proofs.Trees.{of-one, of-cut}
use Rattle.ats_tree.proofs.laws.trees_are_cut.Goals as goal

pub returns-clause-one : goal.returns-clause-one
returns-clause-one c d = of-one d

pub returns-clause-cut : goal.returns-clause-cut
returns-clause-cut c ds h long short = of-cut h ds long short

pub returns-clause-one_place : goal.returns-clause-one_place
returns-clause-one_place c o = of-one o

pub returns-clause-cut_places : goal.returns-clause-cut_places
returns-clause-cut_places c os h long short = of-cut h os long short
