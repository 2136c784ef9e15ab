use Rattle.ats_bound.specs.Cut.{bracket}
use Rattle.ats_bound.specs.Lookup.{looked_up}
use Rattle.ats_bound.proofs.Ending.{first_settled_exists, brackets_are_narrow, looked_up_are_narrow}
use Rattle.ats_bound.proofs.Gathered.{brackets_exist}
use Rattle.ats_bound.proofs.Sorted.{chosen_exists}
use Rattle.ats_bound.proofs.laws.walks_end.Goals as goal

pub returns-clause-cut : goal.returns-clause-cut
returns-clause-cut c bounds lanes r narrow whole = first_settled_exists bounds lanes r narrow whole

pub returns-clause-shown : goal.returns-clause-shown
returns-clause-shown c lanes r whole = first_settled_exists bracket lanes r brackets_are_narrow whole

pub returns-clause-looked_up : goal.returns-clause-looked_up
returns-clause-looked_up c table lanes r whole = first_settled_exists (looked_up table) lanes r (looked_up_are_narrow table) whole

pub returns-clause-brackets : goal.returns-clause-brackets
returns-clause-brackets c bounds lanes narrow = brackets_exist bounds lanes (λ doc. (narrow lanes doc).of)

pub returns-clause-answer : goal.returns-clause-answer
returns-clause-answer c brackets r = chosen_exists brackets r
