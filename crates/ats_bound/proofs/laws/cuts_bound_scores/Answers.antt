use Rattle.ats_bound.proofs.Scores.{unmet_scores, bracket_holds, met_below}
use Rattle.ats_bound.proofs.Lookups.{lookup_holds}
use Rattle.ats_bound.proofs.laws.cuts_bound_scores.Goals as goal

pub returns-clause-unmet : goal.returns-clause-unmet
returns-clause-unmet c n score lanes doc are low unmet = unmet_scores n score lanes doc are low unmet

pub returns-clause-met : goal.returns-clause-met
returns-clause-met c n score lanes doc are met =
    (met_below n score lanes doc are met, (bracket_holds n score lanes doc are met).scores)

pub returns-clause-bracket : goal.returns-clause-bracket
returns-clause-bracket c n score lanes doc are met = bracket_holds n score lanes doc are met

pub returns-clause-looked_up : goal.returns-clause-looked_up
returns-clause-looked_up c n score lanes table doc are agrees met = lookup_holds n score lanes table doc are agrees met
