use Rattle.std.proofs.Common.{inr}
use Rattle.ats_checkers.proofs.growths.growth_to_line.Goals as goal

pub returns-in-Err-check_growth-clause-stop : goal.returns-in-Err-check_growth-clause-stop
returns-in-Err-check_growth-clause-stop g c =
    let refused = c.in-Err-check_growth.ensures.refused in
    inr (inr (c.in-Err-check_growth.refusal, record { growth = c.in-Ok.growth; says = c.in-Ok.ensures.spelled; refused = refused }, (rw c.growth_refusal_words.ensures at c.refused.ensures)))
