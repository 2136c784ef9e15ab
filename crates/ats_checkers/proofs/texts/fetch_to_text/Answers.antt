use Rattle.std.proofs.Common.{rules, inr}
use Rattle.ats_checkers.proofs.texts.fetch_to_text.Goals as goal

pub returns-in-Err-check_text-clause-stop : goal.returns-in-Err-check_text-clause-stop
returns-in-Err-check_text-clause-stop g c =
    inr (inr (c.in-Err-check_text.refusal, (record { proof = c.in-Ok.proof; says = c.in-Ok.ensures.spelled; refused = c.in-Err-check_text.ensures.refused }), search rules))
