use Rattle.ats_growth_check.proofs.Results.{on-ok}
use Rattle.ats_growth_check.proofs.Soundness.{grown_or_collides}
use Rattle.ats_growth_check.proofs.checking.check_growth.Goals as goal

pub returns-clause-grown : goal.returns-clause-grown
returns-clause-grown g c =
    let H = g.H.HashKind.hash in
    on-ok _ _ c.checked.result (grown_or_collides H g.H.HashKind.sized c.args.old.now c.args.new.now c.args.proof.now c.facts.ensures) c.checked.ensures.accepts
