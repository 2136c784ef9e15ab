use Rattle.ats_text_check.proofs.Own.{own_if_ok}
use Rattle.ats_text_check.proofs.checking.check_text.Goals as goal

pub returns-clause-own : goal.returns-clause-own
returns-clause-own g c = own_if_ok g.H.HashKind.hash g.H.HashKind.sized c.args.root.now c.args.doc c.args.proof.now c.facts.ensures c.checked.result c.checked.ensures.accepts
