use Rattle.std.proofs.Common.{Result, Ok, Err}
use Rattle.std.specs.Prelude.{OnOk}
use Rattle.ats_all_check.proofs.Refusals.{accepted}
use Rattle.ats_all_check.proofs.Soundness.{both_or_collide}
use Rattle.ats_all_check.proofs.checking.check_both.Goals as goal

pub returns-clause-exact : goal.returns-clause-exact
returns-clause-exact g c = accepted g.H.HashKind.hash c.args.root.now c.args.query.now c.args.proof.now c.checked.result c.checked.ensures.refused

on_ok : {T E : Type 0} (P Q : Type 0) (result : Result T E) → (P → Q) → OnOk result P → OnOk result Q
on_ok P Q (Ok x) made p = made p
on_ok P Q (Err e) made p = p

pub returns-clause-both : goal.returns-clause-both
returns-clause-both g c =
    on_ok _ _ c.checked.result
    (both_or_collide g.H.HashKind.hash g.H.HashKind.sized c.args.root.now c.args.query.now c.facts.ensures.spelled.0 c.args.proof.now c.len-facts.ensures.query
    c.facts.ensures.spelled.1) c.checked.ensures.accepts
