use Rattle.std.proofs.Common.{◌≡◌, ◌∙◌, Some, None, sym, ap}
use Rattle.std.specs.Option.{option_map}
use Rattle.ats_growth_check.specs.Strings.{growth_collision}
use Rattle.ats_growth_check.proofs.Public.{growth_range}
use Rattle.ats_growth_proof.specs.Inner.Found.{difference_of}
use Rattle.ats_growth_proof.proofs.Finding.{found-grown}
use Rattle.ats_growth_proof.proofs.Verdicts.{told-strings}
use Rattle.ats_growth_proof.proofs.auditing.audit_growth.Goals as goal

pub returns-in-Some-clause-collision : goal.returns-in-Some-clause-collision
returns-in-Some-clause-collision g c =
    let found : growth_collision g.H.HashKind.hash c.args.old.now c.args.new.now c.in-Ok.proof ≡ Some (difference_of c.in-Some.field-0) =
    sym c.in_ok-part.ensures ∙ ap (option_map difference_of) c.in-Some.is in
    told-strings g.H.HashKind.hash c.args.old.now c.args.new.now c.in-Ok.proof c.in-Some.field-0.part c.in-Some.field-0.first c.in-Some.field-0.second found

pub returns-in-None-clause-verdict : goal.returns-in-None-clause-verdict
returns-in-None-clause-verdict g c =
    let found : growth_collision g.H.HashKind.hash c.args.old.now c.args.new.now c.in-Ok.proof ≡ None =
    sym c.in_ok-part.ensures ∙ ap (option_map difference_of) c.in-None.is in
    found-grown g.H.HashKind.hash g.H.HashKind.sized c.args.old.now c.args.new.now c.args.bytes.now c.in-Ok.proof c.in-Ok-check_growth.grown
    c.collection-older.ensures.texts c.collection-newer.ensures.texts c.in-Ok.ensures.spelled c.root.result c.root-2.result c.root.ensures c.root-2.ensures c.in-Ok-check_growth.ensures.accepts
    c.in-Ok-check_growth.ensures.numbers (growth_range c.args.bytes.now c.in-Ok.proof c.in-Ok.ensures.spelled) found
