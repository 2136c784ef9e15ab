use Rattle.std.proofs.Common.{◌+◌, string_bytes, ap₂, ◌∙◌}
use Rattle.std.proofs.lemmas.Result.{IfOk-weaker}
use Rattle.ats_auditors.specs.declared.trials.Tally.{Tally}
use Rattle.ats_auditors.proofs.Tried.{lines_joined}
use Rattle.ats_auditors.proofs.trials.text.Goals as goal

pub returns : goal.returns
returns c =
    IfOk-weaker c.format.result _ _ (λ text is first second tra tnra.
    let right = ap₂ (λ (a b : Tally). a.right + b.right) tra tnra in
    is ∙ lines_joined c.args.root.now (string_bytes c.in_ok-root.root) (string_bytes c.in_ok-tra.tra) (string_bytes c.in_ok-tnra.tnra) (c.args.tra.now.right + c.args.tnra.now.right) first second
    c.in_ok-root.ensures.line (c.in_ok-tra.ensures first tra) (c.in_ok-tnra.ensures second tnra) right) c.format.ensures.ok
