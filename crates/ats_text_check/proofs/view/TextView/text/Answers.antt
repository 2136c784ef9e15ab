use Rattle.std.proofs.Common.{◌∙◌, ap}
use Rattle.ats_text_check.specs.Value.{TextProof}
use Rattle.ats_text_check.proofs.Fields.{lent_from}
use Rattle.ats_text_check.proofs.view.TextView.text.Goals as goal

pub returns-clause-lent : goal.returns-clause-lent
returns-clause-lent c bytes is = ap (λ (p : TextProof). p.text) c.self.view_is ∙ lent_from bytes c.args.self.now is
