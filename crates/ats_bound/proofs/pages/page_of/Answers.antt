use Rattle.std.proofs.Common.{◌∙◌, replicate}
use Rattle.std.proofs.lemmas.List.{get_or-set_other, get_or-replicate}
use Rattle.ats_bound.proofs.pages.page_of.Goals as goal

pub returns-clause-others : goal.returns-clause-others
returns-clause-others c = λ other inside differ. get_or-set_other (replicate 64 0) c.args.cell other c.args.number 0 differ ∙ get_or-replicate 64 other 0 0 inside
