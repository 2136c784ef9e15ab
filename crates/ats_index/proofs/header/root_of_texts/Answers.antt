use Rattle.std.proofs.Common.{ℕ, List, refl, ap, ◌∙◌}
use Rattle.ats_tree.specs.Tree.{mth}
use Rattle.ats_index.proofs.header.root_of_texts.Goals as goal

pub returns : goal.returns
returns g c =
    c.root.ensures.value ∙ ap (λ (texts : List (List ℕ)). mth g.H.HashKind.hash texts) (c.new-texts.ensures.whole refl c.documents.ensures.value)
