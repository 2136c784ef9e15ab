use Rattle.std.proofs.Common.{ℕ, ◌<◌, List, length, Option, sym, subst}
use Rattle.std.specs.Prelude.{IfSome}
use Rattle.ats_tree.specs.Paths.{path_of}
use Rattle.ats_tree.specs.Tree.{tree_of}
use Rattle.ats_catalog_audit.proofs.Clashing.{string_tagged}
use Rattle.ats_catalog_audit.proofs.roots.OwnRootsOwnNodesHashedString.at.Goals as goal

pub returns-clause-tagged : goal.returns-clause-tagged
returns-clause-tagged g c =
    subst (λ (o : Option (List ℕ)). IfSome o (λ own. 0 < length own)) (sym c.string_at.ensures)
    (string_tagged g.H.HashKind.hash (tree_of c.args.self.now.leaves.roots.now) (path_of c.args.depth c.args.turns))
