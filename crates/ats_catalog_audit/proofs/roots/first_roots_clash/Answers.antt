use Rattle.std.proofs.Common.{◌≡◌, ℕ, List, length, sym, subst}
use Rattle.std.specs.List.{All}
use Rattle.ats_catalog_audit.proofs.Clashing.{roots_sized}
use Rattle.ats_catalog_audit.proofs.roots.first_roots_clash.Goals as goal

pub tree_clash-requires-clause-sized : goal.tree_clash-requires-clause-sized
tree_clash-requires-clause-sized g c =
    subst (All (λ (root : List ℕ). length root ≡ 32)) (sym c.roots-theirs.ensures) (roots_sized c.args.view.now c.facts.ensures.each)
