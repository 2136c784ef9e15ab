use Rattle.std.proofs.Common.{◌<◌, length, sym, arith}
use Rattle.std.proofs.lemmas.List.{drop-drop}
use Rattle.ats_catalog_bytes.proofs.Public.{all_shown}
use Rattle.ats_catalog_audit.proofs.Clashing.{left_inside}
use Rattle.ats_catalog_audit.proofs.shown.ShownRootsRevealed.pass_leaf.Goals as goal

pub overflow_add-self : goal.overflow_add-self
overflow_add-self c =
    let s = c.args.self.now in
    let low : s.passed < length s.roots.now = left_inside s.roots.now s.passed c.requires.left in
    omega (arith, low, s.few)

pub returns-clause-passed : goal.returns-clause-passed
returns-clause-passed c = sym (drop-drop 1 c.args.self.now.passed (all_shown c.args.self.now.roots.now))
