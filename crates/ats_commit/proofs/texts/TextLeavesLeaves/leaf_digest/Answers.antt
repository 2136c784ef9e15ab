use Rattle.std.proofs.Common.{◌≡◌, ◌+◌, ◌<◌, ◌≤◌, ℕ, List, length, ap, sym, arith}
use Rattle.std.proofs.lemmas.List.Edits.{length-between}
use Rattle.std.specs.Prelude.{slice_range}
use Rattle.ats_commit.proofs.texts.TextLeavesLeaves.leaf_digest.Goals as goal

-- a place in a range is a place in the whole list
inside : (view texts : List (List ℕ)) (from to i : ℕ) → view ≡ slice_range texts from to → to ≤ length texts → i < length view → from + i < to
inside view texts from to i is within below = omega (arith, ap length is, length-between texts from to within)

pub overflow_add-self-inside : goal.overflow_add-self-inside
overflow_add-self-inside g c = omega (arith, c.self.invariant.few, inside c.args.self.now c.self.inside.collection.now c.self.inside.from c.self.inside.to c.args.i (sym c.self.view_is) c.self.invariant.within c.requires.within)
