use Rattle.std.proofs.Common.{arith}
use Rattle.std.proofs.lemmas.Grind.{common_steps}
use Rattle.std.proofs.lemmas.List.Elements.{All-drop}
use Rattle.ats_base.specs.MemoryLinks.{IsUnused}
use Rattle.ats_base.proofs.memory_ends.Links.hand_out.Goals as goal

pub invariant_of-self-2 : goal.invariant_of-self-2
invariant_of-self-2 c =
    (rw c.pop_front.ensures.rest (All-drop IsUnused 1 _ c.self.invariant.0), grind (arith, common_steps, c.reserve.ensures.ok))
