use Rattle.std.proofs.Common.{[]}
use Rattle.std.proofs.lemmas.List.Elements.{All-append, All-cons, All-nil}
use Rattle.ats_base.specs.MemoryLinks.{IsUnused}
use Rattle.ats_base.proofs.memory_ends.Links.add.Goals as goal

pub invariant_of-self-2 : goal.invariant_of-self-2
invariant_of-self-2 c =
    (rw c.in_ok-push_back.ensures.items (All-append IsUnused _ _ c.self.invariant.0 (All-cons IsUnused c.args.link [] c.requires (All-nil IsUnused))), c.self.invariant.1)
