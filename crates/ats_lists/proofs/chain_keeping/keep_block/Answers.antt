use Rattle.std.proofs.Common.{ℕ, ◌<◌, ◌≤◌, List, ◌∷◌, ◌++◌, length, take, drop, refl, ◌∙◌, ap, arith}
use Rattle.std.proofs.lemmas.List.{length-take, length-drop}
use Rattle.ats_tree.proofs.Public.{length-kept, kept-first}
use Rattle.ats_lists.proofs.chain_keeping.keep_block.Goals as goal

pub returns-clause-own : goal.returns-clause-own
returns-clause-own g c =
    let leaves : List (List ℕ) = take c.args.n (drop c.args.start (g.L.Leaves.items c.args.leaves.now))
    in let some : 1 ≤ length leaves = omega (arith, length-take c.args.n (drop c.args.start (g.L.Leaves.items c.args.leaves.now)), length-drop c.args.start (g.L.Leaves.items c.args.leaves.now), c.requires.some, c.requires.within)
    in let many : 0 < length c.keep_part.new.digests = omega (arith, ap length c.keep_part.ensures.kept, length-kept g.H.HashKind.hash leaves some)
    in c.digest2-digest.ensures.value
    ∙ ap (λ (d : List ℕ). g.H.HashKind.hash (3 ∷ d ++ c.args.next.now))
    (kept-first g.H.HashKind.hash leaves c.keep_part.new.digests _ _ many refl c.keep_part.ensures.kept)
