use Rattle.std.proofs.Common.{ℕ, List, arith, ◌∙◌}
use Rattle.ats_tree.specs.Paths.{path_of}
use Rattle.ats_tree.proofs.KeptLemmas.{kept-number, kept-whole, string-whole}
use Rattle.ats_tree.proofs.keeping.Nodes.string_at.Goals as goal

pub string_of_part-requires-clause-within : goal.string_of_part-requires-clause-within
string_of_part-requires-clause-within g c =
    omega (arith, kept-number g.H.HashKind.hash (g.L.Leaves.items c.args.leaves.now) _ _ _ c.self.invariant.odd c.self.view_is c.len.ensures c.requires.kept)

pub string_of_part-requires-clause-kept : goal.string_of_part-requires-clause-kept
string_of_part-requires-clause-kept g c =
    let H : List ℕ → List ℕ = g.H.HashKind.hash
    in let leaves : List (List ℕ) = g.L.Leaves.items c.args.leaves.now
    in let whole = kept-number H leaves _ _ _ c.self.invariant.odd c.self.view_is c.len.ensures c.requires.kept
    in c.as_slice.ensures.value ∙ c.self.view_is ∙ c.requires.kept ∙ kept-whole H leaves _ whole

pub returns : goal.returns
returns g c =
    let H : List ℕ → List ℕ = g.H.HashKind.hash
    in let leaves : List (List ℕ) = g.L.Leaves.items c.args.leaves.now
    in let whole = kept-number H leaves _ _ _ c.self.invariant.odd c.self.view_is c.len.ensures c.requires.kept
    in c.string_of_part.ensures ∙ string-whole H leaves _ (path_of c.args.depth c.args.turns) whole
