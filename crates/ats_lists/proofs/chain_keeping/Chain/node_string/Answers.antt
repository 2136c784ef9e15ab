use Rattle.std.proofs.Common.{◌≡◌, ℕ, ◌/◌, List, length, map, sym, ◌∙◌, ap, arith}
use Rattle.std.proofs.lemmas.List.{length-map}
use Rattle.ats_tree.specs.Kept.{kept_digests}
use Rattle.ats_tree.specs.Paths.{path_of}
use Rattle.ats_tree.specs.Strings.{string_at}
use Rattle.ats_tree.specs.Tree.{tree_of}
use Rattle.ats_lists.specs.Blocks.{items_in}
use Rattle.ats_lists.specs.KeptChain.{ChainDigests}
use Rattle.ats_lists.specs.Leaf.{leaf_bytes}
use Rattle.ats_lists.proofs.KeptChains.{block-leaves}
use Rattle.ats_lists.proofs.chain_keeping.Chain.node_string.Goals as goal

pub overflow_mul-start : goal.overflow_mul-start
overflow_mul-start g c =
    let seen : length c.self.inside.digests.items / 2 ≡ c.args.self.now.entries = ap (λ (s : ChainDigests). s.entries) c.self.view_is
    in omega (arith, c.requires.inside, c.self.invariant.few)

pub invariant_of-leaves : goal.invariant_of-leaves
invariant_of-leaves g c =
    let seen : length c.self.inside.digests.items / 2 ≡ c.args.self.now.entries = ap (λ (s : ChainDigests). s.entries) c.self.view_is
    in let count : c.args.self.now.entries ≡ length (map leaf_bytes c.args.entries.now) = ap (λ (s : ChainDigests). s.entries) c.requires.kept
    in record { few = omega (arith, length-map c.args.entries.now leaf_bytes, c.self.invariant.few) }

pub string_of_part-requires-clause-kept : goal.string_of_part-requires-clause-kept
string_of_part-requires-clause-kept g c =
    let leaves : List (List ℕ) = map leaf_bytes c.args.entries.now
    in let count : c.args.self.now.entries ≡ length (map leaf_bytes c.args.entries.now) = ap (λ (s : ChainDigests). s.entries) c.requires.kept
    in let size : c.min-n.result ≡ items_in (length (map leaf_bytes c.args.entries.now)) c.args.j = omega (arith, c.min-n.ensures, c.len.ensures)
    in c.nodes.ensures.value g.H.HashKind.hash leaves c.requires.kept
    ∙ ap (kept_digests g.H.HashKind.hash) (sym (block-leaves leaves c.args.j c.min-n.result size))

pub returns : goal.returns
returns g c =
    let leaves : List (List ℕ) = map leaf_bytes c.args.entries.now
    in let count : c.args.self.now.entries ≡ length (map leaf_bytes c.args.entries.now) = ap (λ (s : ChainDigests). s.entries) c.requires.kept
    in let size : c.min-n.result ≡ items_in (length (map leaf_bytes c.args.entries.now)) c.args.j = omega (arith, c.min-n.ensures, c.len.ensures)
    in c.string_of_part.ensures
    ∙ ap (λ (part : List (List ℕ)). string_at g.H.HashKind.hash (tree_of part) (path_of c.args.depth c.args.turns)) (block-leaves leaves c.args.j c.min-n.result size)
