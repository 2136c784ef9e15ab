use Rattle.std.proofs.Common.{◌≡◌, ℕ, ◌*◌, List, length, map, arith, ◌∙◌, ap}
use Rattle.std.proofs.lemmas.List.{length-map}
use Rattle.ats_lists.specs.Inner.KeptChain.{chain_in}
use Rattle.ats_lists.specs.Leaf.{leaf_bytes}
use Rattle.ats_lists.proofs.KeptChains.{seen, placed, is-run}
use Rattle.ats_lists.proofs.chain_keeping.Chain.of.Goals as goal

pub invariant_of-result : goal.invariant_of-result
invariant_of-result g c =
    let leaves : List (List ℕ) = map leaf_bytes c.args.entries.now
    in let count : length (map leaf_bytes c.args.entries.now) ≡ length c.args.entries.now = length-map c.args.entries.now leaf_bytes
    in let size : length c.keep_blocks.new.digests ≡ length c.in_ok-digests.digests.items = omega arith
    in let nodes : length c.keep_blocks.new.digests ≡ 2 * length (map leaf_bytes c.args.entries.now) = omega (arith, c.in_ok-digests.ensures.len)
    in rw (placed c.in_ok-digests.digests.len c.in_ok-digests.digests.items c.keep_blocks.new.digests c.in_ok-digests.digests.ok.0 size)
    (is-run g.H.HashKind.hash g.H.HashKind.sized leaves c.keep_blocks.new.digests (omega arith) (omega arith) nodes c.keep_blocks.ensures.kept)

pub returns-clause-value : goal.returns-clause-value
returns-clause-value g c =
    let leaves : List (List ℕ) = map leaf_bytes c.args.entries.now
    in let count : length (map leaf_bytes c.args.entries.now) ≡ length c.args.entries.now = length-map c.args.entries.now leaf_bytes
    in let size : length c.keep_blocks.new.digests ≡ length c.in_ok-digests.digests.items = omega arith
    in let nodes : length c.keep_blocks.new.digests ≡ 2 * length (map leaf_bytes c.args.entries.now) = omega (arith, c.in_ok-digests.ensures.len)
    in ap chain_in (placed c.in_ok-digests.digests.len c.in_ok-digests.digests.items c.keep_blocks.new.digests c.in_ok-digests.digests.ok.0 size)
    ∙ seen g.H.HashKind.hash leaves c.keep_blocks.new.digests nodes c.keep_blocks.ensures.kept
