use Rattle.std.proofs.Common.{◌≡◌, ℕ, ◌-◌, ◌*◌, List, [], ◌∷◌, ◌++◌, length, take, drop, nat_lt, false, if◌then◌else◌, sym, ◌∙◌, ap, ap₂, arith, IsTrue}
use Rattle.std.specs.List.{range_with_len}
use Rattle.std.proofs.Math.Seq.{take-append_seam, drop-append_seam}
use Rattle.std.proofs.lemmas.List.{take-append-drop}
use Rattle.ats_tree.specs.Elided.{elided_digests}
use Rattle.ats_lists.specs.Blocks.{blocks_in, block}
use Rattle.ats_lists.specs.Chain.{chain_from, chain_elided}
use Rattle.ats_lists.proofs.chain_keeping.Chain.has_digests.Goals as goal

-- the digests of the last block's tree, and that of the next block, if `b` blocks are shown
abbrev tree : (List ℕ → List ℕ) → List (List ℕ) → ℕ → ℕ → List (List ℕ)
tree H leaves k b = elided_digests H (block leaves (b - 1)) (range_with_len 0 (k - 64 * (b - 1)))

abbrev next : (List ℕ → List ℕ) → List (List ℕ) → ℕ → List (List ℕ)
next H leaves b = if nat_lt (64 * b) (length leaves) then chain_from H leaves b ∷ [] else []

no : {X : Type 0} → IsTrue false → X
no holds = absurd (cc)

pub returns-then-not-begins_with_nodes : goal.returns-then-not-begins_with_nodes
returns-then-not-begins_with_nodes g c H leaves same =
    let b : ℕ = c.div_ceil-blocks.result
    in let ds : List (List ℕ) = g.S.PartialTree.digests c.args.shown.now
    in let count : b ≡ blocks_in c.args.k = omega (arith, c.div_ceil-blocks.ensures)
    in let whole : tree H leaves c.args.k b ++ next H leaves b ≡ chain_elided H leaves c.args.k =
    ap (λ (n : ℕ). tree H leaves c.args.k n ++ next H leaves n) count
    in (
      no,
      λ is. sym c.if-not-begins_with_nodes.true
          ∙ (c.begins_with_nodes.ensures.exact H leaves same).1
          (ap (take (length (tree H leaves c.args.k b))) (is ∙ sym whole) ∙ take-append_seam (tree H leaves c.args.k b) (next H leaves b)),
    )

pub returns : goal.returns
returns g c H leaves same =
    let b : ℕ = c.div_ceil-blocks.result
    in let e : List (List ℕ) = tree H leaves c.args.k b
    in let ds : List (List ℕ) = g.S.PartialTree.digests c.args.shown.now
    in let count : b ≡ blocks_in c.args.k = omega (arith, c.div_ceil-blocks.ensures)
    in let whole : e ++ next H leaves b ≡ chain_elided H leaves c.args.k =
    ap (λ (n : ℕ). tree H leaves c.args.k n ++ next H leaves n) count
    in let begins = c.if-not-begins_with_nodes.false
    in let left : g.S.PartialTree.digests c.begins_with_nodes.new.shown ≡ drop (length e) ds = c.begins_with_nodes.ensures.left H leaves same begins
    in let front : take (length e) ds ≡ e = (c.begins_with_nodes.ensures.exact H leaves same).0 begins
    in let link = c.is_link.ensures H leaves same
    in (
      λ holds. sym (take-append-drop (length e) ds) ∙ ap₂ ◌++◌ front (sym left ∙ link.0 holds) ∙ whole,
      λ is. link.1 (left ∙ ap (drop (length e)) (is ∙ sym whole) ∙ drop-append_seam e (next H leaves b)),
    )
