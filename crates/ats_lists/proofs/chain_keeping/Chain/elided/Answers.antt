use Rattle.std.proofs.Common.{◌≡◌, ℕ, ◌-◌, ◌*◌, List, [], ◌∷◌, ◌++◌, length, take, nat_lt, if◌then◌else◌, ◌∙◌, ap, subst, arith, append_assoc, OnOk}
use Rattle.std.specs.List.{range_with_len}
use Rattle.ats_tree.specs.Elided.{elided_digests}
use Rattle.ats_lists.specs.Blocks.{blocks_in, block}
use Rattle.ats_lists.specs.Chain.{chain_from, chain_elided}
use Rattle.ats_tree.proofs.Public.{front-front}
use Rattle.ats_lists.proofs.KeptChains.{on-err}
use Rattle.ats_lists.proofs.chain_keeping.Chain.elided.Goals as goal

pub returns-then-is_err-clause-err : goal.returns-then-is_err-clause-err
returns-then-is_err-clause-err c =
    on-err c.elide_link-outcome.result
    (c.truncate.ensures
    ∙ ap (λ (n : ℕ). take n c.elide_link-outcome.new.out) c.len-before.ensures
    ∙ front-front c.args.out.now c.elide_nodes.new.out c.elide_link-outcome.new.out c.elide_nodes.ensures.front c.elide_link-outcome.ensures.front)

pub returns-else-is_err-clause-ok : goal.returns-else-is_err-clause-ok
returns-else-is_err-clause-ok c H leaves same =
    let tree : ℕ → List (List ℕ) = λ b. elided_digests H (block leaves (b - 1)) (range_with_len 0 (c.args.k - 64 * (b - 1)))
    in let next : ℕ → List (List ℕ) = λ b. if nat_lt (64 * b) (length leaves) then chain_from H leaves b ∷ [] else []
    in let count : c.div_ceil-blocks.result ≡ blocks_in c.args.k = omega (arith, c.div_ceil-blocks.ensures)
    in let joined : c.elide_nodes.new.out ++ next c.div_ceil-blocks.result ≡ c.args.out.now ++ chain_elided H leaves c.args.k =
    ap (λ z. z ++ next c.div_ceil-blocks.result) {y = c.args.out.now ++ tree c.div_ceil-blocks.result} (c.in_ok-elide_nodes.ensures.ok H leaves same)
    ∙ append_assoc c.args.out.now (tree c.div_ceil-blocks.result) (next c.div_ceil-blocks.result)
    ∙ ap (λ (b : ℕ). c.args.out.now ++ (tree b ++ next b)) count
    in let Holds : List (List ℕ) → Type 0 = λ z. OnOk c.elide_link-outcome.result (c.elide_link-outcome.new.out ≡ z)
    in subst Holds joined (c.elide_link-outcome.ensures.ok H leaves same)
