use Rattle.std.proofs.Common.{◌≡◌, ◌≤◌, ◌+◌, ◌-◌, ◌∙◌, ◌++◌, [], ◌∷◌, ℕ, List, length, take, set, refl, ap, ap₂, arith}
use Rattle.std.proofs.lemmas.List.{length-set}
use Rattle.std.proofs.lemmas.Slice.{take-put_mid}
use Rattle.ats_doctree.proofs.doc_terms.put_term.Goals as goal

first_set : (block : List ℕ) (n : ℕ) → 1 ≤ length block → take 1 (set block 0 n) ≡ n ∷ []
first_set [] n some = absurd (omega arith)
first_set (x ∷ block) n some = refl

pub returns : goal.returns
returns c =
    let n = length c.args.term.now in
    let block = set c.args.block.now 0 n in
    let part = c.copy_from_slice.ensures.after in
    let size = ap length part in
    take-put_mid 1 (n + 1 - 1) block c.copy_from_slice.new.self (n + 1) (omega (arith, size)) (omega (arith, length-set c.args.block.now 0 n, c.told-block))
    ∙ ap₂ (λ front back. front ++ back) (first_set c.args.block.now n (omega (arith, c.told-block))) part
