use Rattle.std.proofs.Common.{◌∙◌, ◌∷◌, ℕ, List, ap, arith}
use Rattle.ats_dict.proofs.Sentinels.{length-dict_leaves, leaf_of_parts}
use Rattle.ats_dict.proofs.dictionary.DictionaryLeaves.leaf_digest.Goals as goal

pub returns-clause-value : goal.returns-clause-value
returns-clause-value g c =
    let s = c.args.self.now in
    c.digest2.ensures.value
    ∙ ap (λ (xs : List ℕ). g.H.HashKind.hash (0 ∷ xs))
    (leaf_of_parts s c.args.i _ c.parts-parts.result.front.now c.back.result (omega (arith, length-dict_leaves s)) c.parts-parts.ensures.entry c.parts-parts.ensures.front c.back.ensures)
