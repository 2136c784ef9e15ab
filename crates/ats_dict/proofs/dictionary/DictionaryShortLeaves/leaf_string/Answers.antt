use Rattle.std.proofs.Common.{◌∙◌, ◌∷◌, ℕ, List, ap, arith}
use Rattle.ats_dict.proofs.Sentinels.{length-dict_leaves, leaf_of_parts}
use Rattle.ats_dict.proofs.dictionary.DictionaryShortLeaves.leaf_string.Goals as goal

pub returns : goal.returns
returns c =
    let s = c.args.self.now in
    c.tagged.ensures
    ∙ ap (λ (xs : List ℕ). 0 ∷ xs)
    (leaf_of_parts s c.args.i _ c.parts-parts.result.front.now c.back.result (omega (arith, length-dict_leaves s)) c.parts-parts.ensures.entry c.parts-parts.ensures.front c.back.ensures)
