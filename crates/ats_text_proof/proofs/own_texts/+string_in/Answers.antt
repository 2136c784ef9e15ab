use Rattle.std.proofs.Common.{◌≡◌, ◌<◌, ℕ, List, ◌-◌, ◌++◌, [], ◌∷◌, length, get_or, arith, sym, ◌∙◌, ap, ap₂, Some}
use Rattle.std.proofs.lemmas.List.{append-nil, get_or_default}
use Rattle.ats_tree.proofs.Public.{string-leaf, string-node, string-past, string-left, string-right}
use Rattle.ats_text_proof.proofs.own_texts.+string_in.Goals as goal

-- a text
pub returns-then-depth-eq0 : goal.returns-then-depth-eq0
returns-then-depth-eq0 g t c =
    let from : ℕ = c.args.from in
    let texts : List (List ℕ) = c.args.texts.now in
    let less : from < length texts = omega (arith, c.if-n-eq1.true, c.requires.within) in
    let text : c.as_bytes.result.now ≡ get_or texts from [] = c.as_bytes.ensures.value ∙ c.text.ensures ∙ get_or_default texts from c.text.result.now [] less in
    ap (λ (x : List ℕ). Some (0 ∷ x)) (append-nil c.as_bytes.result.now ∙ text)
    ∙ sym (string-leaf g.H.HashKind.hash from c.args.n c.args.depth c.args.turns texts c.if-n-eq1.true c.requires.within c.if-depth-eq0.true)

-- below a text
pub returns-else-depth-eq0 : goal.returns-else-depth-eq0
returns-else-depth-eq0 g t c =
    sym (string-past g.H.HashKind.hash c.args.from c.args.n c.args.depth (c.args.depth - 1) c.args.turns c.args.texts.now
    c.if-n-eq1.true c.requires.within (omega arith))

-- a node with two parts
pub returns-then-depth-eq0-2 : goal.returns-then-depth-eq0-2
returns-then-depth-eq0-2 g t c =
    ap₂ (λ (l r : List ℕ). Some (1 ∷ l ++ r)) c.root_of_texts.ensures.value c.root_of_texts-then-depth-eq0-2.ensures.value
    ∙ sym (string-node g.H.HashKind.hash c.args.from c.cut_of-k.result c.args.n c.args.depth c.args.turns c.args.texts.now
    c.cut_of-k.ensures.power c.cut_of-k.ensures.below c.cut_of-k.ensures.largest c.requires.within c.if-depth-eq0-2.true)

pub returns-then-turns-further-eq0 : goal.returns-then-turns-further-eq0
returns-then-turns-further-eq0 g t c =
    c.string_in.ensures
    ∙ sym (string-left g.H.HashKind.hash c.args.from c.cut_of-k.result c.args.n c.args.depth (c.args.depth - 1) c.args.turns c.args.texts.now
    c.cut_of-k.ensures.power c.cut_of-k.ensures.below c.cut_of-k.ensures.largest c.requires.within (omega arith) c.if-turns-further-eq0.true)

pub returns-else-turns-further-eq0 : goal.returns-else-turns-further-eq0
returns-else-turns-further-eq0 g t c =
    c.string_in-else-turns-further-eq0.ensures
    ∙ sym (string-right g.H.HashKind.hash c.args.from c.cut_of-k.result c.args.n c.args.depth (c.args.depth - 1) c.args.turns c.args.texts.now
    c.cut_of-k.ensures.power c.cut_of-k.ensures.below c.cut_of-k.ensures.largest c.requires.within (omega arith) c.if-turns-further-eq0.false)
