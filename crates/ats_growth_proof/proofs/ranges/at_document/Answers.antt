use Rattle.std.proofs.Common.{◌∙◌, ◌∷◌, ℕ, List, ap, append-nil}
use Rattle.ats_growth_proof.proofs.Ranging.{part-one, range-document}
use Rattle.ats_growth_proof.proofs.ranges.at_document.Goals as goal

pub returns-clause-range : goal.returns-clause-range
returns-clause-range g c =
    let H = g.H.HashKind.hash in
    let a = c.args in
    let first = c.as_bytes-first.result.now in
    let second = c.as_bytes-second.result.now in
    let old = part-one a.old.now a.doc c.text.result.now first c.requires.inside_old c.as_bytes-first.ensures.value c.text.ensures in
    let new = part-one a.new.now a.doc c.text-2.result.now second c.requires.inside_new c.as_bytes-second.ensures.value c.text-2.ensures in
    range-document H _ _ first second _ old new
    (c.digest2.ensures.value ∙ ap (λ (text : List ℕ). H (0 ∷ text)) (append-nil first)) (c.digest2-2.ensures.value ∙ ap (λ (text : List ℕ). H (0 ∷ text)) (append-nil second))
    c.unlike_texts.ensures
