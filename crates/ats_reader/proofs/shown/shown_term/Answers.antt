use Rattle.std.proofs.Common.{◌≡◌, ◌∙◌, ℕ, List, ◌++◌, ◌-◌, length, drop, replicate, slice_index_or, ap}
use Rattle.std.proofs.lemmas.List.{drop-replicate}
use Rattle.ats_reader.proofs.shown.shown_term.Goals as goal

-- the bytes of the term stand before what is left of 64 zeros
pub returns : goal.returns
returns c d =
    let written = c.term-term.result.now in
    let term : written ≡ (slice_index_or c.args.query.now c.args.i d).0 = c.term-term.ensures.value d in
    let padded : written ++ drop (length written) (replicate 64 0) ≡ written ++ replicate (64 - length written) 0 =
    ap (λ (rest : List ℕ). written ++ rest) (drop-replicate (length written) 64 0) in
    let word = ap (λ (front : List ℕ). front ++ drop (length written) (replicate 64 0)) c.copy_from_slice.ensures.after
    ∙ (padded ∙ ap (λ (text : List ℕ). text ++ replicate (64 - length text) 0) term) in
    λ i. record { word = word i; size = length (term i); weight = c.weight.ensures.value d i }
