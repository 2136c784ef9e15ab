use Rattle.std.proofs.Common.{◌≡◌, ◌<◌, ◌+◌, ◌++◌, ◌∷◌, [], ℕ, List, length, get_or, sym, ap, ◌∙◌, arith}
use Rattle.std.specs.List.Sorted.{IsPermutation}
use Rattle.std.proofs.lemmas.List.{get_or-map, length-map, map-append, map-set}
use Rattle.std.proofs.lemmas.List.Sorted.{IsPermutation-sym, IsPermutation-to_front}
use Rattle.ats_bound.specs.declared.met_documents.Met.{Met}
use Rattle.ats_bound.specs.Inner.MetDocuments.{lows}
use Rattle.ats_bound.proofs.running.meet.Goals as goal

pub returns-in-Some-clause-best : goal.returns-in-Some-clause-best
returns-in-Some-clause-best c = λ are.
    let met : List Met = c.args.known.now in
    let slot : ℕ = c.in-Some.slot in
    let low : slot < length met = c.in-Some.ensures.slot.0 in
    let more : Met = record { doc = c.get-met.result.doc; lo = c.get-met.result.lo + c.args.gain.gain; named = c.get-met.result.named + c.args.digit } in
    let from : get_or (lows met) slot 0 ≡ c.get-met.result.lo = get_or-map (λ (m : Met). m.lo) met slot (record { doc = 0; lo = 0; named = 0 }) 0 low ∙ sym (ap (λ (m : Met). m.lo) c.get-met.ensures) in
    let raised = c.raise.ensures.best (lows met) slot are (omega (arith, low, length-map met (λ (m : Met). m.lo))) from in
    rw c.set.ensures (rw (map-set (λ (m : Met). m.lo) met slot more) raised)

pub returns-in_ok-push-in-None-clause-best : goal.returns-in_ok-push-in-None-clause-best
returns-in_ok-push-in-None-clause-best c = λ are.
    let met : List Met = c.args.known.now in
    let new : Met = record { doc = c.args.gain.doc; lo = c.args.gain.gain; named = c.args.digit } in
    let all : lows (met ++ new ∷ []) ≡ lows met ++ c.args.gain.gain ∷ [] = map-append (λ (m : Met). m.lo) met (new ∷ []) in
    let moved : IsPermutation (c.args.gain.gain ∷ lows met) (lows met ++ c.args.gain.gain ∷ []) = IsPermutation-sym (lows met ++ c.args.gain.gain ∷ []) (c.args.gain.gain ∷ lows met) (IsPermutation-to_front (lows met) c.args.gain.gain) in
    rw c.in_ok-push-in-None.ensures (rw all (c.add.ensures.best (lows met) (lows met ++ c.args.gain.gain ∷ []) are moved))
