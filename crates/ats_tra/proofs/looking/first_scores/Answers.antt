use Rattle.std.proofs.Common.{◌≡◌, ◌+◌, ◌++◌, ◌∷◌, [], ℕ, List, length, get_or, sym, ap, ◌∙◌, arith, inl, inr, length-append}
use Rattle.std.proofs.lemmas.Bool.{cases_lt}
use Rattle.std.proofs.lemmas.List.{get_or_append_left, get_or-append-add}
use Rattle.ats_bound.specs.Lookup.{Table}
use Rattle.ats_bound.specs.Schedule.{WholeLane, whole_lanes}
use Rattle.ats_bound.specs.Scored.{first_document}
use Rattle.ats_bound.proofs.Public.{first_given, no_lane, whole_at}
use Rattle.ats_tra.specs.Inner.Looked.{score_by}
use Rattle.ats_tra.proofs.looking.first_scores.Goals as goal

pub first_document-requires : goal.first_document-requires
first_document-requires g c = (whole_at c.args.lanes.now c.loop-lane.lane-index no_lane c.requires (omega arith)).some

pub loop-lane-preserved : goal.loop-lane-preserved
loop-lane-preserved g c =
    let table : Table = g.A.RandomAccess.table c.args.access.now in
    let lanes : List WholeLane = whole_lanes c.args.lanes.now in
    let old : List ℕ = c.loop-lane.scores.items in
    let index : ℕ = c.loop-lane.lane-index in
    let new : c.push.new.self.items ≡ old ++ c.score.result ∷ [] = c.in_ok-push.ensures.items in
    record {
      size = omega (arith, ap length new, length-append old (c.score.result ∷ []), c.loop-lane.invariant.size);
      each = λ i low. elim (cases_lt i index) [
        | inl less ↦ rw new (get_or_append_left old (c.score.result ∷ []) 0 i (omega (arith, less, c.loop-lane.invariant.size)) ∙ c.loop-lane.invariant.each i less)
        | inr last ↦
            let is : i ≡ index = omega (arith, low, last) in
            let doc : c.first_document.result ≡ first_document lanes index = c.first_document.ensures ∙ sym (first_given c.args.lanes.now index (omega arith)) in
            let at : index ≡ length old + 0 = omega (arith, c.loop-lane.invariant.size) in
            rw (new, is) (ap (λ n. get_or (old ++ c.score.result ∷ []) n 0) at ∙ get_or-append-add old (c.score.result ∷ []) 0 0 ∙ c.score.ensures ∙ ap (score_by table lanes) doc)
      ];
    }
