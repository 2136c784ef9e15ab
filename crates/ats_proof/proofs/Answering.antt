-- The place of the answer of a view.
use Rattle.std.proofs.Common.{◌≡◌, ◌∙◌, Bool, ap}
use Rattle.ats_proof.specs.declared.view.ProofView.TheInside.{Inside}
use Rattle.ats_proof.specs.Reading.{is_tra, answer_place}
use Rattle.ats_proof.specs.Inner.Told.{IsPlaced}

pub answer_at : (view : Inside) (placed : IsPlaced view.bytes.now view.tra view.begun view.ended view.docs)
    → view.ended.answer ≡ answer_place (is_tra view.bytes.now) view.bytes.now
answer_at view placed = placed.rest.answer ∙ ap (λ (t : Bool). answer_place t view.bytes.now) placed.same
