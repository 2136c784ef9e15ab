use Rattle.std.proofs.Common.{◌≡◌, ◌∙◌, ℕ, drop, ap, ap₂, arith}
use Rattle.std.proofs.lemmas.List.{length-drop}
use Rattle.ats_proof.specs.Parts.{number_in, parts_in}
use Rattle.ats_proof.specs.Value.{present_in}
use Rattle.ats_proof.specs.Reading.{slot_size, slot_in, terms_in, met_in, slots_place, met_place}
use Rattle.ats_proof.proofs.Taking.{total_fixed}
use Rattle.ats_proof.proofs.Beginning.{met_begins}
use Rattle.ats_proof.proofs.places.Begun.of.Goals as goal

pub overflow_add-met_at : goal.overflow_add-met_at
overflow_add-met_at c =
    let bytes = c.args.bytes.now in
    let terms = c.from-terms.ensures ∙ c.number_2.ensures ∙ ap (number_in 2) c.split_at.ensures.back in
    let met_at = met_begins bytes c.slots_at-slots.result c.from-terms.result c.slots_at-slots.ensures terms in
    omega (arith, met_at, c.requires.docs, c.requires.few)

pub split_at-requires-2 : goal.split_at-requires-2
split_at-requires-2 c =
    let bytes = c.args.bytes.now in
    let terms = c.from-terms.ensures ∙ c.number_2.ensures ∙ ap (number_in 2) c.split_at.ensures.back in
    let met_at = met_begins bytes c.slots_at-slots.result c.from-terms.result c.slots_at-slots.ensures terms in
    omega (arith, met_at, c.requires.docs)

pub number_4-met-requires : goal.number_4-met-requires
number_4-met-requires c =
    let bytes = c.args.bytes.now in
    let terms = c.from-terms.ensures ∙ c.number_2.ensures ∙ ap (number_in 2) c.split_at.ensures.back in
    let met_at = met_begins bytes c.slots_at-slots.result c.from-terms.result c.slots_at-slots.ensures terms in
    rw (c.split_at-2.ensures.back, met_at) (omega (arith, c.requires.docs, length-drop (met_place bytes) bytes))

pub returns : goal.returns
returns c =
    let bytes = c.args.bytes.now in
    let terms = c.from-terms.ensures ∙ c.number_2.ensures ∙ ap (number_in 2) c.split_at.ensures.back in
    let slots = c.slots_at-slots.ensures in
    let met_at = met_begins bytes c.slots_at-slots.result c.from-terms.result slots terms in
    let met = c.number_4-met.ensures ∙ ap (number_in 4) (c.split_at-2.ensures.back ∙ ap (λ (n : ℕ). drop n bytes) met_at) in
    let fours = total_fixed 4 (λ b. b) (met_in bytes) (drop 4 (drop (met_place bytes) bytes)) in
    let found : c.present_count.result ≡ present_in (parts_in slot_size slot_in (terms_in bytes) (drop (slots_place bytes) bytes)) =
    c.present_count.ensures ∙ ap₂ (λ n xs. present_in (parts_in slot_size slot_in n xs)) terms (c.split_at-3.ensures.back ∙ ap (λ (n : ℕ). drop n bytes) slots) in
    record {
      dict_digests = c.dict_digests_at-dict_digests.ensures;
      terms = terms;
      slots = slots;
      present = found;
      met_at = met_at;
      met = met;
      lists = omega (arith, met_at, met, fours);
    }
