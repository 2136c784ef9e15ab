-- The score of a met document, as it is summed over the slots of the present terms.
use Rattle.std.proofs.Common.{◌≡◌, ◌<◌, ◌+◌, ◌*◌, ◌∙◌, ℕ, List, [], length, map, drop, get_or, slice_get, Some, option_map, refl, sym, ap, subst, arith}
use Rattle.std.proofs.lemmas.List.{length-map}
use Rattle.std.proofs.lemmas.Option.{get_or_from_slice_get, slice_get_within, slice_get-map}
use Rattle.ats_bound.specs.Cut.{ShownLane}
use Rattle.ats_bound.specs.Lookup.{Table, looked_score_from}
use Rattle.ats_commit.specs.Ours.{asked_term}
use Rattle.ats_client.specs.declared.kept_terms.PresentTerm.{PresentTerm}
use Rattle.ats_refusal.specs.declared.proof.Refusal.{Refusal}
use Rattle.ats_refusal.specs.declared.proof.Refusal.TheVariants.{TermSlot}
use Rattle.ats_client.specs.Documents.{MetDocument, term_shown, IsTermSlotRight, IsTermSlotsFault}
use Rattle.ats_client.specs.Groups.{slot_at}
use Rattle.ats_client.specs.Inner.KeptTerms.{numbers_of, bare_lanes}
use Rattle.ats_client.specs.Slots.{ShowsTerm}
use Rattle.ats_client.proofs.TermsLeft.{at_front}

-- ---- the sum

lane_at : (terms : List PresentTerm) (i : ℕ) (term : PresentTerm) → slice_get terms i ≡ Some term
    → slice_get (bare_lanes terms) i ≡ Some (let lane : ShownLane = record { coefficient = term.coefficient; total = 0; shown = [] } in lane)
lane_at terms i term is = slice_get-map _ terms i ∙ ap (option_map _) is

-- a term more
pub looked_more : (table : Table) (terms : List PresentTerm) (doc i : ℕ) (term : PresentTerm) (score impact whole : ℕ) → slice_get terms i ≡ Some term → impact ≡ table i doc
    → score + looked_score_from i table (drop i (bare_lanes terms)) doc ≡ whole
    → score + term.coefficient * impact + looked_score_from (i + 1) table (drop (i + 1) (bare_lanes terms)) doc ≡ whole
looked_more table terms doc i term score impact whole is shown before =
    let next : looked_score_from i table (drop i (bare_lanes terms)) doc
    ≡ term.coefficient * table i doc + looked_score_from (i + 1) table (drop (i + 1) (bare_lanes terms)) doc =
    ap (λ (lanes : List ShownLane). looked_score_from i table lanes doc) (at_front (bare_lanes terms) i _ (lane_at terms i term is)) in
    let gain : term.coefficient * impact ≡ term.coefficient * table i doc = ap (λ n. term.coefficient * n) shown in
    omega (arith, next, gain, before)

-- ---- the slots

number_at : (terms : List PresentTerm) (i : ℕ) (term : PresentTerm) → slice_get terms i ≡ Some term → get_or (numbers_of terms) i 0 ≡ term.number
number_at terms i term is = get_or_from_slice_get (numbers_of terms) i term.number 0 (slice_get-map _ terms i ∙ ap (option_map _) is)

pub number_right : (query : List (List ℕ × ℕ)) (terms : List PresentTerm) (one : MetDocument) (i : ℕ) (term : PresentTerm) → slice_get terms i ≡ Some term
    → ShowsTerm (map term_shown one.section.leaves) (asked_term query term.number) (slot_at one.section.slots i) → IsTermSlotRight query (numbers_of terms) one.section i
number_right query terms one i term is shows =
    subst (λ n. ShowsTerm (map term_shown one.section.leaves) (asked_term query n) (slot_at one.section.slots i)) (sym (number_at terms i term is)) shows

pub slot_fails : (query : List (List ℕ × ℕ)) (terms : List PresentTerm) (one : MetDocument) (i : ℕ) (term : PresentTerm) (refusal : Refusal) → slice_get terms i ≡ Some term
    → ((j : ℕ) → j < i → IsTermSlotRight query (numbers_of terms) one.section j) → refusal ≡ TermSlot one.doc term.number
    → (ShowsTerm (map term_shown one.section.leaves) (asked_term query term.number) (slot_at one.section.slots i) → ⊥)
    → IsTermSlotsFault query (numbers_of terms) one refusal
slot_fails query terms one i term refusal is before told wrong =
    let size : length (numbers_of terms) ≡ length terms = length-map terms _ in
    let low = slice_get_within terms i term is in
    subst (IsTermSlotsFault query (numbers_of terms) one) (sym told) (
      refl,
      record {
        place = i;
        inside = omega (arith, size, low);
        number = sym (number_at terms i term is);
        wrong = λ right. wrong (subst (λ n. ShowsTerm (map term_shown one.section.leaves) (asked_term query n) (slot_at one.section.slots i)) (number_at terms i term is) right);
        before = before;
      },
    )
