-- What is shown of a document whose shown leaves are its own: which terms it has, and their impacts, which are those of the
-- lists.
use Rattle.std.proofs.Common.{◌≡◌, ◌<◌, ◌+◌, ◌∙◌, ℕ, true, false, nat_lt, cond, List, [], length, map, get_or, slice_get, Some, option_map, sym, ap, subst, inl, inr}
use Rattle.std.specs.List.{All}
use Rattle.std.proofs.lemmas.Bool.{cases_Bool, cond-true, cond-false, lt-ltb}
use Rattle.std.proofs.lemmas.Option.{get_or_from_slice_get, slice_get-map}
use Rattle.ats_terms.specs.Terms.{IsTerm}
use Rattle.ats_impact.specs.Score.{count}
use Rattle.ats_postings.specs.Lists.{list}
use Rattle.ats_postings.specs.Postings.{posting}
use Rattle.ats_doctree.specs.Impacts.{doc_terms}
use Rattle.ats_doctree.specs.Sentinels.{terms_leaves, leaf_bytes}
use Rattle.ats_commit.specs.Own.{IsImpactOf, AreTermNeighbours}
use Rattle.ats_commit.proofs.Public.{leaf_tells_impact, neighbours_tell_document}
use Rattle.ats_bound.specs.Ranked.{impact_in}
use Rattle.ats_bound.proofs.Public.{has, listed}
use Rattle.ats_proof.specs.declared.record.Slot.{Slot}
use Rattle.ats_proof.specs.Value.{ShownTerm, TermsSection}
use Rattle.ats_proof.specs.Ranges.{IsTermInRange}
use Rattle.ats_proof.specs.Runs.{shown_term}
use Rattle.ats_client.specs.Bracketing.{impact_shown}
use Rattle.ats_client.specs.Documents.{term_shown}
use Rattle.ats_client.specs.Groups.{slot_at}
use Rattle.ats_client.specs.Slots.{ShowsTerm}
use Rattle.ats_client.specs.Strings.{AreLeavesOf}
use Rattle.ats_client.proofs.Leaves.{leaf_own, present_leaf, absent_leaves}
use Rattle.ats_client.proofs.TermsLeft.{at_place}

module _ (texts : List (List ℕ)) (doc : ℕ) (low : doc < length texts) where
  -- a term that the document has has its impact there in its list
  impact_listed : (item : List ℕ × ℕ) → IsImpactOf texts doc item → impact_in doc (list texts item.0) ≡ item.1
  unfolding posting
  impact_listed item is =
      let yes : has texts item.0 doc doc ≡ true = lt-ltb 0 (count item.0 (get_or texts doc [])) is.some in
      listed texts item.0 doc low ∙ ap (λ b. cond b (posting texts item.0 doc).impact 0) yes ∙ sym is.value

  -- a term that it does not have has none
  none_listed : (term : List ℕ) → count term (get_or texts doc []) ≡ 0 → impact_in doc (list texts term) ≡ 0
  none_listed term none =
      let no : has texts term doc doc ≡ false = ap (nat_lt 0) none in
      listed texts term doc low ∙ ap (λ b. cond b (posting texts term doc).impact 0) no

  module _ (section : TermsSection) (ranges : All IsTermInRange section.leaves) (own : AreLeavesOf (terms_leaves (doc_terms texts doc)) (map shown_term section.leaves))
      (i : ℕ) (term : List ℕ) (is_term : IsTerm term) (shows : ShowsTerm (map term_shown section.leaves) term (slot_at section.slots i)) where
    abbrev slot : Slot
    slot = slot_at section.slots i

    abbrev impact_there : ℕ
    impact_there = get_or (map (λ (leaf : ShownTerm). leaf.term.1) section.leaves) slot.index 0

    -- the leaf that shows the term, with its impact in the document
    record ShowsImpact : Type 0 where
      leaf : ShownTerm
      there : slice_get section.leaves slot.index ≡ Some leaf
      same : leaf.term.0 ≡ term
      is : IsImpactOf texts doc leaf.term

    present_leaf_own : slot.present ≡ true → ShowsImpact
    present_leaf_own present =
        let was = present_leaf term_shown section.leaves term slot shows present in
        let t : ShownTerm = was.0 in
        let range : IsTermInRange t = at_place IsTermInRange section.leaves slot.index t ranges was.1 in
        record {
          leaf = t;
          there = was.1;
          same = was.2;
          is =
              leaf_tells_impact texts doc t.position t.term (subst IsTerm (sym was.2) is_term) range.small
              (leaf_own shown_term (terms_leaves (doc_terms texts doc)) section.leaves slot.index t own was.1);
        }

    -- if the slot says that the term is absent, the document does not have it
    absent_none : slot.present ≡ false → count term (get_or texts doc []) ≡ 0
    absent_none absent =
        let around = absent_leaves term_shown section.leaves term slot shows absent in
        let lower : ShownTerm = around.0 in
        let upper : ShownTerm = around.1 in
        let leaves : List (List ℕ) = terms_leaves (doc_terms texts doc) in
        let lower_range : IsTermInRange lower = at_place IsTermInRange section.leaves slot.index lower ranges around.2.first in
        let upper_range : IsTermInRange upper = at_place IsTermInRange section.leaves (slot.index + 1) upper ranges around.2.second in
        let neighbours : AreTermNeighbours leaves lower.position lower.term upper.term = record {
          first_small = lower_range.small;
          second_small = upper_range.small;
          first = leaf_own shown_term leaves section.leaves slot.index lower own around.2.first;
          second =
              subst (λ p. slice_get leaves p ≡ Some (leaf_bytes upper.term)) around.2.neighbours
              (leaf_own shown_term leaves section.leaves (slot.index + 1) upper own around.2.second);
        } in
        neighbours_tell_document texts doc lower.position lower.term upper.term term neighbours around.2.above around.2.below

    -- a slot says whether the document has the term
    pub slot_own : slot.present ≡ nat_lt 0 (count term (get_or texts doc []))
    slot_own = elim (cases_Bool slot.present) [
      | inl present ↦
          let shown = present_leaf_own present in
          let some : 0 < count term (get_or texts doc []) = subst (λ (t : List ℕ). 0 < count t (get_or texts doc [])) shown.same shown.is.some in
          present ∙ sym (lt-ltb 0 (count term (get_or texts doc [])) some)
      | inr absent ↦ absent ∙ sym (ap (nat_lt 0) (absent_none absent))
    ]

    present_impact : slot.present ≡ true → impact_shown section i ≡ impact_in doc (list texts term)
    present_impact present =
        let shown = present_leaf_own present in
        let t : ShownTerm = shown.leaf in
        let there : impact_there ≡ t.term.1 =
        get_or_from_slice_get (map (λ (leaf : ShownTerm). leaf.term.1) section.leaves) slot.index t.term.1 0
        (slice_get-map (λ (leaf : ShownTerm). leaf.term.1) section.leaves slot.index ∙ ap (option_map (λ (leaf : ShownTerm). leaf.term.1)) shown.there) in
        cond-true slot.present impact_there 0 present ∙ there ∙ sym (impact_listed t.term shown.is) ∙ ap (λ s. impact_in doc (list texts s)) shown.same

    absent_impact : slot.present ≡ false → impact_shown section i ≡ impact_in doc (list texts term)
    absent_impact absent = cond-false slot.present impact_there 0 absent ∙ sym (none_listed term (absent_none absent))

    -- what a slot shows is the term's impact in the document
    pub impact_own : impact_shown section i ≡ impact_in doc (list texts term)
    impact_own = elim (cases_Bool slot.present) [ inl present ↦ present_impact present | inr absent ↦ absent_impact absent ]
