use Rattle.std.proofs.Common.{◌≡◌, ◌∙◌, ℕ, List, [], Bool, true, false, not, if◌then◌else◌, Some, map, slice_get, option_map, refl, sym, ap, arith}
use Rattle.std.proofs.lemmas.Bool.{not-false}
use Rattle.std.proofs.lemmas.Option.{get_or_from_slice_get, slice_get-map}
use Rattle.ats_commit.specs.Ours.{asked_term}
use Rattle.ats_proof.specs.declared.record.Slot.{Slot}
use Rattle.ats_proof.specs.SeenDocs.{section_of}
use Rattle.ats_proof.specs.Value.{ShownTerm, TermsSection}
use Rattle.ats_refusal.specs.declared.proof.Refusal.TheVariants.{TermSlot}
use Rattle.ats_client.specs.declared.term.Term.{Term}
use Rattle.ats_client.specs.Bracketing.{impact_shown}
use Rattle.ats_client.specs.Documents.{term_shown}
use Rattle.ats_client.specs.Groups.{slot_at}
use Rattle.ats_client.specs.Inner.SeenTerms.{terms_left, term_of}
use Rattle.ats_client.proofs.Leaves.{present_leaf}
use Rattle.ats_client.proofs.Rising.{index_is}
use Rattle.ats_client.proofs.Slotted.{test_right}
use Rattle.ats_client.proofs.document.impact.Goals as goal

-- ---- the impact that the slot shows

when_absent : (present : Bool) (impact : ℕ) → not present ≡ true → 0 ≡ (if present then impact else 0)
when_absent true impact absent = absurd (cc absent)
when_absent false impact absent = refl

when_present : (present : Bool) (impact shown : ℕ) → not present ≡ false → shown ≡ impact → shown ≡ (if present then impact else 0)
when_present true impact shown there same = same
when_present false impact shown there same = absurd (cc there)

abbrev impact_of : ShownTerm → ℕ
impact_of leaf = leaf.term.1

module _ (section : TermsSection) (i : ℕ) (slot : Slot) (same_slot : slice_get section.slots i ≡ Some slot) where
  slot_is : slot_at section.slots i ≡ slot
  slot_is = get_or_from_slice_get section.slots i slot (record { present = false; index = 0 }) same_slot

  -- none if the slot says that the document has no such term
  none_shown : not slot.present ≡ true → 0 ≡ impact_shown section i
  none_shown absent = rw slot_is (when_absent slot.present _ absent)

  -- that of the leaf that was found where the slot says
  leaf_shown : (leaves : List ShownTerm) (leaf : Term) → not slot.present ≡ false → leaves ≡ section.leaves → Some (term_of leaf) ≡ slice_get leaves slot.index
      → impact_of (term_of leaf) ≡ impact_shown section i
  leaf_shown leaves leaf there same_leaves at =
      let element : slice_get (map impact_of section.leaves) slot.index ≡ Some (impact_of (term_of leaf)) =
      slice_get-map impact_of section.leaves slot.index ∙ ap (option_map impact_of) (ap (λ (ls : List ShownTerm). slice_get ls slot.index) (sym same_leaves) ∙ sym at) in
      rw slot_is (when_present slot.present _ _ there (sym (get_or_from_slice_get (map impact_of section.leaves) slot.index _ 0 element)))

-- ---- the returns

pub returns-then-not-shows : goal.returns-then-not-shows
returns-then-not-shows c =
    let section : TermsSection = section_of c.args.doc.now in
    let slot : Slot = c.slot-slot.result in
    let at : (slot_at section.slots c.args.i).index ≡ slot.index = index_is section.slots c.args.i slot c.slot-slot.ensures.slot in
    let test = test_right section.slots c.args.i (map term_shown (terms_left c.args.walk.now.all)) (map term_shown section.leaves) c.term.result.now (asked_term c.args.query.now c.args.number)
    slot c.shows.result (ap (map term_shown) c.requires.leaves) (c.term.ensures.value ([], 0)) c.slot-slot.ensures.slot c.shows.ensures.shows in
    record {
      right = tt;
      impact = tt;
      told = ap (λ (doc : ℕ). TermSlot doc c.args.number) c.doc.ensures;
      wrong = λ right. let yes = test.1 right in absurd (cc (yes, c.if-not-shows.true));
      leaves = c.shows.ensures.same;
      place = c.shows.ensures.place ∙ sym at;
      cost = omega (arith, c.shows.ensures.cost, c.slot-slot.ensures.cost);
      most = λ low. omega (arith, c.shows.ensures.most (omega (arith, at, low)), c.slot-slot.ensures.cost);
    }

pub returns-then-not-slot : goal.returns-then-not-slot
returns-then-not-slot c =
    let section : TermsSection = section_of c.args.doc.now in
    let slot : Slot = c.slot-slot.result in
    let at : (slot_at section.slots c.args.i).index ≡ slot.index = index_is section.slots c.args.i slot c.slot-slot.ensures.slot in
    let test = test_right section.slots c.args.i (map term_shown (terms_left c.args.walk.now.all)) (map term_shown section.leaves) c.term.result.now (asked_term c.args.query.now c.args.number)
    slot c.shows.result (ap (map term_shown) c.requires.leaves) (c.term.ensures.value ([], 0)) c.slot-slot.ensures.slot c.shows.ensures.shows in
    record {
      right = test.0 c.if-not-shows.false;
      impact = none_shown section c.args.i slot c.slot-slot.ensures.slot c.if-not-slot.true;
      told = tt;
      wrong = tt;
      leaves = c.shows.ensures.same;
      place = c.shows.ensures.place ∙ sym at;
      cost = omega (arith, c.shows.ensures.cost, c.slot-slot.ensures.cost);
      most = λ low. omega (arith, c.shows.ensures.most (omega (arith, at, low)), c.slot-slot.ensures.cost);
    }

-- there is a leaf where the slot of a present term says
pub unreachable-requires : goal.unreachable-requires
unreachable-requires c =
    let there = present_leaf term_shown (terms_left c.args.walk.now.all) c.term.result.now c.slot-slot.result (c.shows.ensures.shows.0 c.if-not-shows.false)
    (not-false c.slot-slot.result.present c.if-not-slot.false) in
    cc (there.1, c.in_default.ensures.leaf, c.shows.ensures.same)

pub returns : goal.returns
returns c =
    let section : TermsSection = section_of c.args.doc.now in
    let slot : Slot = c.slot-slot.result in
    let at : (slot_at section.slots c.args.i).index ≡ slot.index = index_is section.slots c.args.i slot c.slot-slot.ensures.slot in
    let test = test_right section.slots c.args.i (map term_shown (terms_left c.args.walk.now.all)) (map term_shown section.leaves) c.term.result.now (asked_term c.args.query.now c.args.number)
    slot c.shows.result (ap (map term_shown) c.requires.leaves) (c.term.ensures.value ([], 0)) c.slot-slot.ensures.slot c.shows.ensures.shows in
    record {
      right = test.0 c.if-not-shows.false;
      impact = leaf_shown section c.args.i slot c.slot-slot.ensures.slot (terms_left c.shows.new.self.all) c.in-Some.term c.if-not-slot.false
          (ap terms_left c.shows.ensures.same ∙ c.requires.leaves) c.in-Some.ensures.leaf;
      told = tt;
      wrong = tt;
      leaves = c.leaf.ensures.same ∙ c.shows.ensures.same;
      place = c.leaf.ensures.place ∙ sym at;
      cost = omega (arith, c.leaf.ensures.cost, c.shows.ensures.cost, c.slot-slot.ensures.cost);
      most = λ low. omega (arith, c.leaf.ensures.most (omega (arith, c.shows.ensures.place)), c.shows.ensures.most (omega (arith, at, low)), c.slot-slot.ensures.cost);
    }
