use Rattle.std.proofs.Common.{◌≡◌, ◌<◌, ◌≤◌, ◌+◌, ◌++◌, ◌∙◌, ℕ, List, [], ◌∷◌, length, replicate, sym, ap, subst, arith}
use Rattle.std.specs.List.{All, sum_by}
use Rattle.std.proofs.lemmas.List.Elements.{All-head, All-tail}
use Rattle.ats_bound.specs.Work.{Marked, zero_mark}
use Rattle.ats_proof.specs.Ranges.{IsPrefixInRange}
use Rattle.ats_proof.specs.Value.{ShownEntry, Prefix, present_in, items_of_prefix}
use Rattle.ats_proof.specs.declared.dict.DictView.{DictView}
use Rattle.ats_client.specs.Inner.SeenLists.{prefix_of, prefixes_left, presented_of}
use Rattle.ats_client.specs.Inner.Seen.{entries_left}
use Rattle.ats_dict.specs.declared.header.Header.{Header}
use Rattle.ats_client.specs.declared.kept_terms.PresentTerm.{PresentTerm}
use Rattle.ats_client.specs.Presented.{Presented}
use Rattle.ats_client.specs.Inner.KeptTerms.{kept_term}
use Rattle.ats_client.specs.Inner.Noting.{Note, AreNotes, index_lane, lane_notes, notes_of}
use Rattle.ats_client.specs.Groups.{slot_at}
use Rattle.ats_client.proofs.Counts.{sum_taken}
use Rattle.ats_client.proofs.Rising.{before_first, before_next}
use Rattle.ats_client.proofs.Passing.{begins, passes_absent, passes_present, right_done, kept_done, marks_done, free_done, rests_done, IsPassed}
use Rattle.ats_client.proofs.all_lists.lists.Goals as goal
use Rattle.ats_client.proofs.all_lists.lists.Goals.{in-Some+in_ok-threshold, in_default}

pub loop-i-init : goal.loop-i-init
unfolding prefixes_left entries_left
loop-i-init g c =
    let proof = c.args.proof.now in
    let all : prefixes_left c.lists-left.result ≡ proof.lists = c.lists-left.ensures in
    let size : length proof.lists ≡ present_in proof.slots = c.facts.ensures.spelled.1.prefix_each in
    let enough : present_in proof.slots ≡ length (prefixes_left c.lists-left.result) = sym (ap (λ (l : List Prefix). length l) all ∙ size) in
    let zeros : c.begin.new.self.marks ≡ replicate (length proof.met) zero_mark = ap (λ (w : Marked). w.marks) c.begin.ensures.marks ∙ ap (λ (n : ℕ). replicate n zero_mark) c.met.ensures in
    record {
      passed = begins g.H.HashKind.hash c.args.query.now proof (prefixes_left c.lists-left.result) c.args.terms.now c.begin.new.self.marks all enough zeros c.requires.none;
      ranges = subst (All IsPrefixInRange) (sym all) c.facts.ensures.range.fronts;
      dict = ap entries_left c.over-walk.ensures.all ∙ c.dict.ensures.entries;
      room = ap (λ (w : Marked). w.room) c.begin.ensures.marks;
      cost = omega (arith, c.begin.ensures.steps, c.met.type_inv);
      before = before_first c.over-walk.result.place proof.slots c.over-walk.ensures.place;
      most = omega (
        arith,
        c.begin.ensures.steps,
        c.met.ensures,
        ap (λ (view : DictView). length (entries_left view)) c.over-walk.ensures.left,
        ap (λ (dict : List ShownEntry). length dict) c.dict.ensures.entries,
        ap (sum_by items_of_prefix) all,
      );
    }

pub list-requires-clause-range : goal.list-requires-clause-range
list-requires-clause-range g c =
    All-head IsPrefixInRange (prefix_of c.in-Some.one.list) (prefixes_left c.present.new.left) (subst (All IsPrefixInRange) c.in-Some.ensures.taken c.loop-i.invariant.ranges)

pub list-requires-clause-notes : goal.list-requires-clause-notes
list-requires-clause-notes g c =
    let proof = c.args.proof.now in
    let p = c.loop-i.invariant.passed in
    (notes_of proof.header.documents p.before, subst (λ (k : ℕ). AreNotes (length proof.met) (notes_of proof.header.documents p.before) (k + 1) [] c.loop-i.work.marks) (sym c.in-Some.ensures.number) p.notes)

pub returns-in_err-threshold-clause-most : goal.returns-in_err-threshold-clause-most
returns-in_err-threshold-clause-most g c =
    let proof = c.args.proof.now in
    let i = c.loop-i.i in
    let one : Presented = presented_of c.in-Some.one in
    let low : i < length proof.slots = omega (arith, c.loop-i-test.true, c.len-i-end.ensures.value, c.requires.each) in
    let here : c.loop-i.walk.place ≤ (slot_at proof.slots i).index = c.loop-i.invariant.before i (omega arith) low in
    omega (
      arith,
      c.list.ensures.most,
      c.in-Some.ensures.most here,
      sum_taken items_of_prefix (prefixes_left c.loop-i.left) (prefixes_left c.present.new.left) one.prefix c.in-Some.ensures.taken,
      c.loop-i.invariant.most,
    )

pub loop-i-preserved : goal.loop-i-preserved
loop-i-preserved g c =
    let H = g.H.HashKind.hash in
    let query = c.args.query.now in
    let proof = c.args.proof.now in
    let i : ℕ = c.loop-i.i in
    let left : List Prefix = prefixes_left c.loop-i.left in
    let after : List Prefix = prefixes_left c.present.new.left in
    let p = c.loop-i.invariant.passed in
    let low : i < length proof.slots = omega (arith, c.loop-i-test.true, c.len-i-end.ensures.value, c.requires.each) in
    let here : c.loop-i.walk.place ≤ (slot_at proof.slots i).index = c.loop-i.invariant.before i (omega arith) low in
    let rise = c.facts.ensures.range.spots.rise in
    elim c.match-present.branch [
      | in-Some+in_ok-threshold w ↦
          let one : Presented = presented_of w.in-Some.one in
          let noted = subst (λ (k : ℕ). (notes : List Note) → AreNotes (length proof.met) notes (k + 1) [] c.loop-i.work.marks
          → AreNotes (length proof.met) (notes ++ lane_notes (index_lane proof.header.documents one)) (k + 2) [] w.list.new.work.marks) w.in-Some.ensures.number w.in_ok-threshold.ensures.notes in
          let more = w.push.ensures ∙ ap (λ (t : PresentTerm). c.loop-i.terms ++ t ∷ [])
          (w.kept-term.ensures.term ∙ ap (λ (h : Header). kept_term h.documents one) c.header-documents.ensures) in
          let passed = passes_present H query proof i left after c.loop-i.terms w.push.new.self c.loop-i.threshold w.in_ok-threshold.field-0 one c.loop-i.work.marks w.list.new.work.marks p
          w.in-Some.ensures.some w.in_ok-threshold.ensures.right noted w.in_ok-threshold.ensures.rest w.in_ok-threshold.ensures.small more w.in-Some.ensures.enough in
          record {
            passed = subst (λ (n : ℕ). IsPassed H query proof (i + 1) after c.match-present.terms n c.match-present.work.marks) (sym w.threshold-is)
                (subst (λ (ts : List PresentTerm). IsPassed H query proof (i + 1) after ts (c.loop-i.threshold + w.in_ok-threshold.field-0) c.match-present.work.marks) (sym w.terms-is)
                (subst (λ (m : Marked). IsPassed H query proof (i + 1) after w.push.new.self (c.loop-i.threshold + w.in_ok-threshold.field-0) m.marks) (sym w.work-is) passed));
            ranges = All-tail IsPrefixInRange one.prefix after (subst (All IsPrefixInRange) w.in-Some.ensures.taken c.loop-i.invariant.ranges);
            dict = ap entries_left w.in-Some.ensures.dict ∙ c.loop-i.invariant.dict;
            room = ap (λ (m : Marked). m.room) w.work-is ∙ w.in_ok-threshold.ensures.room ∙ c.loop-i.invariant.room;
            cost = omega (arith, w.steps-is, w.in_ok-threshold.ensures.cost, w.in-Some.ensures.cost, c.loop-i.invariant.cost);
            before = before_next c.present.new.walk.place proof.slots i rise (w.in-Some.ensures.before here);
            most = omega (
              arith,
              w.steps-is,
              w.in_ok-threshold.ensures.most,
              w.in-Some.ensures.most here,
              sum_taken items_of_prefix left after one.prefix w.in-Some.ensures.taken,
              c.loop-i.invariant.most,
            );
          }
      | in_default w ↦
          let passed = passes_absent H query proof i left after c.loop-i.terms c.loop-i.threshold c.loop-i.work.marks p w.in_default.ensures.none w.in_default.ensures.enough in
          record {
            passed = subst (λ (n : ℕ). IsPassed H query proof (i + 1) after c.match-present.terms n c.match-present.work.marks) (sym w.threshold-is)
                (subst (λ (ts : List PresentTerm). IsPassed H query proof (i + 1) after ts c.loop-i.threshold c.match-present.work.marks) (sym w.terms-is)
                (subst (λ (m : Marked). IsPassed H query proof (i + 1) after c.loop-i.terms c.loop-i.threshold m.marks) (sym w.work-is) passed));
            ranges = subst (All IsPrefixInRange) (sym w.in_default.ensures.same) c.loop-i.invariant.ranges;
            dict = ap entries_left w.in_default.ensures.dict ∙ c.loop-i.invariant.dict;
            room = ap (λ (m : Marked). m.room) w.work-is ∙ c.loop-i.invariant.room;
            cost = omega (arith, w.steps-is, w.in_default.ensures.cost, c.loop-i.invariant.cost);
            before = before_next c.present.new.walk.place proof.slots i rise (w.in_default.ensures.before here);
            most = omega (arith, w.steps-is, w.in_default.ensures.most here, ap (sum_by items_of_prefix) w.in_default.ensures.same, c.loop-i.invariant.most);
          }
    ]

pub returns-clause-right : goal.returns-clause-right
returns-clause-right g c =
    right_done g.H.HashKind.hash _ _ _ _ _ _ _ c.loop-i.invariant.passed (omega (arith, c.len-i-end.ensures.value)) (omega (arith, c.len-i-end.ensures.value, c.len-i-end.ensures.query.few))

pub returns-clause-terms : goal.returns-clause-terms
returns-clause-terms g c =
    kept_done g.H.HashKind.hash _ _ _ _ _ _ _ c.loop-i.invariant.passed (omega (arith, c.len-i-end.ensures.value)) (omega (arith, c.len-i-end.ensures.value, c.len-i-end.ensures.query.few))

pub returns-clause-marks : goal.returns-clause-marks
returns-clause-marks g c =
    marks_done g.H.HashKind.hash _ _ _ _ _ _ _ c.loop-i.invariant.passed (omega (arith, c.len-i-end.ensures.value)) (omega (arith, c.len-i-end.ensures.value, c.len-i-end.ensures.query.few)) c.facts.ensures.range.ids.rise

pub returns-clause-free : goal.returns-clause-free
returns-clause-free g c =
    free_done g.H.HashKind.hash _ _ _ _ _ _ _ c.loop-i.invariant.passed (omega (arith, c.len-i-end.ensures.value)) (omega (arith, c.len-i-end.ensures.value, c.len-i-end.ensures.query.few))

pub returns-clause-threshold : goal.returns-clause-threshold
returns-clause-threshold g c =
    rests_done g.H.HashKind.hash _ _ _ _ _ _ _ c.loop-i.invariant.passed (omega (arith, c.len-i-end.ensures.value)) (omega (arith, c.len-i-end.ensures.value, c.len-i-end.ensures.query.few))
