-- What marks say of the documents that entries name, and what a row adds to them.
use Rattle.std.proofs.Common.{◌≡◌, ◌≢◌, ◌<◌, ◌≤◌, ◌+◌, ◌||◌, ℕ, Bool, true, false, nat_eq, nat_lt, List, length, take, set, get_or, Some, slice_get, sym, ap, ◌∙◌, inl, inr, arith}
use Rattle.std.specs.List.{list_any}
use Rattle.std.proofs.lemmas.Bool.{cases_order, or_right}
use Rattle.std.proofs.lemmas.Bool.Decides.{nat_tests}
use Rattle.std.proofs.lemmas.List.{length-set, get_or-set_same, get_or-set_other}
use Rattle.std.proofs.lemmas.List.Folds.{list_any_more}
use Rattle.std.proofs.lemmas.Option.{get_or_from_slice_get}
use Rattle.ats_bound.specs.declared.work.Mark.{Mark}
use Rattle.ats_bound.specs.Work.{zero_mark, mark_at}
use Rattle.ats_bound.specs.Cut.{ShownLane, IsMet}
use Rattle.ats_bound.specs.Schedule.{Bounding}
use Rattle.ats_client.specs.Groups.{met_at, IsUnmet}
use Rattle.ats_client.specs.Marked.{IsMark, AreMarks, AreNoted}
use Rattle.ats_client.proofs.Marks.{or_none}

-- a mark with a list is that of a document that some entry names
pub is_met : (bounds : Bounding) (lanes : List ShownLane) (met : List ℕ) (marks : List Mark) (i : ℕ) → AreMarks bounds lanes met marks → i < length met
    → 1 ≤ (mark_at marks i).list → IsMet lanes (met_at met i)
is_met bounds lanes met marks i are inside some =
    let yes : nat_lt 0 (mark_at marks i).list ≡ true = grind (arith, nat_tests) in
    sym (are.each i inside).named ∙ yes

-- the first mark with no list is that of the first document that no entry names
pub unmet_at : (bounds : Bounding) (lanes : List ShownLane) (met : List ℕ) (marks : List Mark) (i : ℕ) → AreMarks bounds lanes met marks → i < length met
    → (mark_at marks i).list ≡ 0 → ((k : ℕ) → k < i → 1 ≤ (mark_at marks k).list) → IsUnmet lanes met i
unmet_at bounds lanes met marks i are inside none before = record {
  inside = inside;
  unmet = λ seen.
      let no : nat_lt 0 (mark_at marks i).list ≡ false = grind (arith, nat_tests) in
      let clash : true ≡ false = sym seen ∙ (sym (are.each i inside).named ∙ no) in
      absurd (cc);
  before = λ k less. is_met bounds lanes met marks k are (omega (arith, less)) (before k less);
}

-- ---- the rows

-- a row that is noted in the mark of its document
pub noted_more : (rows : List ℕ) (k index : ℕ) (marks : List Mark) (mark : Mark) → slice_get rows k ≡ Some index → k < length rows
    → AreNoted (take k rows) marks → index < length marks → mark.row ≡ true → AreNoted (take (k + 1) rows) (set marks index mark)
noted_more rows k index marks mark is inside noted low marked i in_marks =
    let here : get_or rows k 0 ≡ index = get_or_from_slice_get rows k index 0 is in
    let more : list_any (λ x. nat_eq x i) (take (k + 1) rows) ≡ (list_any (λ x. nat_eq x i) (take k rows) || nat_eq index i) =
    list_any_more (λ x. nat_eq x i) rows k 0 inside ∙ ap (λ x. list_any (λ x. nat_eq x i) (take k rows) || nat_eq x i) here in
    elim (cases_order i index) [
      | inl same ↦
          let seen : nat_eq index i ≡ true = grind (arith, nat_tests) in
          let there : mark_at (set marks index mark) i ≡ mark = ap (mark_at (set marks index mark)) same ∙ get_or-set_same marks index mark zero_mark low in
          ap (λ (m : Mark). m.row) there ∙ (marked ∙ sym (more ∙ or_right (list_any (λ x. nat_eq x i) (take k rows)) (nat_eq index i) seen))
      | inr other ↦
          let apart : i ≢ index = λ same. elim other [ inl less ↦ omega (arith, less, same) | inr greater ↦ omega (arith, greater, same) ] in
          let unseen : nat_eq index i ≡ false = elim other [ inl less ↦ grind (arith, nat_tests, less) | inr greater ↦ grind (arith, nat_tests, greater) ] in
          let there : mark_at (set marks index mark) i ≡ mark_at marks i = get_or-set_other marks index i mark zero_mark apart in
          let before : i < length marks = omega (arith, in_marks, length-set marks index mark) in
          ap (λ (m : Mark). m.row) there
          ∙ (noted i before ∙ sym (more ∙ or_none (list_any (λ x. nat_eq x i) (take k rows)) (nat_eq index i) unseen))
    ]

-- a note of a row changes nothing that a mark says of its document
pub marks_kept : (bounds : Bounding) (lanes : List ShownLane) (met : List ℕ) (marks : List Mark) (index : ℕ) (noted : Bool) → AreMarks bounds lanes met marks → index < length marks
    → AreMarks bounds lanes met (set marks index (record { lo = (mark_at marks index).lo; held = (mark_at marks index).held; list = (mark_at marks index).list; row = noted }))
marks_kept bounds lanes met marks index noted are low =
    let old : Mark = mark_at marks index in
    let new : Mark = record { lo = old.lo; held = old.held; list = old.list; row = noted } in
    record {
      size = length-set marks index new ∙ are.size;
      each = λ i inside. elim (cases_order i index) [
        | inl same ↦
            let there : mark_at (set marks index new) i ≡ new = ap (mark_at (set marks index new)) same ∙ get_or-set_same marks index new zero_mark low in
            let was : IsMark bounds lanes (met_at met i) old = rw (sym same) (are.each i inside) in
            let is : IsMark bounds lanes (met_at met i) new = record { least = was.least; within = was.within; most = was.most; named = was.named; small = was.small } in
            rw there is
        | inr other ↦
            let apart : i ≢ index = λ same. elim other [ inl less ↦ omega (arith, less, same) | inr greater ↦ omega (arith, greater, same) ] in
            rw (get_or-set_other marks index i new zero_mark apart) (are.each i inside)
      ];
    }
