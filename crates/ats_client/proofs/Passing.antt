-- The progress of the check of the present terms.
use Rattle.std.proofs.Common.{◌≡◌, ◌<◌, ◌≤◌, ◌+◌, ◌*◌, ◌^◌, ◌++◌, ◌∙◌, ℕ, List, [], ◌∷◌, length, map, drop, replicate, refl, sym, ap, subst, arith, append_assoc}
use Rattle.std.specs.List.{All}
use Rattle.std.specs.List.Sorted.{IsStrictlyIncreasing}
use Rattle.std.proofs.lemmas.List.Elements.{All-append, All-cons, All-nil}
use Rattle.std.proofs.lemmas.List.{append-nil, flat_map_more, get_or-replicate, length-replicate, length-append, map-append}
use Rattle.std.proofs.lemmas.List.Sums.{sum_by-cons, sum_by-append}
use Rattle.std.proofs.Math.ListN.{drop_of_length-le}
use Rattle.ats_bound.specs.declared.work.Mark.{Mark}
use Rattle.ats_bound.specs.Work.{mark_at, zero_mark}
use Rattle.ats_bound.specs.Cut.{rest, threshold as threshold_of, lo_of, held, bracket}
use Rattle.ats_bound.proofs.Public.{held_or_missing}
use Rattle.ats_proof.specs.Value.{Proof, Prefix, present_in}
use Rattle.ats_lists.specs.declared.format.Format.{Format}
use Rattle.ats_client.specs.declared.kept_terms.PresentTerm.{PresentTerm}
use Rattle.ats_client.specs.Inner.KeptTerms.{kept_term, kept_terms}
use Rattle.ats_client.specs.Presented.{Presented, presented, presented_from, lanes_of}
use Rattle.ats_client.specs.Indexes.{AreNames}
use Rattle.ats_client.specs.Groups.{IsListRight, indexes_of, met_at}
use Rattle.ats_client.specs.Marked.{AreMarks, AreNoted}
use Rattle.ats_client.specs.Inner.Noting.{Note, AreNotes, IsNoted, index_lane, lane_notes, notes_of}
use Rattle.ats_client.proofs.Lanes.{gain_all, held_all, has_all, rests_all}
use Rattle.ats_client.proofs.Marks.{notes_turn}

-- the terms below a number are checked, and the notes are of those that are present
pub record IsPassed (H : List ℕ → List ℕ) (query : List (List ℕ × ℕ)) (proof : Proof) (i : ℕ) (left : List Prefix) (terms : List PresentTerm) (threshold : ℕ) (marks : List Mark) : Type 0 where
  pub before : List Presented
  pub stands : presented query proof ≡ before ++ presented_from proof.dict i (drop i query) (drop i proof.slots) left
  pub right : All (IsListRight H proof.format proof.met) before
  pub notes : AreNotes (length proof.met) (notes_of proof.header.documents before) (i + 1) [] marks
  pub rests : threshold ≡ threshold_of (map (index_lane proof.header.documents) before)
  pub enough : present_in (drop i proof.slots) ≡ length left
  pub small : threshold ≤ i * 2 ^ 33
  pub kept : terms ≡ map (kept_term proof.header.documents) before
  pub few : length terms ≤ i

noted_first : (i : ℕ) (mark : Mark) → mark ≡ zero_mark → IsNoted [] 1 [] i mark
noted_first i mark is = subst (λ m. IsNoted [] 1 [] i m) (sym is) (record {
  least = refl;
  held = refl;
  met = refl;
  here = refl;
  early = omega arith;
  small_lower = omega arith;
  small_held = omega arith;
  free = refl;
})

pub begins : (H : List ℕ → List ℕ) (query : List (List ℕ × ℕ)) (proof : Proof) (left : List Prefix) (terms : List PresentTerm) (marks : List Mark) → left ≡ proof.lists
    → present_in proof.slots ≡ length left → marks ≡ replicate (length proof.met) zero_mark → terms ≡ [] → IsPassed H query proof 0 left terms 0 marks
begins H query proof left terms marks all enough zeros none = record {
  before = [];
  stands = ap (λ (l : List Prefix). presented_from proof.dict 0 query proof.slots l) (sym all);
  right = All-nil (IsListRight H proof.format proof.met);
  notes = record {
    size = ap (λ (m : List Mark). length m) zeros ∙ length-replicate (length proof.met) zero_mark;
    each = λ (i : ℕ) (low : i < length proof.met).
        noted_first i (mark_at marks i) (ap (λ (m : List Mark). mark_at m i) zeros ∙ get_or-replicate (length proof.met) i zero_mark zero_mark low);
  };
  rests = refl;
  enough = enough;
  small = omega arith;
  kept = none;
  few = omega (arith, ap (λ (ts : List PresentTerm). length ts) none);
}

pub passes_absent : (H : List ℕ → List ℕ) (query : List (List ℕ × ℕ)) (proof : Proof) (i : ℕ) (left after : List Prefix) (terms : List PresentTerm) (threshold : ℕ) (marks : List Mark)
    → IsPassed H query proof i left terms threshold marks
    → presented_from proof.dict i (drop i query) (drop i proof.slots) left ≡ presented_from proof.dict (i + 1) (drop (i + 1) query) (drop (i + 1) proof.slots) after
    → present_in (drop (i + 1) proof.slots) ≡ length after → IsPassed H query proof (i + 1) after terms threshold marks
passes_absent H query proof i left after terms threshold marks p step enough =
    let small = p.small in
    let few = p.few in
    record {
      before = p.before;
      stands = p.stands ∙ ap (λ (l : List Presented). p.before ++ l) step;
      right = p.right;
      notes = notes_turn (length proof.met) (notes_of proof.header.documents p.before) (i + 1) [] marks p.notes;
      rests = p.rests;
      enough = enough;
      small = omega arith;
      kept = p.kept;
      few = omega (arith, few);
    }

pub passes_present : (H : List ℕ → List ℕ) (query : List (List ℕ × ℕ)) (proof : Proof) (i : ℕ) (left after : List Prefix) (terms terms' : List PresentTerm) (threshold most : ℕ) (one : Presented) (marks next : List Mark)
    → IsPassed H query proof i left terms threshold marks
    → presented_from proof.dict i (drop i query) (drop i proof.slots) left ≡ one ∷ presented_from proof.dict (i + 1) (drop (i + 1) query) (drop (i + 1) proof.slots) after
    → IsListRight H proof.format proof.met one
    → ((notes : List Note) → AreNotes (length proof.met) notes (i + 1) [] marks → AreNotes (length proof.met) (notes ++ lane_notes (index_lane proof.header.documents one)) (i + 2) [] next)
    → most ≡ rest (index_lane proof.header.documents one) → most ≤ 2 ^ 33 → terms' ≡ terms ++ kept_term proof.header.documents one ∷ []
    → present_in (drop (i + 1) proof.slots) ≡ length after → IsPassed H query proof (i + 1) after terms' (threshold + most) next
passes_present H query proof i left after terms terms' threshold most one marks next p step right noted is little more enough =
    let n : ℕ = proof.header.documents in
    let small = p.small in
    let few = p.few in
    let rests = p.rests in
    let number : i + 2 ≡ i + 1 + 1 = omega arith in
    let notes : notes_of n p.before ++ lane_notes (index_lane n one) ≡ notes_of n (p.before ++ one ∷ []) =
    flat_map_more (λ (term : Presented). lane_notes (index_lane n term)) [] p.before one in
    let lanes : threshold_of (map (index_lane n) (p.before ++ one ∷ [])) ≡ threshold_of (map (index_lane n) p.before) + threshold_of (map (index_lane n) (one ∷ [])) =
    ap threshold_of (map-append (index_lane n) p.before (one ∷ [])) ∙ sum_by-append rest (map (index_lane n) p.before) (map (index_lane n) (one ∷ [])) in
    let last : threshold_of (map (index_lane n) (one ∷ [])) ≡ rest (index_lane n one) + 0 = sum_by-cons rest (index_lane n one) [] in
    record {
      before = p.before ++ one ∷ [];
      stands = p.stands ∙ ap (λ (l : List Presented). p.before ++ l) step ∙ sym (append_assoc p.before (one ∷ []) _);
      right = All-append (IsListRight H proof.format proof.met) p.before (one ∷ []) p.right (All-cons (IsListRight H proof.format proof.met) one [] right (All-nil (IsListRight H proof.format proof.met)));
      notes = subst (λ k. AreNotes (length proof.met) (notes_of n (p.before ++ one ∷ [])) k [] next) number
          (subst (λ m. AreNotes (length proof.met) m (i + 2) [] next) notes (noted (notes_of n p.before) p.notes));
      rests = omega (arith, rests, is, lanes, last);
      enough = enough;
      small = omega arith;
      kept = more ∙ ap (λ (ts : List PresentTerm). ts ++ kept_term n one ∷ []) p.kept ∙ sym (map-append (kept_term n) p.before (one ∷ []));
      few = omega (arith, few, ap (λ (ts : List PresentTerm). length ts) more, length-append terms (kept_term n one ∷ []));
    }

-- ---- all terms are checked

named_of : (H : List ℕ → List ℕ) (format : Format) (met : List ℕ) (terms : List Presented) → All (IsListRight H format met) terms → All (λ (one : Presented). AreNames (length met) (indexes_of one.prefix.entries)) terms
named_of H format met terms all k d low = (all k d low).names

module _ (H : List ℕ → List ℕ) (query : List (List ℕ × ℕ)) (proof : Proof) (i : ℕ) (left : List Prefix) (terms : List PresentTerm) (threshold : ℕ) (marks : List Mark)
    (p : IsPassed H query proof i left terms threshold marks) (all : length query ≤ i) (few : i ≤ 32) where
  abbrev n : ℕ
  n = proof.header.documents

  ones_are : presented query proof ≡ p.before
  ones_are =
      p.stands ∙ ap (λ (q : List (List ℕ × ℕ)). p.before ++ presented_from proof.dict i q (drop i proof.slots) left) (drop_of_length-le query all) ∙ append-nil p.before

  pub right_done : All (IsListRight H proof.format proof.met) (presented query proof)
  right_done = subst (λ l. All (IsListRight H proof.format proof.met) l) (sym ones_are) p.right

  pub kept_done : terms ≡ kept_terms query proof
  kept_done = p.kept ∙ ap (map (kept_term n)) (sym ones_are)

  pub rests_done : threshold ≡ threshold_of (lanes_of query proof)
  rests_done = p.rests ∙ ap (λ l. threshold_of (map (index_lane n) l)) (sym ones_are) ∙ rests_all n proof.met (presented query proof)

  -- what the marks then say
  notes : AreNotes (length proof.met) (notes_of n (presented query proof)) (i + 1) [] marks
  notes = subst (λ l. AreNotes (length proof.met) (notes_of n l) (i + 1) [] marks) (sym ones_are) p.notes

  pub free_done : AreNoted [] marks
  free_done k low = let size = notes.size in (notes.each k (omega (arith, low, size))).free

  pub marks_done : IsStrictlyIncreasing proof.met → AreMarks bracket (lanes_of query proof) proof.met marks
  marks_done rises =
      let ones : List Presented = presented query proof in
      let names = named_of H proof.format proof.met ones right_done in
      record {
        size = notes.size;
        each = λ (k : ℕ) (low : k < length proof.met).
            let is = notes.each k low in
            let lo = is.small_lower in
            let early = is.early in
            let doc : ℕ = met_at proof.met k in
            let least : (mark_at marks k).lo ≡ lo_of (lanes_of query proof) doc = is.least ∙ gain_all n proof.met rises k low ones names in
            let held_is : (mark_at marks k).held ≡ held (lanes_of query proof) doc = is.held ∙ held_all n proof.met rises k low ones names in
            record {
              least = least;
              within = omega (arith, held_is, held_or_missing (lanes_of query proof) doc);
              most = omega (arith, least, held_is, held_or_missing (lanes_of query proof) doc);
              named = is.met ∙ has_all n proof.met rises k low ones names;
              small = omega (arith, lo, early, few);
            };
      }
