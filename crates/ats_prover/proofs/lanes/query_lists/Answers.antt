use Rattle.std.proofs.Common.{◌≡◌, ◌-◌, ◌*◌, ◌<◌, ◌≤◌, ◌++◌, ℕ, suc, List, [], ◌∷◌, length, map, get_or, subst, sym, ap, ap₂, ◌∙◌, arith, take_all, Bor}
use Rattle.ats_lists.specs.KeptList.{kept_list}
use Rattle.ats_lists.specs.declared.list_keeping.ListDigests.{ListDigests}
use Rattle.ats_postings.specs.Lists.{lists_of}
use Rattle.ats_impact.specs.Numbers.{idf}
use Rattle.ats_postings.specs.declared.entry.Entry.{Entry}
use Rattle.ats_dict.specs.declared.spot.Spot.{Spot}
use Rattle.ats_dict.specs.declared.spot.Spot.TheVariants.{At}
use Rattle.ats_dict.specs.Found.{IsSpot, StandsAt}
use Rattle.ats_commit.specs.Archive.{Archive}
use Rattle.ats_commit.specs.Trees.{dictionary_of}
use Rattle.ats_bound.specs.Schedule.{WholeLane, whole_lane, whole_lanes}
use Rattle.ats_honest.specs.Terms.{AreSpots}
use Rattle.ats_honest.proofs.Public.{spot_at, spot_each, absent_term, lane_at, lane_none, lanes_are_whole, lists_within, standing_term}
use Rattle.std.proofs.lemmas.List.{map-append}
use Rattle.ats_prover.proofs.lanes.query_lists.Goals as goal
use Rattle.ats_prover.proofs.lanes.query_lists.Goals.{in-At+in_ok-push-in-At+in_ok-push-in-At-2, in-Between}

pub bounds : goal.bounds
bounds g c = omega (arith, spot_each (dictionary_of g.H.HashKind.hash c.args.index.now) c.args.query.now c.args.spots.now c.requires, c.loop-i-test.true, c.len-i-end.ensures.value)

pub bounds-spots-i : goal.bounds-spots-i
bounds-spots-i g c = omega (arith, spot_each (dictionary_of g.H.HashKind.hash c.args.index.now) c.args.query.now c.args.spots.now c.requires, c.loop-i-test.true, c.len-i-end.ensures.value)

-- the term at a leaf, and the list before the leaf's position
listed_at : (H : List ℕ → List ℕ) (archive : Archive) (query : List (List ℕ × ℕ)) (spots : List Spot) (i p : ℕ) (d : Spot) → AreSpots (dictionary_of H archive) query spots
    → i < length query → get_or spots i d ≡ At p → StandsAt (dictionary_of H archive) (get_or query i ([], 0)).0 p × (p - 1 < length (lists_of archive.texts))
listed_at H archive query spots i p d are inside is =
    let entries = dictionary_of H archive in
    let term = (get_or query i ([], 0)).0 in
    let stands : StandsAt entries term p = subst (IsSpot entries term) is (spot_at entries query spots i ([], 0) d are inside) in
    let next : p ≡ suc (p - 1) = omega (arith, stands.some) in
    (stands, (standing_term H archive term (p - 1) ([], []) (subst (StandsAt entries term) next stands)).0)

pub overflow_sub-p : goal.overflow_sub-p
overflow_sub-p g c =
    (listed_at g.H.HashKind.hash c.args.index.now c.args.query.now c.args.spots.now c.loop-i.i c.in-At.p _ c.requires (omega (arith, c.loop-i-test.true, c.len-i-end.ensures.value)) c.in-At.is).0.some

pub overflow_sub-p-in-At : goal.overflow_sub-p-in-At
overflow_sub-p-in-At g c =
    (listed_at g.H.HashKind.hash c.args.index.now c.args.query.now c.args.spots.now c.loop-i.i c.in-At.p _ c.requires (omega (arith, c.loop-i-test.true, c.len-i-end.ensures.value)) c.in-At.is).0.some

pub list-requires : goal.list-requires
list-requires g c =
    let inside = listed_at g.H.HashKind.hash c.args.index.now c.args.query.now c.args.spots.now c.loop-i.i c.in-At.p _ c.requires (omega (arith, c.loop-i-test.true, c.len-i-end.ensures.value)) c.in-At.is in
    omega (arith, inside.1, ap (λ (ls : List (List ℕ × List Entry)). length ls) c.lists-lists.ensures)

pub list_digests-requires : goal.list_digests-requires
list_digests-requires g c =
    (listed_at g.H.HashKind.hash c.args.index.now c.args.query.now c.args.spots.now c.loop-i.i c.in-At.p _ c.requires (omega (arith, c.loop-i-test.true, c.len-i-end.ensures.value)) c.in-At.is).1

pub loop-i-preserved : goal.loop-i-preserved
loop-i-preserved g c =
    let H = g.H.HashKind.hash in
    let archive = c.args.index.now in
    let query = c.args.query.now in
    let entries = dictionary_of H archive in
    let i = c.loop-i.i in
    let term = (get_or query i ([], 0)).0 in
    let inside : i < length query = omega (arith, c.loop-i-test.true, c.len-i-end.ensures.value) in
    let spot = spot_at entries query c.args.spots.now i ([], 0) _ c.requires inside in
    let own : Bor ListDigests → ListDigests = λ n. n.now in
    let made : WholeLane → ListDigests = λ (l : WholeLane). kept_list H archive.format l.entries in
    elim c.match-spots-i.branch [
      | in-At+in_ok-push-in-At+in_ok-push-in-At-2 w ↦
          let is = subst (IsSpot entries term) w.in-At.is spot in
          let p : w.in-At.p ≡ suc (w.in-At.p - 1) = omega (arith, is.some) in
          let lane = whole_lane w.lane.result in
          let entries_are : lane.entries ≡ (get_or (lists_of archive.texts) (w.in-At.p - 1) ([], [])).1 =
          w.lane.ensures.entries ∙ w.list.ensures.value ([], []) ∙ ap (λ (ls : List (List ℕ × List Entry)). (get_or ls (w.in-At.p - 1) ([], [])).1) c.lists-lists.ensures in
          let at = lane_at H archive query i (w.in-At.p - 1) c.documents-documents.result w.weight.result lane inside (subst (StandsAt entries term) p is) entries_are
          (subst (λ (es : List Entry). 1 ≤ length es) (sym w.lane.ensures.entries) w.list.ensures.list.some)
          (c.documents-documents.ensures.value ∙ ap (λ (ts : List (List ℕ)). length ts) c.collection.ensures.same) (w.weight.ensures.value ([], 0))
          (w.lane.ensures.coefficient ∙ ap (λ (es : List Entry). w.weight.result * idf c.documents-documents.result (length es)) (sym w.lane.ensures.entries)) in
          let more : whole_lanes c.match-spots-i.lanes.items ≡ whole_lanes c.loop-i.lanes.items ++ lane ∷ [] =
          ap (λ v. map whole_lane v.items) w.lanes-is ∙ ap (map whole_lane) w.in_ok-push-in-At.ensures.items ∙ map-append whole_lane c.loop-i.lanes.items (w.lane.result ∷ []) in
          let digests : w.list_digests.result.now ≡ made lane = w.list_digests.ensures ([], []) ∙ ap (λ (es : List Entry). kept_list H archive.format es) (sym entries_are) in
          record {
            lanes = more ∙ ap (λ (ls : List WholeLane). ls ++ lane ∷ []) c.loop-i.invariant.lanes ∙ sym at.more;
            digests = ap (λ v. map own v.items) w.digests-is ∙ ap (map own) w.in_ok-push-in-At-2.ensures.items ∙ map-append own c.loop-i.digests.items (w.list_digests.result ∷ [])
                ∙ ap₂ (λ (front : List ListDigests) (d : ListDigests). front ++ d ∷ []) c.loop-i.invariant.digests digests
                ∙ sym (map-append made (whole_lanes c.loop-i.lanes.items) (lane ∷ [])) ∙ sym (ap (map made) more);
          }
      | in-Between w ↦
          let is = subst (IsSpot entries term) w.in-Between.is spot in
          let same : whole_lanes c.match-spots-i.lanes.items ≡ whole_lanes c.loop-i.lanes.items = ap (λ v. map whole_lane v.items) w.lanes-is in
          let none = absent_term H archive term w.in-Between.field-0 is in record {
            lanes = same ∙ c.loop-i.invariant.lanes ∙ sym (lane_none archive.texts query i ([], 0) inside none);
            digests = ap (λ v. map own v.items) w.digests-is ∙ c.loop-i.invariant.digests ∙ sym (ap (map made) same);
          }
    ]

pub returns-clause-lanes : goal.returns-clause-lanes
returns-clause-lanes g c = rw (take_all c.loop-i.i c.args.query.now (omega (arith, c.loop-i-test.false, c.len-i-end.ensures.value))) at c.loop-i.invariant.lanes

pub returns-clause-whole : goal.returns-clause-whole
returns-clause-whole g c = lanes_are_whole c.args.index.now.texts c.args.query.now c.collection.ensures.texts.within.few c.len-i-end.ensures.query

pub returns-clause-lists : goal.returns-clause-lists
returns-clause-lists g c = lists_within c.args.index.now.texts c.args.query.now c.collection.ensures.texts.within.few
