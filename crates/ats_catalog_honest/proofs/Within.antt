-- The honest proof of a shard shows its rows within their spans, and nothing else above the floor.
use Rattle.std.proofs.Common.{◌≡◌, ◌<◌, ◌≤◌, ℕ, List, length, get_or, sym, ap, subst, ◌∙◌, arith}
use Rattle.std.proofs.lemmas.List.{length-map, get_or-map}
use Rattle.ats_impact.specs.declared.rank.Row.{Row}
use Rattle.ats_commit.specs.Archive.{Archive}
use Rattle.ats_bound.specs.declared.bracket.Bracket.{Bracket}
use Rattle.ats_bound.specs.Chosen.{IsChosen}
use Rattle.ats_bound.specs.Cut.{ShownLane, threshold}
use Rattle.ats_bound.specs.Floors.{AreWithin, Floors, IsInSpan, IsWithinBy, span_at}
use Rattle.ats_bound.specs.Ranked.{docs_of}
use Rattle.ats_bound.specs.Schedule.{Bounding, WholeLane, shown}
use Rattle.ats_bound.specs.Settled.{IsOutside, bracket_at, row}
use Rattle.ats_bound.proofs.Public.{are_brackets, chosen_are_picks, one_bracketing, one_chosen, risen_are_distinct}
use Rattle.ats_proof.specs.declared.record.Algorithm.{Algorithm}
use Rattle.ats_proof.specs.Value.{Proof}
use Rattle.ats_client.specs.Bounded.{rest_of}
use Rattle.ats_client.specs.Bracketing.{bounds_of}
use Rattle.ats_client.specs.Groups.{brackets_of, met_at}
use Rattle.ats_client.specs.Presented as client
use Rattle.ats_client.specs.Rows.{row_of, rows_of}
use Rattle.ats_client.proofs.Public.{rest_within}
use Rattle.ats_honest.specs.Honest.{IsHonestWithin}
use Rattle.ats_honest.specs.Lanes.{bounding, lanes_of}
use Rattle.ats_honest.proofs.Public.{honest_cut, honest_met}
use Rattle.ats_accepts.proofs.Public.{formed_are, proper, shown_lanes, walk_rows}
use Rattle.ats_catalog_check.specs.Accepts.{shown_of}
use Rattle.ats_catalog_honest.specs.Shares.{IsRowIn, ShowsWithin}

module _ (H : List ℕ → List ℕ) (archive : Archive) (query : List (List ℕ × ℕ)) (floors : Floors) (algorithm : Algorithm) (proof : Proof)
    (honest : IsHonestWithin H archive query floors algorithm proof) where
  abbrev lanes : List WholeLane
  lanes = lanes_of archive.texts query

  abbrev cut_lanes : List ShownLane
  cut_lanes = shown lanes honest.cut

  abbrev by : Bounding
  by = bounding algorithm lanes

  -- its own answer is within the floors, since the chosen one is
  within : AreWithin honest.brackets proof.answer (threshold cut_lanes) floors
  within =
      let is : IsWithinBy by lanes floors honest.cut = honest.first.stops in
      let same : is.brackets ≡ honest.brackets = one_bracketing by cut_lanes is.brackets honest.brackets is.bounded honest.bounds in
      let theirs : IsChosen honest.brackets (length floors.spans) is.answer = subst (λ (bs : List Bracket). IsChosen bs (length floors.spans) is.answer) same is.chosen in
      let answer : is.answer ≡ proof.answer =
      one_chosen honest.brackets (length floors.spans) is.answer proof.answer (risen_are_distinct honest.brackets honest.bounds.rise) theirs honest.answer in
      subst (λ (picks : List ℕ). AreWithin honest.brackets picks (threshold cut_lanes) floors) answer
      (subst (λ (bs : List Bracket). AreWithin bs is.answer (threshold cut_lanes) floors) same is.within)

  abbrev theirs : List Bracket
  theirs = brackets_of (bounds_of proof) (client.lanes_of query proof) proof.met

  same_brackets : theirs ≡ honest.brackets
  same_brackets = formed_are _ _ H archive query algorithm proof honest

  lanes_are : client.lanes_of query proof ≡ cut_lanes
  lanes_are =
      shown_lanes H archive query algorithm honest.cut (docs_of honest.brackets) proof (honest_cut _ _ H archive query algorithm proof honest)
      (honest_met _ _ H archive query algorithm proof honest) honest.shows

  rest_low : rest_of query proof ≤ floors.floor
  rest_low =
      rest_within query proof floors.floor (subst (λ (ls : List ShownLane). threshold ls ≤ floors.floor) (sym lanes_are) within.unmet)
      (subst (λ (bs : List Bracket). (i : ℕ) → IsOutside bs proof.answer i → (bracket_at bs i).hi ≤ floors.floor) (sym same_brackets) within.others)

  abbrev none : Bracket
  none = record { doc = 0; lo = 0; hi = 0 }

  row_is : (k : ℕ) (d : Row) → k < length proof.answer → get_or (rows_of query proof) k d ≡ row_of (row honest.brackets proof.answer k)
  row_is k d low =
      let bounds : ℕ → Bracket = bounds_of proof (client.lanes_of query proof) in
      let index : ℕ = get_or proof.answer k 0 in
      let inside : index < length proof.met = (walk_rows _ _ H archive query algorithm proof honest).inside k 0 low in
      let bracket : bracket_at theirs index ≡ bounds (met_at proof.met index) = get_or-map bounds proof.met index 0 none inside in
      get_or-map (λ (i : ℕ). row_of (bounds (met_at proof.met i))) proof.answer k 0 d low
      ∙ ap row_of (sym bracket ∙ ap (λ (bs : List Bracket). bracket_at bs index) same_brackets)

  row_within : (k : ℕ) (d : Row) → k < length proof.answer → IsRowIn (span_at floors.spans k) (get_or (rows_of query proof) k d)
  row_within k d low =
      let b : Bracket = row honest.brackets proof.answer k in
      let in_span : IsInSpan (span_at floors.spans k) b = within.rows k low in
      let inside : get_or proof.answer k 0 < length honest.brackets = chosen_are_picks honest.brackets (length floors.spans) proof.answer honest.answer k 0 low in
      let is : IsRowIn (span_at floors.spans k) (row_of b) = record {
        proper = are_brackets by cut_lanes honest.brackets (proper algorithm lanes cut_lanes) honest.bounds (get_or proof.answer k 0) none inside;
        least = in_span.least;
        most = in_span.most;
      } in
      subst (IsRowIn (span_at floors.spans k)) (sym (row_is k d low)) is

  pub shows_within : ShowsWithin floors (shown_of query proof)
  shows_within =
      let size : length (rows_of query proof) ≡ length proof.answer =
      length-map proof.answer (λ (i : ℕ). row_of (bounds_of proof (client.lanes_of query proof) (met_at proof.met i))) in
      record {
        many = size ∙ within.many;
        rows = λ k d low. row_within k d (omega (arith, low, size));
        rest = rest_low;
      }
