-- By TRA a shard need only know how many rows it is asked for, and the last edge.
use Rattle.std.proofs.Common.{◌≡◌, ◌<◌, ◌≤◌, ◌∙◌, ◌↔◌, ℕ, List, [], length, get_or, sym, refl, subst, arith}
use Rattle.std.proofs.lemmas.List.{get_or-replicate, length-map, length-replicate}
use Rattle.ats_terms.specs.Query.{IsQuery}
use Rattle.ats_commit.specs.Archive.{Archive, archive_of}
use Rattle.ats_bound.specs.Chosen.{IsChosen}
use Rattle.ats_bound.specs.declared.span.Span.{Span}
use Rattle.ats_bound.specs.Floors.{Floors, IsInSpan, IsWithinBy, floors_of_share, span_at}
use Rattle.ats_bound.specs.Schedule.{Bounding, IsCut, IsFirstCut, IsScheduled, WholeLane}
use Rattle.ats_bound.specs.Settled.{row}
use Rattle.ats_bound.proofs.Public.{chosen_are_picks, have_entries, scheduled_is_cut}
use Rattle.ats_proof.specs.declared.record.Algorithm.{Algorithm}
use Rattle.ats_proof.specs.declared.record.Algorithm.TheVariants.{Tra}
use Rattle.ats_proof.specs.Value.{Proof}
use Rattle.ats_honest.specs.Honest.{IsHonestWithin}
use Rattle.ats_honest.specs.Lanes.{bounding, lanes_of}
use Rattle.ats_honest.proofs.Public.{lanes_are_whole}
use Rattle.ats_catalog_bytes.specs.Catalog.{IsCatalog, archive_at}
use Rattle.ats_catalog_check.specs.Headline.{score_in, size_in}
use Rattle.ats_catalog_honest.specs.Ranking.{IsRankedBy, Ranked, shares_of}
use Rattle.ats_catalog_honest.specs.Shares.{Shares, floors_of, rows_from, share_of, span_of}
use Rattle.ats_catalog_honest.proofs.Exact.{exact_scores, scores_fit}
use Rattle.ats_catalog_honest.proofs.Exists.{ranking_fits}
use Rattle.ats_catalog_honest.proofs.Reached.{rows_in_spans, span_floor}

-- a walk that stops at the same cuts has the same honest proofs
module _ (lanes : List WholeLane) (A B : List ℕ → Type 0) (is_cut : (n : ℕ) (cut : List ℕ) → IsScheduled lanes n cut → IsCut lanes cut)
    (forth : (cut : List ℕ) → IsCut lanes cut → A cut → B cut) (back : (cut : List ℕ) → IsCut lanes cut → B cut → A cut) where
  pub first_moved : (cut : List ℕ) → IsFirstCut A lanes cut → IsFirstCut B lanes cut
  first_moved cut is = record {
    turns = is.turns;
    scheduled = is.scheduled;
    stops = forth cut (is_cut is.turns cut is.scheduled) is.stops;
    first = λ n earlier less scheduled stops. is.first n earlier less scheduled (back earlier (is_cut n earlier scheduled) stops);
  }

module _ (H : List ℕ → List ℕ) (catalog : List Archive) (query : List (List ℕ × ℕ)) (r : ℕ) (by : ℕ → Algorithm) (is : IsCatalog catalog) (asked : IsQuery query)
    (all : List Ranked) (ranked : IsRankedBy (size_in catalog) (score_in catalog query) all) (shard : ℕ) (low : shard < length catalog) where
  abbrev texts : List (List ℕ)
  texts = (archive_at catalog shard).texts

  abbrev lanes : List WholeLane
  lanes = lanes_of texts query

  abbrev bounds : Bounding
  bounds = bounding Tra lanes

  abbrev shares : Shares
  shares = shares_of by r all

  abbrev edged : Floors
  edged = floors_of shares shard

  abbrev plain : Floors
  plain = floors_of_share (share_of shares shard)

  abbrev rows : ℕ
  rows = length (rows_from shard 0 shares.owners)

  few : length texts ≤ 65536
  few = (is.texts shard (archive_of []) low).within.few

  edged_size : length edged.spans ≡ rows
  edged_size = length-map (rows_from shard 0 shares.owners) (span_of shares.edges)

  sizes : length edged.spans ≡ length plain.spans
  sizes = edged_size ∙ sym (length-replicate rows (record { lower = plain.floor; upper = 0xffff_ffff_ffff_ffff }))

  plain_at : (k : ℕ) → k < rows → span_at plain.spans k ≡ record { lower = plain.floor; upper = 0xffff_ffff_ffff_ffff }
  plain_at k inside = get_or-replicate rows k (record { lower = plain.floor; upper = 0xffff_ffff_ffff_ffff }) (record { lower = 0; upper = 0 }) inside

  module _ (cut : List ℕ) (is_cut : IsCut lanes cut) where
    to_plain : IsWithinBy bounds lanes edged cut → IsWithinBy bounds lanes plain cut
    to_plain w =
        let exact = exact_scores texts query few asked cut is_cut w.brackets w.bounded in
        record {
          brackets = w.brackets;
          bounded = w.bounded;
          answer = w.answer;
          chosen = subst (λ (n : ℕ). IsChosen w.brackets n w.answer) sizes w.chosen;
          within = record {
            many = w.within.many ∙ sizes;
            rows = λ k inside.
                let here : k < length edged.spans = omega (arith, inside, w.within.many) in
                let in_span : IsInSpan (span_at edged.spans k) (row w.brackets w.answer k) = w.within.rows k inside in
                let over = span_floor (size_in catalog) (score_in catalog query) all ranked shard _ w.brackets exact (length edged.spans) w.answer w.chosen by r
                (ranking_fits catalog query is asked all ranked) refl k here in
                let one = exact.each (get_or w.answer k 0) (chosen_are_picks w.brackets (length edged.spans) w.answer w.chosen k 0 inside) in
                let fits = scores_fit texts query few asked (row w.brackets w.answer k).doc one.inside in
                subst (λ (s : Span). IsInSpan s (row w.brackets w.answer k)) (sym (plain_at k (omega (arith, here, edged_size))))
                (record { least = omega (arith, over, in_span.least); most = omega (arith, one.even, one.score, fits) });
            others = w.within.others;
            unmet = w.within.unmet;
          };
        }

    to_edged : IsWithinBy bounds lanes plain cut → IsWithinBy bounds lanes edged cut
    to_edged w =
        let exact = exact_scores texts query few asked cut is_cut w.brackets w.bounded in
        let chosen : IsChosen w.brackets (length edged.spans) w.answer = subst (λ (n : ℕ). IsChosen w.brackets n w.answer) (sym sizes) w.chosen in
        let many : length w.answer ≡ length edged.spans = w.within.many ∙ sym sizes in
        record {
          brackets = w.brackets;
          bounded = w.bounded;
          answer = w.answer;
          chosen = chosen;
          within = record {
            many = many;
            rows = rows_in_spans (size_in catalog) (score_in catalog query) all ranked shard _ w.brackets exact (length edged.spans) w.answer chosen by r
                (ranking_fits catalog query is asked all ranked) refl w.within.unmet many
                (λ k inside.
                let in_span : IsInSpan (record { lower = plain.floor; upper = 0xffff_ffff_ffff_ffff }) (row w.brackets w.answer k) =
                subst (λ (s : Span). IsInSpan s (row w.brackets w.answer k)) (plain_at k (omega (arith, inside, many, edged_size))) (w.within.rows k inside) in
                in_span.least);
            others = w.within.others;
            unmet = w.within.unmet;
          };
        }

  scheduled_cut : (n : ℕ) (cut : List ℕ) → IsScheduled lanes n cut → IsCut lanes cut
  scheduled_cut n cut scheduled = scheduled_is_cut lanes n cut (have_entries lanes (lanes_are_whole texts query few asked)) scheduled

  pub same_proofs : (proof : Proof) → IsHonestWithin H (archive_at catalog shard) query edged Tra proof ↔ IsHonestWithin H (archive_at catalog shard) query plain Tra proof
  same_proofs proof = (
    λ honest. record {
      cut = honest.cut;
      first = first_moved lanes (IsWithinBy bounds lanes edged) (IsWithinBy bounds lanes plain) scheduled_cut to_plain to_edged honest.cut honest.first;
      brackets = honest.brackets;
      bounds = honest.bounds;
      shows = honest.shows;
      answer = subst (λ (n : ℕ). IsChosen honest.brackets n proof.answer) sizes honest.answer;
    },
    λ honest. record {
      cut = honest.cut;
      first = first_moved lanes (IsWithinBy bounds lanes plain) (IsWithinBy bounds lanes edged) scheduled_cut to_edged to_plain honest.cut honest.first;
      brackets = honest.brackets;
      bounds = honest.bounds;
      shows = honest.shows;
      answer = subst (λ (n : ℕ). IsChosen honest.brackets n proof.answer) (sym sizes) honest.answer;
    },
  )
