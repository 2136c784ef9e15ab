-- The prefixes of lists, appended one by one.
use Rattle.std.proofs.Common.{◌≡◌, ◌+◌, ◌<◌, ◌≤◌, ◌++◌, ℕ, List, [], length, map, take, get_or, refl, sym, ap, ◌∙◌, arith, Bor}
use Rattle.std.specs.List.{concat, flat_map}
use Rattle.ats_tree.proofs.Public.{length-kept}
use Rattle.ats_lists.specs.KeptList.{kept_list, entries_of}
use Rattle.ats_lists.specs.Leaf.{leaf_bytes}
use Rattle.ats_postings.specs.declared.entry.Entry.{Entry}
use Rattle.ats_lists.specs.declared.format.Format.{Format}
use Rattle.ats_lists.specs.declared.format.Format.TheVariants.{One, Two}
use Rattle.ats_lists.specs.declared.list_keeping.ListDigests.{ListDigests}
use Rattle.ats_bound.specs.Schedule.{WholeLane, whole_lane, whole_lanes}
use Rattle.ats_bound.specs.declared.lane.Lane.{Lane}
use Rattle.ats_proof.specs.Written.{Written}
use Rattle.std.proofs.lemmas.List.{length-map, get_or-map}
use Rattle.ats_prover.specs.Inner.Nodes.{list_digests}
use Rattle.ats_prover.specs.Inner.Writing.{put}
use Rattle.ats_prover.proofs.Putting.{put_more}
use Rattle.ats_proof.specs.Value.{Prefix, prefix_fields}
use Rattle.ats_honest.specs.Honest.{prefix_of, prefixes}
use Rattle.ats_honest.proofs.Public.{prefix_at, prefix_each}

-- one prefix more
pub prefix_more : (H : List ℕ → List ℕ) (format : Format) (met : List ℕ) (w : Written) (front : List (List ℕ)) (lanes : List Lane) (cut : List ℕ) (i : ℕ) (d : Lane) (old new : Written)
    → length cut ≡ length (whole_lanes lanes) → i < length lanes → old ≡ put w (front ++ flat_map prefix_fields (take i (prefixes H format met (whole_lanes lanes) cut)))
    → new ≡ put old (prefix_fields (prefix_of H format met (get_or lanes i d).entries.now (get_or cut i 0)))
    → new ≡ put w (front ++ flat_map prefix_fields (take (i + 1) (prefixes H format met (whole_lanes lanes) cut)))
prefix_more H format met w front lanes cut i d old new same inside before next =
    let none : WholeLane = record { coefficient = 0; entries = [] } in
    let e : Prefix = record { entries = []; digests = [] } in
    let x = prefix_of H format met (get_or lanes i d).entries.now (get_or cut i 0) in
    let size = length-map lanes whole_lane in
    let at = prefix_at H format met (whole_lanes lanes) cut i e none same (omega (arith, inside, size)) in
    next ∙ ap (λ (v : Written). put v (prefix_fields x)) before
    ∙ put_more prefix_fields w front (prefixes H format met (whole_lanes lanes) cut) i x e (concat (prefix_fields x)) (omega (arith, inside, size, prefix_each H format met (whole_lanes lanes) cut same))
    (ap (λ (l : WholeLane). prefix_of H format met l.entries (get_or cut i 0)) (sym (get_or-map whole_lane lanes i d none inside)) ∙ sym at) refl

-- ---- the digests that are lent for each lane

-- digests that are kept of a list have as many entries
pub kept_entries : (H : List ℕ → List ℕ) (format : Format) (entries : List Entry) → 1 ≤ length entries → entries_of (kept_list H format entries) ≡ length entries
kept_entries H One entries some =
    let leaves : List (List ℕ) = map leaf_bytes entries in
    let size : length leaves ≡ length entries = length-map entries leaf_bytes in
    omega (arith, length-kept H leaves (omega arith), size)
kept_entries H Two entries some = length-map entries leaf_bytes

pub lent_each : (H : List ℕ → List ℕ) (format : Format) (lanes : List Lane) (kept : List (Bor ListDigests))
    → map (λ (n : Bor ListDigests). n.now) kept ≡ list_digests H format (whole_lanes lanes) → length kept ≡ length lanes
lent_each H format lanes kept are =
    omega (
      arith,
      ap (λ (ds : List ListDigests). length ds) are,
      length-map kept (λ (n : Bor ListDigests). n.now),
      length-map (whole_lanes lanes) (λ (l : WholeLane). kept_list H format l.entries),
      length-map lanes whole_lane,
    )

pub lent_at : (H : List ℕ → List ℕ) (format : Format) (lanes : List Lane) (kept : List (Bor ListDigests)) (i : ℕ) (d : Lane) (e : Bor ListDigests)
    → map (λ (n : Bor ListDigests). n.now) kept ≡ list_digests H format (whole_lanes lanes) → i < length lanes
    → (get_or kept i e).now ≡ kept_list H format (get_or lanes i d).entries.now
lent_at H format lanes kept i d e are inside =
    let none : WholeLane = record { coefficient = 0; entries = [] } in
    let empty : ListDigests = kept_list H format [] in
    let made : WholeLane → ListDigests = λ (l : WholeLane). kept_list H format l.entries in
    sym (get_or-map (λ (n : Bor ListDigests). n.now) kept i e empty (omega (arith, inside, lent_each H format lanes kept are)))
    ∙ ap (λ (ds : List ListDigests). get_or ds i empty) are
    ∙ get_or-map made (whole_lanes lanes) i none empty (omega (arith, inside, length-map lanes whole_lane))
    ∙ ap made (get_or-map whole_lane lanes i d none inside)
