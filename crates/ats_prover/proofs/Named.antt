-- The documents that shown entries name, lane by lane.
use Rattle.std.proofs.Common.{◌≡◌, ◌<◌, ◌+◌, ◌++◌, ℕ, List, [], length, map, take, get_or, sym, ap, ◌∙◌, arith, add-one}
use Rattle.std.specs.List.{flat_map}
use Rattle.std.proofs.Math.Seq.{take-suc}
use Rattle.std.proofs.lemmas.List.{flat_map_more}
use Rattle.ats_postings.specs.declared.entry.Entry.{Entry}
use Rattle.ats_bound.specs.declared.lane.Lane.{Lane}
use Rattle.ats_bound.specs.Cut.{ShownLane}
use Rattle.ats_bound.specs.Schedule.{IsCut, shown, whole_lanes}
use Rattle.ats_bound.proofs.Public.{at_lane, cut_size, shown_size}
use Rattle.ats_honest.proofs.Public.{docs_in}

-- the documents of one lane more
pub named_more : (lanes : List Lane) (cut : List ℕ) (i : ℕ) (d : Lane) → IsCut (whole_lanes lanes) cut → i < length lanes
    → flat_map docs_in (take i (shown (whole_lanes lanes) cut)) ++ map (λ (e : Entry). e.doc) (take (get_or cut i 0) (get_or lanes i d).entries.now)
    ≡ flat_map docs_in (take (i + 1) (shown (whole_lanes lanes) cut))
named_more lanes cut i d is inside =
    let xs : List ShownLane = shown (whole_lanes lanes) cut in
    let none : ShownLane = record { coefficient = 0; total = 0; shown = [] } in
    let at = at_lane lanes cut i none d inside (omega (arith, inside, cut_size lanes cut is)) in
    let low : i < length xs = omega (arith, inside, shown_size lanes cut is) in
    let more : flat_map docs_in (take i xs) ++ docs_in (get_or xs i none) ≡ flat_map docs_in (take (i + 1) xs) =
    rw (add-one, take-suc xs i none low) (flat_map_more docs_in [] (take i xs) (get_or xs i none)) in
    ap (λ (lane : ShownLane). flat_map docs_in (take i xs) ++ docs_in lane) (sym at) ∙ more
