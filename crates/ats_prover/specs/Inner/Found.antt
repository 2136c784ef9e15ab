-- What an index gives of the terms of a query.
use Rattle.std.specs.Prelude.{◌≡◌, ◌≤◌, ◌^◌, ℕ, List, length}
use Rattle.std.specs.List.{All}
use Rattle.ats_postings.specs.Lists.{IsList}
use Rattle.ats_lists.specs.declared.list_keeping.ListDigests.{ListDigests}
use Rattle.ats_dict.specs.declared.spot.Spot.{Spot}
use Rattle.ats_commit.specs.Archive.{Archive}
use Rattle.ats_commit.specs.Trees.{dictionary_of}
use Rattle.ats_bound.specs.Schedule.{AreWholeLanes, WholeLane}
use Rattle.ats_honest.specs.Terms.{AreSpots}
use Rattle.ats_honest.specs.Inner.Terms.{lower}
use Rattle.ats_honest.specs.Lanes.{lanes_of, present}
use Rattle.ats_prover.specs.Inner.Nodes.{list_digests}

-- the spots of all terms, which have 32 bits; the terms that some text has; and their lists, with the kept digests
pub record AreFound
    (H : List ℕ → List ℕ)
    (archive : Archive)
    (query : List (List ℕ × ℕ))
    (spots : List Spot)
    (terms : List (List ℕ × ℕ))
    (lanes : List WholeLane)
    (digests : List ListDigests)
    : Type 0 where
  pub found : AreSpots (dictionary_of H archive) query spots
  pub few : length spots ≤ 32
  pub low : All (λ spot. lower spot ≤ 2 ^ 24) spots
  pub have_lists : terms ≡ present archive.texts query
  pub own : lanes ≡ lanes_of archive.texts query
  pub kept : digests ≡ list_digests H archive.format lanes
  pub whole : AreWholeLanes lanes
  pub lists : All (λ (lane : WholeLane). IsList 65536 lane.entries) lanes
