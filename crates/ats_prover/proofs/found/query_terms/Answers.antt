use Rattle.std.proofs.Common.{List, length, subst, sym, ap, ◌∙◌}
use Rattle.std.specs.List.{All}
use Rattle.ats_postings.specs.Lists.{IsList}
use Rattle.ats_dict.specs.Entry.{DictEntry}
use Rattle.ats_dict.specs.declared.spot.Spot.{Spot}
use Rattle.ats_commit.specs.Trees.{dictionary_of}
use Rattle.ats_bound.specs.Schedule.{AreWholeLanes, WholeLane}
use Rattle.ats_honest.specs.Terms.{AreSpots}
use Rattle.ats_honest.specs.Inner.Present.{standing}
use Rattle.ats_honest.proofs.Public.{spot_each, standing_present}
use Rattle.ats_prover.proofs.found.query_terms.Goals as goal

pub of-requires : goal.of-requires
of-requires g c =
    ap (λ (ss : List Spot). length ss) c.deref.ensures.value
    ∙ spot_each c.dictionary.result.now c.args.query.now c.in_ok-spots.spots.items c.in_ok-spots.ensures.spots

pub returns : goal.returns
returns g c =
    let H = g.H.HashKind.hash in
    let query = c.args.query.now in
    let spots = c.in_ok-spots.spots.items in
    let found : AreSpots (dictionary_of H c.args.index.now) query spots = subst (λ (es : List DictEntry). AreSpots es query spots) c.dictionary.ensures c.in_ok-spots.ensures.spots in
    let own = c.in_ok-lists.ensures.lanes in record {
      found = found;
      few = c.in_ok-spots.ensures.few;
      low = c.in_ok-spots.ensures.low;
      have_lists = c.in_ok-present.ensures ∙ ap (standing query) c.deref.ensures.value ∙ standing_present H c.args.index.now query spots found;
      own = own;
      kept = c.in_ok-lists.ensures.digests;
      whole = subst AreWholeLanes (sym own) c.in_ok-lists.ensures.whole;
      lists = subst (All (λ (lane : WholeLane). IsList 65536 lane.entries)) (sym own) c.in_ok-lists.ensures.lists;
    }
