use Rattle.std.proofs.Common.{◌≡◌, ◌<◌, ◌≤◌, ◌||◌, ℕ, List, length, nat_eq, false, take, sym, ap, ap₂, ◌∙◌, arith, take_all}
use Rattle.std.proofs.lemmas.List.{length-map}
use Rattle.std.specs.List.{list_any}
use Rattle.std.specs.Option.{is_some}
use Rattle.ats_bound.specs.Cut.{ShownLane, names}
use Rattle.ats_bound.specs.Schedule.{WholeLane, first_cut, shown, whole_lane, whole_lanes}
use Rattle.ats_bound.specs.Scored.{first_document}
use Rattle.ats_bound.specs.Inner.Scored.{score_in}
use Rattle.ats_bound.proofs.Exactly.{first_apart, first_given, first_more, shown_first_size}
use Rattle.ats_bound.proofs.Shown.{no_lane, whole_at}
use Rattle.ats_bound.proofs.scored.first_met.Goals as goal

pub first_document-requires : goal.first_document-requires
first_document-requires c = (whole_at c.args.lanes.now c.loop-i.i no_lane c.requires.lanes (omega arith)).some

pub loop-i-preserved : goal.loop-i-preserved
loop-i-preserved c =
    let lanes : List WholeLane = whole_lanes c.args.lanes.now in
    let all : List ShownLane = shown lanes (first_cut lanes) in
    let i : ℕ = c.loop-i.i in
    let given_inside : i < length c.args.lanes.now = omega arith in
    let inside : i < length lanes = omega (arith, length-map c.args.lanes.now whole_lane) in
    let doc : c.first_document.result ≡ first_document lanes i = c.first_document.ensures ∙ sym (first_given c.args.lanes.now i given_inside) in
    record {
      rise = c.meet.ensures.rise;
      small = c.meet.ensures.small;
      best = c.meet.ensures.best;
      size = c.meet.ensures.size ∙ c.loop-i.invariant.size;
      met = λ other.
          c.in_ok-meet.ensures.met other ∙ ap₂ (λ d b. nat_eq d other || b) doc (c.loop-i.invariant.met other) ∙ sym (first_more lanes i other c.requires.lanes inside);
      scores = λ given first.
          c.in_ok-meet.ensures.scores given (c.loop-i.invariant.scores given first) (λ unmet.
          let unseen : list_any (names (first_document lanes i)) (take i all) ≡ false =
          sym (c.loop-i.invariant.met (first_document lanes i)) ∙ ap (λ d. is_some (score_in c.loop-i.met.entries d)) (sym doc) ∙ unmet in
          ap given doc ∙ first i inside (first_apart lanes i (first_document lanes i) c.requires.lanes inside unseen));
    }

pub returns-clause-met : goal.returns-clause-met
returns-clause-met c = λ doc.
    let lanes : List WholeLane = whole_lanes c.args.lanes.now in
    let all : List ShownLane = shown lanes (first_cut lanes) in
    let end : length all ≤ c.loop-i.i = omega (arith, shown_first_size lanes, length-map c.args.lanes.now whole_lane) in
    c.loop-i.invariant.met doc ∙ ap (list_any (names doc)) (take_all c.loop-i.i all end)
