use Rattle.std.proofs.Common.{◌≡◌, ◌<◌, ◌≤◌, length, take}
use Rattle.std.specs.List.{All}
use Rattle.ats_honest.specs.Inner.Present.{standing}
use Rattle.ats_prover.specs.Inner.Places.{terms_at}
use Rattle.ats_prover.proofs.present_terms.PresentTerms.of.Given as goal

-- the places of those so far
abbrev pub invariant-loop-i : goal.invariant-loop-i
invariant-loop-i l = record {
  terms : terms_at l.query l.places.items ≡ standing (take l.i l.query) (take l.i l.spots);
  few : length l.places.items ≤ l.i;
  inside : All (λ i. i < length l.query) l.places.items;
}
