use Rattle.std.proofs.Common.{◌≡◌, ◌<◌, ◌^◌, map, take}
use Rattle.std.specs.List.{All, range_with_len}
use Rattle.ats_bound.specs.Inner.Placed.{IsPlaced}
use Rattle.ats_bound.proofs.choosing.with_places.Given as goal

abbrev pub invariant-loop-place : goal.invariant-loop-place
invariant-loop-place l = record {
  places : map (λ p. p.place) l.all.items ≡ range_with_len 0 l.place;
  brackets : All (IsPlaced l.brackets) l.all.items;
  read : All (λ b. b.doc < 2 ^ 32) (take l.place l.brackets);
}
