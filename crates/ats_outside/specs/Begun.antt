-- What the objects report over calls that report these, with these counts.
use Rattle.std.specs.Prelude.{ℕ, Bool, List, Option, None, option_map}
use Rattle.ats_base.specs.Outside.{Ask, ShelfTold, SinkTold}
use Rattle.ats_base.specs.Links.{Opening, CallerTold, DoorTold}
use Rattle.ats_outside.specs.Calls.{calling_of, with_every_name}

abbrev pub told_shelf : Option (List ℕ → Option (List ℕ)) → Option (List Ask) → (calls faults : ℕ) → Bool → ShelfTold
told_shelf content asked calls faults last_failed = record {
  files = option_map with_every_name content;
  handed_out = None;
  asked = asked;
  calls = calls;
  faults = faults;
  last_failed = last_failed;
}

abbrev pub told_sink : Option (List ℕ) → (calls faults : ℕ) → Bool → SinkTold
told_sink printed calls faults last_failed =
    record { taken = printed; calls = calls; faults = faults; last_failed = last_failed }

abbrev pub told_caller : Option Opening → ℕ → Bool → CallerTold
told_caller told faults last_failed =
    record { content = option_map calling_of told; faults = faults; last_failed = last_failed }

abbrev pub told_door : Option Opening → (is_open : Bool) → (faults broken : ℕ) → Bool → DoorTold
told_door told is_open faults broken last_failed = record {
  content = told;
  is_open = is_open;
  faults = faults;
  broken = broken;
  last_failed = last_failed;
}
