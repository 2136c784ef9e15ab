-- A plan that avoids a stop does not stop so.
use Rattle.std.proofs.Common.{◌≢◌, inl, inr}
use Rattle.ats_base.specs.Outside.{ShelfTold}
use Rattle.ats_plan.specs.Inner.Avoids.{Avoids}
use Rattle.ats_plan.specs.Files.{Files}
use Rattle.ats_plan.specs.Plan.{Plan, Finishes, Stores, Fails, Tries, Gets, Makes, Reads, Refuses}
use Rattle.ats_plan.specs.Runs.{Stops}
use Rattle.ats_plan.proofs.Causes.{Cause, Refused, Wanted, Broken, stop_cause}

module _ {F : Type 0} (stop shelf : F) (other : stop ≢ shelf) where
  -- its files do not refuse it so, unless this is the stop for a file that is missing
  refused_otherwise : (files : Files) (plan : Plan F) → Avoids stop plan → Refuses shelf files plan stop → ⊥
  refused_otherwise files (Finishes says) avoids refused = refused
  refused_otherwise files (Stores name bytes says) avoids refused = refused
  refused_otherwise files (Fails fault) avoids refused = avoids refused
  refused_otherwise files (Tries holds fault rest) avoids (inl here) = avoids.0 here
  refused_otherwise files (Tries holds fault rest) avoids (inr (is, later)) = refused_otherwise files rest avoids.1 later
  refused_otherwise files (Gets A is fault rest) avoids (inl here) = avoids.0 here
  refused_otherwise files (Gets A is fault rest) avoids (inr (a, holds, later)) = refused_otherwise files (rest a) (avoids.1 a) later
  refused_otherwise files (Makes A is rest) avoids (a, holds, later) = refused_otherwise files (rest a) (avoids a) later
  refused_otherwise files (Reads name limit long rest) avoids (inl missing) = other missing.0
  refused_otherwise files (Reads name limit long rest) avoids (inr (inl (longer, later))) = refused_otherwise files long avoids.0 later
  refused_otherwise files (Reads name limit long rest) avoids (inr (inr (bytes, file, later))) = refused_otherwise files (rest bytes) (avoids.1 bytes) later

  module _ (memory : F) (needed : stop ≢ memory) (plan : Plan F) (before now : ShelfTold) (avoids : Avoids stop plan) where
    caused_otherwise : Cause shelf memory plan before now stop → ⊥
    caused_otherwise (Refused refuses) = refused_otherwise before.files plan avoids refuses
    caused_otherwise (Wanted same) = needed same
    caused_otherwise (Broken same comes rose) = other same

    -- it stops in another way, if this is neither the stop for the shelf nor that for out of memory
    pub stops_otherwise : Stops shelf memory plan before now stop → ⊥
    stops_otherwise stops = caused_otherwise (stop_cause shelf memory plan before now stop stops)
