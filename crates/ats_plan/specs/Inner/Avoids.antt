-- A plan that does not stop in a given way.
use Rattle.std.specs.Prelude.{◌≢◌, ℕ, List}
use Rattle.ats_plan.specs.Plan.{Plan, Finishes, Stores, Fails, Tries, Gets, Makes, Reads}

-- no step of the plan stops it so, whatever values it goes on with
abbrev pub Avoids : {F : Type 0} → (stop : F) → Plan F → Type 0
Avoids stop (Finishes says) = Unit {0}
Avoids stop (Stores name bytes says) = Unit {0}
Avoids stop (Fails fault) = stop ≢ fault
Avoids stop (Tries holds fault rest) = (fault stop → ⊥) × Avoids stop rest
Avoids stop (Gets A is fault rest) = (fault stop → ⊥) × ((a : A) → Avoids stop (rest a))
Avoids stop (Makes A is rest) = (a : A) → Avoids stop (rest a)
Avoids stop (Reads name limit long rest) = Avoids stop long × ((bytes : List ℕ) → Avoids stop (rest bytes))
