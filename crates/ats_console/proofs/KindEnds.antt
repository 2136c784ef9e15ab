-- How a command stops at the check of a file, and how it is done after it.
use Rattle.std.proofs.Common.{ℕ, List, Result, Ok, Err}
use Rattle.std.specs.Prelude.{IfOk}
use Rattle.ats_base.specs.Outside.{ShelfTold}
use Rattle.ats_commit.specs.Archive.{Archive}
use Rattle.ats_commit.specs.Own.{AreTexts}
use Rattle.ats_plan.specs.Files.{Files}
use Rattle.ats_plan.specs.Plan.{Plan, Finishes, Gets}
use Rattle.ats_plan.specs.Runs.{IsDone}
use Rattle.ats_plan.proofs.Public.{Leads, done_get, done_end}
use Rattle.ats_console.specs.Kinds.{Kind}
use Rattle.ats_console.specs.Read.{HasIndex}
use Rattle.ats_console.specs.declared.stops.Stop.{Stop}
use Rattle.ats_console.specs.declared.stops.Stop.TheVariants.{Shelf, Memory}

-- the texts of an index are UTF-8 and within the limits
pub texts_of : {H : List ℕ → List ℕ} {files : Files} {name : List ℕ} {archive : Archive} → HasIndex H files name archive → AreTexts archive.texts
texts_of index = record { utf8 = index.spelling.utf8; within = index.spelling.within }

-- bytes that were accepted, from which follows what the command says of its end
pub check_end : {V : Type 0} (kind : Kind V) (bytes : List ℕ) (says : Files → List ℕ → Type 0) {plan : Plan Stop} {before mid : ShelfTold}
    → Leads Shelf Memory plan before (Gets V (kind.accepted bytes) (kind.rejects bytes) (λ v. Finishes says)) mid
    → {T : Type 0} {told : T → Type 0} (bytes_of : T → List ℕ) (result : Result T Stop) → IfOk result told
    → ((text : T) → told text → (v : V) × kind.accepted bytes v × says mid.files (bytes_of text)) → IfOk result (λ text. IsDone plan before mid (bytes_of text))
check_end kind bytes says {mid = mid} leads bytes_of (Ok text) is end =
    let found = end text is in
    leads.does mid (bytes_of text) (done_get found.0 found.1 (done_end found.2))
check_end kind bytes says leads bytes_of (Err stop) is end = tt
