-- How the program ends.
use Rattle.std.specs.Prelude.{◌≡◌, ◌≢◌, ℕ, false, List, [], Option, Some, None, Result, Ok, Err}
use Rattle.std.specs.declared.io.ErrorKind.{ErrorKind}
use Rattle.std.specs.declared.io.ErrorKind.TheVariants.{OutOfMemory}
use Rattle.sha2.specs.Sha256.{sha256}
use Rattle.ats_base.specs.Outside.{Ask}
use Rattle.ats_base.specs.Links.{Opening}
use Rattle.ats_outside.specs.Begun.{told_shelf, told_sink, told_caller, told_door}
use Rattle.ats_console.specs.Stops.{text_of_stop}
use Rattle.ats_console.specs.declared.stops.Stop.TheVariants.{Memory}
use Rattle.ats_top.specs.Outside.{Outside}
use Rattle.ats_top.specs.Run.{Prints, Ran}

-- What the calls of std report over which the objects of a run are made: the files, the calls on them, what was printed,
-- and what the networks of the caller and of the door did.
pub record Reported : Type 0 where
  pub files : Option (List ℕ → Option (List ℕ))
  pub asked : Option (List Ask)
  pub printed : Option (List ℕ)
  pub calling : Option Opening
  pub opening : Option Opening

-- the objects over these calls as they begin: none was called, none failed, and the door is not open
abbrev pub begun : Reported → Outside
begun calls = record {
  shelf = told_shelf calls.files calls.asked 0 0 false;
  sink = told_sink calls.printed 0 0 false;
  caller = told_caller calls.calling 0 false;
  door = told_door calls.opening false 0 0 false;
}

-- only the line of out of memory was printed
pub record PrintsMemory (before now : Outside) (status : ℕ) : Type 0 where
  pub prints : Prints before.sink now.sink 6 [] (text_of_stop Memory) status
  pub shelf : now.shelf ≡ before.shelf
  pub caller : now.caller ≡ before.caller
  pub door : now.door ≡ before.door

-- What the call for the words returned decides what was done: a run of these words; if memory ran out, no run; and if one
-- of them is no text, a run of the words of no command.
abbrev pub EndsFor : Result (List (List ℕ)) ErrorKind → (before now : Outside) → ℕ → Type 0
EndsFor (Ok said) before now status = Ran sha256 said before now status
EndsFor (Err kind) before now status =
    (kind ≡ OutOfMemory → PrintsMemory before now status) × (kind ≢ OutOfMemory → Ran sha256 [] before now status)

-- How the program ended, with this status, over objects that reported the one before and the other after. If it is not
-- reported what was returned for the words, it is something.
abbrev pub EndsAs : Option (Result (List (List ℕ)) ErrorKind) → (before now : Outside) → ℕ → Type 0
EndsAs None before now status = (returned : Result (List (List ℕ)) ErrorKind) × EndsFor returned before now status
EndsAs (Some returned) before now status = EndsFor returned before now status
