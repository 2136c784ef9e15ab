-- Words are those of one command at most.
use Rattle.std.proofs.Common.{◌≡◌, ◌∙◌, ℕ, List, Some, sym, subst}
use Rattle.ats_console.specs.Words.{Command, command_of}
use Rattle.ats_top.specs.Run.{AreOfCommand}

module _ (said : List (List ℕ)) where
  pub same_command : (command other : Command) → command_of said ≡ Some command → command_of said ≡ Some other → command ≡ other
  same_command command other first second = let both = sym first ∙ second in cc

  -- what is said of the command of the words holds of this one
  pub its : (P : Command → Type 0) (command : Command) → AreOfCommand said P → command_of said ≡ Some command → P command
  its P command is also = subst P (same_command is.0 command is.1 also) is.2
