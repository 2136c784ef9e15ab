-- How the program ends follows from what the call for the words returned, and from what became of the objects.
use Rattle.std.specs.Prelude.{MatchOption, MatchResult, IfOk, IfErr}
use Rattle.std.specs.declared.io.ErrorKind.{ErrorKind}
use Rattle.std.proofs.Common.{◌≡◌, ℕ, List, Option, Some, None, Result, Ok, Err, sym, subst}
use Rattle.ats_top.specs.Outside.{Outside}
use Rattle.ats_main.specs.Ending.{Reported, begun, EndsFor, EndsAs}

module _ (told : Option (Result (List (List ℕ)) ErrorKind)) where
  module _ (before now : Outside) (status : ℕ) where
    ends_as : (returned : Result (List (List ℕ)) ErrorKind) → MatchOption told (Unit {0}) (λ t. t ≡ returned)
        → EndsFor returned before now status → EndsAs told before now status
    ends_as returned is ends = elim told as (λ t. MatchOption t (Unit {0}) (λ r. r ≡ returned) → EndsAs t before now status) [
      | None ↦ λ _. (returned, ends)
      | Some r ↦ λ same. subst (λ x. EndsFor x before now status) (sym same) ends
    ] is

    -- the words, or the error, are those that were returned
    pub ends_by : {V E : Type 0} (said : V → List (List ℕ)) (kind : E → ErrorKind) (words : Result V E)
        → IfOk words (λ w. MatchOption told (Unit {0}) (λ t. t ≡ Ok (said w)))
        → IfErr words (λ e. MatchOption told (Unit {0}) (λ t. t ≡ Err (kind e)))
        → MatchResult words (λ w. EndsFor (Ok (said w)) before now status) (λ e. EndsFor (Err (kind e)) before now status)
        → EndsAs told before now status
    ends_by said kind (Ok w) ok err ends = ends_as (Ok (said w)) ok ends
    ends_by said kind (Err e) ok err ends = ends_as (Err (kind e)) err ends

  pub ends_over : (calls : Reported) (before now : Outside) (code status : ℕ) → code ≡ status → before ≡ begun calls
      → EndsAs told before now status → EndsAs told (begun calls) now code
  ends_over calls before now code status is begins ends =
      subst (λ s. EndsAs told (begun calls) now s) (sym is) (subst (λ o. EndsAs told o now status) begins ends)
