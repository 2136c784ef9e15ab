-- A text is the first that was withdrawn in one way.
use Rattle.std.proofs.Common.{◌≡◌, ◌∙◌, ◌<◌, ℕ, List, sym, ap, inl, inr}
use Rattle.std.proofs.lemmas.Bool.{cases_order}
use Rattle.ats_commit.specs.Archive.{Archive}
use Rattle.ats_growth_proof.specs.Honest.{IsFirstApart}
use Rattle.ats_growth_proof.proofs.Public.{not_prefix}
use Rattle.ats_plan.specs.Inner.Sound.{IsExact}
use Rattle.ats_console.specs.declared.stops.Stop.TheVariants.{Input}
use Rattle.ats_makers.specs.Lines.{line_of_differing}
use Rattle.ats_makers.specs.Commands.{WithdrawsNothing, Withdraws}

-- of two first texts that were withdrawn none is before the other
not_before : (old new : List (List ℕ)) (a b : ℕ) → IsFirstApart old new a → IsFirstApart old new b → a < b → ⊥
not_before old new a b is also less = is.apart (also.before a less)

one_apart : (old new : List (List ℕ)) (a b : ℕ) → IsFirstApart old new a → IsFirstApart old new b → a ≡ b
one_apart old new a b is also = elim (cases_order a b) [
  | inl same ↦ same
  | inr (inl less) ↦ absurd (not_before old new a b is also less)
  | inr (inr less) ↦ absurd (not_before old new b a also is less)
]

-- no old text was withdrawn, or one is the first that was withdrawn
pub withdrawing_exact : (older newer : Archive) → IsExact (WithdrawsNothing older newer) (Withdraws older newer)
withdrawing_exact older newer = record {
  breaks = λ stop lacks prefix. not_prefix older.texts newer.texts lacks.0 lacks.1 prefix;
  one = λ a b is also. is.2 ∙ ap (λ (doc : ℕ). Input (line_of_differing doc)) (one_apart older.texts newer.texts is.0 also.0 is.1 also.1) ∙ sym also.2;
}
