-- The lines of what is refused.
use Rattle.std.specs.Prelude.{◌≡◌, ◌++◌, ℕ, List, codes}
use Rattle.ats_refusal.specs.Words.{rejection_words}
use Rattle.ats_refusal.specs.declared.proof.Rejection.{Rejection}

-- the line of what is refused
abbrev pub refused_line : List ℕ → List ℕ
refused_line words = codes "refused: " ++ (words ++ codes "\n")

abbrev pub line_of_rejection : Rejection → List ℕ
line_of_rejection rejection = refused_line (rejection_words rejection)

-- the line is that of a rejection that satisfies P
abbrev pub IsRejectionLine : (Rejection → Type 0) → List ℕ → Type 0
IsRejectionLine P line = (rejection : Rejection) × P rejection × (line ≡ line_of_rejection rejection)
