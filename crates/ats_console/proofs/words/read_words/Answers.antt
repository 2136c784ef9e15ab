use Rattle.std.proofs.Common.{◌≡◌, ◌<◌, List, [], ◌∷◌, None, length, map, string_bytes, String, Global, refl, arith, rules}
use Rattle.ats_console.specs.Words.{command_of}
use Rattle.ats_console.proofs.words.read_words.Goals.{in_default-via-then-words-lt2, in_default-via-else-words-lt2+else-words-lt3+else-words-lt4+else-words-lt5+else-words-lt6+else-words-lt7}
use Rattle.ats_console.proofs.words.read_words.Goals as goal

few : (words : List (String Global)) → length words < 2 → None ≡ command_of (map string_bytes words)
few [] less = refl
few (a ∷ []) less = refl
few (a ∷ b ∷ rest) less = absurd (omega (arith, less))

many : (words : List (String Global)) → 6 < length words → None ≡ command_of (map string_bytes words)
many [] more = refl
many (a ∷ []) more = refl
many (a ∷ b ∷ []) more = absurd (omega (arith, more))
many (a ∷ b ∷ c ∷ []) more = absurd (omega (arith, more))
many (a ∷ b ∷ c ∷ d ∷ []) more = absurd (omega (arith, more))
many (a ∷ b ∷ c ∷ d ∷ e ∷ []) more = absurd (omega (arith, more))
many (a ∷ b ∷ c ∷ d ∷ e ∷ f ∷ []) more = absurd (omega (arith, more))
many (a ∷ b ∷ c ∷ d ∷ e ∷ f ∷ g ∷ rest) more = refl

pub returns-in_default : goal.returns-in_default
returns-in_default c = elim c.in_default.branch [
  | in_default-via-then-words-lt2 w ↦ search (rules, few)
  | in_default-via-else-words-lt2+else-words-lt3+else-words-lt4+else-words-lt5+else-words-lt6+else-words-lt7 w ↦ search (rules, many)
]
