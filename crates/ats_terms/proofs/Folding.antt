-- A text does not begin with the byte 0xFF.
use Rattle.std.proofs.Common.{◌≡◌, ◌&&◌, ◌<◌, ℕ, Bool, true, false, List, [], ◌∷◌, ◌++◌, length, get_or, nat_le, IsTrue, inl, inr, refl, arith}
use Rattle.std.specs.Str.{IsUtf8}
use Rattle.std.proofs.lemmas.Bool.Decides.{nat_tests}
use lib.Utf8.{scalar, scalars, scalar_cases, encode, encodes}
use Rattle.ats_terms.specs.Terms.{IsTerm}

both : (a b : Bool) → (a && b) ≡ true → a ≡ true
both true b is = refl
both false b is = is

below : (c : ℕ) → scalar c ≡ true → c < 1114112
below c is = elim (scalar_cases c is) [ inl low ↦ omega arith | inr high ↦ high.1 ]

front_of : (c : ℕ) (more : List ℕ) → c < 1114112 → get_or (encode c ++ more) 0 0 < 255
unfolding encode
front_of c more small = grind (arith, nat_tests)

pub front_low : (bytes : List ℕ) → IsUtf8 bytes → get_or bytes 0 0 < 255
front_low bytes ([], (is, same)) = rw (← same) (omega arith)
front_low bytes (c ∷ cs, (is, same)) = rw (← same) (front_of c (encodes cs) (below c (both (scalar c) (scalars cs) is)))

-- a folded word of 1 to 64 bytes is a valid term
pub term_of : (bytes : List ℕ) → IsUtf8 bytes → 0 < length bytes → IsTrue (nat_le (length bytes) 64) → IsTerm bytes
term_of bytes text some small = record {
  some = some;
  few = grind (arith, nat_tests);
  front = front_low bytes text;
}
