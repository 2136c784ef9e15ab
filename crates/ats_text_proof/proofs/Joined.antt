-- When byte strings that are joined of two parts are the same.
use Rattle.std.proofs.Common.{◌≡◌, ◌∙◌, ◌≤◌, ℕ, List, ◌++◌, ◌↔◌, Bool, true, false, IsTrue, length, take, drop, sym, ap, ap₂, append_assoc}
use Rattle.std.specs.Str.{bytes_eq}
use Rattle.std.proofs.lemmas.Slice.Eq.{bytes_eq-Decides}
use Rattle.std.proofs.Math.Seq.{take-append_seam, drop-append_seam}
use Rattle.std.proofs.lemmas.List.{take-append-le, drop-append-le, take-append-drop}

-- if two parts are joined as two others are, and the first is not longer than the third, then it begins the third, and the
-- second is the rest of the third and the fourth
pub split : (a b c d : List ℕ) → length a ≤ length c → a ++ b ≡ c ++ d → (a ≡ take (length a) c) × (b ≡ drop (length a) c ++ d)
split a b c d short is = (
  sym (take-append_seam a b) ∙ ap (take (length a)) is ∙ take-append-le (length a) c d short,
  sym (drop-append_seam a b) ∙ ap (drop (length a)) is ∙ drop-append-le (length a) c d short,
)

pub joined : (a b c d : List ℕ) → a ≡ take (length a) c → b ≡ drop (length a) c ++ d → a ++ b ≡ c ++ d
joined a b c d front back =
    ap₂ (λ (x y : List ℕ). x ++ y) front back ∙ sym (append_assoc (take (length a) c) (drop (length a) c) d) ∙ ap (λ (x : List ℕ). x ++ d) (take-append-drop (length a) c)

-- what a test says that fails since two strings differ
pub denied : (P : Type 0) (test : Bool) (x y : List ℕ) → test ≡ bytes_eq x y → test ≡ false → (P → x ≡ y) → IsTrue test ↔ P
denied P test x y is fails means = (
  (λ yes. absurd (differ (sym fails ∙ yes))),
  (λ p. absurd (differ (sym fails ∙ is ∙ (bytes_eq-Decides x y).1 (means p)))),
)
  where
    differ : false ≡ true → ⊥
    differ same = absurd (cc)

-- what it says that a whole begins with one part, and its rest is the other
pub whole-is : (whole front back : List ℕ) → take (length front) whole ≡ front → (test : Bool) → test ≡ bytes_eq (drop (length front) whole) back
    → IsTrue test ↔ (whole ≡ front ++ back)
whole-is whole front back begins test is = (
  (λ yes. sym (take-append-drop (length front) whole)
      ∙ ap₂ (λ (x y : List ℕ). x ++ y) begins ((bytes_eq-Decides (drop (length front) whole) back).0 (sym is ∙ yes))),
  (λ same. is ∙ (bytes_eq-Decides (drop (length front) whole) back).1 (ap (drop (length front)) same ∙ drop-append_seam front back)),
)
