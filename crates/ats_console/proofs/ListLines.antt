-- The first line of some bytes, and the lines after it.
use Rattle.std.proofs.Common.{◌≡◌, ◌≢◌, ◌-◌, ◌==◌, ◌∷◌, ◌<◌, ◌+◌, ℕ, zero, suc, false, List, [], length, take, drop, get_or, take_all, length-drop, refl, subst, arith}
use Rattle.ats_console.specs.Lists.{lines_of}

-- there is no line feed before this place
abbrev pub NoneBefore : List ℕ → ℕ → Type 0
NoneBefore bytes at = (i d : ℕ) → i < at → (get_or bytes i d == 10) ≡ false

later : (byte : ℕ) (bytes : List ℕ) (at : ℕ) → NoneBefore (byte ∷ bytes) (suc at) → NoneBefore bytes at
later byte bytes at none i d less = none (suc i) d (omega (arith, less))

-- all of the bytes are one line
pub one_line : (byte : ℕ) (bytes : List ℕ) → NoneBefore (byte ∷ bytes) (length (byte ∷ bytes)) → lines_of (byte ∷ bytes) ≡ (byte ∷ bytes) ∷ []
one_line byte [] none = rw (none 0 0 (omega arith)) refl
one_line byte (next ∷ bytes) none =
    rw (none 0 0 (omega arith), one_line next bytes (later byte (next ∷ bytes) (length (next ∷ bytes)) none)) refl

-- a line feed ends the first
pub cut_line : (bytes : List ℕ) (at : ℕ) → NoneBefore bytes at → at < length bytes → get_or bytes at 0 ≡ 10
    → lines_of bytes ≡ take at bytes ∷ lines_of (drop (suc at) bytes)
cut_line [] at none inside feed = absurd (omega (arith, inside))
cut_line (byte ∷ bytes) zero none inside feed = rw feed refl
cut_line (byte ∷ bytes) (suc at) none inside feed =
    rw (none 0 0 (omega arith), cut_line bytes at (later byte bytes at none) (omega (arith, inside)) feed) refl

whole : (byte : ℕ) (bytes : List ℕ) (at : ℕ) → at ≡ length (byte ∷ bytes) → NoneBefore (byte ∷ bytes) at → lines_of (byte ∷ bytes) ≡ (byte ∷ bytes) ∷ []
whole byte bytes at is none = one_line byte bytes (subst (NoneBefore (byte ∷ bytes)) is none)

-- if no line feed was found
pub one_alone : (bytes : List ℕ) (at : ℕ) → bytes ≢ [] → at ≡ length bytes → NoneBefore bytes at
    → lines_of bytes ≡ bytes ∷ lines_of (take (length bytes - at) (drop at bytes))
one_alone [] at some is none = absurd (some refl)
one_alone (byte ∷ bytes) at some is none =
    let left : length (byte ∷ bytes) - at ≡ 0 = omega (arith, is) in
    rw left (whole byte bytes at is none)

-- if one was
pub cut_at : (bytes : List ℕ) (at : ℕ) → NoneBefore bytes at → at < length bytes → get_or bytes at 0 ≡ 10
    → lines_of bytes ≡ take at bytes ∷ lines_of (take (length bytes - (at + 1)) (drop (at + 1) bytes))
cut_at bytes at none inside feed =
    let next : at + 1 ≡ suc at = omega arith in
    let following : take (length bytes - suc at) (drop (suc at) bytes) ≡ drop (suc at) bytes =
    take_all (length bytes - suc at) (drop (suc at) bytes) (omega (arith, length-drop (suc at) bytes)) in
    rw (next, following) (cut_line bytes at none inside feed)
