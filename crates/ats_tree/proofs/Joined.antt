-- Equal joined bytes have equal parts.
use Rattle.std.proofs.Common.{◌≡◌, ◌<◌, ◌^◌, ◌∙◌, ◌++◌, ◌∷◌, ℕ, List, length, take, drop, refl, sym, ap}
use Rattle.std.specs.Int.{to_be_bytes, from_be_bytes, w16, w32}
use Rattle.std.proofs.lemmas.List.{take_at, drop_at}
use Rattle.std.proofs.lemmas.Nat.{from_be_bytes-to_be_bytes_2, from_be_bytes-to_be_bytes_4}

-- if the first parts have one length
pub parted : (a b x y : List ℕ) → length a ≡ length b → a ++ x ≡ b ++ y → (a ≡ b) × (x ≡ y)
parted a b x y size same = (
  sym (take_at a x (length b) size) ∙ ap (take (length b)) same ∙ take_at b y (length b) refl,
  sym (drop_at a x (length b) size) ∙ ap (drop (length b)) same ∙ drop_at b y (length b) refl,
)

-- after one byte
pub first_and_rest : (n m : ℕ) (xs ys : List ℕ) → n ∷ xs ≡ m ∷ ys → (n ≡ m) × (xs ≡ ys)
first_and_rest n m xs ys same = (cc, cc)

pub same_2 : (m n : ℕ) → m < 2 ^ 16 → n < 2 ^ 16 → to_be_bytes w16 m ≡ to_be_bytes w16 n → m ≡ n
same_2 m n small less same = sym (from_be_bytes-to_be_bytes_2 m small) ∙ ap (from_be_bytes w16) same ∙ from_be_bytes-to_be_bytes_2 n less

same_4 : (m n : ℕ) → m < 2 ^ 32 → n < 2 ^ 32 → to_be_bytes w32 m ≡ to_be_bytes w32 n → m ≡ n
same_4 m n small less same = sym (from_be_bytes-to_be_bytes_4 m small) ∙ ap (from_be_bytes w32) same ∙ from_be_bytes-to_be_bytes_4 n less

-- a number of 4 bytes, and bytes after it
pub numbered : (m n : ℕ) (rest another : List ℕ) → m < 2 ^ 32 → n < 2 ^ 32 → to_be_bytes w32 m ++ rest ≡ to_be_bytes w32 n ++ another
    → (m ≡ n) × (rest ≡ another)
numbered m n rest another small less same =
    let both = parted (to_be_bytes w32 m) (to_be_bytes w32 n) rest another refl same in
    (same_4 m n small less both.0, both.1)
