-- A byte string in a block of 128 bytes.
use Rattle.std.specs.Prelude.{◌≡◌, ◌-◌, ◌≤◌, ◌++◌, ℕ, List, length, take, drop, replicate}
use Rattle.std.proofs.Common.{sym, ◌∙◌, ap, arith}
use Rattle.std.proofs.lemmas.List.{length-take-le, take-append-drop}

-- the string is the first `len` bytes of the block, and the other bytes are 0
pub record IsPadded (len : ℕ) (block : List ℕ) : Type 0 where
  pub few : len ≤ 128
  pub size : length block ≡ 128
  pub rest : drop len block ≡ replicate (128 - len) 0

pub padded-len : (len : ℕ) (block : List ℕ) → IsPadded len block → length (take len block) ≡ len
padded-len len block is =
    let short : len ≤ length block = omega (arith, is.few, is.size) in length-take-le len block short

-- a block is its string, padded with zeros
pub padded-block : (len : ℕ) (block : List ℕ) → IsPadded len block
    → take len block ++ replicate (128 - length (take len block)) 0 ≡ block
padded-block len block is =
    ap (λ n. take len block ++ replicate (128 - n) 0) (padded-len len block is)
    ∙ ap (λ (rest : List ℕ). take len block ++ rest) (sym is.rest)
    ∙ take-append-drop len block
