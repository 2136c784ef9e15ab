-- The chunks of bytes, and the digests that bytes join.
use Rattle.std.proofs.Common.{◌≡◌, ◌∙◌, ◌*◌, ℕ, zero, suc, List, [], ◌∷◌, ◌++◌, length, take, drop, refl, ap, arith}
use Rattle.std.specs.List.{All, concat}
use Rattle.std.specs.Simd.{first_chunks}
use Rattle.std.proofs.lemmas.List.{length-drop, length-take-le, take-append-drop}
use Rattle.std.proofs.lemmas.List.Elements.{All-nil, All-cons}

-- all chunks of 32 bytes joined are the bytes
pub chunks_join : (k : ℕ) (bytes : List ℕ) → length bytes ≡ k * 32 → concat (first_chunks 32 k bytes) ≡ bytes
chunks_join zero [] whole = refl
chunks_join zero (b ∷ bytes) whole = absurd (omega (arith, whole))
chunks_join (suc k) bytes whole =
    let rest : length (drop 32 bytes) ≡ k * 32 = omega (arith, whole, length-drop 32 bytes) in
    ap (λ (more : List ℕ). take 32 bytes ++ more) (chunks_join k (drop 32 bytes) rest) ∙ take-append-drop 32 bytes

-- each of them has 32 bytes
pub chunks_sized : (k : ℕ) (bytes : List ℕ) → length bytes ≡ k * 32 → All (λ (chunk : List ℕ). length chunk ≡ 32) (first_chunks 32 k bytes)
chunks_sized zero bytes whole = All-nil (λ (chunk : List ℕ). length chunk ≡ 32)
chunks_sized (suc k) bytes whole =
    let rest : length (drop 32 bytes) ≡ k * 32 = omega (arith, whole, length-drop 32 bytes) in
    All-cons (λ (chunk : List ℕ). length chunk ≡ 32) (take 32 bytes) (first_chunks 32 k (drop 32 bytes))
    (length-take-le 32 bytes (omega (arith, whole))) (chunks_sized k (drop 32 bytes) rest)
