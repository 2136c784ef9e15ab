-- The digest of the type `Weak`. The digests of both types have 32 bytes.
use Rattle.std.specs.Prelude.{◌≡◌, ℕ, ◌%◌, ◌^◌, List, ◌++◌, length, sum, replicate, refl}
use Rattle.std.specs.Int.{to_be_bytes, w16}
use Rattle.sha2.specs.Sha256.{sha256}
use Rattle.sha2.proofs.Facts256.{length-sha256}

-- the sum of the bytes modulo 65,536, high byte first, and 30 zero bytes
abbrev pub weak_sum : List ℕ → List ℕ
weak_sum bytes = to_be_bytes w16 (sum bytes % 2 ^ 16) ++ replicate 30 0

pub length-weak_sum : (bytes : List ℕ) → length (weak_sum bytes) ≡ 32
length-weak_sum bytes = refl

pub length-sha256_lem : (bytes : List ℕ) → length (sha256 bytes) ≡ 32
length-sha256_lem bytes = length-sha256 bytes
