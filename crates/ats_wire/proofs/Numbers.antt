-- Numbers of 2 and 4 bytes that were read have the bytes with which they would be written.
use Rattle.std.proofs.Common.{◌≡◌, ◌<◌, ℕ, List, length, get_or, arith}
use Rattle.std.specs.Int.{to_be_bytes, w16, w32}
use Rattle.std.proofs.lemmas.Nat.{be_bytes_2, be_bytes_4}
use Rattle.byteorder.specs.Endian.{big_number}

pub number_4 : (bytes : List ℕ) → length bytes ≡ 4 → ((i : ℕ) → get_or bytes i 0 < 256) → to_be_bytes w32 (big_number 4 bytes) ≡ bytes
number_4 bytes long small = be_bytes_4 bytes (big_number 4 bytes) long small (omega arith)

pub number_2 : (bytes : List ℕ) → length bytes ≡ 2 → ((i : ℕ) → get_or bytes i 0 < 256) → to_be_bytes w16 (big_number 2 bytes) ≡ bytes
number_2 bytes long small = be_bytes_2 bytes (big_number 2 bytes) long small (omega arith)
