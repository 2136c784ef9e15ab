-- What other rooms may cite of the proofs of this one. All other files here are private.

-- each number of the list is a byte, that is, below 256
pub use Rattle.ats_proof.proofs.Numbers.{AreBytes}
-- the encoding of a number in k bytes has length k
pub use Rattle.ats_proof.proofs.Numbers.{length-spelled}
-- the encoding of a number in one or more bytes decodes to it, even if the first byte overflows
pub use Rattle.ats_proof.proofs.Numbers.{number-spelled}
-- the number that byteorder reads from the first bytes is the number that they spell
pub use Rattle.ats_proof.proofs.Numbers.{number_read}
-- the tail of a strictly increasing list of numbers is strictly increasing
pub use Rattle.ats_proof.proofs.Taking.{increasing-tail}
-- the 2-byte encoding of the number that the first 2 bytes spell is these bytes, high byte first
pub use Rattle.ats_proof.proofs.Encoding.{be_2}
-- the 4-byte encoding of the number that the first 4 bytes spell is these bytes, high byte first
pub use Rattle.ats_proof.proofs.Encoding.{be_4}
-- a number in 1, 2 or 4 bytes is its encoding
pub use Rattle.ats_proof.proofs.Encoded.{spelled_1, spelled_2, spelled_4}
-- the bytes of a header are its fields joined
pub use Rattle.ats_proof.proofs.Encoded.{header_join}
-- the fields of a header in range come first in a table, and only those
pub use Rattle.ats_proof.proofs.Encoded.{IsHeaderFirst, header_first, header_comes}
-- the same for the format and the header of an archive, whose fields have 106 bytes and determine both
pub use Rattle.ats_proof.proofs.Encoded.{archive_comes, length-archive}
pub use Rattle.ats_proof.proofs.Unique.{IsSameArchive, archive_tells}
-- fields come last in a table of at most n digests if and only if they are at most n digests of 32 bytes
pub use Rattle.ats_proof.proofs.Encoded.{last_first, last_comes}
-- what is appended to the join of some fields joins more fields to them
pub use Rattle.ats_proof.proofs.Encoded.{joined_more, joined_field}
-- n digests joined have 32 n bytes
pub use Rattle.ats_proof.proofs.Encoded.{length_digests}
-- the shown front of a list gives as many leaves as it has entries
pub use Rattle.ats_proof.proofs.Encoding.{length-shown_list}
-- two proofs that the same bytes spell are equal
pub use Rattle.ats_proof.proofs.Unique.{one_value}
-- all parts of a proof that bytes spell are in range
pub use Rattle.ats_proof.proofs.InRange.{in_range}
