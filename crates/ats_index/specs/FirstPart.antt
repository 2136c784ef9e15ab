-- The first part of an index's bytes: its fields up to the last text. Numbers are written high byte first.
use Rattle.std.specs.Prelude.{◌≡◌, ◌≢◌, ℕ, ◌+◌, ◌<◌, ◌≤◌, ◌^◌, List, [], ◌∷◌, ◌++◌, length, codes, sum_by}
use Rattle.std.specs.Int.{to_be_bytes, w32}
use Rattle.std.specs.List.{All, flat_map}
use Rattle.std.specs.Str.{IsUtf8}
use Rattle.ats_impact.specs.Limits.{AllShort}
use Rattle.ats_lists.specs.declared.format.Format.{Format}
use Rattle.ats_lists.specs.FormatNumber.{number_of_format}
use Rattle.ats_index.specs.Spelling.{front_bytes, text_bytes}

-- the magic, the version; and, after the version of a format, the number of texts, and, after some whole texts, the
-- length of the next one, or its bytes, `size` of them
pub data Field : Type 0 where
  Magic : Field
  Version : Field
  Documents : (format : Format) → Field
  TextLength : (format : Format) (documents : ℕ) (texts : List (List ℕ)) → Field
  TextBytes : (format : Format) (documents : ℕ) (texts : List (List ℕ)) (size : ℕ) → Field

-- the bytes of all fields before this one
abbrev pub front_of : Field → List ℕ
front_of Magic = []
front_of Version = codes "ATSI"
front_of (Documents format) = codes "ATSI" ++ number_of_format format ∷ []
front_of (TextLength format documents texts) = front_bytes format documents ++ flat_map text_bytes texts
front_of (TextBytes format documents texts size) = front_bytes format documents ++ flat_map text_bytes texts ++ to_be_bytes w32 size

-- after these texts, one more of this length is within the limits
pub record HasSpaceFor (texts : List (List ℕ)) (size : ℕ) : Type 0 where
  pub short : size ≤ 2 ^ 20
  pub small : sum_by length texts + size ≤ 2 ^ 24

-- the number of documents is within the limits, these are the first of their texts, and at least one more follows
pub record AreFirst (documents : ℕ) (texts : List (List ℕ)) : Type 0 where
  pub some : 1 ≤ documents
  pub few : documents ≤ 65536
  pub more : length texts < documents
  pub utf8 : All IsUtf8 texts
  pub short : AllShort texts
  pub small : sum_by length texts ≤ 2 ^ 24

-- the fields before this one are good
abbrev pub IsReached : Field → Type 0
IsReached Magic = Unit {0}
IsReached Version = Unit {0}
IsReached (Documents format) = Unit {0}
IsReached (TextLength format documents texts) = AreFirst documents texts
IsReached (TextBytes format documents texts size) = AreFirst documents texts × HasSpaceFor texts size

-- these bytes are the field, and good
abbrev pub IsGood : Field → List ℕ → Type 0
IsGood Magic bytes = bytes ≡ codes "ATSI"
IsGood Version bytes = (format : Format) × (bytes ≡ number_of_format format ∷ [])
IsGood (Documents format) bytes = (documents : ℕ) × (1 ≤ documents) × (documents ≤ 65536) × (bytes ≡ to_be_bytes w32 documents)
IsGood (TextLength format documents texts) bytes = (size : ℕ) × HasSpaceFor texts size × (bytes ≡ to_be_bytes w32 size)
IsGood (TextBytes format documents texts size) bytes = (length bytes ≡ size) × IsUtf8 bytes

-- at this place begins the first bad field: the fields before it are good, and no good one is there, whether its bytes
-- are wrong or cut off
pub record IsFirstBad (bytes : List ℕ) (at : ℕ) : Type 0 where
  pub field : Field
  pub following : List ℕ
  pub reached : IsReached field
  pub place : at ≡ length (front_of field)
  pub same : bytes ≡ front_of field ++ following
  pub bad : (good rest : List ℕ) → IsGood field good → following ≢ good ++ rest
