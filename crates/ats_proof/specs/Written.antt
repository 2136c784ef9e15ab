-- What was appended to a writer of records.
use Rattle.std.specs.Prelude.{◌+◌, ℕ, List, ◌++◌, length, nat_lt, if◌then◌else◌, Option, Some, None}

-- the limit of a writer, how many bytes were appended in all, and the bytes themselves unless they are more than the
-- limit
pub record Written : Type 0 where
  pub limit : ℕ
  pub asked : ℕ
  pub kept : Option (List ℕ)

-- a writer to which these bytes were appended, in all
abbrev pub writing : ℕ → List ℕ → Written
writing limit bytes =
    record { limit = limit; asked = length bytes; kept = if nat_lt limit (length bytes) then None else Some bytes }

-- more bytes after those that are kept
abbrev pub joined : Option (List ℕ) → List ℕ → Option (List ℕ)
joined None more = None
joined (Some bytes) more = Some (bytes ++ more)

-- the writer after these bytes more were appended
unfoldable pub after : Written → List ℕ → Written
after written more = record {
  limit = written.limit;
  asked = written.asked + length more;
  kept = if nat_lt written.limit (written.asked + length more) then None else joined written.kept more;
}
