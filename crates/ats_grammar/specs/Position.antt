-- The position of a reader in the bytes of any schema, and what a call of it does.
use Rattle.std.specs.Prelude.{◌≡◌, ℕ, ◌≤◌, List, [], ◌∷◌, ◌++◌, length}
use Rattle.std.specs.List.{All, concat}
use Rattle.ats_grammar.specs.declared.fault.ShapeFault.{ShapeFault}
use Rattle.ats_grammar.specs.declared.reader.Reader.{Reader}
use Rattle.ats_grammar.specs.Table.{Table, Schema, End, spelled}
use Rattle.ats_grammar.specs.Grammar.{header}
use Rattle.ats_grammar.specs.Front.{Come, IsFront, IsBad}

-- these fields were taken from the front of the bytes, this table comes next, and the reader has the rest
pub record StandsBefore (schema : Schema) (bytes : List ℕ) (fields : List (List ℕ)) (reader : Reader) (table : Table) : Type 0 where
  pub front : IsFront schema bytes fields table reader.rest.now
  pub few : length bytes ≤ schema.limit
  pub total : reader.total ≡ length bytes

-- in any bytes, a reader before `table` took `more` and is now before `after`
abbrev pub Passes : Reader → Reader → Table → List (List ℕ) → Table → Type 0
Passes reader later table more after = (schema : Schema) (bytes : List ℕ) (fields : List (List ℕ)) → StandsBefore schema bytes fields reader table
    → StandsBefore schema bytes (fields ++ more) later after

-- any bytes in which the reader is before `table` have this fault
abbrev pub HasFault : Reader → Table → ShapeFault → Type 0
HasFault reader table fault = (schema : Schema) (bytes : List ℕ) (fields : List (List ℕ)) → StandsBefore schema bytes fields reader table → IsBad schema bytes fault

-- what a header says: the numbers of documents and of leaves of the dictionary, and the roots of three trees
pub record HeaderValue : Type 0 where
  pub documents : ℕ
  pub dict_leaves : ℕ
  pub dict_root : List ℕ
  pub docs_root : List ℕ
  pub texts_root : List ℕ

abbrev pub header_fields : HeaderValue → List (List ℕ)
header_fields h = spelled 1 1 ∷ spelled 4 h.documents ∷ spelled 4 h.dict_leaves ∷ h.dict_root ∷ h.docs_root ∷ h.texts_root ∷ []

-- the bytes are the join of these fields of a header, each of its size and in its range
pub record IsHeader (bytes : List ℕ) (h : HeaderValue) : Type 0 where
  pub come : Come (header_fields h) (header End) End
  pub join : bytes ≡ concat (header_fields h)

-- the bytes are the join of this many digests, each of 32 bytes
pub record AreDigests (count : ℕ) (bytes : List ℕ) (all : List (List ℕ)) : Type 0 where
  pub many : length all ≡ count
  pub sized : All (λ digest. length digest ≡ 32) all
  pub join : bytes ≡ concat all
