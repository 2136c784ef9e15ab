-- The printed lines.
use Rattle.std.specs.Prelude.{◌≡◌, ◌+◌, ◌++◌, ◌∷◌, [], ℕ, List, Some, decimal, codes}
use Rattle.hex.specs.Hex.{encode_lower}
use Rattle.ats_impact.specs.declared.rank.Row.{Row}
use Rattle.ats_catalog_check.specs.declared.row.CatalogRow.{CatalogRow}
use Rattle.ats_console.specs.Words.{root_word}

-- RANK DOC LOWER UPPER
abbrev pub line_of : ℕ → Row → List ℕ
line_of rank row =
    decimal rank ++ (codes " " ++ (decimal row.doc
    ++ (codes " " ++ (decimal row.lower ++ (codes " " ++ (decimal row.upper ++ codes "\n"))))))

-- a line for each row, ranks from this one on
abbrev pub lines_from : ℕ → List Row → List ℕ
lines_from rank [] = []
lines_from rank (row ∷ rows) = line_of rank row ++ lines_from (rank + 1) rows

abbrev pub lines : List Row → List ℕ
lines rows = lines_from 1 rows

-- RANK SHARD DOC LOWER UPPER
abbrev pub line_of_catalog : ℕ → CatalogRow → List ℕ
line_of_catalog rank row =
    decimal rank ++ (codes " " ++ (decimal row.shard ++ (codes " " ++ (decimal row.doc
    ++ (codes " " ++ (decimal row.lower ++ (codes " " ++ (decimal row.upper ++ codes "\n"))))))))

-- a line for each row of a catalog's answer, ranks from this one on
abbrev pub lines_of_catalog_from : ℕ → List CatalogRow → List ℕ
lines_of_catalog_from rank [] = []
lines_of_catalog_from rank (row ∷ rows) = line_of_catalog rank row ++ lines_of_catalog_from (rank + 1) rows

abbrev pub lines_of_catalog : List CatalogRow → List ℕ
lines_of_catalog rows = lines_of_catalog_from 1 rows

-- DOC
abbrev pub line_of_document : ℕ → List ℕ
line_of_document doc = decimal doc ++ codes "\n"

-- a line for each document, in order
abbrev pub lines_of_documents : List ℕ → List ℕ
lines_of_documents [] = []
lines_of_documents (doc ∷ documents) = line_of_document doc ++ lines_of_documents documents

-- the bytes of a root, as lower-case hexadecimal digits
abbrev pub line_of_root : List ℕ → List ℕ
line_of_root root = encode_lower root ++ codes "\n"

-- the text is the line of this root, whose digits are the word to give `verify` as ROOT
pub record IsPublished (root text : List ℕ) : Type 0 where
  pub printed : text ≡ line_of_root root
  pub word : root_word (encode_lower root) ≡ Some root

-- proof LENGTH
abbrev pub line_of_proof : ℕ → List ℕ
line_of_proof bytes = codes "proof " ++ (decimal bytes ++ codes "\n")
