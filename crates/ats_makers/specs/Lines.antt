-- The lines of the commands that make a file for others to check, and of why they make none.
use Rattle.std.specs.Prelude.{◌++◌, ℕ, List, codes, decimal}
use Rattle.ats_console.specs.Stops.{input_line}

-- KIND LENGTH
abbrev pub line_of_size : (kind : List ℕ) → ℕ → List ℕ
line_of_size kind bytes = kind ++ (codes " " ++ (decimal bytes ++ codes "\n"))

-- text LENGTH
abbrev pub line_of_text_size : ℕ → List ℕ
line_of_text_size = line_of_size (codes "text")

-- a document that the archive does not have
abbrev pub line_of_document : ℕ → List ℕ
line_of_document doc = input_line (codes "document " ++ decimal doc)

-- both LENGTH
abbrev pub line_of_both : ℕ → List ℕ
line_of_both = line_of_size (codes "both")

-- growth LENGTH
abbrev pub line_of_growth_size : ℕ → List ℕ
line_of_growth_size = line_of_size (codes "growth")

-- the first old document that the new archive does not have with the same text
abbrev pub line_of_differing : ℕ → List ℕ
line_of_differing doc = input_line (codes "document " ++ (decimal doc ++ codes " differs"))

-- catalog LENGTH
abbrev pub line_of_catalog_size : ℕ → List ℕ
line_of_catalog_size = line_of_size (codes "catalog")

-- the index of this shard is another when it is read again
abbrev pub line_of_other_shard : ℕ → List ℕ
line_of_other_shard shard = input_line (codes "shard " ++ (decimal shard ++ codes " differs"))

-- a shard whose proof has so many bytes, which are more than a proof may have
abbrev pub line_of_long_shard : ℕ → ℕ → List ℕ
line_of_long_shard shard bytes =
    codes "input: " ++ ((codes "shard " ++ (decimal shard ++ (codes " proof of " ++ decimal bytes))) ++ codes " bytes\n")
