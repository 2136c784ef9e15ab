-- What a growth says, and the fields that spell it.
use Rattle.std.specs.Prelude.{◌≡◌, ◌≤◌, ℕ, List, ◌∷◌, ◌++◌, length}
use Rattle.std.specs.List.{All}
use Rattle.ats_dict.specs.Header.{IsHeader}
use Rattle.ats_dict.specs.declared.header.Header.{Header}
use Rattle.ats_lists.specs.declared.format.Format.{Format}
use Rattle.ats_grammar.specs.Front.{Spells}
use Rattle.ats_grammar.specs.Table.{spelled}
use Rattle.ats_proof.specs.Value.{archive_fields}
use Rattle.ats_growth_check.specs.Grammar.{growth_schema}

-- the format and the header of the old archive, those of the new one, and digests
pub record Growth : Type 0 where
  pub old_format : Format
  pub old : Header
  pub new_format : Format
  pub new : Header
  pub digests : List (List ℕ)

-- all fields, in the table's order
abbrev pub fields_of : Growth → List (List ℕ)
fields_of g =
    spelled 4 0x41545347 ∷ archive_fields g.old_format g.old ++ archive_fields g.new_format g.new
    ++ spelled 1 (length g.digests) ∷ g.digests

-- the bytes spell the growth
abbrev pub IsGrowth : List ℕ → Growth → Type 0
IsGrowth bytes g = Spells growth_schema bytes (fields_of g)

-- the numbers and the roots are a header's
abbrev pub IsInRange : Header → Type 0
IsInRange h = IsHeader h.documents h.dict_leaves h.dict_root h.docs_root h.texts_root

-- both headers are in range, and there are at most 64 digests of 32 bytes
pub record AreInRange (g : Growth) : Type 0 where
  pub old : IsInRange g.old
  pub new : IsInRange g.new
  pub few : length g.digests ≤ 64
  pub sized : All (λ digest. length digest ≡ 32) g.digests
