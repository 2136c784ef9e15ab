-- What bytes that give a text say, and the fields that spell it.
use Rattle.std.specs.Prelude.{◌≡◌, ◌≤◌, ◌^◌, ℕ, List, ◌∷◌, ◌++◌, length}
use Rattle.std.specs.List.{All}
use Rattle.ats_dict.specs.Header.{IsHeader}
use Rattle.ats_dict.specs.declared.header.Header.{Header}
use Rattle.ats_grammar.specs.Front.{Spells}
use Rattle.ats_grammar.specs.Table.{spelled}
use Rattle.ats_lists.specs.declared.format.Format.{Format}
use Rattle.ats_proof.specs.Value.{archive_fields}
use Rattle.ats_text_check.specs.Grammar.{text_schema}

-- a text, with the header and the format of its archive, and the digests that bind it to the root of the texts
pub record TextProof : Type 0 where
  pub format : Format
  pub header : Header
  pub text : List ℕ
  pub digests : List (List ℕ)

-- the text after its length, and the digests after their number
abbrev pub text_fields : TextProof → List (List ℕ)
text_fields proof = spelled 4 (length proof.text) ∷ proof.text ∷ spelled 1 (length proof.digests) ∷ proof.digests

-- all fields, in the table's order
abbrev pub fields_of : TextProof → List (List ℕ)
fields_of proof =
    spelled 4 0x41545346 ∷ (archive_fields proof.format proof.header ++ text_fields proof)

-- the bytes spell this
pub record IsTextProof (bytes : List ℕ) (proof : TextProof) : Type 0 where
  pub spells : Spells text_schema bytes (fields_of proof)

-- the parts are in their ranges
pub record IsTextInRange (proof : TextProof) : Type 0 where
  pub header : IsHeader proof.header.documents proof.header.dict_leaves proof.header.dict_root proof.header.docs_root proof.header.texts_root
  pub short : length proof.text ≤ 2 ^ 20
  pub few : length proof.digests ≤ 32
  pub sized : All (λ digest. length digest ≡ 32) proof.digests
