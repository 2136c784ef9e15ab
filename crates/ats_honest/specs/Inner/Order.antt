-- Fields of an honest proof that are in the grammar's order.
use Rattle.std.specs.Prelude.{◌==◌, ℕ, Option}
use Rattle.ats_grammar.specs.Table.{Table}
use Rattle.ats_grammar.specs.Front.{Come}
use Rattle.ats_grammar.specs.Grammar as grammar
use Rattle.ats_proof.specs.Value.{Documents, TermsSection, documents_fields, number_of_algorithm, section_fields}

-- the fields of a terms section with this many slots are in the grammar's order
abbrev pub ComesIn : ℕ → TermsSection → Type 0
ComesIn slots section = (rest : Table) → Come (section_fields section) (grammar.term_section slots rest) rest

-- the fields of what is shown of this many met documents are in the grammar's order
abbrev pub AreInOrder : (met slots : ℕ) → Option Documents → Type 0
AreInOrder met slots docs = Come (documents_fields docs) (grammar.documents (number_of_algorithm docs == 1) met slots) grammar.answer
