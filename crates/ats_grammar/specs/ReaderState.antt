-- What may still come in a proof, by the state of its reader.
use Rattle.std.specs.Prelude.{suc, ◌==◌}
use Rattle.ats_grammar.specs.declared.fault.ShapeKind.TheVariants.{Version, Algorithm, Count}
use Rattle.ats_grammar.specs.declared.reader_state.FrontPart.{FrontPart}
use Rattle.ats_grammar.specs.declared.reader_state.FrontPart.TheVariants as front
use Rattle.ats_grammar.specs.declared.reader_state.DictPart.{DictPart}
use Rattle.ats_grammar.specs.declared.reader_state.DictPart.TheVariants as dict
use Rattle.ats_grammar.specs.declared.reader_state.MetPart.{MetPart}
use Rattle.ats_grammar.specs.declared.reader_state.MetPart.TheVariants as met
use Rattle.ats_grammar.specs.declared.reader_state.ListPart.{ListPart}
use Rattle.ats_grammar.specs.declared.reader_state.ListPart.TheVariants as list
use Rattle.ats_grammar.specs.declared.reader_state.DocsPart.{DocsPart}
use Rattle.ats_grammar.specs.declared.reader_state.DocsPart.TheVariants as docs
use Rattle.ats_grammar.specs.declared.reader_state.TermsPart.{TermsPart}
use Rattle.ats_grammar.specs.declared.reader_state.TermsPart.TheVariants as terms
use Rattle.ats_grammar.specs.declared.reader_state.Part.{Part}
use Rattle.ats_grammar.specs.declared.reader_state.Part.TheVariants as parts
use Rattle.ats_grammar.specs.declared.reader_state.State.{State}
use Rattle.ats_grammar.specs.Table.{Table, End, Number, Bytes}
use Rattle.ats_grammar.specs.Grammar.{proof, header, query_terms, dictionary, dict_leaves, dict_digests, slots, index, met, met_ids, prefixes, entries, list_digests, documents, doc_leaves, doc_digests, term_sections, term_leaves, term_digests, doc_slots, answer, rows, digests, any_2, any_4, term_length}

abbrev pub in_front : FrontPart → State → Table
in_front front.Magic s = proof
in_front front.Version s = Number 1 1 2 Version (λ _. Number 1 1 2 Algorithm (λ a. header (query_terms (a == 1))))
in_front front.Algorithm s = Number 1 1 2 Algorithm (λ a. header (query_terms (a == 1)))
in_front front.HeaderVersion s = header (query_terms s.tra)
in_front front.Documents s = Number 4 1 65536 Count (λ _. Number 4 2 16777218 Count (λ _. Bytes 32 (Bytes 32 (Bytes 32 (query_terms s.tra)))))
in_front front.DictLeaves s = Number 4 2 16777218 Count (λ _. Bytes 32 (Bytes 32 (Bytes 32 (query_terms s.tra))))
in_front front.DictRoot s = Bytes 32 (Bytes 32 (Bytes 32 (query_terms s.tra)))
in_front front.DocsRoot s = Bytes 32 (Bytes 32 (query_terms s.tra))
in_front front.TextsRoot s = Bytes 32 (query_terms s.tra)
in_front front.Terms s = query_terms s.tra

-- the leaves of the dictionary that are left, and what follows
abbrev pub dict_left : State → Table
dict_left s = dict_leaves s.left s.low (dict_digests s.tra s.slots)

abbrev pub in_dict : DictPart → State → Table
in_dict dict.LeafCount s = dictionary s.tra s.slots
in_dict dict.Position s = dict_leaves (suc s.left) s.low (dict_digests s.tra s.slots)
in_dict dict.Length s = term_length (λ size. Bytes size (any_4 (λ _. Bytes 32 (dict_left s))))
in_dict dict.Term s = Bytes s.size (any_4 (λ _. Bytes 32 (dict_left s)))
in_dict dict.Frequency s = any_4 (λ _. Bytes 32 (dict_left s))
in_dict dict.ListRoot s = Bytes 32 (dict_left s)
in_dict dict.DigestCount s = dict_digests s.tra s.slots
in_dict dict.Digest s = digests (suc s.left) (slots s.tra s.slots 0 0)

abbrev pub in_met : MetPart → State → Table
in_met met.SlotKind s = slots s.tra (suc s.slots) s.low s.present
in_met met.SlotIndex s = index s.low (λ i. slots s.tra s.slots i s.present)
in_met met.MetCount s = met s.tra s.present
in_met met.MetId s = met_ids (suc s.left) s.low (prefixes s.present (documents s.tra s.met s.present))

-- what follows a prefix
abbrev pub lists_left : State → Table
lists_left s = prefixes s.sections (documents s.tra s.met s.present)

abbrev pub in_list : ListPart → State → Table
in_list list.EntryCount s = prefixes (suc s.sections) (documents s.tra s.met s.present)
in_list list.MetIndex s = entries (suc s.left) (list_digests (lists_left s))
in_list list.Impact s = any_2 (λ _. entries s.left (list_digests (lists_left s)))
in_list list.DigestCount s = list_digests (lists_left s)
in_list list.Digest s = digests (suc s.left) (lists_left s)

-- what follows the leaves of the documents section
abbrev pub docs_left : State → Table
docs_left s = doc_digests (term_sections s.met s.present)

abbrev pub in_docs : DocsPart → State → Table
in_docs docs.LeafTerms s = doc_leaves (suc s.left) (docs_left s)
in_docs docs.TermsRoot s = Bytes 32 (doc_leaves s.left (docs_left s))
in_docs docs.DigestCount s = docs_left s
in_docs docs.Digest s = digests (suc s.left) (term_sections s.met s.present)
in_docs docs.RowCount s = answer
in_docs docs.Row s = rows (suc s.left)
in_docs docs.End s = End

-- what follows a terms section
abbrev pub sections_left : State → Table
sections_left s = term_sections s.sections s.present

-- what follows a leaf of a terms section
abbrev pub terms_left : State → Table
terms_left s = term_leaves s.left s.low (term_digests s.present (sections_left s))

abbrev pub in_terms : TermsPart → State → Table
in_terms terms.LeafCount s = term_sections (suc s.sections) s.present
in_terms terms.Position s = term_leaves (suc s.left) s.low (term_digests s.present (sections_left s))
in_terms terms.Length s = term_length (λ size. Bytes size (any_2 (λ _. terms_left s)))
in_terms terms.Term s = Bytes s.size (any_2 (λ _. terms_left s))
in_terms terms.Impact s = any_2 (λ _. terms_left s)
in_terms terms.DigestCount s = term_digests s.present (sections_left s)
in_terms terms.Digest s = digests (suc s.left) (doc_slots s.present 0 (sections_left s))
in_terms terms.SlotKind s = doc_slots (suc s.left) s.low (sections_left s)
in_terms terms.SlotIndex s = index s.low (λ i. doc_slots s.left i (sections_left s))

abbrev pub remaining_in : Part → State → Table
remaining_in (parts.Front p) s = in_front p s
remaining_in (parts.Dict p) s = in_dict p s
remaining_in (parts.Met p) s = in_met p s
remaining_in (parts.List p) s = in_list p s
remaining_in (parts.Docs p) s = in_docs p s
remaining_in (parts.Terms p) s = in_terms p s

-- what comes next, and all that comes after it
abbrev pub remaining : State → Table
remaining s = remaining_in s.part s
