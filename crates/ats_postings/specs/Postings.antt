-- The postings of a term: the documents that have it, each with the term's impact there.
use Rattle.std.specs.Prelude.{ℕ, List, [], length, map, filter, slice_index_or, nat_lt}
use Rattle.std.specs.List.{range_with_len}
use Rattle.ats_terms.specs.Terms.{terms}
use Rattle.ats_impact.specs.Numbers.{impact}
use Rattle.ats_impact.specs.Score.{count, total_terms}
use Rattle.ats_postings.specs.declared.entry.Entry.{Entry}

-- the text of a document
abbrev pub text_of : List (List ℕ) → ℕ → List ℕ
text_of texts doc = slice_index_or texts doc []

-- how often the term occurs in the document
abbrev pub count_in : List (List ℕ) → List ℕ → ℕ → ℕ
count_in texts term doc = count term (text_of texts doc)

-- the document, with the term's impact there
unfoldable pub posting : List (List ℕ) → List ℕ → ℕ → Entry
posting texts term doc = record {
  doc = doc;
  impact = impact (count_in texts term doc) (total_terms texts) (length (terms (text_of texts doc))) (length texts);
}

-- the postings of the n documents from `first` on, among them those that have the term, in the order of documents
unfoldable pub postings_of_run : ℕ → ℕ → List (List ℕ) → List ℕ → List Entry
postings_of_run first n texts term =
    map (posting texts term) (filter (λ doc. nat_lt 0 (count_in texts term doc)) (range_with_len first n))

-- the postings of the first n documents
abbrev pub postings_of_first : ℕ → List (List ℕ) → List ℕ → List Entry
postings_of_first n texts term = postings_of_run 0 n texts term

-- the postings of all documents
abbrev pub postings : List (List ℕ) → List ℕ → List Entry
postings texts term = postings_of_first (length texts) texts term
