-- The list of a term among all lists, and a term that has none.
use Rattle.std.proofs.Common.{◌≡◌, ◌<◌, ℕ, false, List, [], length, get_or, nat_lt, sym, ap, ◌∙◌, arith, inl, inr}
use Rattle.std.specs.List.{All, list_any}
use Rattle.std.specs.Str.{bytes_eq}
use Rattle.std.proofs.lemmas.Bool.{cases_Bool, ltb-false}
use Rattle.std.proofs.lemmas.List.{length-map, get_or-map, get_or_default, nil_from_length}
use Rattle.std.proofs.lemmas.List.Folds.{list_any_none}
use Rattle.std.proofs.lemmas.Slice.Eq.{bytes_eq-Decides}
use Rattle.ats_postings.specs.Postings.{postings}
use Rattle.ats_postings.specs.Lists.{list, lists_of, vocabulary}
use Rattle.ats_postings.specs.declared.entry.Entry.{Entry}
use Rattle.ats_postings.proofs.VocabularyLemmas.{vocabulary_has, postings_frequency}
use Rattle.ats_postings.proofs.WholeLemmas.{list_frequency}

-- the lists are in the order of the vocabulary
lists_at : (texts : List (List ℕ)) (i : ℕ) (d : List ℕ × List Entry) → i < length (vocabulary texts)
    → get_or (lists_of texts) i d ≡ (get_or (vocabulary texts) i [], list texts (get_or (vocabulary texts) i []))
unfolding lists_of
lists_at texts i d inside =
    let made : List ℕ → List ℕ × List Entry = λ term. (term, list texts term)
    in get_or-map made (vocabulary texts) i [] d inside

length-lists_of : (texts : List (List ℕ)) → length (lists_of texts) ≡ length (vocabulary texts)
unfolding lists_of
length-lists_of texts =
    let made : List ℕ → List ℕ × List Entry = λ term. (term, list texts term) in length-map (vocabulary texts) made

-- a list under a term is that term's
pub listed : (texts : List (List ℕ)) (term : List ℕ) (i : ℕ) (d : List ℕ × List Entry) → i < length (lists_of texts)
    → (get_or (lists_of texts) i d).0 ≡ term → (get_or (lists_of texts) i d).1 ≡ list texts term
listed texts term i d inside same =
    let is : get_or (lists_of texts) i d ≡ (get_or (vocabulary texts) i [], list texts (get_or (vocabulary texts) i [])) =
    lists_at texts i d (omega (arith, length-lists_of texts))
    in ap (λ (l : List ℕ × List Entry). l.1) is
    ∙ ap (list texts) (ap (λ (l : List ℕ × List Entry). l.0) (sym is) ∙ same)

differs : (xs ys : List ℕ) → (xs ≡ ys → ⊥) → bytes_eq xs ys ≡ false
differs xs ys other = elim (cases_Bool (bytes_eq xs ys)) [
  | inl is ↦ absurd (other ((bytes_eq-Decides xs ys).0 is))
  | inr not ↦ not
]

-- a term that is under no list has no entry
pub unlisted : (texts : List (List ℕ)) (term : List ℕ) → All (λ l. l.0 ≡ term → ⊥) (lists_of texts) → list texts term ≡ []
unlisted texts term none =
    let words : List (List ℕ) = vocabulary texts
    in let absent : list_any (bytes_eq term) words ≡ false = list_any_none (bytes_eq term) words (λ k d inside.
    let word : (get_or (lists_of texts) k ([], [])).0 ≡ get_or words k [] =
    ap (λ (l : List ℕ × List Entry). l.0) (lists_at texts k ([], []) inside)
    in let at : get_or words k d ≡ get_or words k [] = get_or_default words k d [] inside
    in differs term (get_or words k d) (λ same. none k ([], []) (omega (arith, inside, length-lists_of texts)) (word ∙ sym at ∙ sym same)))
    in let few : nat_lt 0 (length (postings texts term)) ≡ false = sym (vocabulary_has texts term) ∙ absent
    in nil_from_length (list texts term)
    (list_frequency texts term ∙ sym (postings_frequency term texts) ∙ omega (arith, ltb-false 0 (length (postings texts term)) few))
