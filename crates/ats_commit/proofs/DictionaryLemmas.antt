-- The entries of an archive's dictionary.
use Rattle.std.proofs.Common.{◌≡◌, ◌+◌, ℕ, List, [], ◌∷◌, length, get_or, map, refl, ap, ◌∙◌}
use Rattle.std.specs.List.{All}
use Rattle.std.proofs.lemmas.List.{length-map}
use Rattle.std.proofs.lemmas.List.Elements.{All-map}
use Rattle.ats_impact.specs.Score.{frequency}
use Rattle.ats_lists.specs.Formats.{list_root}
use Rattle.ats_postings.specs.Lists.{list, vocabulary, lists_of}
use Rattle.ats_postings.specs.declared.entry.Entry.{Entry}
use Rattle.ats_postings.proofs.Public.{list_frequency}
use Rattle.ats_dict.specs.Entry.{DictEntry}
use Rattle.ats_dict.specs.Dictionary.{dict_leaves}
use Rattle.ats_dict.proofs.Public.{length-dict_leaves}
use Rattle.ats_lists.specs.declared.format.Format.{Format}
use Rattle.ats_commit.specs.Archive.{Archive}
use Rattle.ats_commit.specs.Trees.{dict_entry, dictionary_of}

terms_made : (H : List ℕ → List ℕ) (format : Format) (made : List ℕ → List Entry) (words : List (List ℕ))
    → map (λ (e : DictEntry). e.term) (map (dict_entry H format) (map (λ word. (word, made word)) words)) ≡ words
terms_made H format made [] = refl
terms_made H format made (word ∷ words) = ap (λ xs. word ∷ xs) (terms_made H format made words)

pub dictionary_terms : (H : List ℕ → List ℕ) (archive : Archive) → map (λ (e : DictEntry). e.term) (dictionary_of H archive) ≡ vocabulary archive.texts
unfolding lists_of
dictionary_terms H archive = terms_made H archive.format (list archive.texts) (vocabulary archive.texts)

-- what holds of the entry of each term's list holds of each entry
each_entry : (H : List ℕ → List ℕ) (archive : Archive) (P : DictEntry → Type 0)
    → ((term : List ℕ) → P (dict_entry H archive.format (term, list archive.texts term))) → All P (dictionary_of H archive)
unfolding lists_of
each_entry H archive P holds =
    All-map P (dict_entry H archive.format) (lists_of archive.texts)
    (All-map (λ (l : List ℕ × List Entry). P (dict_entry H archive.format l)) (λ term. (term, list archive.texts term)) (vocabulary archive.texts)
    (λ k d inside. holds (get_or (vocabulary archive.texts) k d)))

pub dictionary_numbers : (H : List ℕ → List ℕ) (archive : Archive) → All (λ e. e.f ≡ frequency e.term archive.texts) (dictionary_of H archive)
dictionary_numbers H archive = each_entry H archive (λ e. e.f ≡ frequency e.term archive.texts) (list_frequency archive.texts)

pub dictionary_roots : (H : List ℕ → List ℕ) (archive : Archive) → All (λ e. e.root ≡ list_root H archive.format (list archive.texts e.term)) (dictionary_of H archive)
dictionary_roots H archive = each_entry H archive (λ e. e.root ≡ list_root H archive.format (list archive.texts e.term)) (λ term. refl)

-- a leaf for each term, and two sentinels
pub dictionary_count : (H : List ℕ → List ℕ) (archive : Archive) → length (dict_leaves (dictionary_of H archive)) ≡ length (vocabulary archive.texts) + 2
unfolding lists_of
dictionary_count H archive =
    length-dict_leaves (dictionary_of H archive)
    ∙ ap (λ n. n + 2) (length-map (lists_of archive.texts) (dict_entry H archive.format) ∙ length-map (vocabulary archive.texts) (λ term. (term, list archive.texts term)))
