-- Leaves with the bytes of an archive's own are true of its lists.
use Rattle.std.proofs.Common.{◌≡◌, ◌≢◌, ◌∙◌, ◌<◌, ◌+◌, ◌^◌, ℕ, List, [], length, get_or, map, nat_lt, slice_get, Some, true, refl, sym, ap, ap₂, subst, inl, inr, arith}
use Rattle.std.specs.Int.{to_be_bytes, w16}
use Rattle.std.specs.List.{All, Contains}
use Rattle.std.specs.declared.cmp.Ordering.TheVariants.{Less}
use Rattle.std.proofs.lemmas.Bool.{cases_lt}
use Rattle.std.proofs.lemmas.Bool.Decides.{nat_tests}
use Rattle.std.proofs.lemmas.List.{get_or-map, length-map, nil_from_length}
use Rattle.std.proofs.lemmas.List.Elements.{All-weaker, at_from_Contains}
use Rattle.std.proofs.lemmas.List.Sums.{count_by-le-length}
use Rattle.std.proofs.lemmas.Map.Keys.{Less-from_sorted}
use Rattle.std.proofs.lemmas.Map.Views.{Contains-from_any}
use Rattle.std.proofs.lemmas.Option.{slice_get-get_or, slice_get_within, get_or_from_slice_get}
use Rattle.std.proofs.lemmas.Slice.Eq.{bytes_eq-Decides}
use Rattle.ats_tree.proofs.Public.{same_2, numbered}
use Rattle.ats_terms.specs.Terms.{IsTerm}
use Rattle.ats_terms.specs.Query.{byte_cmp}
use Rattle.ats_impact.specs.Score.{frequency, count}
use Rattle.ats_lists.specs.Leaf.{leaf_bytes}
use Rattle.ats_postings.specs.Lists.{list, vocabulary, IsList}
use Rattle.ats_postings.specs.declared.entry.Entry.{Entry}
use Rattle.ats_postings.proofs.Public.{vocabulary_has, vocabulary_rises, postings_frequency, list_frequency, list_keeps}
use Rattle.ats_dict.specs.Entry.{DictEntry}
use Rattle.ats_dict.specs.Dictionary.{IsBelow, low, high, entry_at, term_at, leaf_of, dict_leaves}
use Rattle.ats_dict.proofs.Public.{leaf_parts, entry_at-suc, entry_at-last, get_or-dict_leaves, length-dict_leaves}
use Rattle.ats_commit.specs.Archive.{Archive}
use Rattle.ats_commit.specs.Trees.{dictionary_of}
use Rattle.ats_commit.specs.Own.{AreTexts, AreNeighbours, IsEntryOf}
use Rattle.ats_commit.proofs.Enclosed.{at_each, none_between}
use Rattle.ats_commit.proofs.DictionaryLemmas.{dictionary_terms, dictionary_numbers, dictionary_roots}

-- ---- leaves of equal bytes have equal parts

same_entry : (a b : DictEntry) → a.f < 2 ^ 32 → b.f < 2 ^ 32 → leaf_of a ≡ leaf_of b → a ≡ b
same_entry a b small less same =
    let parts = leaf_parts a.term b.term a.f b.f a.root b.root small less same in
    let Made : List ℕ → ℕ → List ℕ → DictEntry = λ (t : List ℕ) (n : ℕ) (r : List ℕ). record { term = t; f = n; root = r } in
    ap (λ t. Made t a.f a.root) parts.0 ∙ ap₂ (λ n r. Made b.term n r) parts.1 parts.2

same_posting : (a b : Entry) → a.doc < 2 ^ 32 → b.doc < 2 ^ 32 → a.impact < 2 ^ 16 → b.impact < 2 ^ 16 → leaf_bytes a ≡ leaf_bytes b → a ≡ b
same_posting a b small less few fewer same =
    let parts = numbered a.doc b.doc (to_be_bytes w16 a.impact) (to_be_bytes w16 b.impact) small less same in
    let Made : ℕ → ℕ → Entry = λ (d i : ℕ). record { doc = d; impact = i } in
    ap₂ Made parts.0 (same_2 a.impact b.impact few fewer parts.1)

-- ---- the leaves of the dictionary

module _ (H : List ℕ → List ℕ) (archive : Archive) (are : AreTexts archive.texts) where
  few_documents : All (λ (e : DictEntry). e.f < 2 ^ 32) (dictionary_of H archive)
  few_documents =
      All-weaker (λ (e : DictEntry). e.f ≡ frequency e.term archive.texts) (λ (e : DictEntry). e.f < 2 ^ 32)
      (λ e is. omega (arith, is, count_by-le-length (λ (text : List ℕ). nat_lt 0 (count e.term text)) archive.texts, are.within.few))
      (dictionary_of H archive) (dictionary_numbers H archive)

  at_places : (P : DictEntry → Type 0) → P low → P high → All P (dictionary_of H archive) → (p : ℕ) → p < length (dictionary_of H archive) + 2
      → P (entry_at (dictionary_of H archive) p)
  at_places =
      let entries : List DictEntry = dictionary_of H archive in
      at_each low high entries (entry_at entries) refl (λ i. entry_at-suc entries i low) (entry_at-last entries)

  -- a leaf with the bytes of an entry is that entry's
  own_entry : (p : ℕ) (entry : DictEntry) → entry.f < 2 ^ 32 → slice_get (dict_leaves (dictionary_of H archive)) p ≡ Some (leaf_of entry)
      → (p < length (dictionary_of H archive) + 2) × (entry_at (dictionary_of H archive) p ≡ entry)
  own_entry p entry small there =
      let entries : List DictEntry = dictionary_of H archive in
      let inside : p < length entries + 2 = omega (arith, length-dict_leaves entries, slice_get_within (dict_leaves entries) p (leaf_of entry) there) in
      let same : leaf_of (entry_at entries p) ≡ leaf_of entry =
      sym (get_or-dict_leaves entries p inside) ∙ get_or_from_slice_get (dict_leaves entries) p (leaf_of entry) [] there in
      let fits : (entry_at entries p).f < 2 ^ 32 =
      at_places (λ (e : DictEntry). e.f < 2 ^ 32) (omega arith) (omega arith) few_documents p inside in
      (inside, same_entry (entry_at entries p) entry fits small same)

  entries_tell : All (λ (e : DictEntry). IsTerm e.term → IsEntryOf H archive e) (dictionary_of H archive)
  entries_tell k d inside term =
      let e : DictEntry = get_or (dictionary_of H archive) k d in
      record {
        number = dictionary_numbers H archive k d inside ∙ sym (list_frequency archive.texts e.term);
        root = dictionary_roots H archive k d inside;
      }

  -- a term's leaf is no sentinel
  pub leaf_tells_entry : (p : ℕ) (entry : DictEntry) → IsTerm entry.term → entry.f < 2 ^ 32
      → slice_get (dict_leaves (dictionary_of H archive)) p ≡ Some (leaf_of entry) → IsEntryOf H archive entry
  leaf_tells_entry p entry term small there =
      let own = own_entry p entry small there in
      let Tells : DictEntry → Type 0 = λ (e : DictEntry). IsTerm e.term → IsEntryOf H archive e in
      let tells : Tells (entry_at (dictionary_of H archive) p) =
      at_places Tells (λ is. absurd (omega (arith, is.some))) (λ is. absurd (omega (arith, is.front))) entries_tell p own.0 in
      subst Tells own.1 tells term

  -- ---- between neighbours

  rises : (i j : ℕ) → i < j → j < length (dictionary_of H archive) → IsBelow (get_or (dictionary_of H archive) i low).term (get_or (dictionary_of H archive) j low).term
  rises i j up inside =
      let entries : List DictEntry = dictionary_of H archive in
      let term : DictEntry → List ℕ = λ (e : DictEntry). e.term in
      let size : length (map term entries) ≡ length entries = length-map entries term in
      let less : byte_cmp (get_or (map term entries) i []) (get_or (map term entries) j []) ≡ Less =
      Less-from_sorted byte_cmp (map term entries) i j [] (rw (dictionary_terms H archive) (vocabulary_rises archive.texts)) up (omega arith) in
      rw (get_or-map term entries i low [] (omega arith), get_or-map term entries j low [] inside) at less

  -- a term that is no entry's is in no text
  in_no_text : (term : List ℕ) → All (λ (e : DictEntry). e.term ≢ term) (dictionary_of H archive) → frequency term archive.texts ≡ 0
  in_no_text term other = elim (cases_lt 0 (frequency term archive.texts)) [
    | inl some ↦
        let entries : List DictEntry = dictionary_of H archive in
        let read : DictEntry → List ℕ = λ (e : DictEntry). e.term in
        let posted : nat_lt 0 (frequency term archive.texts) ≡ true = grind (arith, nat_tests) in
        let found : Contains (vocabulary archive.texts) term =
        Contains-from_any (λ x y equal. (bytes_eq-Decides x y).0 equal) term (vocabulary archive.texts)
        (vocabulary_has archive.texts term ∙ ap (nat_lt 0) (postings_frequency term archive.texts) ∙ posted) in
        let place = at_from_Contains (vocabulary archive.texts) term found in
        let inside : place.0 < length entries = omega (arith, place.1, ap length (dictionary_terms H archive), length-map entries read) in
        let there : (get_or entries place.0 low).term ≡ term =
        sym (get_or-map read entries place.0 low [] inside) ∙ ap (λ (words : List (List ℕ)). get_or words place.0 []) (dictionary_terms H archive) ∙ place.2 [] in
        absurd (other place.0 low inside there)
    | inr none ↦ omega arith
  ]

  -- two neighbours say that what lies between their terms is in no text
  pub neighbours_tell : (p : ℕ) (lower upper : DictEntry) (term : List ℕ) → AreNeighbours (dict_leaves (dictionary_of H archive)) p lower upper
      → IsBelow lower.term term → IsBelow term upper.term → (list archive.texts term ≡ []) × (frequency term archive.texts ≡ 0)
  neighbours_tell p lower upper term are_there above below =
      let entries : List DictEntry = dictionary_of H archive in
      let first = own_entry p lower are_there.first_small are_there.first in
      let second = own_entry (p + 1) upper are_there.second_small are_there.second in
      let after : IsBelow (term_at entries p) term = subst (λ (e : DictEntry). IsBelow e.term term) (sym first.1) above in
      let before : IsBelow term (term_at entries (p + 1)) = subst (λ (e : DictEntry). IsBelow term e.term) (sym second.1) below in
      let none : frequency term archive.texts ≡ 0 =
      in_no_text term
      (none_between low entries (entry_at entries) (λ i. entry_at-suc entries i low) (λ (e : DictEntry). e.term) rises p term (omega (arith, second.0)) after before) in
      (nil_from_length (list archive.texts term) (list_frequency archive.texts term ∙ none), none)

-- ---- the leaves of a list

pub leaf_tells_posting : (texts : List (List ℕ)) → AreTexts texts → (term : List ℕ) (i : ℕ) (entry : Entry) → entry.doc < 2 ^ 32 → entry.impact < 2 ^ 16
    → slice_get (map leaf_bytes (list texts term)) i ≡ Some (leaf_bytes entry) → slice_get (list texts term) i ≡ Some entry
leaf_tells_posting texts are term i entry small few there =
    let entries : List Entry = list texts term in
    let inside : i < length entries = omega (arith, slice_get_within (map leaf_bytes entries) i (leaf_bytes entry) there, length-map entries leaf_bytes) in
    let own : Entry = get_or entries i entry in
    let keeps : IsList (length texts) entries = list_keeps texts term (omega (arith, list_frequency texts term, postings_frequency term texts)) in
    let impacts = keeps.impacts i entry inside in
    let same : leaf_bytes own ≡ leaf_bytes entry =
    sym (get_or-map leaf_bytes entries i entry [] inside) ∙ get_or_from_slice_get (map leaf_bytes entries) i (leaf_bytes entry) [] there in
    slice_get-get_or entries i entry inside
    ∙ ap Some (same_posting own entry (omega (arith, keeps.documents i entry inside, are.within.few)) small (omega (arith, impacts.1)) few same)
