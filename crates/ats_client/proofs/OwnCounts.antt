-- Which documents have which terms, as a proof tells that shows an archive's own leaves: absent terms are in no text, a
-- whole list names each document that has its term, and a met document's slots say which terms it has.
use Rattle.std.proofs.Common.{◌≡◌, ◌<◌, ◌≤◌, ◌+◌, ◌∙◌, ℕ, Bool, true, false, nat_eq, nat_lt, List, [], ◌∷◌, length, map, get_or, slice_get, Option, Some, None, refl, sym, ap, subst, inl, inr, arith}
use Rattle.std.specs.List.{All, filter, list_any, range_with_len}
use Rattle.std.proofs.lemmas.Bool.{cases_Bool, eqb-true, eq-eqb}
use Rattle.std.proofs.lemmas.List.{take_all, length-map, get_or-map}
use Rattle.std.proofs.lemmas.List.Elements.{All-head, All-tail}
use Rattle.std.proofs.lemmas.List.Folds.{Any-from_list_any, list_any_at}
use Rattle.std.proofs.lemmas.List.FromFn.{length-range_with_len, get_or-range_with_len}
use Rattle.std.proofs.lemmas.List.Sorted.{list_any-IsPermutation}
use Rattle.std.proofs.lemmas.Option.{get_or_from_slice_get, slice_get_within}
use Rattle.ats_base.specs.Rules.{AllHold}
use Rattle.ats_terms.specs.Query.{IsQuery}
use Rattle.ats_postings.specs.Lists.{list}
use Rattle.ats_postings.specs.Postings.{count_in, posting, postings, postings_of_run}
use Rattle.ats_postings.specs.declared.entry.Entry.{Entry}
use Rattle.ats_postings.proofs.Public.{list_is_sorted}
use Rattle.ats_commit.specs.Archive.{Archive}
use Rattle.ats_commit.specs.Own.{AreTexts}
use Rattle.ats_commit.specs.Ours.{asked_term}
use Rattle.ats_proof.specs.declared.record.Slot.{Slot}
use Rattle.ats_proof.specs.Value.{Documents, Proof, AreDocumentsOf, present_in}
use Rattle.ats_proof.specs.Ranges.{IsInRange}
use Rattle.ats_proof.specs.Runs.{named}
use Rattle.ats_client.specs.Accepts.{section_rules}
use Rattle.ats_client.specs.Documents.{MetDocument, documents_in, met_documents, present_numbers}
use Rattle.ats_client.specs.Groups.{IsListRight, met_at, slot_at}
use Rattle.ats_client.specs.Presented.{Presented, presented}
use Rattle.ats_client.specs.Inner.KeptTerms.{kept_term}
use Rattle.ats_client.specs.Strings.{IsOwnList, IsOwn}
use Rattle.ats_client.specs.WholeLists.{is_whole, shows_whole}
use Rattle.ats_client.specs.declared.kept_terms.PresentTerm.{PresentTerm}
use Rattle.ats_client.proofs.ListNotes.{names_inside}
use Rattle.ats_client.proofs.OwnImpacts.{slot_own}
use Rattle.ats_client.proofs.OwnLanes.{HasOwnList, absent_none, each_own, front_is}
use Rattle.ats_client.proofs.OwnSlots.{HasOwnSlot, own_document, own_slot}
use Rattle.ats_client.proofs.PresentNumbers.{presented_numbers, kept_within}

-- ---- the list of a term

-- whether an entry is a document's
abbrev is_of : ℕ → Entry → Bool
is_of doc entry = nat_eq entry.doc doc

-- a number below n is one of the numbers from 0 on
pub below_in : (n q : ℕ) → q < n → list_any (λ m. nat_eq m q) (range_with_len 0 n) ≡ true
below_in n q low =
    let size = length-range_with_len 0 n in
    let at : get_or (range_with_len 0 n) q 0 ≡ 0 + q = get_or-range_with_len 0 n q 0 low in
    list_any_at (λ m. nat_eq m q) (range_with_len 0 n) q 0 (omega (arith, size, low)) (eq-eqb _ _ (omega (arith, at)))

module _ (texts : List (List ℕ)) (term : List ℕ) (doc : ℕ) (has : nat_lt 0 (count_in texts term doc) ≡ true) where
  abbrev test : ℕ → Bool
  test d = nat_lt 0 (count_in texts term d)

  posted : (docs : List ℕ) → list_any (λ d. nat_eq d doc) docs ≡ true → list_any (is_of doc) (map (posting texts term) (filter test docs)) ≡ true
  unfolding posting
  posted [] some = absurd (cc)
  posted (d ∷ docs) some = elim (cases_Bool (nat_eq d doc)) [
    | inl same ↦
        let here : test d ≡ true = subst (λ (n : ℕ). test n ≡ true) (sym (eqb-true d doc same)) has in
        rw (here, same) refl
    | inr other ↦
        let later : list_any (is_of doc) (map (posting texts term) (filter test docs)) ≡ true = posted docs (rw other at some) in
        elim (cases_Bool (test d)) [
          | inl is ↦ rw (is, other) later
          | inr not ↦ rw not later
        ]
  ]

  -- a document that has the term is in its list
  in_list : doc < length texts → list_any (is_of doc) (list texts term) ≡ true
  unfolding postings_of_run
  in_list low =
      sym (list_any-IsPermutation (is_of doc) (postings texts term) (list texts term) (list_is_sorted texts term).same)
      ∙ posted (range_with_len 0 (length texts)) (below_in (length texts) doc low)

-- no document has a term without entries
none_has : (texts : List (List ℕ)) (term : List ℕ) → list texts term ≡ [] → (doc : ℕ) → doc < length texts → nat_lt 0 (count_in texts term doc) ≡ false
none_has texts term none doc low = elim (cases_Bool (nat_lt 0 (count_in texts term doc))) [
  | inl has ↦
      let found : list_any (is_of doc) (list texts term) ≡ true = in_list texts term doc has low in
      let nothing : list_any (is_of doc) (list texts term) ≡ false = ap (list_any (is_of doc)) none in
      absurd (cc)
  | inr not ↦ not
]

-- a document that an entry names is met
names_met : (met : List ℕ) (doc : ℕ) (entries : List Entry) → All (λ (e : Entry). e.doc < length met) entries
    → list_any (is_of doc) (map (named met) entries) ≡ true → list_any (λ m. nat_eq m doc) met ≡ true
names_met met doc [] inside some = absurd (cc)
names_met met doc (e ∷ entries) inside some = elim (cases_Bool (nat_eq (met_at met e.doc) doc)) [
  | inl same ↦ list_any_at (λ m. nat_eq m doc) met e.doc 0 (All-head (λ (e : Entry). e.doc < length met) e entries inside) same
  | inr other ↦ names_met met doc entries (All-tail (λ (e : Entry). e.doc < length met) e entries inside) (rw other at some)
]

-- ---- a proof

-- the rules of what it shows hold, and all of that is the archive's own
pub record ShowsOwn (H : List ℕ → List ℕ) (archive : Archive) (root : List ℕ) (query : List (List ℕ × ℕ)) (proof : Proof) : Type 0 where
  pub are : AreTexts archive.texts
  pub asked : IsQuery query
  pub range : IsInRange proof
  pub enough : present_in proof.slots ≡ length proof.lists
  pub parts : AreDocumentsOf proof proof.docs
  pub holds : AllHold (section_rules H root query proof)
  pub own : IsOwn H archive query proof

module _ (H : List ℕ → List ℕ) (archive : Archive) (root : List ℕ) (query : List (List ℕ × ℕ)) (proof : Proof) (is : ShowsOwn H archive root query proof) where
  abbrev texts : List (List ℕ)
  texts = archive.texts

  abbrev ones : List Presented
  ones = presented query proof

  -- no document has an absent term
  pub absent_lacks : (i : ℕ) (pair : List ℕ × ℕ) (slot : Slot) → slice_get query i ≡ Some pair → slice_get proof.slots i ≡ Some slot
      → slot.present ≡ false → (doc : ℕ) → doc < length texts → nat_lt 0 (count_in texts pair.0 doc) ≡ false
  absent_lacks i pair slot at spot absent doc low =
      none_has texts pair.0 (absent_none H archive query proof is.are is.asked is.range is.own.terms is.holds.1.1.0 i pair slot at spot absent) doc low

  -- the number of a present term is that of a term of the query
  within : (k : ℕ) (d : Presented) → k < length ones → (get_or ones k d).number < length query
  within k d low =
      let kept : Presented → PresentTerm = kept_term proof.header.documents in
      let here : get_or (map kept ones) k (kept d) ≡ kept (get_or ones k d) = get_or-map kept ones k d (kept d) low in
      let size = length-map ones kept in
      subst (λ (t : PresentTerm). t.number < length query) here (kept_within query proof is.holds.0.slots k (kept d) (omega (arith, size, low)))

  -- a whole list names each document that has its term
  lists_all : (one : Presented) → is_whole one ≡ true → HasOwnList texts query one → IsOwnList texts query proof.met one → IsListRight H proof.format proof.met one
      → (doc : ℕ) → doc < length texts → nat_lt 0 (count_in texts (asked_term query one.number) doc) ≡ true → list_any (λ m. nat_eq m doc) proof.met ≡ true
  lists_all one whole listed front right doc low has =
      let term : List ℕ = asked_term query one.number in
      let entries : List Entry = one.prefix.entries in
      let many : length entries ≡ one.entry.f = eqb-true (length entries) one.entry.f whole in
      let all : length (list texts term) ≤ length entries = omega (arith, many, listed.1) in
      let same : map (named proof.met) entries ≡ list texts term =
      front_is H proof.format texts query proof.header.documents proof.met is.are is.own.numbers.number is.range.ids.small one listed front right
      ∙ take_all (length entries) (list texts term) all in
      names_met proof.met doc entries (names_inside (length proof.met) entries right.names)
      (subst (λ (es : List Entry). list_any (is_of doc) es ≡ true) (sym same) (in_list texts term doc has low))

  -- if a whole list is shown, each document that has all terms is met
  pub whole_meets : shows_whole query proof ≡ true → (doc : ℕ) → doc < length texts
      → ((number : ℕ) → number < length query → nat_lt 0 (count_in texts (asked_term query number) doc) ≡ true) → list_any (λ m. nat_eq m doc) proof.met ≡ true
  whole_meets shown doc low has =
      let any = Any-from_list_any is_whole ones shown in
      let k : ℕ = any.0 in
      let one : Presented = any.1 in
      let here : get_or ones k one ≡ one = any.3 in
      let number : one.number < length query = subst (λ (o : Presented). o.number < length query) here (within k one any.2) in
      lists_all one any.4
      (subst (HasOwnList texts query) here (each_own H archive query proof is.are is.asked is.range is.own.terms is.holds.1.1.0 is.enough k one any.2))
      (subst (IsOwnList texts query proof.met) here (is.own.fronts k one any.2))
      (subst (IsListRight H proof.format proof.met) here (is.holds.1.1.1.0 k one any.2))
      doc low (has one.number number)

  in_documents : (docs : Option Documents) → proof.docs ≡ docs → (i : ℕ) (one : MetDocument) → slice_get (documents_in proof.met docs) i ≡ Some one → one.doc < length texts
  in_documents None shown i one there = absurd (omega (arith, slice_get_within [] i one there))
  in_documents (Some docs) shown i one there =
      (own_document H archive query proof is.are is.asked is.range is.enough is.holds.1.1.0 is.holds.0.slots is.own is.holds.1.1.1.1.1.1.0 docs shown i one there).inside

  -- a met document is one of the texts
  pub met_inside : (i : ℕ) (one : MetDocument) → slice_get (met_documents proof) i ≡ Some one → one.doc < length texts
  met_inside i one there = in_documents proof.docs refl i one there

  slots_in : (docs : Option Documents) → proof.docs ≡ docs → (i : ℕ) (one : MetDocument) → slice_get (documents_in proof.met docs) i ≡ Some one
      → (k : ℕ) (d : Presented) → k < length ones
      → (slot_at one.section.slots k).present ≡ nat_lt 0 (count_in texts (asked_term query (get_or ones k d).number) one.doc)
  slots_in None shown i one there k d low = absurd (omega (arith, slice_get_within [] i one there))
  slots_in (Some docs) shown i one there k d low =
      let term : List ℕ = asked_term query (get_or ones k d).number in
      let slot : HasOwnSlot texts one k term =
      own_slot H archive query proof is.are is.asked is.range is.enough is.holds.1.1.0 is.holds.0.slots is.own is.holds.1.1.1.1.1.1.0 docs shown i one there k low d in
      slot_own texts one.doc slot.inside one.section slot.ranges slot.leaves k term slot.is_term slot.shows

  -- its slots say which of the present terms it has
  pub slots_tell : (i : ℕ) (one : MetDocument) → slice_get (met_documents proof) i ≡ Some one → (k number : ℕ) → slice_get (present_numbers proof) k ≡ Some number
      → (slot_at one.section.slots k).present ≡ nat_lt 0 (count_in texts (asked_term query number) one.doc)
  slots_tell i one there k number at =
      let none : Presented = record { number = 0; weight = 0; entry = record { term = []; f = 0; root = [] }; prefix = record { entries = []; digests = [] } } in
      let numbers = presented_numbers query proof is.holds.0.slots in
      let size = length-map ones (λ (one : Presented). one.number) in
      let low : k < length ones = omega (arith, slice_get_within (present_numbers proof) k number at, ap (λ (ns : List ℕ). length ns) numbers, size) in
      let same : (get_or ones k none).number ≡ number =
      sym (get_or-map (λ (one : Presented). one.number) ones k none 0 low) ∙ ap (λ (ns : List ℕ). get_or ns k 0) numbers ∙ get_or_from_slice_get (present_numbers proof) k number 0 at in
      slots_in proof.docs refl i one there k none low ∙ ap (λ n. nat_lt 0 (count_in texts (asked_term query n) one.doc)) same
