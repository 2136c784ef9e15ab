-- The fields that spell a proof put its parts into their ranges.
use Rattle.std.proofs.Common.{◌≡◌, ◌∙◌, ℕ, zero, suc, ◌+◌, ◌^◌, ◌==◌, ◌<◌, ◌≤◌, Bool, true, List, [], ◌∷◌, ◌++◌, length, map, slice_index_or, Option, Some, None, sym, ap, subst, append_assoc, map-id, zero-add, arith}
use Rattle.std.specs.List.{All, AllByRecursion, AllAdjacentBelow, flat_map}
use Rattle.std.specs.Option.{ForSome}
use Rattle.std.specs.List.Sorted.{IsStrictlyIncreasing, IsNonDecreasing}
use Rattle.std.proofs.lemmas.List.Elements.{All-from_recursion, recursion_from_All}
use Rattle.std.proofs.lemmas.List.Sorted.{IsNonDecreasingBy-from_all_adjacent}
use Rattle.ats_dict.specs.Header.{IsHeader}
use Rattle.ats_dict.specs.declared.header.Header.{Header}
use Rattle.ats_postings.specs.declared.entry.Entry.{Entry}
use Rattle.ats_lists.specs.declared.format.Format.{Format}
use Rattle.ats_doctree.specs.declared.doc_leaf.DocLeaf.{DocLeaf}
use Rattle.ats_proof.specs.declared.record.Slot.{Slot}
use Rattle.ats_grammar.specs.declared.fault.ShapeKind.{ShapeKind}
use Rattle.ats_grammar.specs.declared.fault.ShapeKind.TheVariants.{Algorithm, Count, Order}
use Rattle.ats_grammar.specs.Table.{Table, End, Number, Bytes}
use Rattle.ats_grammar.specs.Grammar.{any_2, any_4, index, term_length, digests, proof, header, query_terms, dictionary, dict_digests, slots, met, prefixes, prefix, list_digests, documents, doc_digests, term_sections, term_section, term_digests, doc_slots, answer, rows}
use Rattle.ats_grammar.specs.Front.{Come}
use Rattle.ats_proof.specs.Parts.{spelled, counted}
use Rattle.ats_proof.specs.Value.{ShownEntry, ShownTerm, Prefix, TermsSection, Documents, Proof, IsProof, AreDocumentsOf, digest_fields, slot_fields, kind_of_slot, id_fields, posting_fields, entry_fields, doc_fields, term_fields, prefix_fields, section_fields, documents_fields, front_fields, header_fields, number_of_algorithm, present_in}
use Rattle.ats_proof.specs.Ranges.{AreDigests, IsShownInRange, IsEntryInRange, IsPrefixInRange, IsDictInRange, AreSlotsInRange, AreIdsInRange, IsTermInRange, IsSectionInRange, IsDocLeafInRange, AreDocumentsInRange, IsInRange}
use Rattle.ats_proof.proofs.Encoded.{header_first}
use Rattle.ats_proof.proofs.Numbers.{number-spelled}
use Rattle.ats_proof.proofs.Standing.{IsRanged}
use Rattle.ats_proof.proofs.Runs.{runs, state_after}
use Rattle.ats_proof.proofs.PartKinds.{U, digest_part, id_part, posting_part, slot_part, doc_slot_part, doc_part, entry_part, term_part}
use Rattle.ats_proof.proofs.Tables.{digests_run, ids_run, entries_run, slots_run, doc_slots_run, docs_run, dict_run, terms_run, prefix_part, prefixes_run}
use Rattle.ats_proof.proofs.Whole.{next_slot, present_after}
use Rattle.ats_proof.proofs.Unique.{after_lists, after_slots, after_terms, fields_in_turn}

-- something is so, and the fields that are left are the table's
pub record Holds (good : Type 0) (table : Table) (after : List (List ℕ)) : Type 0 where
  pub is_good : good
  pub come : Come after table End

number_holds : (k low high n : ℕ) (kind : ShapeKind) (rest : ℕ → Table) (after : List (List ℕ)) → Come (spelled (suc k) n ∷ after) (Number (suc k) low high kind rest) End → Holds (IsRanged low high n) (rest n) after
number_holds k low high n kind rest after come =
    let same = number-spelled k n in
    record {
      is_good = record { least = subst (λ (m : ℕ). low ≤ m) same come.0.1; most = subst (λ (m : ℕ). m ≤ high) same come.0.2 };
      come = subst (λ (m : ℕ). Come after (rest m) End) same come.1;
    }

-- ---- runs

-- each part is good at its state
abbrev AreGoodFrom : {S X : Type 0} → (S → X → S) → (S → X → Type 0) → S → List X → Type 0
AreGoodFrom next Good s [] = Unit {0}
AreGoodFrom next Good s (x ∷ xs) = Good s x × AreGoodFrom next Good (next s x) xs

pub record AreCounted {X : Type 0} (low high : ℕ) (xs : List X) (good : Type 0) : Type 0 where
  pub count : IsRanged low high (length xs)
  pub are_good : good

module _ {S X : Type 0} (part : S → (S → Table) → Table) (spell : X → List (List ℕ)) (next : S → X → S) (Good : S → X → Type 0) (one : (s : S) (k : S → Table) (x : X) (after : List (List ℕ)) → Come (spell x ++ after) (part s k) End → Holds (Good s x) (k (next s x)) after) where
  run_holds : (xs : List X) (s : S) (last : S → Table) (after : List (List ℕ)) → Come (flat_map spell xs ++ after) (runs part (length xs) s last) End
      → Holds (AreGoodFrom next Good s xs) (last (state_after next s xs)) after
  run_holds [] s last after come = record { is_good = tt; come = come }
  run_holds (x ∷ xs) s last after come =
      let k : S → Table = λ t. runs part (length xs) t last in
      let joined = subst (λ (fields : List (List ℕ)). Come fields (part s k) End) (append_assoc (spell x) (flat_map spell xs) after) come in
      let first = one s k x (flat_map spell xs ++ after) joined in
      let more = run_holds xs (next s x) last after first.come in
      record { is_good = (first.is_good, more.is_good); come = more.come }

  counted_holds : (width low high : ℕ) (kind : ShapeKind) (xs : List X) (s : S) (last : ℕ → S → Table) (after : List (List ℕ))
      → Come (counted (suc width) spell xs ++ after) (Number (suc width) low high kind (λ n. runs part n s (last n))) End
      → Holds (AreCounted low high xs (AreGoodFrom next Good s xs)) (last (length xs) (state_after next s xs)) after
  counted_holds width low high kind xs s last after come =
      let number = number_holds width low high (length xs) kind (λ n. runs part n s (last n)) (flat_map spell xs ++ after) come in
      let run = run_holds xs s (last (length xs)) after number.come in
      record { is_good = record { count = number.is_good; are_good = run.is_good }; come = run.come }

module _ {S X : Type 0} (next : S → X → S) (Good : S → X → Type 0) (P : X → Type 0) (kept : (s : S) (x : X) → Good s x → P x) where
  each_by_recursion : (xs : List X) (s : S) → AreGoodFrom next Good s xs → AllByRecursion P xs
  each_by_recursion [] s good = tt
  each_by_recursion (x ∷ xs) s good = (kept s x good.0, each_by_recursion xs (next s x) good.1)

  each : (xs : List X) (s : S) → AreGoodFrom next Good s xs → All P xs
  each xs s good = All-from_recursion P xs (each_by_recursion xs s good)

-- each number relates to the next as their parts' states require
module _ {S X : Type 0} (next : S → X → S) (Good : S → X → Type 0) (number : X → ℕ) (R : ℕ → ℕ → Type 0) (told : (s : S) (x y : X) → Good (next s x) y → R (number x) (number y)) where
  adjacent : (xs : List X) (s : S) → AreGoodFrom next Good s xs → AllAdjacentBelow R (map number xs) (length (map number xs))
  adjacent [] s good k d below = absurd (omega (arith, below))
  adjacent (x ∷ []) s good k d below = absurd (omega (arith, below))
  adjacent (x ∷ y ∷ xs) s good zero d below = told s x y good.1.0
  adjacent (x ∷ y ∷ xs) s good (suc k) d below =
      let e : suc (k + 1) ≡ suc k + 1 = omega arith in
      let all = map number (x ∷ y ∷ xs) in
      subst (λ (j : ℕ). R (slice_index_or all (suc k) d) (slice_index_or all j d)) e (adjacent (y ∷ xs) (next s x) good.1 k d (omega (arith, below)))

-- a number is at least `low`, and a condition holds
pub record IsAbove (low number : ℕ) (good : Type 0) : Type 0 where
  pub above : low ≤ number
  pub is_good : good

-- parts that each have a number above that of the part before
module _ {X : Type 0} (number : X → ℕ) (P : X → Type 0) where
  abbrev AreAbove : ℕ → List X → Type 0
  AreAbove low xs = AreGoodFrom (λ _ x. number x + 1) (λ least x. IsAbove least (number x) (P x)) low xs

  rises : (xs : List X) (low : ℕ) → AreAbove low xs → IsStrictlyIncreasing (map number xs)
  rises xs low good k below =
      adjacent (λ _ x. number x + 1) (λ least x. IsAbove least (number x) (P x)) number (λ (i j : ℕ). i < j) (λ _ x y is. let h = is.above in omega (arith, h)) xs low good k 0 below

  each_above : (xs : List X) (low : ℕ) → AreAbove low xs → All P xs
  each_above xs low good = each (λ _ x. number x + 1) (λ least x. IsAbove least (number x) (P x)) P (λ _ _ is. is.is_good) xs low good

-- ---- the header

abbrev is_shown : Option Documents → Bool
is_shown docs = number_of_algorithm docs == 1

pub record IsBegun (h : Header) (n : ℕ) : Type 0 where
  pub header : IsHeader h.documents h.dict_leaves h.dict_root h.docs_root h.texts_root
  pub terms : IsRanged 1 32 n

header_holds : (format : Format) (docs : Option Documents) (h : Header) (n : ℕ) (after : List (List ℕ)) → Come (front_fields format docs ++ (header_fields h ++ (spelled 2 n ∷ after))) proof End
    → Holds (IsBegun h n) (dictionary (is_shown docs) n) after
header_holds format docs h n after come =
    let tra = is_shown docs in
    let more = spelled 2 n ∷ after in
    let algorithm = number_holds 0 1 2 (number_of_algorithm docs) Algorithm (λ a. header (query_terms (a == 1))) (header_fields h ++ more) come.1.1 in
    let first = header_first h more (query_terms tra) algorithm.come in
    let terms = number_holds 1 1 32 n Count (λ m. dictionary tra m) after first.after in
    record { is_good = record { header = first.range; terms = terms.is_good }; come = terms.come }

-- ---- the dictionary

one_digest : (s : U) (k : U → Table) (x : List ℕ) (after : List (List ℕ)) → Come (digest_fields x ++ after) (digest_part s k) End → Holds (length x ≡ 32) (k tt) after
one_digest s k x after come = record { is_good = come.0; come = come.1 }

digests_hold : (width low high : ℕ) (xs : List (List ℕ)) (rest : Table) (after : List (List ℕ)) → Come (counted (suc width) digest_fields xs ++ after) (Number (suc width) low high Count (λ n. digests n rest)) End
    → Holds (AreCounted low high xs (AreDigests xs)) rest after
digests_hold width low high xs rest after come =
    let there = subst (λ (f : ℕ → Table). Come (counted (suc width) digest_fields xs ++ after) (Number (suc width) low high Count f) End) (λ i. λ n. digests_run n rest i) come in
    let run = counted_holds digest_part digest_fields (λ _ _. tt) (λ _ x. length x ≡ 32) one_digest width low high Count xs tt (λ _ _. rest) after there in
    record {
      is_good = record { count = run.is_good.count; are_good = each {S = U} (λ _ _. tt) (λ _ x. length x ≡ 32) (λ x. length x ≡ 32) (λ _ _ good. good) xs tt run.is_good.are_good };
      come = run.come;
    }

one_entry : (low : ℕ) (k : ℕ → Table) (e : ShownEntry) (after : List (List ℕ)) → Come (entry_fields e ++ after) (entry_part low k) End
    → Holds (IsAbove low e.position (IsShownInRange e)) (k (e.position + 1)) after
one_entry low k e after come =
    let t = e.entry in
    let last : Table = any_4 (λ _. Bytes 32 (k (e.position + 1))) in
    let position = number_holds 3 low 0xffff_ffff e.position Order (λ p. term_length (λ size. Bytes size (any_4 (λ _. Bytes 32 (k (p + 1)))))) (spelled 1 (length t.term) ∷ t.term ∷ spelled 4 t.f ∷ t.root ∷ after) come in
    let size = number_holds 0 0 64 (length t.term) Count (λ size. Bytes size last) (t.term ∷ spelled 4 t.f ∷ t.root ∷ after) position.come in
    let f = number_holds 3 0 0xffff_ffff t.f Count (λ _. Bytes 32 (k (e.position + 1))) (t.root ∷ after) size.come.1 in
    let most = f.is_good.most in
    record {
      is_good = record { above = position.is_good.least; is_good = record { few = size.is_good.most; number = omega (arith, most); sized = f.come.0 } };
      come = f.come.1;
    }

dict_holds : (tra : Bool) (terms : ℕ) (dict : List ShownEntry) (ds after : List (List ℕ)) → Come (counted 2 entry_fields dict ++ (counted 2 digest_fields ds ++ after)) (dictionary tra terms) End
    → Holds (IsDictInRange dict ds) (slots tra terms 0 0) after
dict_holds tra terms dict ds after come =
    let more = counted 2 digest_fields ds ++ after in
    let there = subst (λ (f : ℕ → Table). Come (counted 2 entry_fields dict ++ more) (Number 2 1 64 Count f) End) (λ i. λ m. dict_run m 0 (dict_digests tra terms) i) come in
    let run = counted_holds entry_part entry_fields (λ _ e. e.position + 1) (λ low e. IsAbove low e.position (IsShownInRange e)) one_entry 1 1 64 Count dict 0 (λ _ _. dict_digests tra terms) more there in
    let sized = digests_hold 1 0 0xffff ds (slots tra terms 0 0) after run.come in
    record {
      is_good = record {
        some = run.is_good.count.least;
        few = run.is_good.count.most;
        rises = rises (λ (e : ShownEntry). e.position) IsShownInRange dict 0 run.is_good.are_good;
        each = each_above (λ (e : ShownEntry). e.position) IsShownInRange dict 0 run.is_good.are_good;
        sized = sized.is_good.are_good;
      };
      come = sized.come;
    }

-- ---- the slots

-- no index is below the one before it
indexes_rise : {S : Type 0} (next : S → Slot → S) (Good : S → Slot → Type 0) → ((s : S) (x y : Slot) → Good (next s x) y → x.index ≤ y.index)
    → (xs : List Slot) (s : S) → AreGoodFrom next Good s xs → IsNonDecreasing (map (λ (slot : Slot). slot.index) xs)
indexes_rise next Good above xs s good =
    IsNonDecreasingBy-from_all_adjacent (λ (i : ℕ). i) (map (λ (slot : Slot). slot.index) xs) (adjacent next Good (λ (slot : Slot). slot.index) (λ (i j : ℕ). i ≤ j) above xs s good)

abbrev IsSlotAbove : ℕ × ℕ → Slot → Type 0
IsSlotAbove s slot = s.0 ≤ slot.index

one_slot : (s : ℕ × ℕ) (k : ℕ × ℕ → Table) (x : Slot) (after : List (List ℕ)) → Come (slot_fields x ++ after) (slot_part s k) End → Holds (IsSlotAbove s x) (k (next_slot s x)) after
one_slot s k x after come =
    let kind = number_holds 0 0 1 (kind_of_slot x) Count (λ n. index s.0 (λ i. k (i, s.1 + n))) (spelled 2 x.index ∷ after) come in
    let place = number_holds 1 s.0 0xffff x.index Order (λ i. k (i, s.1 + kind_of_slot x)) after kind.come in
    record { is_good = place.is_good.least; come = place.come }

slots_hold : (tra : Bool) (xs : List Slot) (after : List (List ℕ)) → IsRanged 1 32 (length xs) → Come (flat_map slot_fields xs ++ after) (slots tra (length xs) 0 0) End
    → Holds (AreSlotsInRange xs) (met tra (present_in xs)) after
slots_hold tra xs after count come =
    let there = subst (λ (t : Table). Come (flat_map slot_fields xs ++ after) t End) (slots_run tra (length xs) 0 0) come in
    let run = run_holds slot_part slot_fields next_slot IsSlotAbove one_slot xs (0, 0) (λ s. met tra s.1) after there in
    record {
      is_good = record {
        some = count.least;
        few = count.most;
        rise = indexes_rise next_slot IsSlotAbove (λ _ _ _ above. above) xs (0, 0) run.is_good;
      };
      come = subst (λ (p : ℕ). Come after (met tra p) End) (present_after xs (0, 0) ∙ zero-add (present_in xs)) run.come;
    }

-- ---- the met ids

one_id : (low : ℕ) (k : ℕ → Table) (x : ℕ) (after : List (List ℕ)) → Come (id_fields x ++ after) (id_part low k) End → Holds (IsAbove low x (x < 2 ^ 32)) (k (x + 1)) after
one_id low k x after come =
    let id = number_holds 3 low 0xffff_ffff x Order (λ n. k (n + 1)) after come in
    let most = id.is_good.most in
    record { is_good = record { above = id.is_good.least; is_good = omega (arith, most) }; come = id.come }

met_holds : (tra : Bool) (present : ℕ) (xs : List ℕ) (after : List (List ℕ)) → Come (counted 4 id_fields xs ++ after) (met tra present) End
    → Holds (AreIdsInRange xs) (prefixes present (documents tra (length xs) present)) after
met_holds tra present xs after come =
    let there = subst (λ (f : ℕ → Table). Come (counted 4 id_fields xs ++ after) (Number 4 0 65536 Count f) End) (λ i. λ m. ids_run m 0 (prefixes present (documents tra m present)) i) come in
    let run = counted_holds id_part id_fields (λ _ id. id + 1) (λ low id. IsAbove low id (id < 2 ^ 32)) one_id 3 0 65536 Count xs 0 (λ m _. prefixes present (documents tra m present)) after there in
    record {
      is_good = record {
        few = run.is_good.count.most;
        small = each_above (λ (id : ℕ). id) (λ id. id < 2 ^ 32) xs 0 run.is_good.are_good;
        rise = subst IsStrictlyIncreasing (map-id xs) (rises (λ (id : ℕ). id) (λ id. id < 2 ^ 32) xs 0 run.is_good.are_good);
      };
      come = run.come;
    }

-- ---- the fronts of lists

one_posting : (s : U) (k : U → Table) (x : Entry) (after : List (List ℕ)) → Come (posting_fields x ++ after) (posting_part s k) End → Holds (IsEntryInRange x) (k tt) after
one_posting s k x after come =
    let doc = number_holds 3 0 0xffff_ffff x.doc Count (λ _. any_2 (λ _. k tt)) (spelled 2 x.impact ∷ after) come in
    let impact = number_holds 1 0 0xffff x.impact Count (λ _. k tt) after doc.come in
    let most = doc.is_good.most in
    let least = impact.is_good.most in
    record { is_good = record { index = omega (arith, most); small = omega (arith, least) }; come = impact.come }

one_prefix : (s : U) (k : U → Table) (x : Prefix) (after : List (List ℕ)) → Come (prefix_fields x ++ after) (prefix_part s k) End → Holds (IsPrefixInRange x) (k tt) after
one_prefix s k x after come =
    let entries = counted 4 posting_fields x.entries in
    let ds = counted 2 digest_fields x.digests in
    let joined = subst (λ (fields : List (List ℕ)). Come fields (prefix (k tt)) End) (append_assoc entries ds after) come in
    let there = subst (λ (f : ℕ → Table). Come (entries ++ (ds ++ after)) (Number 4 1 65536 Count f) End) (λ i. λ n. entries_run n (list_digests (k tt)) i) joined in
    let run = counted_holds posting_part posting_fields (λ _ _. tt) (λ _ e. IsEntryInRange e) one_posting 3 1 65536 Count x.entries tt (λ _ _. list_digests (k tt)) (ds ++ after) there in
    let sized = digests_hold 1 0 0xffff x.digests (k tt) after run.come in
    record {
      is_good = record {
        some = run.is_good.count.least;
        few = run.is_good.count.most;
        each = each {S = U} (λ _ _. tt) (λ _ e. IsEntryInRange e) IsEntryInRange (λ _ _ good. good) x.entries tt run.is_good.are_good;
        sized = sized.is_good.are_good;
      };
      come = sized.come;
    }

lists_hold : (present : ℕ) (rest : Table) (xs : List Prefix) (after : List (List ℕ)) → length xs ≡ present → Come (flat_map prefix_fields xs ++ after) (prefixes present rest) End
    → Holds (All IsPrefixInRange xs) rest after
lists_hold present rest xs after same come =
    let there = subst (λ (t : Table). Come (flat_map prefix_fields xs ++ after) t End) (ap (λ (n : ℕ). prefixes n rest) (sym same) ∙ prefixes_run (length xs) rest) come in
    let run = run_holds prefix_part prefix_fields (λ _ _. tt) (λ _ x. IsPrefixInRange x) one_prefix xs tt (λ _. rest) after there in
    record { is_good = each {S = U} (λ _ _. tt) (λ _ x. IsPrefixInRange x) IsPrefixInRange (λ _ _ good. good) xs tt run.is_good; come = run.come }

-- ---- the documents

one_doc : (s : U) (k : U → Table) (x : DocLeaf) (after : List (List ℕ)) → Come (doc_fields x ++ after) (doc_part s k) End → Holds (IsDocLeafInRange x) (k tt) after
one_doc s k x after come =
    let leaves = number_holds 3 0 0xffff_ffff x.leaves Count (λ _. Bytes 32 (k tt)) (x.root ∷ after) come in
    let most = leaves.is_good.most in
    record { is_good = record { number = omega (arith, most); sized = leaves.come.0 }; come = leaves.come.1 }

one_term : (low : ℕ) (k : ℕ → Table) (x : ShownTerm) (after : List (List ℕ)) → Come (term_fields x ++ after) (term_part low k) End
    → Holds (IsAbove low x.position (IsTermInRange x)) (k (x.position + 1)) after
one_term low k x after come =
    let term = x.term.0 in
    let last = term ∷ spelled 2 x.term.1 ∷ after in
    let position = number_holds 3 low 0xffff_ffff x.position Order (λ p. term_length (λ size. Bytes size (any_2 (λ _. k (p + 1))))) (spelled 1 (length term) ∷ last) come in
    let size = number_holds 0 0 64 (length term) Count (λ size. Bytes size (any_2 (λ _. k (x.position + 1)))) last position.come in
    let impact = number_holds 1 0 0xffff x.term.1 Count (λ _. k (x.position + 1)) after size.come.1 in
    let most = impact.is_good.most in
    record {
      is_good = record { above = position.is_good.least; is_good = record { few = size.is_good.most; small = omega (arith, most) } };
      come = impact.come;
    }

one_doc_slot : (low : ℕ) (k : ℕ → Table) (x : Slot) (after : List (List ℕ)) → Come (slot_fields x ++ after) (doc_slot_part low k) End → Holds (low ≤ x.index) (k x.index) after
one_doc_slot low k x after come =
    let place = number_holds 1 low 0xffff x.index Order k after come.1 in
    record { is_good = place.is_good.least; come = place.come }

one_section : (present : ℕ) (rest : Table) (x : TermsSection) (after : List (List ℕ)) → length x.slots ≡ present → Come (section_fields x ++ after) (term_section present rest) End
    → Holds (IsSectionInRange x) rest after
one_section present rest x after same come =
    let leaves = counted 2 term_fields x.leaves in
    let ds = counted 2 digest_fields x.digests in
    let own = flat_map slot_fields x.slots in
    let joined = subst (λ (fields : List (List ℕ)). Come fields (term_section present rest) End) (append_assoc (leaves ++ ds) own after ∙ append_assoc leaves ds (own ++ after)) come in
    let there = subst (λ (f : ℕ → Table). Come (leaves ++ (ds ++ (own ++ after))) (Number 2 1 64 Count f) End) (λ i. λ n. terms_run n 0 (term_digests present rest) i) joined in
    let shown = counted_holds term_part term_fields (λ _ t. t.position + 1) (λ low t. IsAbove low t.position (IsTermInRange t)) one_term 1 1 64 Count x.leaves 0 (λ _ _. term_digests present rest) (ds ++ (own ++ after)) there in
    let sized = digests_hold 1 0 0xffff x.digests (doc_slots present 0 rest) (own ++ after) shown.come in
    let run = subst (λ (t : Table). Come (own ++ after) t End) (ap (λ (n : ℕ). doc_slots n 0 rest) (sym same) ∙ doc_slots_run (length x.slots) 0 rest) sized.come in
    let spots = run_holds doc_slot_part slot_fields (λ _ t. t.index) (λ low t. low ≤ t.index) one_doc_slot x.slots 0 (λ _. rest) after run in
    record {
      is_good = record {
        some = shown.is_good.count.least;
        few = shown.is_good.count.most;
        rises = rises (λ (t : ShownTerm). t.position) IsTermInRange x.leaves 0 shown.is_good.are_good;
        each = each_above (λ (t : ShownTerm). t.position) IsTermInRange x.leaves 0 shown.is_good.are_good;
        sized = sized.is_good.are_good;
        spots = indexes_rise (λ _ t. t.index) (λ low t. low ≤ t.index) (λ _ _ _ above. above) x.slots 0 spots.is_good;
      };
      come = spots.come;
    }

sections_hold : (present : ℕ) (xs : List TermsSection) (after : List (List ℕ)) → AllByRecursion (λ x. length x.slots ≡ present) xs
    → Come (flat_map section_fields xs ++ after) (term_sections (length xs) present) End → Holds (AllByRecursion IsSectionInRange xs) answer after
sections_hold present [] after same come = record { is_good = tt; come = come }
sections_hold present (x ∷ xs) after same come =
    let rest = term_sections (length xs) present in
    let joined = subst (λ (fields : List (List ℕ)). Come fields (term_section present rest) End) (append_assoc (section_fields x) (flat_map section_fields xs) after) come in
    let first = one_section present rest x (flat_map section_fields xs ++ after) same.0 joined in
    let more = sections_hold present xs after same.1 first.come in
    record { is_good = (first.is_good, more.is_good); come = more.come }

documents_hold : (p : Proof) (docs : Option Documents) (after : List (List ℕ)) → AreDocumentsOf p docs
    → Come (documents_fields docs ++ after) (documents (is_shown docs) (length p.met) (present_in p.slots)) End → Holds (ForSome docs AreDocumentsInRange) answer after
documents_hold p None after are come = record { is_good = λ d e. absurd cc; come = come }
documents_hold p (Some d) after are come =
    let present = present_in p.slots in
    let leaves = flat_map doc_fields d.leaves in
    let ds = counted 4 digest_fields d.digests in
    let sections = flat_map section_fields d.sections in
    let rest = term_sections (length p.met) present in
    let joined = subst (λ (fields : List (List ℕ)). Come fields (documents true (length p.met) present) End) (append_assoc (leaves ++ ds) sections after ∙ append_assoc leaves ds (sections ++ after)) come in
    let there = subst (λ (t : Table). Come (leaves ++ (ds ++ (sections ++ after))) t End)
    (docs_run (length p.met) (doc_digests rest) ∙ ap (λ (n : ℕ). runs doc_part n tt (λ _. doc_digests rest)) (sym are.leaf_each)) joined in
    let shown = run_holds doc_part doc_fields (λ _ _. tt) (λ _ x. IsDocLeafInRange x) one_doc d.leaves tt (λ _. doc_digests rest) (ds ++ (sections ++ after)) there in
    let sized = digests_hold 3 0 65536 d.digests rest (sections ++ after) shown.come in
    let each_section = subst (λ (n : ℕ). Come (sections ++ after) (term_sections n present) End) (sym are.section_each) sized.come in
    let run = sections_hold present d.sections after (recursion_from_All (λ x. length x.slots ≡ present) d.sections are.slot_each) each_section in
    let ranges : AreDocumentsInRange d = record {
      each = each {S = U} (λ _ _. tt) (λ _ x. IsDocLeafInRange x) IsDocLeafInRange (λ _ _ good. good) d.leaves tt shown.is_good;
      few = sized.is_good.count.most;
      sized = sized.is_good.are_good;
      sections = All-from_recursion IsSectionInRange d.sections run.is_good;
    } in
    record { is_good = λ other e. let same : d ≡ other = cc in subst AreDocumentsInRange same ranges; come = run.come }

-- ---- the whole

pub in_range : (bytes : List ℕ) (p : Proof) → IsProof bytes p → IsInRange p
in_range bytes p is =
    let tra = is_shown p.docs in
    let present = present_in p.slots in
    let come = subst (λ (fields : List (List ℕ)). Come fields proof End) (fields_in_turn p) is.spells.whole.come in
    let header = header_holds p.format p.docs p.header (length p.slots) (after_terms p) come in
    let dict = dict_holds tra (length p.slots) p.dict p.dict_digests (flat_map slot_fields p.slots ++ after_slots p) header.come in
    let own = slots_hold tra p.slots (after_slots p) header.is_good.terms dict.come in
    let ids = met_holds tra present p.met (flat_map prefix_fields p.lists ++ after_lists p) own.come in
    let lists = lists_hold present (documents tra (length p.met) present) p.lists (after_lists p) is.prefix_each ids.come in
    let docs = documents_hold p p.docs (counted 2 id_fields p.answer ++ []) is.documents lists.come in
    let count = number_holds 1 0 1000 (length p.answer) Count rows (flat_map id_fields p.answer ++ []) docs.come in
    record {
      front = header.is_good.header;
      terms = dict.is_good;
      spots = own.is_good;
      ids = ids.is_good;
      fronts = lists.is_good;
      shown = docs.is_good;
      rows = count.is_good.most;
    }
