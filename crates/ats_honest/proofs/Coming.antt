-- The fields of a proof are in the grammar's order, each in its range.
use Rattle.std.proofs.Common.{◌≡◌, ◌+◌, ◌≤◌, ◌==◌, ℕ, suc, Bool, true, false, cond, List, [], ◌∷◌, ◌++◌, length, refl, sym, ap, subst, arith, Option, Some, None}
use Rattle.std.specs.List.{All, flat_map}
use Rattle.std.proofs.lemmas.List.Elements.{All-head, All-tail}
use Rattle.std.proofs.lemmas.List.Sums.{sum_by-cons}
use Rattle.ats_postings.specs.declared.entry.Entry.{Entry}
use Rattle.ats_lists.specs.declared.format.Format.{Format}
use Rattle.ats_lists.specs.declared.format.Format.TheVariants.{One, Two}
use Rattle.ats_dict.specs.Header.{IsHeader}
use Rattle.ats_dict.specs.declared.header.Header.{Header}
use Rattle.ats_proof.specs.declared.record.Slot.{Slot}
use Rattle.ats_grammar.specs.declared.fault.ShapeKind.{ShapeKind}
use Rattle.ats_grammar.specs.declared.fault.ShapeKind.TheVariants.{Count, Order}
use Rattle.ats_grammar.specs.Table.{Table, Bytes, Number, End, number, follow}
use Rattle.ats_grammar.specs.Front.{Come}
use Rattle.ats_grammar.specs.Grammar as grammar
use Rattle.ats_proof.specs.Parts.{spelled, counted}
use Rattle.ats_proof.specs.Value.{ShownEntry, Prefix, Documents, documents_fields, Proof, fields_of, front_fields, header_fields, entry_fields, digest_fields, slot_fields, id_fields, number_of_algorithm, number_of_format, posting_fields, prefix_fields, kind_of_slot, present_in}
use Rattle.ats_proof.proofs.Public.{header_comes, length-spelled, number-spelled}
use Rattle.ats_honest.specs.Inner.Order.{AreInOrder}
use Rattle.ats_honest.proofs.Spots.{IsLeaf}

-- fields after fields
pub come_join : (a b : List (List ℕ)) (t u v : Table) → Come a t u → Come b u v → Come (a ++ b) t v
come_join [] b t u v first second = subst (λ x. Come b x v) (sym first) second
come_join (f ∷ a) b t u v first second = (first.0, come_join a b (follow t (number f)) u v first.1 second)

abbrev pub IsNumber : (size low high : ℕ) → List ℕ → Type 0
IsNumber size low high field = (length field ≡ size) × (low ≤ number field) × (number field ≤ high)

pub is_number : (k n low high : ℕ) → low ≤ n → n ≤ high → IsNumber (suc k) low high (spelled (suc k) n)
is_number k n low high least most =
    let is = number-spelled k n in
    (length-spelled (suc k) n, subst (λ m. low ≤ m) (sym is) least, subst (λ m. m ≤ high) (sym is) most)

pub come_number : (k n low high : ℕ) (kind : ShapeKind) (rest : ℕ → Table) (fields : List (List ℕ)) (last : Table) → low ≤ n → n ≤ high
    → Come fields (rest n) last → Come (spelled (suc k) n ∷ fields) (Number (suc k) low high kind rest) last
come_number k n low high kind rest fields last least most more =
    (is_number k n low high least most, subst (λ m. Come fields (rest m) last) (sym (number-spelled k n)) more)

-- ---- runs

pub come_digests : (ds : List (List ℕ)) (rest : Table) → All (λ d. length d ≡ 32) ds → Come (flat_map digest_fields ds) (grammar.digests (length ds) rest) rest
come_digests [] rest all = refl
come_digests (d ∷ ds) rest all = (All-head (λ (x : List ℕ). length x ≡ 32) d ds all, come_digests ds rest (All-tail (λ (x : List ℕ). length x ≡ 32) d ds all))

-- few digests of 32 bytes
pub record AreDigests (ds : List (List ℕ)) : Type 0 where
  pub few : length ds ≤ 65535
  pub each : All (λ d. length d ≡ 32) ds

pub come_counted : (ds : List (List ℕ)) (rest : Table) → AreDigests ds → Come (counted 2 digest_fields ds) (grammar.any_2 (λ n. grammar.digests n rest)) rest
come_counted ds rest are = come_number 1 (length ds) 0 0xffff Count (λ n. grammar.digests n rest) (flat_map digest_fields ds) rest (omega arith) (omega (arith, are.few)) (come_digests ds rest are.each)

abbrev pub AreGoodEntries : ℕ → List ShownEntry → Type 0
AreGoodEntries low [] = Unit {0}
AreGoodEntries low (e ∷ es) = (low ≤ e.position) × (e.position ≤ 0xffff_ffff) × IsLeaf e.entry × AreGoodEntries (e.position + 1) es

come_entries : (es : List ShownEntry) (low : ℕ) (rest : Table) → AreGoodEntries low es → Come (flat_map entry_fields es) (grammar.dict_leaves (length es) low rest) rest
come_entries [] low rest good = refl
come_entries (e ∷ es) low rest good =
    let following : List (List ℕ) = flat_map entry_fields es in
    let After : ℕ → Table = λ m. grammar.dict_leaves (length es) (m + 1) rest in
    let Frequency : ℕ → Table = λ m. grammar.any_4 (λ _. Bytes 32 (After m)) in
    come_number 3 e.position low 0xffff_ffff Order (λ m. grammar.term_length (λ size. Bytes size (Frequency m)))
    (spelled 1 (length e.entry.term) ∷ e.entry.term ∷ spelled 4 e.entry.f ∷ e.entry.root ∷ following) rest good.0 good.1
    (come_number 0 (length e.entry.term) 0 64 Count (λ size. Bytes size (Frequency e.position)) (e.entry.term ∷ spelled 4 e.entry.f ∷ e.entry.root ∷ following) rest (omega arith) good.2.short (
      refl,
      come_number 3 e.entry.f 0 0xffff_ffff Count (λ _. Bytes 32 (After e.position)) (e.entry.root ∷ following) rest (omega arith) (omega (arith, good.2.number))
          (good.2.root, come_entries es (e.position + 1) rest good.3),
    ))

abbrev pub AreGoodSlots : ℕ → List Slot → Type 0
AreGoodSlots low [] = Unit {0}
AreGoodSlots low (s ∷ ss) = (low ≤ s.index) × (s.index ≤ 0xffff) × AreGoodSlots s.index ss

pub small_kind : (b : Bool) → cond b 1 0 ≤ 1
small_kind true = omega arith
small_kind false = omega arith

come_slots : (tra : Bool) (ss : List Slot) (low present : ℕ) → AreGoodSlots low ss → Come (flat_map slot_fields ss) (grammar.slots tra (length ss) low present) (grammar.met tra (present + present_in ss))
come_slots tra [] low present good = let e : present ≡ present + 0 = omega arith in ap (grammar.met tra) e
come_slots tra (s ∷ ss) low present good =
    let sum : present + kind_of_slot s + present_in ss ≡ present + present_in (s ∷ ss) = omega (arith, sum_by-cons kind_of_slot s ss) in
    let last : Table = grammar.met tra (present + present_in (s ∷ ss)) in
    come_number 0 (kind_of_slot s) 0 1 Count (λ k. grammar.index low (λ i. grammar.slots tra (length ss) i (present + k))) (spelled 2 s.index ∷ flat_map slot_fields ss) last
    (omega arith) (small_kind s.present)
    (come_number 1 s.index low 0xffff Order (λ i. grammar.slots tra (length ss) i (present + kind_of_slot s)) (flat_map slot_fields ss) last good.0 good.1
    (subst (λ n. Come (flat_map slot_fields ss) (grammar.slots tra (length ss) s.index (present + kind_of_slot s)) (grammar.met tra n)) sum
    (come_slots tra ss s.index (present + kind_of_slot s) good.2)))

abbrev pub AreGoodIds : ℕ → List ℕ → Type 0
AreGoodIds low [] = Unit {0}
AreGoodIds low (id ∷ ids) = (low ≤ id) × (id ≤ 0xffff_ffff) × AreGoodIds (id + 1) ids

come_ids : (ids : List ℕ) (low : ℕ) (rest : Table) → AreGoodIds low ids → Come (flat_map id_fields ids) (grammar.met_ids (length ids) low rest) rest
come_ids [] low rest good = refl
come_ids (id ∷ ids) low rest good =
    come_number 3 id low 0xffff_ffff Order (λ m. grammar.met_ids (length ids) (m + 1) rest) (flat_map id_fields ids) rest good.0 good.1 (come_ids ids (id + 1) rest good.2)

come_rows : (rows : List ℕ) → All (λ n. n ≤ 0xffff_ffff) rows → Come (flat_map id_fields rows) (grammar.rows (length rows)) End
come_rows [] all = refl
come_rows (n ∷ rows) all =
    (is_number 3 n 0 0xffff_ffff (omega arith) (All-head (λ (m : ℕ). m ≤ 0xffff_ffff) n rows all), come_rows rows (All-tail (λ (m : ℕ). m ≤ 0xffff_ffff) n rows all))

abbrev pub IsGoodPosting : Entry → Type 0
IsGoodPosting e = (e.doc ≤ 0xffff_ffff) × (e.impact ≤ 0xffff)

come_postings : (es : List Entry) (rest : Table) → All IsGoodPosting es → Come (flat_map posting_fields es) (grammar.entries (length es) rest) rest
come_postings [] rest all = refl
come_postings (e ∷ es) rest all =
    let first = All-head IsGoodPosting e es all in
    (is_number 3 e.doc 0 0xffff_ffff (omega arith) first.0, (is_number 1 e.impact 0 0xffff (omega arith) first.1, come_postings es rest (All-tail IsGoodPosting e es all)))

pub record IsGoodPrefix (prefix : Prefix) : Type 0 where
  pub some : 1 ≤ length prefix.entries
  pub few : length prefix.entries ≤ 65536
  pub each : All IsGoodPosting prefix.entries
  pub others : AreDigests prefix.digests

come_prefix : (p : Prefix) (rest : Table) → IsGoodPrefix p → Come (prefix_fields p) (grammar.prefix rest) rest
come_prefix p rest good =
    come_join (counted 4 posting_fields p.entries) (counted 2 digest_fields p.digests) (grammar.prefix rest) (grammar.list_digests rest) rest
    (come_number 3 (length p.entries) 1 65536 Count (λ n. grammar.entries n (grammar.list_digests rest)) (flat_map posting_fields p.entries) (grammar.list_digests rest) good.some good.few (come_postings p.entries (grammar.list_digests rest) good.each))
    (come_counted p.digests rest good.others)

come_prefixes : (ps : List Prefix) (rest : Table) → All IsGoodPrefix ps → Come (flat_map prefix_fields ps) (grammar.prefixes (length ps) rest) rest
come_prefixes [] rest all = refl
come_prefixes (p ∷ ps) rest all =
    come_join (prefix_fields p) (flat_map prefix_fields ps) (grammar.prefixes (length (p ∷ ps)) rest) (grammar.prefixes (length ps) rest) rest
    (come_prefix p (grammar.prefixes (length ps) rest) (All-head IsGoodPrefix p ps all)) (come_prefixes ps rest (All-tail IsGoodPrefix p ps all))

-- ---- the whole

pub record IsInRange (proof : Proof) : Type 0 where
  pub front : IsHeader proof.header.documents proof.header.dict_leaves proof.header.dict_root proof.header.docs_root proof.header.texts_root
  pub terms : (1 ≤ length proof.slots) × (length proof.slots ≤ 32)
  pub leaves : (1 ≤ length proof.dict) × (length proof.dict ≤ 64)
  pub entries : AreGoodEntries 0 proof.dict
  pub others : AreDigests proof.dict_digests
  pub places : AreGoodSlots 0 proof.slots
  pub ids : (length proof.met ≤ 65536) × AreGoodIds 0 proof.met
  pub prefix_each : length proof.lists ≡ present_in proof.slots
  pub fronts : All IsGoodPrefix proof.lists
  pub documents : AreInOrder (length proof.met) (length proof.lists) proof.docs
  pub rows : (length proof.answer ≤ 1000) × All (λ n. n ≤ 0xffff_ffff) proof.answer

-- whether the proof has documents
abbrev tra_of : Option Documents → Bool
tra_of docs = number_of_algorithm docs == 1

is_algorithm : (docs : Option Documents) → IsNumber 1 1 2 (spelled 1 (number_of_algorithm docs))
is_algorithm None = is_number 0 2 1 2 (omega arith) (omega arith)
is_algorithm (Some docs) = is_number 0 1 1 2 (omega arith) (omega arith)

is_version : (format : Format) → IsNumber 1 1 2 (spelled 1 (number_of_format format))
is_version One = is_number 0 1 1 2 (omega arith) (omega arith)
is_version Two = is_number 0 2 1 2 (omega arith) (omega arith)

come_front : (format : Format) (docs : Option Documents) (h : Header) → IsHeader h.documents h.dict_leaves h.dict_root h.docs_root h.texts_root
    → Come (front_fields format docs ++ header_fields h) grammar.proof (grammar.query_terms (tra_of docs))
come_front format docs h is =
    let rest : List (List ℕ) = header_fields h in (
      is_number 3 0x41545350 0x41545350 0x41545350 (omega arith) (omega arith),
      (
        is_version format,
        (
          is_algorithm docs,
          subst (λ (a : ℕ). Come rest (grammar.header (grammar.query_terms (a == 1))) (grammar.query_terms (tra_of docs))) (sym (number-spelled 0 (number_of_algorithm docs)))
              (header_comes h [] (grammar.query_terms (tra_of docs)) (grammar.query_terms (tra_of docs)) is refl),
        ),
      ),
    )

pub come_proof : (p : Proof) → IsInRange p → Come (fields_of p) grammar.proof End
come_proof p is =
    let n = length p.slots in
    let present = length p.lists in
    let tra = tra_of p.docs in
    let last : Table = grammar.documents tra (length p.met) present in
    let a : List (List ℕ) = front_fields p.format p.docs ++ header_fields p.header in
    let b : List (List ℕ) = a ++ spelled 2 n ∷ [] in
    let c : List (List ℕ) = b ++ counted 2 entry_fields p.dict in
    let d : List (List ℕ) = c ++ counted 2 digest_fields p.dict_digests in
    let e : List (List ℕ) = d ++ flat_map slot_fields p.slots in
    let f : List (List ℕ) = e ++ counted 4 id_fields p.met in
    let g : List (List ℕ) = f ++ flat_map prefix_fields p.lists in
    let h : List (List ℕ) = g ++ documents_fields p.docs in
    let come_b : Come b grammar.proof (grammar.dictionary tra n) =
    come_join a (spelled 2 n ∷ []) grammar.proof (grammar.query_terms tra) (grammar.dictionary tra n) (come_front p.format p.docs p.header is.front)
    (come_number 1 n 1 32 Count (λ m. grammar.dictionary tra m) [] (grammar.dictionary tra n) is.terms.0 is.terms.1 refl) in
    let come_c : Come c grammar.proof (grammar.dict_digests tra n) =
    come_join b (counted 2 entry_fields p.dict) grammar.proof (grammar.dictionary tra n) (grammar.dict_digests tra n) come_b
    (come_number 1 (length p.dict) 1 64 Count (λ m. grammar.dict_leaves m 0 (grammar.dict_digests tra n)) (flat_map entry_fields p.dict) (grammar.dict_digests tra n) is.leaves.0 is.leaves.1 (come_entries p.dict 0 (grammar.dict_digests tra n) is.entries)) in
    let come_d : Come d grammar.proof (grammar.slots tra n 0 0) =
    come_join c (counted 2 digest_fields p.dict_digests) grammar.proof (grammar.dict_digests tra n) (grammar.slots tra n 0 0) come_c
    (come_counted p.dict_digests (grammar.slots tra n 0 0) is.others) in
    let sum : 0 + present_in p.slots ≡ present = omega (arith, is.prefix_each) in
    let come_e : Come e grammar.proof (grammar.met tra present) =
    come_join d (flat_map slot_fields p.slots) grammar.proof (grammar.slots tra n 0 0) (grammar.met tra present) come_d
    (subst (λ (m : ℕ). Come (flat_map slot_fields p.slots) (grammar.slots tra n 0 0) (grammar.met tra m)) sum (come_slots tra p.slots 0 0 is.places)) in
    let come_f : Come f grammar.proof (grammar.prefixes present last) =
    come_join e (counted 4 id_fields p.met) grammar.proof (grammar.met tra present) (grammar.prefixes present last) come_e
    (come_number 3 (length p.met) 0 65536 Count (λ m. grammar.met_ids m 0 (grammar.prefixes present (grammar.documents tra m present))) (flat_map id_fields p.met) (grammar.prefixes present last) (omega arith) is.ids.0 (come_ids p.met 0 (grammar.prefixes present last) is.ids.1)) in
    let come_g : Come g grammar.proof last =
    come_join f (flat_map prefix_fields p.lists) grammar.proof (grammar.prefixes present last) last come_f
    (come_prefixes p.lists last is.fronts) in
    let come_h : Come h grammar.proof grammar.answer = come_join g (documents_fields p.docs) grammar.proof last grammar.answer come_g is.documents in
    come_join h (counted 2 id_fields p.answer) grammar.proof grammar.answer End come_h
    (come_number 1 (length p.answer) 0 1000 Count grammar.rows (flat_map id_fields p.answer) End (omega arith) is.rows.0 (come_rows p.answer is.rows.1))
