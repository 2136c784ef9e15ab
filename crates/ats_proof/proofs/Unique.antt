-- Fields determine the parts that they spell.
use Rattle.std.proofs.Common.{◌≡◌, ◌∙◌, ℕ, suc, Bool, true, false, if◌then◌else◌, List, [], ◌∷◌, ◌++◌, length, get_or, drop, Option, Some, None, refl, sym, ap, ap₂, arith, append_assoc, append-nil}
use Rattle.std.specs.List.{All, concat, flat_map}
use Rattle.std.proofs.lemmas.List.Elements.{All-tail}
use Rattle.ats_dict.specs.Entry.{DictEntry}
use Rattle.ats_dict.specs.declared.header.Header.{Header}
use Rattle.ats_postings.specs.declared.entry.Entry.{Entry}
use Rattle.ats_lists.specs.declared.format.Format.{Format}
use Rattle.ats_lists.specs.declared.format.Format.TheVariants.{One, Two}
use Rattle.ats_doctree.specs.declared.doc_leaf.DocLeaf.{DocLeaf}
use Rattle.ats_proof.specs.declared.record.Slot.{Slot}
use Rattle.ats_grammar.specs.Table.{number}
use Rattle.ats_grammar.specs.Grammar.{proof_schema}
use Rattle.ats_grammar.proofs.Public.{one_spelling}
use Rattle.ats_proof.specs.Parts.{spelled, counted}
use Rattle.ats_proof.specs.Value.{ShownEntry, ShownTerm, Prefix, TermsSection, Documents, Proof, IsProof, AreDocuments, AreDocumentsOf, digest_fields, slot_fields, kind_of_slot, id_fields, posting_fields, entry_fields, doc_fields, term_fields, prefix_fields, section_fields, documents_fields, front_fields, header_fields, archive_fields, fields_of, number_of_format, number_of_algorithm, present_in}
use Rattle.ats_proof.specs.Reading.{proof_in}
use Rattle.ats_proof.proofs.Numbers.{AreBytes, number-spelled}
use Rattle.ats_proof.proofs.Whole.{whole}

pub record AreSame {X : Type 0} (x y : X) (a b : List (List ℕ)) : Type 0 where
  pub value : x ≡ y
  pub rest : a ≡ b

-- the fields of a part and of all after it determine both
abbrev pub Tells : {X : Type 0} → (X → List (List ℕ)) → Type 0
Tells {X} spell = (x y : X) (a b : List (List ℕ)) → spell x ++ a ≡ spell y ++ b → AreSame x y a b

first : (f g : List ℕ) (a b : List (List ℕ)) → f ∷ a ≡ g ∷ b → AreSame f g a b
first f g a b e = record { value = ap (λ (l : List (List ℕ)). get_or l 0 []) e; rest = ap (λ (l : List (List ℕ)). drop 1 l) e }

number_first : (k m n : ℕ) (a b : List (List ℕ)) → spelled (suc k) m ∷ a ≡ spelled (suc k) n ∷ b → AreSame m n a b
number_first k m n a b e =
    let one = first (spelled (suc k) m) (spelled (suc k) n) a b e in
    record { value = sym (number-spelled k m) ∙ ap number one.value ∙ number-spelled k n; rest = one.rest }

-- the same for runs whose parts are good, each by a condition of its own run
pub good_runs_tell : {X : Type 0} (spell : X → List (List ℕ)) (P Q : X → Type 0) → ((x y : X) (a b : List (List ℕ)) → P x → Q y → spell x ++ a ≡ spell y ++ b → AreSame x y a b)
    → (xs ys : List X) (a b : List (List ℕ)) → All P xs → All Q ys → length xs ≡ length ys → flat_map spell xs ++ a ≡ flat_map spell ys ++ b → AreSame xs ys a b
good_runs_tell spell P Q one [] [] a b good other len e = record { value = refl; rest = e }
good_runs_tell spell P Q one [] (y ∷ ys) a b good other len e = absurd (omega (arith, len))
good_runs_tell spell P Q one (x ∷ xs) [] a b good other len e = absurd (omega (arith, len))
good_runs_tell spell P Q one (x ∷ xs) (y ∷ ys) a b good other len e =
    let joined : spell x ++ (flat_map spell xs ++ a) ≡ spell y ++ (flat_map spell ys ++ b) =
    sym (append_assoc (spell x) (flat_map spell xs) a) ∙ e ∙ append_assoc (spell y) (flat_map spell ys) b in
    let head = one x y (flat_map spell xs ++ a) (flat_map spell ys ++ b) (good 0 x (omega arith)) (other 0 y (omega arith)) joined in
    let tail = good_runs_tell spell P Q one xs ys a b (All-tail P x xs good) (All-tail Q y ys other) (omega (arith, len)) head.rest in
    record { value = ap₂ (λ z zs. z ∷ zs) head.value tail.value; rest = tail.rest }

pub runs_tell : {X : Type 0} (spell : X → List (List ℕ)) → Tells spell → (xs ys : List X) (a b : List (List ℕ)) → length xs ≡ length ys → flat_map spell xs ++ a ≡ flat_map spell ys ++ b → AreSame xs ys a b
runs_tell {X} spell one xs ys a b len e =
    let Any : X → Type 0 = λ _. Unit {0} in
    good_runs_tell spell Any Any (λ x y c d _ _ f. one x y c d f) xs ys a b (λ _ _ _. tt) (λ _ _ _. tt) len e

pub counted_tells : {X : Type 0} (k : ℕ) (spell : X → List (List ℕ)) → Tells spell → Tells (counted (suc k) spell)
counted_tells k spell one xs ys a b e =
    let count = number_first k (length xs) (length ys) (flat_map spell xs ++ a) (flat_map spell ys ++ b) e in
    runs_tell spell one xs ys a b count.value count.rest

pub digest_tells : Tells digest_fields
digest_tells x y a b e = first x y a b e

pub id_tells : Tells id_fields
id_tells x y a b e = number_first 3 x y a b e

same_kind : (p q : Bool) → ◌≡◌ {A = ℕ} (if p then 1 else 0) (if q then 1 else 0) → p ≡ q
same_kind true true e = refl
same_kind false false e = refl
same_kind true false e = absurd (omega (arith, e))
same_kind false true e = absurd (omega (arith, e))

pub slot_tells : Tells slot_fields
slot_tells x y a b e =
    let kind = number_first 0 (kind_of_slot x) (kind_of_slot y) (spelled 2 x.index ∷ a) (spelled 2 y.index ∷ b) e in
    let index = number_first 1 x.index y.index a b kind.rest in
    record { value = ap₂ (λ (p : Bool) (n : ℕ). let s : Slot = record { present = p; index = n } in s) (same_kind x.present y.present kind.value) index.value; rest = index.rest }

pub posting_tells : Tells posting_fields
posting_tells x y a b e =
    let doc = number_first 3 x.doc y.doc (spelled 2 x.impact ∷ a) (spelled 2 y.impact ∷ b) e in
    let impact = number_first 1 x.impact y.impact a b doc.rest in
    record { value = ap₂ (λ (m n : ℕ). let s : Entry = record { doc = m; impact = n } in s) doc.value impact.value; rest = impact.rest }

pub doc_tells : Tells doc_fields
doc_tells x y a b e =
    let leaves = number_first 3 x.leaves y.leaves (x.root ∷ a) (y.root ∷ b) e in
    let root = first x.root y.root a b leaves.rest in
    record { value = ap₂ (λ (m : ℕ) (r : List ℕ). let s : DocLeaf = record { leaves = m; root = r } in s) leaves.value root.value; rest = root.rest }

pub prefix_tells : Tells prefix_fields
prefix_tells x y a b e =
    let xd = counted 2 digest_fields x.digests in
    let yd = counted 2 digest_fields y.digests in
    let entries = counted_tells 3 posting_fields posting_tells x.entries y.entries (xd ++ a) (yd ++ b)
    (sym (append_assoc (counted 4 posting_fields x.entries) xd a) ∙ e ∙ append_assoc (counted 4 posting_fields y.entries) yd b) in
    let digests = counted_tells 1 digest_fields digest_tells x.digests y.digests a b entries.rest in
    record { value = ap₂ (λ (m : List Entry) (r : List (List ℕ)). let s : Prefix = record { entries = m; digests = r } in s) entries.value digests.value; rest = digests.rest }

pub term_tells : Tells term_fields
term_tells x y a b e =
    let position = number_first 3 x.position y.position (spelled 1 (length x.term.0) ∷ x.term.0 ∷ spelled 2 x.term.1 ∷ a) (spelled 1 (length y.term.0) ∷ y.term.0 ∷ spelled 2 y.term.1 ∷ b) e in
    let size = number_first 0 (length x.term.0) (length y.term.0) (x.term.0 ∷ spelled 2 x.term.1 ∷ a) (y.term.0 ∷ spelled 2 y.term.1 ∷ b) position.rest in
    let term = first x.term.0 y.term.0 (spelled 2 x.term.1 ∷ a) (spelled 2 y.term.1 ∷ b) size.rest in
    let impact = number_first 1 x.term.1 y.term.1 a b term.rest in
    record {
      value = ap₂ (λ (n : ℕ) (t : List ℕ × ℕ). let s : ShownTerm = record { position = n; term = t } in s) position.value (ap₂ (λ (t : List ℕ) (i : ℕ). let p : List ℕ × ℕ = (t, i) in p) term.value impact.value);
      rest = impact.rest;
    }

pub entry_tells : Tells entry_fields
entry_tells x y a b e =
    let xt = x.entry in
    let yt = y.entry in
    let position = number_first 3 x.position y.position (spelled 1 (length xt.term) ∷ xt.term ∷ spelled 4 xt.f ∷ xt.root ∷ a) (spelled 1 (length yt.term) ∷ yt.term ∷ spelled 4 yt.f ∷ yt.root ∷ b) e in
    let size = number_first 0 (length xt.term) (length yt.term) (xt.term ∷ spelled 4 xt.f ∷ xt.root ∷ a) (yt.term ∷ spelled 4 yt.f ∷ yt.root ∷ b) position.rest in
    let term = first xt.term yt.term (spelled 4 xt.f ∷ xt.root ∷ a) (spelled 4 yt.f ∷ yt.root ∷ b) size.rest in
    let f = number_first 3 xt.f yt.f (xt.root ∷ a) (yt.root ∷ b) term.rest in
    let root = first xt.root yt.root a b f.rest in
    let entry : xt ≡ yt = ap₂ (λ (t : List ℕ) (n : ℕ). let d : DictEntry = record { term = t; f = n; root = xt.root } in d) term.value f.value
    ∙ ap (λ (r : List ℕ). let d : DictEntry = record { term = yt.term; f = yt.f; root = r } in d) root.value in
    record { value = ap₂ (λ (n : ℕ) (d : DictEntry). let s : ShownEntry = record { position = n; entry = d } in s) position.value entry; rest = root.rest }

-- ---- a document's section, whose slots are as many as the terms that are present

section_tells : (m n : ℕ) → m ≡ n → (x y : TermsSection) (a b : List (List ℕ)) → length x.slots ≡ m → length y.slots ≡ n → section_fields x ++ a ≡ section_fields y ++ b → AreSame x y a b
section_tells m n same x y a b one other e =
    let xl = counted 2 term_fields x.leaves in
    let yl = counted 2 term_fields y.leaves in
    let xd = counted 2 digest_fields x.digests in
    let yd = counted 2 digest_fields y.digests in
    let xs = flat_map slot_fields x.slots in
    let ys = flat_map slot_fields y.slots in
    let joined : xl ++ (xd ++ (xs ++ a)) ≡ yl ++ (yd ++ (ys ++ b)) =
    sym (append_assoc (xl ++ xd) xs a ∙ append_assoc xl xd (xs ++ a)) ∙ e ∙ append_assoc (yl ++ yd) ys b ∙ append_assoc yl yd (ys ++ b) in
    let leaves = counted_tells 1 term_fields term_tells x.leaves y.leaves (xd ++ (xs ++ a)) (yd ++ (ys ++ b)) joined in
    let digests = counted_tells 1 digest_fields digest_tells x.digests y.digests (xs ++ a) (ys ++ b) leaves.rest in
    let slots = runs_tell slot_fields slot_tells x.slots y.slots a b (one ∙ same ∙ sym other) digests.rest in
    record { value = λ i. record { leaves = leaves.value i; digests = digests.value i; slots = slots.value i }; rest = slots.rest }

-- ---- the documents, with a leaf and a section for each met id

documents_tell : (l m n k : ℕ) → l ≡ n → m ≡ k → (x y : Documents) (a b : List (List ℕ)) → AreDocuments l m x → AreDocuments n k y
    → documents_fields (Some x) ++ a ≡ documents_fields (Some y) ++ b → AreSame x y a b
documents_tell l m n k met present x y a b one other e =
    let xl = flat_map doc_fields x.leaves in
    let yl = flat_map doc_fields y.leaves in
    let xd = counted 4 digest_fields x.digests in
    let yd = counted 4 digest_fields y.digests in
    let xs = flat_map section_fields x.sections in
    let ys = flat_map section_fields y.sections in
    let joined : xl ++ (xd ++ (xs ++ a)) ≡ yl ++ (yd ++ (ys ++ b)) =
    sym (append_assoc (xl ++ xd) xs a ∙ append_assoc xl xd (xs ++ a)) ∙ e ∙ append_assoc (yl ++ yd) ys b ∙ append_assoc yl yd (ys ++ b) in
    let leaves = runs_tell doc_fields doc_tells x.leaves y.leaves (xd ++ (xs ++ a)) (yd ++ (ys ++ b)) (one.leaf_each ∙ met ∙ sym other.leaf_each) joined in
    let digests = counted_tells 3 digest_fields digest_tells x.digests y.digests (xs ++ a) (ys ++ b) leaves.rest in
    let sections = good_runs_tell section_fields (λ s. length s.slots ≡ m) (λ s. length s.slots ≡ k) (λ s t c d p q f. section_tells m k present s t c d p q f) x.sections y.sections a b
    one.slot_each other.slot_each (one.section_each ∙ met ∙ sym other.section_each) digests.rest in
    record { value = λ i. record { leaves = leaves.value i; digests = digests.value i; sections = sections.value i }; rest = sections.rest }

shown_documents_tell : (p q : Proof) → length p.met ≡ length q.met → present_in p.slots ≡ present_in q.slots → (x y : Option Documents) (a b : List (List ℕ))
    → AreDocumentsOf p x → AreDocumentsOf q y → number_of_algorithm x ≡ number_of_algorithm y → documents_fields x ++ a ≡ documents_fields y ++ b → AreSame x y a b
shown_documents_tell p q met present None None a b one other same e = record { value = refl; rest = e }
shown_documents_tell p q met present None (Some y) a b one other same e = absurd (omega (arith, same))
shown_documents_tell p q met present (Some x) None a b one other same e = absurd (omega (arith, same))
shown_documents_tell p q met present (Some x) (Some y) a b one other same e =
    let docs = documents_tell (length p.met) (present_in p.slots) (length q.met) (present_in q.slots) met present x y a b one other e in
    record { value = ap (λ (d : Documents). Some d) docs.value; rest = docs.rest }

-- ---- the whole

format_told : (f g : Format) → number_of_format f ≡ number_of_format g → f ≡ g
format_told One One same = refl
format_told One Two same = absurd (omega (arith, same))
format_told Two One same = absurd (omega (arith, same))
format_told Two Two same = refl

pub record AreSameFronts (f g : Format) (x y : Option Documents) (a b : List (List ℕ)) : Type 0 where
  pub format : f ≡ g
  pub algorithm : AreSame (number_of_algorithm x) (number_of_algorithm y) a b

front_tells : (f g : Format) (x y : Option Documents) (a b : List (List ℕ)) → front_fields f x ++ a ≡ front_fields g y ++ b → AreSameFronts f g x y a b
front_tells f g x y a b e =
    let xs = spelled 1 (number_of_algorithm x) ∷ a in
    let ys = spelled 1 (number_of_algorithm y) ∷ b in
    let magic = first (spelled 4 0x41545350) (spelled 4 0x41545350) (spelled 1 (number_of_format f) ∷ xs) (spelled 1 (number_of_format g) ∷ ys) e in
    let version = number_first 0 (number_of_format f) (number_of_format g) xs ys magic.rest in
    record { format = format_told f g version.value; algorithm = number_first 0 (number_of_algorithm x) (number_of_algorithm y) a b version.rest }

header_tells : Tells header_fields
header_tells x y a b e =
    let xr = x.dict_root ∷ x.docs_root ∷ x.texts_root ∷ a in
    let yr = y.dict_root ∷ y.docs_root ∷ y.texts_root ∷ b in
    let version = first (spelled 1 1) (spelled 1 1) (spelled 4 x.documents ∷ spelled 4 x.dict_leaves ∷ xr) (spelled 4 y.documents ∷ spelled 4 y.dict_leaves ∷ yr) e in
    let documents = number_first 3 x.documents y.documents (spelled 4 x.dict_leaves ∷ xr) (spelled 4 y.dict_leaves ∷ yr) version.rest in
    let leaves = number_first 3 x.dict_leaves y.dict_leaves xr yr documents.rest in
    let dict = first x.dict_root y.dict_root (x.docs_root ∷ x.texts_root ∷ a) (y.docs_root ∷ y.texts_root ∷ b) leaves.rest in
    let docs = first x.docs_root y.docs_root (x.texts_root ∷ a) (y.texts_root ∷ b) dict.rest in
    let texts = first x.texts_root y.texts_root a b docs.rest in
    record {
      value = λ i. record { documents = documents.value i; dict_leaves = leaves.value i; dict_root = dict.value i; docs_root = docs.value i; texts_root = texts.value i };
      rest = texts.rest;
    }

pub record IsSameArchive (f g : Format) (x y : Header) (a b : List (List ℕ)) : Type 0 where
  pub format : f ≡ g
  pub header : AreSame x y a b

pub archive_tells : (f g : Format) (x y : Header) (a b : List (List ℕ)) → archive_fields f x ++ a ≡ archive_fields g y ++ b → IsSameArchive f g x y a b
archive_tells f g x y a b e =
    let version = number_first 0 (number_of_format f) (number_of_format g) (header_fields x ++ a) (header_fields y ++ b) e in
    record { format = format_told f g version.value; header = header_tells x y a b version.rest }

-- the fields of a proof from some part on
abbrev pub after_lists : Proof → List (List ℕ)
after_lists p = documents_fields p.docs ++ (counted 2 id_fields p.answer ++ [])

abbrev pub after_slots : Proof → List (List ℕ)
after_slots p = counted 4 id_fields p.met ++ (flat_map prefix_fields p.lists ++ after_lists p)

abbrev pub after_terms : Proof → List (List ℕ)
after_terms p = counted 2 entry_fields p.dict ++ (counted 2 digest_fields p.dict_digests ++ (flat_map slot_fields p.slots ++ after_slots p))

in_turn : (a b c d f g h j k l : List (List ℕ)) → a ++ b ++ c ++ d ++ f ++ g ++ h ++ j ++ k ++ l
    ≡ a ++ (b ++ (c ++ (d ++ (f ++ (g ++ (h ++ (j ++ (k ++ (l ++ [])))))))))
in_turn a b c d f g h j k l =
    ap (λ (xs : List (List ℕ)). a ++ b ++ c ++ d ++ f ++ g ++ h ++ j ++ k ++ xs) (sym (append-nil l))
    ∙ append_assoc (a ++ b ++ c ++ d ++ f ++ g ++ h ++ j) k (l ++ [])
    ∙ append_assoc (a ++ b ++ c ++ d ++ f ++ g ++ h) j (k ++ (l ++ []))
    ∙ append_assoc (a ++ b ++ c ++ d ++ f ++ g) h (j ++ (k ++ (l ++ [])))
    ∙ append_assoc (a ++ b ++ c ++ d ++ f) g (h ++ (j ++ (k ++ (l ++ []))))
    ∙ append_assoc (a ++ b ++ c ++ d) f (g ++ (h ++ (j ++ (k ++ (l ++ [])))))
    ∙ append_assoc (a ++ b ++ c) d (f ++ (g ++ (h ++ (j ++ (k ++ (l ++ []))))))
    ∙ append_assoc (a ++ b) c (d ++ (f ++ (g ++ (h ++ (j ++ (k ++ (l ++ [])))))))
    ∙ append_assoc a b (c ++ (d ++ (f ++ (g ++ (h ++ (j ++ (k ++ (l ++ []))))))))

pub fields_in_turn : (p : Proof) → fields_of p ≡ front_fields p.format p.docs ++ (header_fields p.header ++ (spelled 2 (length p.slots) ∷ after_terms p))
fields_in_turn p = in_turn (front_fields p.format p.docs) (header_fields p.header) (spelled 2 (length p.slots) ∷ []) (counted 2 entry_fields p.dict) (counted 2 digest_fields p.dict_digests)
    (flat_map slot_fields p.slots) (counted 4 id_fields p.met) (flat_map prefix_fields p.lists) (documents_fields p.docs) (counted 2 id_fields p.answer)

pub one_value : (bytes : List ℕ) (p q : Proof) → IsProof bytes p → IsProof bytes q → p ≡ q
one_value bytes p q one other =
    let e = one_spelling proof_schema bytes (fields_of p) (fields_of q) one.spells other.spells in
    let front = front_tells p.format q.format p.docs q.docs (header_fields p.header ++ (spelled 2 (length p.slots) ∷ after_terms p)) (header_fields q.header ++ (spelled 2 (length q.slots) ∷ after_terms q))
    (sym (fields_in_turn p) ∙ e ∙ fields_in_turn q) in
    let header = header_tells p.header q.header (spelled 2 (length p.slots) ∷ after_terms p) (spelled 2 (length q.slots) ∷ after_terms q) front.algorithm.rest in
    let terms = number_first 1 (length p.slots) (length q.slots) (after_terms p) (after_terms q) header.rest in
    let dict = counted_tells 1 entry_fields entry_tells p.dict q.dict (counted 2 digest_fields p.dict_digests ++ (flat_map slot_fields p.slots ++ after_slots p))
    (counted 2 digest_fields q.dict_digests ++ (flat_map slot_fields q.slots ++ after_slots q)) terms.rest in
    let digests = counted_tells 1 digest_fields digest_tells p.dict_digests q.dict_digests (flat_map slot_fields p.slots ++ after_slots p) (flat_map slot_fields q.slots ++ after_slots q) dict.rest in
    let slots = runs_tell slot_fields slot_tells p.slots q.slots (after_slots p) (after_slots q) terms.value digests.rest in
    let present = ap present_in slots.value in
    let met = counted_tells 3 id_fields id_tells p.met q.met (flat_map prefix_fields p.lists ++ after_lists p) (flat_map prefix_fields q.lists ++ after_lists q) slots.rest in
    let lists = runs_tell prefix_fields prefix_tells p.lists q.lists (after_lists p) (after_lists q) (one.prefix_each ∙ present ∙ sym other.prefix_each) met.rest in
    let docs = shown_documents_tell p q (ap length met.value) present p.docs q.docs (counted 2 id_fields p.answer ++ []) (counted 2 id_fields q.answer ++ [])
    one.documents other.documents front.algorithm.value lists.rest in
    let answer = counted_tells 1 id_fields id_tells p.answer q.answer [] [] docs.rest in
    λ i. record {
      format = front.format i;
      header = header.value i;
      dict = dict.value i;
      dict_digests = digests.value i;
      slots = slots.value i;
      met = met.value i;
      lists = lists.value i;
      docs = docs.value i;
      answer = answer.value i;
    }

-- ---- what is read is the one value, and a value has one spelling

pub says : (bytes : List ℕ) → AreBytes bytes → (p : Proof) → IsProof bytes p → p ≡ proof_in bytes
says bytes small p is = one_value bytes p (proof_in bytes) is (whole bytes small (record { fields = fields_of p; spells = is.spells })).is

join_of : (bytes : List ℕ) (p : Proof) → IsProof bytes p → bytes ≡ concat (fields_of p)
join_of bytes p is = is.spells.whole.parts ∙ append-nil (concat (fields_of p))

pub one_join : (bytes others : List ℕ) (p : Proof) → IsProof bytes p → IsProof others p → bytes ≡ others
one_join bytes others p is other = join_of bytes p is ∙ sym (join_of others p other)
