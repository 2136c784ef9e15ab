-- The rules of a proof, group by group: when a group holds, and its first failure otherwise.
use Rattle.std.specs.Prelude.{◌≡◌, ◌≢◌, ◌<◌, ◌∷◌, ℕ, List, [], length, map, slice_index_or, Option, Some, None, false}
use Rattle.std.specs.List.{All}
use Rattle.ats_tree.specs.Rebuild.{rebuilt}
use Rattle.ats_postings.specs.declared.entry.Entry.{Entry}
use Rattle.ats_lists.specs.Formats.{prefix_root}
use Rattle.ats_lists.specs.declared.format.Format.{Format}
use Rattle.ats_commit.specs.Ours.{asked_term}
use Rattle.ats_commit.specs.Root.{header_root}
use Rattle.ats_proof.specs.declared.record.Slot.{Slot}
use Rattle.ats_bound.specs.declared.bracket.Bracket.{Bracket}
use Rattle.ats_bound.specs.Cut.{ShownLane, IsMet, threshold}
use Rattle.ats_bound.specs.Schedule.{Bounding}
use Rattle.ats_bound.specs.Settled.{IsSettled}
use Rattle.ats_proof.specs.Value.{ShownEntry, Proof}
use Rattle.ats_proof.specs.Runs.{shown_entry, shown_list}
use Rattle.ats_refusal.specs.declared.proof.Refusal.{Refusal}
use Rattle.ats_refusal.specs.declared.proof.Refusal.TheVariants.{OtherRoot, SlotCount, DictMisfit, DictRoot, SlotWrong, IndexOut, Repeated, ListMisfit, ListRoot, Unmet, AnswerOut, AnswerRepeated, NotSettled}
use Rattle.ats_base.specs.Rules.{Group, IsFirstFault, IsFirstOf}
use Rattle.ats_client.specs.Presented.{Presented, presented}
use Rattle.ats_client.specs.Slots.{Shown, entry_shown, ShowsTerm}
use Rattle.ats_client.specs.Indexes.{AreNames, IsOut, IsAgain}

-- there is a digest, and it is not this one
pub record IsOther (digest : Option (List ℕ)) (root : List ℕ) : Type 0 where
  pub other : List ℕ
  pub rebuilt : digest ≡ Some other
  pub differs : other ≢ root

-- ---- the root, and the number of slots

pub record IsOpened (H : List ℕ → List ℕ) (root : List ℕ) (query : List (List ℕ × ℕ)) (proof : Proof) : Type 0 where
  pub commits : header_root H proof.format proof.header ≡ root
  pub slots : length proof.slots ≡ length query

abbrev pub IsOpeningFault : (List ℕ → List ℕ) → List ℕ → List (List ℕ × ℕ) → Proof → Refusal → Type 0
IsOpeningFault H root query proof OtherRoot = header_root H proof.format proof.header ≢ root
IsOpeningFault H root query proof (SlotCount shown) =
    (header_root H proof.format proof.header ≡ root) × (shown ≡ length proof.slots) × (shown ≢ length query)
IsOpeningFault H root query proof _ = ⊥

-- ---- the dictionary

-- the digest that the dictionary section rebuilds to
abbrev pub dict_digest : (List ℕ → List ℕ) → Proof → Option (List ℕ)
dict_digest H proof = rebuilt H proof.header.dict_leaves (map shown_entry proof.dict) proof.dict_digests

abbrev pub IsDictionary : (List ℕ → List ℕ) → Proof → Type 0
IsDictionary H proof = dict_digest H proof ≡ Some proof.header.dict_root

abbrev pub IsDictFault : (List ℕ → List ℕ) → Proof → Refusal → Type 0
IsDictFault H proof DictMisfit = dict_digest H proof ≡ None
IsDictFault H proof DictRoot = IsOther (dict_digest H proof) proof.header.dict_root
IsDictFault H proof _ = ⊥

-- ---- the slots

abbrev pub slot_at : List Slot → ℕ → Slot
slot_at slots i = slice_index_or slots i (record { present = false; index = 0 })

-- the shown leaves of the dictionary, by position and term
abbrev pub dict_terms : List ShownEntry → List Shown
dict_terms dict = map entry_shown dict

abbrev pub IsSlotRight : List (List ℕ × ℕ) → Proof → ℕ → Type 0
IsSlotRight query proof i = ShowsTerm (dict_terms proof.dict) (asked_term query i) (slot_at proof.slots i)

abbrev pub AreSlotsRight : List (List ℕ × ℕ) → Proof → Type 0
AreSlotsRight query proof = (i : ℕ) → i < length query → IsSlotRight query proof i

-- the slot of this term does not show it, and the slots of all terms before it show theirs
pub record IsWrongSlot (query : List (List ℕ × ℕ)) (proof : Proof) (term : ℕ) : Type 0 where
  pub inside : term < length query
  pub wrong : ¬ IsSlotRight query proof term
  pub before : (i : ℕ) → i < term → IsSlotRight query proof i

abbrev pub IsSlotsFault : List (List ℕ × ℕ) → Proof → Refusal → Type 0
IsSlotsFault query proof (SlotWrong term) = IsWrongSlot query proof term
IsSlotsFault query proof _ = ⊥

-- ---- the lists

-- the met indexes of entries
abbrev pub indexes_of : List Entry → List ℕ
indexes_of entries = map (λ (entry : Entry). entry.doc) entries

-- the digest that the prefix of a present term rebuilds to, in a list of the length that its dictionary entry gives
abbrev pub list_digest : (List ℕ → List ℕ) → Format → List ℕ → Presented → Option (List ℕ)
list_digest H format met term =
    prefix_root H format term.entry.f (shown_list 0 met term.prefix.entries) term.prefix.digests

-- that digest is the root of the list in the dictionary
abbrev pub IsListRooted : (List ℕ → List ℕ) → Format → List ℕ → Presented → Type 0
IsListRooted H format met term = list_digest H format met term ≡ Some term.entry.root

-- its entries name met documents, each once, and it is the front of the list in the dictionary
pub record IsListRight (H : List ℕ → List ℕ) (format : Format) (met : List ℕ) (term : Presented) : Type 0 where
  pub names : AreNames (length met) (indexes_of term.prefix.entries)
  pub root : IsListRooted H format met term

abbrev pub AreListsRight : (List ℕ → List ℕ) → List (List ℕ × ℕ) → Proof → Type 0
AreListsRight H query proof = All (IsListRight H proof.format proof.met) (presented query proof)

-- the first entry of a prefix that fails
abbrev pub IsEntryFault : ℕ → Presented → Refusal → Type 0
IsEntryFault met one (IndexOut term entry) = (term ≡ one.number) × IsOut met (indexes_of one.prefix.entries) entry
IsEntryFault met one (Repeated term entry) = (term ≡ one.number) × IsAgain met (indexes_of one.prefix.entries) entry
IsEntryFault met one _ = ⊥

-- why it is not the front of the list in the dictionary
abbrev pub IsListRootFault : (List ℕ → List ℕ) → Format → List ℕ → Presented → Refusal → Type 0
IsListRootFault H format met one (ListMisfit term) = (term ≡ one.number) × (list_digest H format met one ≡ None)
IsListRootFault H format met one (ListRoot term) = (term ≡ one.number) × IsOther (list_digest H format met one) one.entry.root
IsListRootFault H format met one _ = ⊥

-- the rules of one present term: its entries first, then its digest
abbrev pub list_rules : (List ℕ → List ℕ) → Format → List ℕ → Presented → List (Group Refusal)
list_rules H format met one =
    record { holds = AreNames (length met) (indexes_of one.prefix.entries); fault = IsEntryFault (length met) one }
    ∷ record { holds = IsListRooted H format met one; fault = IsListRootFault H format met one }
    ∷ []

abbrev pub IsListFault : (List ℕ → List ℕ) → Format → List ℕ → Presented → Refusal → Type 0
IsListFault H format met one refusal = IsFirstFault (list_rules H format met one) refusal

-- the first failure of the present terms, term by term
abbrev pub IsListsFault : (List ℕ → List ℕ) → List (List ℕ × ℕ) → Proof → Refusal → Type 0
IsListsFault H query proof refusal =
    IsFirstOf (IsListRight H proof.format proof.met) (IsListFault H proof.format proof.met) (presented query proof) refusal

-- ---- the met documents

-- the number of a met document
abbrev pub met_at : List ℕ → ℕ → ℕ
met_at met index = slice_index_or met index 0

-- some entry names each met document
abbrev pub AreAllMet : List ShownLane → List ℕ → Type 0
AreAllMet lanes met = (i : ℕ) → i < length met → IsMet lanes (met_at met i)

-- no entry names this document, and some entry names each one before it
pub record IsUnmet (lanes : List ShownLane) (met : List ℕ) (index : ℕ) : Type 0 where
  pub inside : index < length met
  pub unmet : ¬ IsMet lanes (met_at met index)
  pub before : (i : ℕ) → i < index → IsMet lanes (met_at met i)

abbrev pub IsMetFault : List ShownLane → List ℕ → Refusal → Type 0
IsMetFault lanes met (Unmet index) = IsUnmet lanes met index
IsMetFault lanes met _ = ⊥

-- ---- the rows

-- the rows name met documents, each once
abbrev pub AreRowsRight : List ℕ → List ℕ → Type 0
AreRowsRight met answer = AreNames (length met) answer

abbrev pub IsRowsFault : List ℕ → List ℕ → Refusal → Type 0
IsRowsFault met answer (AnswerOut row) = IsOut (length met) answer row
IsRowsFault met answer (AnswerRepeated row) = IsAgain (length met) answer row
IsRowsFault met answer _ = ⊥

-- ---- whether the answer is settled

-- the brackets of the met documents, in their order
abbrev pub brackets_of : Bounding → List ShownLane → List ℕ → List Bracket
brackets_of bounds lanes met = map (bounds lanes) met

-- the answer is settled by what is shown
abbrev pub IsAnswerSettled : Bounding → List ShownLane → List ℕ → List ℕ → ℕ → Type 0
IsAnswerSettled bounds lanes met answer r = IsSettled (brackets_of bounds lanes met) answer (threshold lanes) r

abbrev pub IsSettledFault : Bounding → List ShownLane → List ℕ → List ℕ → ℕ → Refusal → Type 0
IsSettledFault bounds lanes met answer r NotSettled = ¬ IsAnswerSettled bounds lanes met answer r
IsSettledFault bounds lanes met answer r _ = ⊥
