-- The ranges of a proof's parts, whatever bytes spell it.
use Rattle.std.specs.Prelude.{◌≡◌, ◌<◌, ◌≤◌, ◌^◌, ℕ, List, length, map}
use Rattle.std.specs.List.{All}
use Rattle.std.specs.Option.{ForSome}
use Rattle.std.specs.List.Sorted.{IsStrictlyIncreasing, IsNonDecreasing}
use Rattle.ats_postings.specs.declared.entry.Entry.{Entry}
use Rattle.ats_dict.specs.Header.{IsHeader}
use Rattle.ats_doctree.specs.declared.doc_leaf.DocLeaf.{DocLeaf}
use Rattle.ats_proof.specs.declared.record.Slot.{Slot}
use Rattle.ats_proof.specs.Value.{ShownEntry, Prefix, ShownTerm, TermsSection, Documents, Proof}
use Rattle.ats_proof.specs.Runs.{section_rises}

-- each digest has 32 bytes
abbrev pub AreDigests : List (List ℕ) → Type 0
AreDigests digests = All (λ digest. length digest ≡ 32) digests

-- a term of at most 64 bytes, a number of 4 bytes and a root of 32
pub record IsShownInRange (shown : ShownEntry) : Type 0 where
  pub few : length shown.entry.term ≤ 64
  pub number : shown.entry.f < 2 ^ 32
  pub sized : length shown.entry.root ≡ 32

-- a met index of 4 bytes and an impact of 2
pub record IsEntryInRange (entry : Entry) : Type 0 where
  pub index : entry.doc < 2 ^ 32
  pub small : entry.impact < 2 ^ 16

-- 1 to 65,536 entries, and digests
pub record IsPrefixInRange (prefix : Prefix) : Type 0 where
  pub some : 1 ≤ length prefix.entries
  pub few : length prefix.entries ≤ 65536
  pub each : All IsEntryInRange prefix.entries
  pub sized : AreDigests prefix.digests

-- 1 to 64 leaves whose positions rise, and digests
pub record IsDictInRange (dict : List ShownEntry) (digests : List (List ℕ)) : Type 0 where
  pub some : 1 ≤ length dict
  pub few : length dict ≤ 64
  pub rises : IsStrictlyIncreasing (map (λ (shown : ShownEntry). shown.position) dict)
  pub each : All IsShownInRange dict
  pub sized : AreDigests digests

-- 1 to 32 slots, whose indexes never fall
pub record AreSlotsInRange (slots : List Slot) : Type 0 where
  pub some : 1 ≤ length slots
  pub few : length slots ≤ 32
  pub rise : IsNonDecreasing (map (λ (slot : Slot). slot.index) slots)

-- at most 65,536 ids of 4 bytes, which rise
pub record AreIdsInRange (met : List ℕ) : Type 0 where
  pub few : length met ≤ 65536
  pub small : All (λ id. id < 2 ^ 32) met
  pub rise : IsStrictlyIncreasing met

-- a term of at most 64 bytes and an impact of 2
pub record IsTermInRange (shown : ShownTerm) : Type 0 where
  pub few : length shown.term.0 ≤ 64
  pub small : shown.term.1 < 2 ^ 16

-- 1 to 64 leaves whose positions rise, digests, and slots whose indexes never fall
pub record IsSectionInRange (section : TermsSection) : Type 0 where
  pub some : 1 ≤ length section.leaves
  pub few : length section.leaves ≤ 64
  pub rises : section_rises section
  pub each : All IsTermInRange section.leaves
  pub sized : AreDigests section.digests
  pub spots : IsNonDecreasing (map (λ (slot : Slot). slot.index) section.slots)

-- a number of leaves of 4 bytes and a root of 32
pub record IsDocLeafInRange (leaf : DocLeaf) : Type 0 where
  pub number : leaf.leaves < 2 ^ 32
  pub sized : length leaf.root ≡ 32

-- leaves, at most 65,536 digests, and terms sections
pub record AreDocumentsInRange (docs : Documents) : Type 0 where
  pub each : All IsDocLeafInRange docs.leaves
  pub few : length docs.digests ≤ 65536
  pub sized : AreDigests docs.digests
  pub sections : All IsSectionInRange docs.sections

-- all parts of a proof are in their ranges
pub record IsInRange (proof : Proof) : Type 0 where
  pub front : IsHeader proof.header.documents proof.header.dict_leaves proof.header.dict_root proof.header.docs_root proof.header.texts_root
  pub terms : IsDictInRange proof.dict proof.dict_digests
  pub spots : AreSlotsInRange proof.slots
  pub ids : AreIdsInRange proof.met
  pub fronts : All IsPrefixInRange proof.lists
  pub shown : ForSome proof.docs AreDocumentsInRange
  pub rows : length proof.answer ≤ 1000
