-- The proof of a query's best documents that an honest server makes, by each algorithm.
use Rattle.std.specs.Prelude.{◌≡◌, ◌<◌, ℕ, List, [], ◌∷◌, length, map, take}
use Rattle.std.specs.List.{concat, list_any}
use Rattle.std.specs.List.Sorted.{IsStrictlyIncreasing}
use Rattle.ats_tree.specs.Elided.{elided_digests}
use Rattle.ats_postings.specs.declared.entry.Entry.{Entry}
use Rattle.ats_dict.specs.declared.spot.Spot.{Spot}
use Rattle.ats_dict.specs.Dictionary.{dict_leaves}
use Rattle.ats_lists.specs.Formats.{prefix_digests}
use Rattle.ats_lists.specs.declared.format.Format.{Format}
use Rattle.ats_commit.specs.Archive.{Archive}
use Rattle.ats_commit.specs.Root.{header_parts}
use Rattle.ats_commit.specs.Trees.{dictionary_of}
use Rattle.ats_bound.specs.declared.bracket.Bracket.{Bracket}
use Rattle.ats_bound.specs.declared.share.Share.{Share}
use Rattle.ats_bound.specs.Chosen.{IsChosen}
use Rattle.ats_bound.specs.Cut.{ShownLane, names}
use Rattle.ats_bound.specs.Floors.{Floors, IsWithinBy, floors_of_share}
use Rattle.ats_bound.specs.Ranked.{docs_of}
use Rattle.ats_bound.specs.Schedule.{WholeLane, AreBracketsBy, CanSettleBy, IsFirstCut, shown}
use Rattle.ats_proof.specs.declared.record.Algorithm.{Algorithm}
use Rattle.ats_proof.specs.declared.record.Algorithm.TheVariants.{Tra}
use Rattle.ats_proof.specs.Value.{Prefix, Proof, IsProof, fields_of}
use Rattle.ats_honest.specs.Terms.{AreSpots, AreNeeded, has, place, shown_entry, slot_of}
use Rattle.ats_honest.specs.Lanes.{bounding, lanes_of, present}
use Rattle.ats_honest.specs.Documents.{HasDocuments}

-- an entry that names its document by its place among the met ids
abbrev pub placed : List ℕ → Entry → Entry
placed met entry = record { doc = place met entry.doc; impact = entry.impact }

-- the first `count` entries of a list, and the digests that the list's format needs besides
abbrev pub prefix_of : (List ℕ → List ℕ) → Format → List ℕ → List Entry → ℕ → Prefix
prefix_of H format met entries count = record {
  entries = map (placed met) (take count entries);
  digests = prefix_digests H format entries count;
}

-- of each list the first entries, as many as the cut says
abbrev pub prefixes : (List ℕ → List ℕ) → Format → List ℕ → List WholeLane → List ℕ → List Prefix
prefixes H format met [] cut = []
prefixes H format met (lane ∷ lanes) [] = []
prefixes H format met (lane ∷ lanes) (count ∷ cut) = prefix_of H format met lane.entries count ∷ prefixes H format met lanes cut

-- the documents that the shown entries name, each once, ascending
pub record AreMet (lanes : List ShownLane) (documents : List ℕ) : Type 0 where
  pub rise : IsStrictlyIncreasing documents
  pub named : (doc : ℕ) → has doc documents ≡ list_any (names doc) lanes

-- The proof shows the leaves that prove where the query's terms are; the lists up to this cut; and these documents as
-- the met ones, with what is shown of them. Its answer may be any.
pub record IsShownAt (H : List ℕ → List ℕ) (archive : Archive) (query : List (List ℕ × ℕ)) (algorithm : Algorithm) (cut documents : List ℕ) (proof : Proof) : Type 0 where
  pub spots : List Spot
  pub found : AreSpots (dictionary_of H archive) query spots
  pub positions : List ℕ
  pub needed : AreNeeded spots positions
  pub format : proof.format ≡ archive.format
  pub header : proof.header ≡ header_parts H archive
  pub dict : proof.dict ≡ map (shown_entry (dictionary_of H archive)) positions
  pub dict_digests : proof.dict_digests ≡ elided_digests H (dict_leaves (dictionary_of H archive)) positions
  pub slots : proof.slots ≡ map (slot_of positions) spots
  pub met : proof.met ≡ documents
  pub lists : proof.lists ≡ prefixes H archive.format proof.met (lanes_of archive.texts query) cut
  pub docs : HasDocuments algorithm H archive.texts (present archive.texts query) proof.met proof.docs

-- The honest proof of a walk shows the first cut of the schedule at which the walk stops, with the documents of the
-- algorithm's brackets there as the met ones; and it has the chosen answer of at most this many of them.
pub record IsHonestBy (Stops : List ℕ → Type 0) (rows : ℕ) (H : List ℕ → List ℕ) (archive : Archive) (query : List (List ℕ × ℕ)) (algorithm : Algorithm) (proof : Proof) : Type 0 where
  pub cut : List ℕ
  pub first : IsFirstCut Stops (lanes_of archive.texts query) cut
  pub brackets : List Bracket
  pub bounds : AreBracketsBy (bounding algorithm (lanes_of archive.texts query)) (shown (lanes_of archive.texts query) cut) brackets
  pub shows : IsShownAt H archive query algorithm cut (docs_of brackets) proof
  pub answer : IsChosen brackets rows proof.answer

-- that of a query's best documents stops where an answer of at most r rows is settled
abbrev pub IsHonest : (List ℕ → List ℕ) → Archive → List (List ℕ × ℕ) → ℕ → Algorithm → Proof → Type 0
IsHonest H archive query r algorithm proof =
    IsHonestBy (CanSettleBy (bounding algorithm (lanes_of archive.texts query)) (lanes_of archive.texts query) r) r H archive query algorithm proof

-- that of one shard of a catalog stops where the rows that it is asked for are within the floors
abbrev pub IsHonestWithin : (List ℕ → List ℕ) → Archive → List (List ℕ × ℕ) → Floors → Algorithm → Proof → Type 0
IsHonestWithin H archive query floors algorithm proof =
    IsHonestBy (IsWithinBy (bounding algorithm (lanes_of archive.texts query)) (lanes_of archive.texts query) floors) (length floors.spans)
    H archive query algorithm proof

-- that of a share shows exact scores
abbrev pub IsHonestShare : (List ℕ → List ℕ) → Archive → List (List ℕ × ℕ) → Share → Proof → Type 0
IsHonestShare H archive query share proof = IsHonestWithin H archive query (floors_of_share share) Tra proof

-- how many bytes the fields of a proof have
abbrev pub length_of : Proof → ℕ
length_of proof = length (concat (fields_of proof))

-- the bytes spell a proof that is honest in this sense
pub record IsProvedBy (Honest : Proof → Type 0) (bytes : List ℕ) : Type 0 where
  pub proof : Proof
  pub honest : Honest proof
  pub spells : IsProof bytes proof

-- such a proof has this many bytes, and they are more than the limit
pub record IsTooLongBy (Honest : Proof → Type 0) (limit bytes : ℕ) : Type 0 where
  pub proof : Proof
  pub honest : Honest proof
  pub bytes_are : bytes ≡ length_of proof
  pub beyond : limit < bytes

abbrev pub IsProved : (List ℕ → List ℕ) → Archive → List (List ℕ × ℕ) → ℕ → Algorithm → List ℕ → Type 0
IsProved H archive query r algorithm bytes = IsProvedBy (IsHonest H archive query r algorithm) bytes

abbrev pub IsTooLong : (List ℕ → List ℕ) → Archive → List (List ℕ × ℕ) → ℕ → Algorithm → ℕ → ℕ → Type 0
IsTooLong H archive query r algorithm limit bytes = IsTooLongBy (IsHonest H archive query r algorithm) limit bytes

abbrev pub IsShareProved : (List ℕ → List ℕ) → Archive → List (List ℕ × ℕ) → Share → List ℕ → Type 0
IsShareProved H archive query share bytes = IsProvedBy (IsHonestShare H archive query share) bytes

-- The proof that shows a cut, with the documents that it meets, and has no answer.
pub record IsCutShown (H : List ℕ → List ℕ) (archive : Archive) (query : List (List ℕ × ℕ)) (algorithm : Algorithm) (cut : List ℕ) (proof : Proof) : Type 0 where
  pub documents : List ℕ
  pub met : AreMet (shown (lanes_of archive.texts query) cut) documents
  pub shows : IsShownAt H archive query algorithm cut documents proof
  pub empty : proof.answer ≡ []

-- the bytes spell that proof
pub record IsCutProved (H : List ℕ → List ℕ) (archive : Archive) (query : List (List ℕ × ℕ)) (algorithm : Algorithm) (cut : List ℕ) (bytes : List ℕ) : Type 0 where
  pub proof : Proof
  pub shows : IsCutShown H archive query algorithm cut proof
  pub spells : IsProof bytes proof

-- that proof has this many bytes, and they are more than the limit
pub record IsCutTooLong (H : List ℕ → List ℕ) (archive : Archive) (query : List (List ℕ × ℕ)) (algorithm : Algorithm) (cut : List ℕ) (limit bytes : ℕ) : Type 0 where
  pub proof : Proof
  pub shows : IsCutShown H archive query algorithm cut proof
  pub bytes_are : bytes ≡ length_of proof
  pub beyond : limit < bytes
