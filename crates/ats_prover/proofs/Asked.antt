-- The fields of a proof, appended one after another.
use Rattle.std.proofs.Common.{◌≡◌, ◌^◌, ◌<◌, ◌++◌, ℕ, List, [], ◌∷◌, length, map, Option, Some, None, refl, sym, ap, ap₂, ◌∙◌}
use Rattle.std.specs.List.{flat_map}
use Rattle.ats_tree.specs.Elided.{elided_digests}
use Rattle.ats_lists.specs.declared.format.Format.{Format}
use Rattle.ats_dict.specs.Dictionary.{dict_leaves}
use Rattle.ats_dict.specs.declared.header.Header.{Header}
use Rattle.ats_dict.specs.declared.spot.Spot.{Spot}
use Rattle.ats_commit.specs.Archive.{Archive}
use Rattle.ats_commit.specs.Root.{header_parts}
use Rattle.ats_commit.specs.Trees.{dictionary_of}
use Rattle.ats_proof.specs.Records.{front_record}
use Rattle.ats_proof.specs.Written.{Written, after}
use Rattle.ats_proof.specs.declared.record.Algorithm.{Algorithm}
use Rattle.ats_proof.specs.declared.record.Algorithm.TheVariants.{Tra, Tnra}
use Rattle.ats_proof.specs.Parts.{counted, spelled}
use Rattle.ats_proof.specs.Value.{Documents, Proof, documents_fields, front_fields, header_fields, entry_fields, digest_fields, slot_fields, id_fields, prefix_fields, number_of_algorithm}
use Rattle.ats_honest.specs.Terms.{shown_entry, slot_of}
use Rattle.ats_honest.specs.Documents.{HasDocuments}
use Rattle.ats_honest.specs.Lanes.{lanes_of}
use Rattle.ats_honest.specs.Honest.{prefixes}
use Rattle.ats_honest.proofs.Public.{HasParts, documents_are, lists_each, proof_comes, proof_of, shown_of}
use Rattle.ats_prover.specs.Inner.Writing.{IsShownWith, IsWritten, put}
use Rattle.ats_prover.proofs.Putting.{put_all}
use Rattle.ats_prover.proofs.Records.{IsKindOf, front_is}

-- the parts of a proof of a cut were appended, one after another
pub written : (H : List ℕ → List ℕ) (archive : Archive) (query : List (List ℕ × ℕ)) (algorithm : Algorithm) (spots : List Spot) (positions cut documents : List ℕ) (docs : Option Documents) (picks : List ℕ) (w x y z : Written)
    → HasParts H archive query algorithm spots positions cut documents docs picks
    → x ≡ put w (front_fields archive.format docs ++ header_fields (header_parts H archive) ++ spelled 2 (length (map (slot_of positions) spots)) ∷ [])
    → y ≡ put x (counted 2 entry_fields (map (shown_entry (dictionary_of H archive)) positions) ++ counted 2 digest_fields (elided_digests H (dict_leaves (dictionary_of H archive)) positions)
    ++ flat_map slot_fields (map (slot_of positions) spots))
    → z ≡ put y (counted 4 id_fields documents ++ flat_map prefix_fields (prefixes H archive.format documents (lanes_of archive.texts query) cut) ++ documents_fields docs ++ counted 2 id_fields picks)
    → IsWritten (IsShownWith H archive query algorithm cut documents picks) w z
written H archive query algorithm spots positions cut documents docs picks w x y z parts front terms walk =
    let proof = proof_of H archive query spots positions cut documents docs picks in
    let shows = shown_of H archive query algorithm spots positions cut documents docs picks parts.found parts.needed parts.has_documents in
    let a : List (List ℕ) = front_fields archive.format docs ++ header_fields (header_parts H archive) ++ spelled 2 (length (map (slot_of positions) spots)) ∷ [] in
    let b : List (List ℕ) = counted 2 entry_fields (map (shown_entry (dictionary_of H archive)) positions) in
    let c : List (List ℕ) = counted 2 digest_fields (elided_digests H (dict_leaves (dictionary_of H archive)) positions) in
    let d : List (List ℕ) = flat_map slot_fields (map (slot_of positions) spots) in
    let e : List (List ℕ) = counted 4 id_fields documents in
    let f : List (List ℕ) = flat_map prefix_fields (prefixes H archive.format documents (lanes_of archive.texts query) cut) in
    let g : List (List ℕ) = documents_fields docs in
    let h : List (List ℕ) = counted 2 id_fields picks in record {
      proof = proof;
      such = record { shows = shows; rows = refl };
      come = proof_comes H archive query algorithm spots positions cut documents docs picks parts;
      prefix_each = lists_each H archive query algorithm spots positions cut documents docs picks parts;
      documents = documents_are H archive query algorithm cut documents proof shows;
      asked = walk ∙ ap (λ (v : Written). put v (e ++ f ++ g ++ h)) (terms ∙ ap (λ (v : Written). put v (b ++ c ++ d)) front) ∙ put_all w a b c d e f g h;
    }

-- a proof of one kind is one of another
pub written_as : (IsSuch IsOther : Proof → Type 0) (before now : Written) → ((proof : Proof) → IsSuch proof → IsOther proof) → IsWritten IsSuch before now → IsWritten IsOther before now
written_as IsSuch IsOther before now as_other is = record {
  proof = is.proof;
  such = as_other is.proof is.such;
  come = is.come;
  prefix_each = is.prefix_each;
  documents = is.documents;
  asked = is.asked;
}

-- which algorithm's proofs have documents
pub kind_of_documents : (H : List ℕ → List ℕ) (texts : List (List ℕ)) (terms : List (List ℕ × ℕ)) (met : List ℕ) (algorithm : Algorithm) (docs : Option Documents)
    → HasDocuments algorithm H texts terms met docs → IsKindOf algorithm docs
kind_of_documents H texts terms met Tnra docs are = ap number_of_algorithm (sym are)
kind_of_documents H texts terms met Tra None are = absurd are
kind_of_documents H texts terms met Tra (Some docs) are = refl

-- the first record is the first fields
pub front_put : (f format : Format) (algorithm : Algorithm) (docs : Option Documents) (h own : Header) (n m : ℕ) (w : Written) → IsKindOf algorithm docs → f ≡ format → h ≡ own → n ≡ m → own.documents < 2 ^ 32 → own.dict_leaves < 2 ^ 32 → m < 2 ^ 16
    → after w (front_record f algorithm h n) ≡ put w (front_fields format docs ++ header_fields own ++ spelled 2 m ∷ [])
front_put f format algorithm docs h own n m w kind same header number documents leaves few =
    ap (after w)
    (ap (λ (some : Format). front_record some algorithm h n) same
    ∙ ap₂ (λ (x : Header) (k : ℕ). front_record format algorithm x k) header number
    ∙ front_is format algorithm docs own m kind documents leaves few)
