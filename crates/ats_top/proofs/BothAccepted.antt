-- The proof of all documents with every term, as it is made, is accepted and has no collision.
use Rattle.std.proofs.Common.{◌≡◌, ◌∙◌, ◌≤◌, ℕ, List, length, None, ap, arith}
use Rattle.std.proofs.lemmas.List.{length-map}
use Rattle.ats_commit.specs.Archive.{Archive}
use Rattle.ats_commit.specs.Root.{root_of}
use Rattle.ats_commit.specs.Trees.{dictionary_of}
use Rattle.ats_bound.specs.Schedule.{IsCut}
use Rattle.ats_proof.specs.declared.record.Algorithm.TheVariants.{Tra}
use Rattle.ats_proof.specs.Value.{Proof}
use Rattle.ats_proof.proofs.Public.{in_range}
use Rattle.ats_client.specs.Strings.{proof_collision}
use Rattle.ats_honest.specs.Lanes.{lanes_of}
use Rattle.ats_honest.specs.Terms.{slot_of}
use Rattle.ats_honest.proofs.Public.{spot_each}
use Rattle.ats_accepts.proofs.Public.{section_rules_hold, shown_unclashing, whole_seen}
use Rattle.ats_all_proof.specs.Made.{both_cut, IsBothMade, IsBothProof}
use Rattle.ats_all_check.specs.Rules.{AcceptsBoth}
use Rattle.ats_all_check.specs.Bytes.{AreAcceptedBytes}
use Rattle.ats_all_proof.proofs.Public.{both_is_cut, both_accepted}

module _ (H : List ℕ → List ℕ) (archive : Archive) (query : List (List ℕ × ℕ)) (proof : Proof) (made : IsBothMade H archive query proof) where
  abbrev cut : List ℕ
  cut = both_cut archive.texts query

  is_cut : IsCut (lanes_of archive.texts query) cut
  is_cut = both_is_cut archive.texts query

  -- such a proof is accepted under the archive's root
  made_accepted : 1 ≤ length archive.texts → 1 ≤ length query → AcceptsBoth H (root_of H archive) query proof
  made_accepted texts some =
      both_accepted H archive query proof made some (section_rules_hold H archive query Tra cut made.documents proof is_cut made.met made.shows (λ tra. texts))
      (whole_seen H archive query Tra cut made.documents proof is_cut made.met made.shows)

  -- and has no collision with the archive
  pub made_unclashing : proof_collision H archive query proof ≡ None
  made_unclashing = shown_unclashing H archive query Tra cut made.documents proof is_cut made.met made.shows

-- bytes that spell such a proof are accepted: they never spell a collection without documents, or a query without terms
pub bytes_accepted : (H : List ℕ → List ℕ) (archive : Archive) (query : List (List ℕ × ℕ)) (bytes : List ℕ) (proved : IsBothProof H archive query bytes)
    → AreAcceptedBytes H (root_of H archive) query bytes proved.proof
bytes_accepted H archive query bytes proved =
    let range = in_range bytes proved.proof proved.spells in
    let shows = proved.shows.shows in
    let texts : 1 ≤ length archive.texts = rw shows.header at range.front.numbers.some in
    let slots = ap length shows.slots ∙ length-map shows.spots (slot_of shows.positions) ∙ spot_each (dictionary_of H archive) query shows.spots shows.found in
    record {
      says = proved.spells;
      accepts = made_accepted H archive query proved.proof proved.shows texts (omega (arith, slots, range.spots.some));
    }
