-- The rules that hold for an accepted proof, by name.
use Rattle.std.proofs.Common.{ℕ, List}
use Rattle.std.proofs.lemmas.List.Elements.{All-weaker}
use Rattle.ats_proof.specs.Value.{Proof}
use Rattle.ats_client.specs.Presented.{presented, lanes_of}
use Rattle.ats_client.specs.Bracketing.{bounds_of}
use Rattle.ats_client.specs.Groups.{IsOpened, IsDictionary, AreSlotsRight, IsListRight, IsListRooted, AreListsRight, AreAllMet, AreRowsRight, IsAnswerSettled}
use Rattle.ats_client.specs.Documents.{IsTermsTree, met_documents, present_numbers, IsDocumentRight, IsDocsTree, AreDocumentsRight}
use Rattle.ats_client.specs.Rooted.{AreRooted}
use Rattle.ats_base.specs.Rules.{AllHold}
use Rattle.ats_client.specs.Accepts.{section_rules, Accepts}
use Rattle.ats_client.proofs.Sectioned.{accepted_sections}

-- ---- the rules of what a proof shows

module _ (H : List ℕ → List ℕ) (root : List ℕ) (query : List (List ℕ × ℕ)) (proof : Proof) (hold : AllHold (section_rules H root query proof)) where
  -- each section rebuilds to the root that the proof has for it
  pub sections_rooted : AreRooted H root query proof
  sections_rooted = record {
    header = hold.0.commits;
    dictionary = hold.1.0;
    slots = hold.1.1.0;
    lists = All-weaker (IsListRight H proof.format proof.met) (IsListRooted H proof.format proof.met) (λ one right. right.root) (presented query proof) hold.1.1.1.0;
    documents = hold.1.1.1.1.1.0;
    terms = All-weaker (IsDocumentRight H query (present_numbers proof)) (IsTermsTree H) (λ one right. right.tree) (met_documents proof) hold.1.1.1.1.1.1.0;
  }

module _ (H : List ℕ → List ℕ) (root : List ℕ) (query : List (List ℕ × ℕ)) (r : ℕ) (proof : Proof) where
  pub accepts_each : IsOpened H root query proof → IsDictionary H proof → AreSlotsRight query proof → AreListsRight H query proof
      → AreAllMet (lanes_of query proof) proof.met → IsDocsTree H proof → AreDocumentsRight H query proof → AreRowsRight proof.met proof.answer
      → IsAnswerSettled (bounds_of proof) (lanes_of query proof) proof.met proof.answer r → Accepts H root query r proof
  accepts_each opened dictionary slots lists met tree documents rows settled =
      record { holds = (opened, (dictionary, (slots, (lists, (met, (tree, (documents, (rows, (settled, tt))))))))) }

  pub rooted : Accepts H root query r proof → AreRooted H root query proof
  rooted accepts = sections_rooted H root query proof (accepted_sections H root query proof r accepts)
