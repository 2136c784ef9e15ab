-- When a proof is accepted, and by which rule it is refused otherwise.
use Rattle.std.specs.Prelude.{ℕ, List, [], ◌∷◌, ◌++◌}
use Rattle.ats_proof.specs.Value.{Proof}
use Rattle.ats_refusal.specs.declared.proof.Refusal.{Refusal}
use Rattle.ats_client.specs.Presented.{lanes_of}
use Rattle.ats_client.specs.Bracketing.{bounds_of}
use Rattle.ats_base.specs.Rules.{Group, AllHold, IsFirstFault}
use Rattle.ats_client.specs.Documents.{IsDocsTree, IsDocsFault, AreDocumentsRight, IsDocumentsFault}
use Rattle.ats_client.specs.Groups.{IsOpened, IsOpeningFault, IsDictionary, IsDictFault, AreSlotsRight, IsSlotsFault, AreListsRight, IsListsFault, AreAllMet, IsMetFault, AreRowsRight, IsRowsFault, IsAnswerSettled, IsSettledFault}

-- the rules of what a proof shows, in their order; those of the documents hold for every TNRA proof
abbrev pub section_rules : (List ℕ → List ℕ) → List ℕ → List (List ℕ × ℕ) → Proof → List (Group Refusal)
section_rules H root query proof =
    record { holds = IsOpened H root query proof; fault = IsOpeningFault H root query proof }
    ∷ record { holds = IsDictionary H proof; fault = IsDictFault H proof }
    ∷ record { holds = AreSlotsRight query proof; fault = IsSlotsFault query proof }
    ∷ record { holds = AreListsRight H query proof; fault = IsListsFault H query proof }
    ∷ record { holds = AreAllMet (lanes_of query proof) proof.met; fault = IsMetFault (lanes_of query proof) proof.met }
    ∷ record { holds = IsDocsTree H proof; fault = IsDocsFault H proof }
    ∷ record { holds = AreDocumentsRight H query proof; fault = IsDocumentsFault H query proof }
    ∷ []

-- the rule of the rows of an answer
abbrev pub row_rule : Proof → Group Refusal
row_rule proof = record { holds = AreRowsRight proof.met proof.answer; fault = IsRowsFault proof.met proof.answer }

-- the rule that what is shown settles the answer
abbrev pub settled_rule : List (List ℕ × ℕ) → ℕ → Proof → Group Refusal
settled_rule query r proof = record {
  holds = IsAnswerSettled (bounds_of proof) (lanes_of query proof) proof.met proof.answer r;
  fault = IsSettledFault (bounds_of proof) (lanes_of query proof) proof.met proof.answer r;
}

-- the rules before the settling, in their order: those of what a proof shows, then that of the rows
abbrev pub shown_rules : (List ℕ → List ℕ) → List ℕ → List (List ℕ × ℕ) → Proof → List (Group Refusal)
shown_rules H root query proof = section_rules H root query proof ++ row_rule proof ∷ []

-- the rules of a proof, in their order
abbrev pub rules : (List ℕ → List ℕ) → List ℕ → List (List ℕ × ℕ) → ℕ → Proof → List (Group Refusal)
rules H root query r proof = shown_rules H root query proof ++ settled_rule query r proof ∷ []

-- all rules before the settling hold
pub record AcceptsShown (H : List ℕ → List ℕ) (root : List ℕ) (query : List (List ℕ × ℕ)) (proof : Proof) : Type 0 where
  pub holds : AllHold (shown_rules H root query proof)

-- the first rule before the settling that the proof breaks
pub record IsFirstShownRefusal (H : List ℕ → List ℕ) (root : List ℕ) (query : List (List ℕ × ℕ)) (proof : Proof) (refusal : Refusal) : Type 0 where
  pub first : IsFirstFault (shown_rules H root query proof) refusal

-- all rules hold
pub record Accepts (H : List ℕ → List ℕ) (root : List ℕ) (query : List (List ℕ × ℕ)) (r : ℕ) (proof : Proof) : Type 0 where
  pub holds : AllHold (rules H root query r proof)

-- the first rule that the proof breaks
pub record IsFirstRefusal (H : List ℕ → List ℕ) (root : List ℕ) (query : List (List ℕ × ℕ)) (r : ℕ) (proof : Proof) (refusal : Refusal) : Type 0 where
  pub first : IsFirstFault (rules H root query r proof) refusal
