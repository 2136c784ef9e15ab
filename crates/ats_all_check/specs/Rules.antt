-- When a proof is accepted as one that shows all documents with every term of a query, and by which rule it is refused
-- otherwise.
use Rattle.std.specs.Prelude.{◌≡◌, ◌⊎◌, ℕ, List, [], ◌∷◌, length, true, false}
use Rattle.ats_base.specs.Rules.{Group, rule, AllHold, IsFirstFault}
use Rattle.ats_proof.specs.Value.{Proof, algorithm_of}
use Rattle.ats_proof.specs.declared.record.Algorithm.TheVariants.{Tra}
use Rattle.ats_client.specs.Accepts.{section_rules}
use Rattle.ats_client.specs.WholeLists.{shows_whole}
use Rattle.ats_all_check.specs.Documents.{are_present}
use Rattle.ats_refusal.specs.declared.documents.BothRefusal.{BothRefusal}
use Rattle.ats_refusal.specs.declared.documents.BothRefusal.TheVariants.{NotTra, AnswerShown, Section, NoWholeList}

-- the first rule of what the proof shows that fails, as in every check
abbrev pub IsSectionFault : (List ℕ → List ℕ) → List ℕ → List (List ℕ × ℕ) → Proof → BothRefusal → Type 0
IsSectionFault H root query proof (Section refusal) = IsFirstFault (section_rules H root query proof) refusal
IsSectionFault H root query proof _ = ⊥

-- a term of the query is absent, or the list of some term is shown whole
abbrev pub IsWhole : List (List ℕ × ℕ) → Proof → Type 0
IsWhole query proof = (are_present proof.slots ≡ false) ⊎ (shows_whole query proof ≡ true)

-- the rules of a proof, in their order
abbrev pub rules : (List ℕ → List ℕ) → List ℕ → List (List ℕ × ℕ) → Proof → List (Group BothRefusal)
rules H root query proof =
    rule (algorithm_of proof ≡ Tra) NotTra
    ∷ rule (length proof.answer ≡ 0) (AnswerShown (length proof.answer))
    ∷ record { holds = AllHold (section_rules H root query proof); fault = IsSectionFault H root query proof }
    ∷ rule (IsWhole query proof) NoWholeList
    ∷ []

-- all rules hold
pub record AcceptsBoth (H : List ℕ → List ℕ) (root : List ℕ) (query : List (List ℕ × ℕ)) (proof : Proof) : Type 0 where
  pub holds : AllHold (rules H root query proof)

-- the first rule that the proof breaks
pub record IsFirstBothRefusal (H : List ℕ → List ℕ) (root : List ℕ) (query : List (List ℕ × ℕ)) (proof : Proof) (refusal : BothRefusal) : Type 0 where
  pub first : IsFirstFault (rules H root query proof) refusal
