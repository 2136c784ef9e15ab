-- The replies of a server with the index of an archive.
use Rattle.std.specs.Prelude.{◌≡◌, ◌⊎◌, ◌≤◌, ◌^◌, ℕ, List, length}
use Rattle.ats_terms.specs.Query.{IsQueryOf}
use Rattle.ats_terms.specs.Faults.{IsFirstFault}
use Rattle.ats_terms.specs.declared.query.QueryFault.{QueryFault}
use Rattle.ats_terms.specs.declared.query.QueryFault.TheVariants as query
use Rattle.ats_commit.specs.Archive.{Archive}
use Rattle.ats_honest.specs.Honest.{IsProved}
use Rattle.ats_prover.specs.Fault.{IsFault}
use Rattle.ats_prover.specs.declared.fault.ProveFault.{ProveFault}
use Rattle.ats_prover.specs.declared.fault.ProveFault.TheVariants as proof
use Rattle.ats_wire.specs.Requests.{Question}
use Rattle.ats_wire.specs.declared.reply.Reply.{Reply}
use Rattle.ats_wire.specs.declared.reply.Reply.TheVariants.{Proof, Code}

-- the code of each reason why a text is no query
abbrev pub code_of_query : QueryFault → ℕ
code_of_query (query.TooLong bytes) = 3
code_of_query query.NoTerm = 2
code_of_query (query.TooManyWords count) = 3
code_of_query (query.TooManyTerms distinct) = 3
code_of_query query.OutOfMemory = 6

-- the code of each reason why there is no proof
abbrev pub code_of_proof : ProveFault → ℕ
code_of_proof (proof.ProofTooLong bytes) = 5
code_of_proof proof.OutOfMemory = 6

-- the bytes are the honest proof that the question asks for, and at most as long as a proof may be
pub record IsGivenProof (H : List ℕ → List ℕ) (archive : Archive) (question : Question) (bytes : List ℕ) : Type 0 where
  pub query : List (List ℕ × ℕ)
  pub asked : IsQueryOf question.query query
  pub proved : IsProved H archive query question.top question.algorithm bytes
  pub short : length bytes ≤ 2 ^ 26

-- the text of the question is no query, for this reason
pub record IsNoQuery (question : Question) (code : ℕ) : Type 0 where
  pub fault : QueryFault
  pub first : IsFirstFault question.query fault
  pub is : code ≡ code_of_query fault

-- there is no proof of its query, for this reason
pub record IsNoProof (H : List ℕ → List ℕ) (archive : Archive) (question : Question) (code : ℕ) : Type 0 where
  pub query : List (List ℕ × ℕ)
  pub asked : IsQueryOf question.query query
  pub fault : ProveFault
  pub cause : IsFault H archive query question.top question.algorithm (2 ^ 26) fault
  pub is : code ≡ code_of_proof fault

-- The honest proof, or the code of the first reason why there is none; out of memory needs no cause.
abbrev pub gives : (List ℕ → List ℕ) → Archive → Question → Reply → Type 0
gives H archive question (Proof bytes) = IsGivenProof H archive question bytes
gives H archive question (Code code) = IsNoQuery question code ⊎ IsNoProof H archive question code
