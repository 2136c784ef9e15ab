-- An honest proof is accepted, and a file that is one is accepted by `audit`.
use Rattle.std.proofs.Common.{◌^◌, ℕ, List, inr}
use Rattle.ats_proof.specs.declared.record.Algorithm.{Algorithm}
use Rattle.ats_terms.specs.Query.{IsQueryOf}
use Rattle.ats_commit.specs.Archive.{Archive}
use Rattle.ats_commit.specs.Root.{root_of}
use Rattle.ats_honest.specs.Honest.{IsProved}
use Rattle.ats_client.specs.Bytes.{IsAcceptedBytes}
use Rattle.ats_accepts.proofs.Public.{proved_accepted, proved_unclashing}
use Rattle.ats_console.specs.Words.{AuditWords, Audit, Auditor}
use Rattle.ats_plan.specs.Files.{Files, IsFile}
use Rattle.ats_console.specs.Read.{HasIndex}
use Rattle.ats_console.specs.Steps.{IsRowCount}
use Rattle.ats_top.specs.Run.{StepsHold}

-- the bytes of an honest proof are accepted under the archive's root
pub bytes_accepted : (H : List ℕ → List ℕ) (archive : Archive) (asked : List (List ℕ × ℕ)) (rows : ℕ) (algorithm : Algorithm) (bytes : List ℕ)
    → (proved : IsProved H archive asked rows algorithm bytes) → IsAcceptedBytes H (root_of H archive) asked rows bytes proved.proof
bytes_accepted H archive asked rows algorithm bytes proved =
    record { says = proved.spells; accepts = proved_accepted H archive asked rows algorithm bytes proved proved.proof proved.spells }

-- such a proof has no collision with the archive
pub audit_steps_hold : (H : List ℕ → List ℕ) (archive : Archive) (files : Files) (words : AuditWords) (asked : List (List ℕ × ℕ)) (algorithm : Algorithm) (bytes : List ℕ)
    → HasIndex H files words.index archive → IsRowCount words.r → IsQueryOf words.query asked → IsProved H archive asked words.r algorithm bytes
    → IsFile files words.proof (2 ^ 26) bytes → StepsHold H files (Auditor (Audit words))
audit_steps_hold H archive files words asked algorithm bytes index within is_query proved file =
    let proof = proved.proof in
    let accepted = bytes_accepted H archive asked words.r algorithm bytes proved in
    let unclashing = proved_unclashing H archive asked words.r algorithm bytes proved proof proved.spells in
    (within, (asked, is_query, inr (index.bytes, index.file, (archive, index.spelling, inr (bytes, file, (proof, accepted, (unclashing, tt)))))))
