-- An audit of bytes that has taken the indexes of some archives.
use Rattle.std.specs.Prelude.{◌≡◌, ◌++◌, ℕ, List, length, drop, IfOk, IfErr}
use Rattle.std.specs.List.{All}
use Rattle.ats_grammar.specs.Front.{IsBad}
use Rattle.ats_commit.specs.Archive.{Archive}
use Rattle.ats_commit.specs.Own.{AreTexts}
use Rattle.ats_proof.specs.Value.{Proof}
use Rattle.ats_catalog_bytes.specs.Catalog.{root_over, roots_of}
use Rattle.ats_catalog_bytes.specs.Grammar.{catalog_schema}
use Rattle.ats_catalog_bytes.specs.Value.{shown_roots, IsCatalogProof}
use Rattle.ats_catalog_check.specs.Accepts.{AreProofs}
use Rattle.ats_catalog_check.specs.Bytes.{AreVerifiedRows, IsRefusedCatalog}
use Rattle.ats_catalog_check.specs.Strings.{proofs_collision}
use Rattle.ats_catalog_audit.specs.AuditState.{AuditState}
use Rattle.ats_catalog_audit.specs.declared.fault.AuditFault.{AuditFault}
use Rattle.ats_catalog_audit.specs.declared.fault.AuditFault.TheVariants.{BadShape, OutOfMemory}

-- The bytes spell what is shown. The check finds what it finds of them under the root over the roots that are shown. The
-- archives are the first of a catalog: their roots are kept, and the first collision of the proofs of their shards.
pub record IsUnderWay (H : List ℕ → List ℕ) (archives : List Archive) (query : List (List ℕ × ℕ)) (r : ℕ) (bytes : List ℕ) (audit : AuditState) : Type 0 where
  pub asked : audit.query ≡ query
  pub says : IsCatalogProof bytes audit.shown
  pub root : audit.root ≡ root_over H (shown_roots audit.shown)
  pub accepted : IfOk audit.checked (λ rows. AreVerifiedRows H audit.root query r bytes rows.rows)
  pub refused : IfErr audit.checked (IsRefusedCatalog H audit.root query r bytes)
  pub texts : All (λ (archive : Archive). AreTexts archive.texts) archives
  pub roots : audit.roots ≡ roots_of H archives
  pub left : audit.left ≡ drop (length archives) audit.shown
  pub first : IfOk audit.checked (λ rows. (proofs : List Proof) → AreProofs audit.shown proofs → audit.first ≡ proofs_collision H query 0 archives proofs)

-- an audit took the indexes of these archives, in order
pub record HasTaken (H : List ℕ → List ℕ) (archives : List Archive) (before after : AuditState) : Type 0 where
  pub roots : after.roots ≡ before.roots ++ roots_of H archives
  pub goes : (first : List Archive) (query : List (List ℕ × ℕ)) (r : ℕ) (bytes : List ℕ)
      → IsUnderWay H first query r bytes before → IsUnderWay H (first ++ archives) query r bytes after

-- why no audit begins: the bytes spell no proof of a catalog's answer; out of memory needs no cause
abbrev pub IsAuditFault : List ℕ → AuditFault → Type 0
IsAuditFault bytes (BadShape fault) = IsBad catalog_schema bytes fault
IsAuditFault bytes OutOfMemory = Unit {0}
