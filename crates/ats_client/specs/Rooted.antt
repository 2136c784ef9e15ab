-- When each section of a proof rebuilds to the root that the proof has for it, from the pinned root down.
use Rattle.std.specs.Prelude.{◌≡◌, ℕ, List}
use Rattle.std.specs.List.{All}
use Rattle.ats_commit.specs.Root.{header_root}
use Rattle.ats_proof.specs.Value.{Proof}
use Rattle.ats_client.specs.Groups.{IsDictionary, AreSlotsRight, IsListRooted}
use Rattle.ats_client.specs.Documents.{IsDocsTree, IsTermsTree, met_documents}
use Rattle.ats_client.specs.Presented.{presented}

-- The header has this root. The dictionary and the documents rebuild to roots of the header. Each list rebuilds to the
-- root in its term's shown leaf, which the slots find, and each document's terms rebuild to the root in its shown leaf.
pub record AreRooted (H : List ℕ → List ℕ) (root : List ℕ) (query : List (List ℕ × ℕ)) (proof : Proof) : Type 0 where
  pub header : header_root H proof.format proof.header ≡ root
  pub dictionary : IsDictionary H proof
  pub slots : AreSlotsRight query proof
  pub lists : All (IsListRooted H proof.format proof.met) (presented query proof)
  pub documents : IsDocsTree H proof
  pub terms : All (IsTermsTree H) (met_documents proof)
