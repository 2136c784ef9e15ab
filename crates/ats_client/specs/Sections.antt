-- When the sections of a proof rebuild, and the two strings that a clash has.
use Rattle.std.specs.Prelude.{◌≡◌, ℕ, List, length}
use Rattle.std.specs.List.{All}
use Rattle.ats_tree.specs.Differences.{Difference}
use Rattle.ats_tree.specs.declared.places.Place.{Place}
use Rattle.ats_proof.specs.Value.{Proof}
use Rattle.ats_client.specs.Documents.{IsDocsTree, IsTermsTree, met_documents}
use Rattle.ats_client.specs.Groups.{IsDictionary, AreSlotsRight, AreListsRight}
use Rattle.ats_client.specs.declared.clashing.Clash.{Clash}

-- There is a slot for each term of the query, and it shows the term. The dictionary and the documents rebuild to roots
-- of the header. Each list names met documents, each once, and rebuilds to the root in its term's shown leaf. Each
-- document's terms rebuild to the root in its shown leaf.
pub record AreRebuilt (H : List ℕ → List ℕ) (query : List (List ℕ × ℕ)) (proof : Proof) : Type 0 where
  pub count : length proof.slots ≡ length query
  pub dictionary : IsDictionary H proof
  pub slots : AreSlotsRight query proof
  pub lists : AreListsRight H query proof
  pub documents : IsDocsTree H proof
  pub terms : All (IsTermsTree H) (met_documents proof)

-- the two strings at one place that a clash has
abbrev pub difference_of : Clash → Difference Place
difference_of clash = record { place = clash.place; ours = clash.ours; theirs = clash.theirs }
