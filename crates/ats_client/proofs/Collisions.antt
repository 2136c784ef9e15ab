-- A collision of a proof is two different strings with equal digests.
use Rattle.std.proofs.Common.{◌≡◌, ℕ, List, Some}
use Rattle.ats_tree.specs.Differences.{Difference}
use Rattle.ats_tree.specs.declared.places.Place.{Place}
use Rattle.ats_tree.proofs.Public.{AreColliding, found-collides}
use Rattle.ats_commit.specs.Archive.{Archive}
use Rattle.ats_commit.specs.Ours.{ours}
use Rattle.ats_proof.specs.Value.{Proof}
use Rattle.ats_client.specs.Strings.{strings_of, proof_collision}

pub collision-collides : (H : List ℕ → List ℕ) (archive : Archive) (query : List (List ℕ × ℕ)) (proof : Proof) (c : Difference Place)
    → proof_collision H archive query proof ≡ Some c → AreColliding H c
collision-collides H archive query proof c is = found-collides H (ours H archive query) (strings_of H query proof) c is
