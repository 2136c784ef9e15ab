-- The honest proof of a walk shows the walk's end, and is the only one.
use Rattle.std.proofs.Common.{◌≡◌, ℕ, List, length, sym, subst}
use Rattle.ats_bound.specs.declared.walk.Walk.{Walk}
use Rattle.ats_bound.specs.Chosen.{IsChosen}
use Rattle.ats_bound.specs.Floors.{Floors, IsWithinBy}
use Rattle.ats_bound.specs.Ranked.{docs_of}
use Rattle.ats_bound.specs.Schedule.{AreBracketsBy, IsFirstCut, shown}
use Rattle.ats_commit.specs.Archive.{Archive}
use Rattle.ats_proof.specs.Written.{Written}
use Rattle.ats_proof.specs.declared.record.Algorithm.{Algorithm}
use Rattle.ats_proof.specs.Value.{Proof}
use Rattle.ats_honest.specs.Honest.{IsHonestBy, IsHonestWithin}
use Rattle.ats_honest.specs.Lanes.{bounding, lanes_of}
use Rattle.ats_honest.proofs.Public.{one_honest}
use Rattle.ats_prover.specs.Inner.Writing.{IsShownWith, IsWritten}
use Rattle.ats_prover.proofs.Asked.{written_as}

pub honest_end : (Stops : List ℕ → Type 0) (rows : ℕ) (H : List ℕ → List ℕ) (archive : Archive) (query : List (List ℕ × ℕ)) (algorithm : Algorithm) (end : Walk) (before now : Written)
    → IsFirstCut Stops (lanes_of archive.texts query) end.cut
    → AreBracketsBy (bounding algorithm (lanes_of archive.texts query)) (shown (lanes_of archive.texts query) end.cut) end.brackets → IsChosen end.brackets rows end.picks
    → IsWritten (IsShownWith H archive query algorithm end.cut (docs_of end.brackets) end.picks) before now → IsWritten (IsHonestBy Stops rows H archive query algorithm) before now
honest_end Stops rows H archive query algorithm end before now first bounds picks =
    written_as (IsShownWith H archive query algorithm end.cut (docs_of end.brackets) end.picks) (IsHonestBy Stops rows H archive query algorithm) before now (λ proof is. record {
      cut = end.cut;
      first = first;
      brackets = end.brackets;
      bounds = bounds;
      shows = is.shows;
      answer = subst (IsChosen end.brackets rows) (sym is.rows) picks;
    })

pub one_within : (H : List ℕ → List ℕ) (archive : Archive) (query : List (List ℕ × ℕ)) (floors : Floors) (algorithm : Algorithm) (a b : Proof)
    → IsHonestWithin H archive query floors algorithm a → IsHonestWithin H archive query floors algorithm b → a ≡ b
one_within H archive query floors algorithm a b =
    one_honest (IsWithinBy (bounding algorithm (lanes_of archive.texts query)) (lanes_of archive.texts query) floors) (length floors.spans) H archive query algorithm a b
