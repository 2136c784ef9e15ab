-- What an honest proof shows: its cut, with the documents that the cut meets.
use Rattle.std.proofs.Common.{ℕ, List}
use Rattle.ats_commit.specs.Archive.{Archive}
use Rattle.ats_bound.specs.Ranked.{docs_of}
use Rattle.ats_bound.specs.Schedule.{IsCut, shown}
use Rattle.ats_bound.proofs.Public.{scheduled_is_cut}
use Rattle.ats_proof.specs.declared.record.Algorithm.{Algorithm}
use Rattle.ats_proof.specs.Value.{Proof}
use Rattle.ats_honest.specs.Lanes.{lanes_of}
use Rattle.ats_honest.specs.Honest.{AreMet, IsHonestBy}
use Rattle.ats_honest.proofs.MetDocuments.{brackets_met}
use Rattle.ats_honest.proofs.Present.{lanes_have_lists}

module _ (Stops : List ℕ → Type 0) (rows : ℕ) (H : List ℕ → List ℕ) (archive : Archive) (query : List (List ℕ × ℕ)) (algorithm : Algorithm) (proof : Proof) (honest : IsHonestBy Stops rows H archive query algorithm proof) where
  pub honest_cut : IsCut (lanes_of archive.texts query) honest.cut
  honest_cut =
      scheduled_is_cut (lanes_of archive.texts query) honest.first.turns honest.cut (λ i d inside. (lanes_have_lists archive.texts query i d inside).some) honest.first.scheduled

  pub honest_met : AreMet (shown (lanes_of archive.texts query) honest.cut) (docs_of honest.brackets)
  honest_met = brackets_met (shown (lanes_of archive.texts query) honest.cut) honest.brackets honest.bounds
