use Rattle.ats_proof.specs.Parts.{parts_in}
use Rattle.ats_proof.specs.Reading.{posting_size, posting_in}
use Rattle.ats_proof.specs.SeenCursor.{met_of}
use Rattle.ats_proof.proofs.Encoding.{list_rises}
use Rattle.ats_proof.proofs.cursor.ListCursorRevealed.position.Goals as goal

pub returns-clause-rising : goal.returns-clause-rising
returns-clause-rising c =
    let s = c.args.self.now in list_rises s.at (met_of s) (parts_in posting_size posting_in s.left s.entries.now)
