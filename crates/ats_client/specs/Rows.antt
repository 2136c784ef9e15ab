-- What an accepted check leaves, and the rows of the answer that follow from it.
use Rattle.std.specs.Prelude.{◌≡◌, ◌<◌, ◌^◌, ℕ, List, length, map, slice_index}
use Rattle.std.specs.List.{All}
use Rattle.ats_impact.specs.declared.rank.Row.{Row}
use Rattle.ats_bound.specs.declared.bracket.Bracket.{Bracket}
use Rattle.ats_bound.specs.declared.work.Mark.{Mark}
use Rattle.ats_bound.specs.Cut.{threshold as threshold_of}
use Rattle.ats_proof.specs.Value.{Proof}
use Rattle.ats_client.specs.Presented.{lanes_of}
use Rattle.ats_client.specs.Groups.{met_at}
use Rattle.ats_client.specs.Bracketing.{bounds_of}
use Rattle.ats_client.specs.Marked.{AreMarks}

-- the marks of the met documents, the threshold, and rows that name met documents
pub record IsLeftByCheck (query : List (List ℕ × ℕ)) (proof : Proof) (marks : List Mark) (threshold : ℕ) : Type 0 where
  pub each : AreMarks (bounds_of proof) (lanes_of query proof) proof.met marks
  pub rests : threshold ≡ threshold_of (lanes_of query proof)
  pub small : threshold < 2 ^ 48
  pub inside : All (λ index. index < length proof.met) proof.answer

-- the bracket of a row's document
abbrev pub row_bracket : List (List ℕ × ℕ) → Proof → ℕ → Bracket
row_bracket query proof i = bounds_of proof (lanes_of query proof) (met_at proof.met (slice_index proof.answer i))

-- a document with the least and the most that it scores
abbrev pub row_of : Bracket → Row
row_of b = record { doc = b.doc; lower = b.lo; upper = b.hi }

-- the rows of the answer: each document with the least and the most that it scores
abbrev pub rows_of : List (List ℕ × ℕ) → Proof → List Row
rows_of query proof = map (λ index. row_of (bounds_of proof (lanes_of query proof) (met_at proof.met index))) proof.answer
