-- Scores by a table of impacts, whatever of the lists is shown.
use Rattle.std.specs.Prelude.{◌*◌, ◌+◌, ℕ, List, [], ◌∷◌}
use Rattle.ats_bound.specs.Lookup.{Table}
use Rattle.ats_bound.specs.Schedule.{WholeLane}

-- the score of a document by the table; the lists are counted from i on
abbrev pub score_from : ℕ → Table → List WholeLane → ℕ → ℕ
score_from i table [] doc = 0
score_from i table (lane ∷ lanes) doc = lane.coefficient * table i doc + score_from (i + 1) table lanes doc

abbrev pub score_by : Table → List WholeLane → ℕ → ℕ
score_by table lanes doc = score_from 0 table lanes doc
