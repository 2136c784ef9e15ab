-- Beside specs/Score: what only the functions of this room promise one another.
use Rattle.std.specs.Prelude.{ℕ, List, map}
use Rattle.ats_impact.specs.Score.{count}

-- how often each term of the query occurs in the text
abbrev pub counts : List (List ℕ × ℕ) → List ℕ → List ℕ
counts query text = map (λ pair. count pair.0 text) query
