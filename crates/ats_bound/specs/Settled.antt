-- When an answer, a list of places in a list of brackets, is settled: what is shown proves this answer right.
-- A profile of the stopping rule of Pang and Mouratidis, VLDB 2008.
use Rattle.std.specs.Prelude.{◌≡◌, ◌⊎◌, ◌<◌, ◌≤◌, ◌+◌, ◌-◌, ℕ, List, length, map, slice_index, slice_index_or}
use Rattle.std.specs.List.{All}
use Rattle.ats_impact.specs.Rank.{times}
use Rattle.ats_bound.specs.declared.bracket.Bracket.{Bracket}

-- no number occurs twice
abbrev pub AreDistinct : List ℕ → Type 0
AreDistinct numbers = (n : ℕ) → times n numbers ≤ 1

-- no document has two brackets
abbrev pub HaveDistinctDocs : List Bracket → Type 0
HaveDistinctDocs brackets = AreDistinct (map (λ (b : Bracket). b.doc) brackets)

-- each pick is the place of a bracket
abbrev pub ArePicks : List Bracket → List ℕ → Type 0
ArePicks brackets picks = All (λ pick. pick < length brackets) picks

-- the bracket at a place
abbrev pub bracket_at : List Bracket → ℕ → Bracket
bracket_at brackets i = slice_index_or brackets i (record { doc = 0; lo = 0; hi = 0 })

-- the bracket of row k of an answer
abbrev pub row : List Bracket → List ℕ → ℕ → Bracket
row brackets picks k = bracket_at brackets (slice_index picks k)

-- the bracket of the last row
abbrev pub last_row : List Bracket → List ℕ → Bracket
last_row brackets picks = row brackets picks (length picks - 1)

-- the bracket at a place is outside the answer
abbrev pub IsOutside : List Bracket → List ℕ → ℕ → Type 0
IsOutside brackets picks i = (i < length brackets) × (times i picks ≡ 0)

pub record IsSettled (brackets : List Bracket) (picks : List ℕ) (threshold : ℕ) (r : ℕ) : Type 0 where
  -- its documents are distinct, and at most r
  pub once : AreDistinct picks
  pub most : length picks ≤ r
  -- it has r documents; or it has every bracket's document, and no document that is not met can score
  pub whole : (length picks ≡ r) ⊎ (((i : ℕ) → i < length brackets → 1 ≤ times i picks) × (threshold ≡ 0))
  -- no row can score more than the least that the row before it scores
  pub falling : (k : ℕ) → k + 1 < length picks → (row brackets picks (k + 1)).hi ≤ (row brackets picks k).lo
  -- no document outside it can score more than the least that its last row scores
  pub rest : (i : ℕ) → IsOutside brackets picks i → 0 < length picks
      → (bracket_at brackets i).hi ≤ (last_row brackets picks).lo
  -- neither can a document that is not met
  pub unmet : 0 < length picks → 0 < threshold → threshold ≤ (last_row brackets picks).lo
