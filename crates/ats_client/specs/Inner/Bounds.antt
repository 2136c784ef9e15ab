-- The bounds that marks give: for the rows of an answer, and for the documents outside it.
use Rattle.std.specs.Prelude.{◌≡◌, ◌+◌, ◌-◌, ◌<◌, ◌≤◌, ◌^◌, ℕ, zero, suc, List, length, max, slice_index, false, if◌then◌else◌}
use Rattle.std.specs.List.{fold}
use Rattle.ats_bound.specs.declared.work.Mark.{Mark}
use Rattle.ats_bound.specs.Work.{mark_at}

-- the most that a document scores: the least that it scores, and what the lists that do not name it can add
abbrev pub upper : ℕ → Mark → ℕ
upper threshold mark = mark.lo + (threshold - mark.held)

-- no mark holds more than the threshold, and all numbers are small, so that sums do not wrap
pub record AreBelow (threshold : ℕ) (marks : List Mark) : Type 0 where
  pub threshold_small : threshold < 2 ^ 48
  pub small : (i : ℕ) → i < length marks → (mark_at marks i).lo < 2 ^ 48
  pub held : (i : ℕ) → i < length marks → (mark_at marks i).held ≤ threshold

-- the mark of a row's document
abbrev pub row_mark : List Mark → List ℕ → ℕ → Mark
row_mark marks answer k = mark_at marks (slice_index answer k)

-- the least that the row before this one scores; for the first row the largest number
abbrev pub lower_before : List Mark → List ℕ → ℕ → ℕ
lower_before marks answer zero = 2 ^ 64 - 1
lower_before marks answer (suc k) = (row_mark marks answer k).lo

-- none of the first n rows can score more than the least that the row before it scores
abbrev pub AreFalling : ℕ → List Mark → List ℕ → ℕ → Type 0
AreFalling threshold marks answer n = (k : ℕ) → k < n → upper threshold (row_mark marks answer k) ≤ lower_before marks answer k

-- no document that no row names can score more than `score`
abbrev pub AreOthersWithin : ℕ → List Mark → ℕ → Type 0
AreOthersWithin threshold marks score = (i : ℕ) → i < length marks → (mark_at marks i).row ≡ false → upper threshold (mark_at marks i) ≤ score

-- the most that a document scores that no row names, or 0 if a row names it
abbrev pub outside : ℕ → Mark → ℕ
outside threshold mark = if mark.row then 0 else upper threshold mark

-- the greatest of these and of the threshold
abbrev pub most_outside : ℕ → List Mark → ℕ
most_outside threshold marks = fold (λ most mark. max most (outside threshold mark)) threshold marks
