-- The trial: texts and queries of words that are drawn from a sequence of numbers, which the trial's number begins.
use Rattle.std.specs.Prelude.{◌+◌, ◌*◌, ◌/◌, ◌%◌, ◌^◌, ◌++◌, ℕ, zero, suc, List, map, codes, decimal}
use Rattle.std.specs.List.{join_by, range_with_len}

-- the number that follows a number of the sequence
abbrev pub next : ℕ → ℕ
next x = (6364136223846793005 * x + 1442695040888963407) % 2 ^ 64

-- the k-th number of the sequence that begins with x, counted from 0
unfoldable pub number_at : ℕ → ℕ → ℕ
number_at x zero = x
number_at x (suc k) = next (number_at x k)

-- the draw that a number of the sequence gives: its upper 31 bits; the k-th draw is counted from 1
abbrev pub drawn : ℕ → ℕ
drawn x = x / 2 ^ 33

abbrev pub draw : ℕ → ℕ → ℕ
draw x k = drawn (number_at x k)

-- the j-th word, counted from 0: `w` and the digits of a number below 1000, which two draws make
abbrev pub word_number : ℕ → ℕ → ℕ
word_number x j = (draw x (2 * j + 1) % 1000) * (draw x (2 * j + 2) % 1000) / 1000

abbrev pub word : ℕ → ℕ → List ℕ
word x j = codes "w" ++ decimal (word_number x j)

-- `count` words from the j-th on, joined by single spaces
unfoldable pub joined_words : ℕ → ℕ → ℕ → List ℕ
joined_words x j count = join_by (word x) (codes " ") (range_with_len j count)

-- the i-th text, counted from 0: 50 words, drawn text after text
abbrev pub trial_text : ℕ → ℕ → List ℕ
trial_text number i = joined_words number (50 * i) 50

-- the first `count` texts of a trial
unfoldable pub first_texts : ℕ → ℕ → List (List ℕ)
first_texts number count = map (trial_text number) (range_with_len 0 count)

-- the texts of a trial
abbrev pub trial_texts : ℕ → List (List ℕ)
trial_texts number = first_texts number 2000

-- the i-th query, counted from 0: 3 words, drawn after all texts, query after query
abbrev pub trial_query : ℕ → ℕ → List ℕ
trial_query number i = joined_words number (100000 + 3 * i) 3
