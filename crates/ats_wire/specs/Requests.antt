-- The frames of requests. Numbers are written high byte first.
use Rattle.std.specs.Prelude.{◌≡◌, ◌⊎◌, ◌<◌, ◌≤◌, ◌^◌, ℕ, List, ◌∷◌, ◌++◌, length}
use Rattle.std.specs.Int.{to_be_bytes, w16, w32}
use Rattle.std.specs.Str.{IsUtf8}
use Rattle.ats_proof.specs.declared.record.Algorithm.{Algorithm}
use Rattle.ats_proof.specs.declared.record.Algorithm.TheVariants.{Tra, Tnra}

-- bytes after their number, which has 4 bytes
abbrev pub framed : List ℕ → List ℕ
framed body = to_be_bytes w32 (length body) ++ body

-- the algorithm of the proof, the number of rows, and the query
pub record Question : Type 0 where
  pub algorithm : Algorithm
  pub top : ℕ
  pub query : List ℕ

abbrev pub algorithm_byte : Algorithm → ℕ
algorithm_byte Tra = 1
algorithm_byte Tnra = 2

-- the body of a request's frame: the version 1, the algorithm, the number of rows in 2 bytes,
-- the length of the query in 2 bytes, the query
abbrev pub request_body : Algorithm → ℕ → List ℕ → List ℕ
request_body algorithm rows query =
    1 ∷ algorithm_byte algorithm ∷ to_be_bytes w16 rows ++ (to_be_bytes w16 (length query) ++ query)

-- the body of a frame spells a request, whose number of rows may be out of range
pub record Spells (body : List ℕ) (algorithm : Algorithm) (rows : ℕ) (query : List ℕ) : Type 0 where
  pub is : body ≡ request_body algorithm rows query
  pub small : rows < 2 ^ 16
  pub text : IsUtf8 query

-- the body asks this question
pub record Asks (body : List ℕ) (question : Question) : Type 0 where
  pub spells : Spells body question.algorithm question.top question.query
  pub some : 1 ≤ question.top
  pub few : question.top ≤ 1000

-- Why a body asks nothing: code 1, it spells no request; code 4, the number of rows is not in 1 to 1,000.
abbrev pub IsRefused : List ℕ → ℕ → Type 0
IsRefused body code =
    ((code ≡ 1) × ((algorithm : Algorithm) (rows : ℕ) (query : List ℕ) → Spells body algorithm rows query → ⊥))
    ⊎ ((code ≡ 4) × ((algorithm : Algorithm) × (rows : ℕ) × (query : List ℕ)
    × Spells body algorithm rows query × ((rows ≡ 0) ⊎ (1000 < rows))))
