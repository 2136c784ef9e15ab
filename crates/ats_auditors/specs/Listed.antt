-- The list of a sweep: one proof a line, with the number of rows and the query that it is for.
use Rattle.std.specs.Prelude.{◌≡◌, ◌==◌, ◌≤◌, ◌^◌, ◌++◌, ◌∷◌, ℕ, Bool, true, not, List, length, map, Some}
use Rattle.std.specs.Str.{IsUtf8}
use Rattle.std.specs.List.{list_all}
use Rattle.ats_terms.specs.Query.{HasQuery}
use Rattle.ats_console.specs.Lists.{IsListOf}
use Rattle.ats_console.specs.Words.{number_of}
use Rattle.ats_plan.specs.Files.{Files, IsFile}

-- no byte is a space
abbrev pub is_unspaced : List ℕ → Bool
is_unspaced word = list_all (λ byte. not (byte == 32)) word

-- what a line asks: whether the proof in this file answers the query with this many rows
pub record Listed : Type 0 where
  pub r : ℕ
  pub proof : List ℕ
  pub query : List ℕ

-- R PROOF QUERY, with a single space after R and after PROOF: PROOF has at least one byte and no space, and QUERY is
-- all the rest
pub record IsSpelled (line : List ℕ) (listed : Listed) : Type 0 where
  pub text : IsUtf8 line
  pub word : List ℕ
  pub parts : line ≡ word ++ 32 ∷ (listed.proof ++ 32 ∷ listed.query)
  pub number : number_of word ≡ Some listed.r
  pub named : 1 ≤ length listed.proof
  pub unspaced : is_unspaced listed.proof ≡ true

-- the line is spelled so, and the number of rows and the query are within the limits
pub record IsListed (line : List ℕ) (listed : Listed) : Type 0 where
  pub spelled : IsSpelled line listed
  pub some : 1 ≤ listed.r
  pub few : listed.r ≤ 1000
  pub query : HasQuery listed.query

-- the named file has these lines, 1 to 1,000
pub record IsList (files : Files) (name : List ℕ) (listed : List Listed) : Type 0 where
  pub bytes : List ℕ
  pub file : IsFile files name (2 ^ 20) bytes
  pub list : IsListOf IsListed 1000 bytes listed

-- the files of the proofs
abbrev pub names_of : List Listed → List (List ℕ)
names_of listed = map (λ (line : Listed). line.proof) listed
