-- A file that the shelf reports has one content, and is missing, longer than the limit, or neither.
use Rattle.std.proofs.Common.{◌≡◌, ◌∙◌, ◌<◌, ◌≤◌, ℕ, List, length, Option, Some, None, MatchOption, sym, ap, arith}
use Rattle.ats_base.specs.Outside.{IsMissing, IsLonger}
use Rattle.ats_plan.specs.Files.{Files, IsTold, IsFile}

same_some : {X : Type 0} (o : Option X) (x y : X) → o ≡ Some x → o ≡ Some y → x ≡ y
same_some o x y first second = let both = sym first ∙ second in cc

not_longer : (o : Option (List ℕ)) (bytes : List ℕ) (limit : ℕ) → o ≡ Some bytes → length bytes ≤ limit → MatchOption o ⊥ (λ file. limit < length file) → ⊥
not_longer None bytes limit is short long = long
not_longer (Some file) bytes limit is short long = let same : file ≡ bytes = cc in omega (arith, ap length same)

none_longer : (o : Option (List ℕ)) (limit : ℕ) → o ≡ None → MatchOption o ⊥ (λ file. limit < length file) → ⊥
none_longer None limit none long = long
none_longer (Some file) limit none long = absurd (cc)

-- a reported file has one content
pub one_file : (files : Files) (name first second : List ℕ) (limit other : ℕ) → IsTold files → IsFile files name limit first → IsFile files name other second → first ≡ second
one_file None name first second limit other told one two = absurd (cc)
one_file (Some map) name first second limit other told one two = same_some (map name) first second one.held two.held

-- a missing file has no content
pub file_there : (files : Files) (name bytes : List ℕ) (limit : ℕ) → IsMissing files name → IsFile files name limit bytes → ⊥
file_there None name bytes limit missing file = missing
file_there (Some map) name bytes limit missing file = let both = sym missing ∙ file.held in cc

-- a reported file that is within the limit is not longer than it
pub file_short : (files : Files) (name bytes : List ℕ) (limit : ℕ) → IsTold files → IsFile files name limit bytes → IsLonger files name limit → ⊥
file_short None name bytes limit told file long = absurd (cc)
file_short (Some map) name bytes limit told file long = not_longer (map name) bytes limit file.held file.short long

-- a missing file is not longer than a limit
pub missing_short : (files : Files) (name : List ℕ) (limit : ℕ) → IsMissing files name → IsLonger files name limit → ⊥
missing_short None name limit missing long = missing
missing_short (Some map) name limit missing long = none_longer (map name) limit missing long
