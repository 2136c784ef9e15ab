-- Byte strings that are hashed at places of any kind, and where they differ from ours.
use Rattle.std.specs.Prelude.{◌≡◌, ◌≢◌, ℕ, List, [], ◌∷◌, ◌++◌, not, ◌||◌, if◌then◌else◌, Option, Some, None, IfSome, All}
use Rattle.std.specs.Str.{bytes_eq}

-- a byte string that is hashed, with its place
pub record Hashed (P : Type 0) : Type 0 where
  pub place : P
  pub text : List ℕ

-- the same string, with its place mapped by f
abbrev pub moved : {P Q : Type 0} → (P → Q) → Hashed P → Hashed Q
moved f s = record { place = f s.place; text = s.text }

-- two strings at one place
pub record Difference (P : Type 0) : Type 0 where
  pub place : P
  pub ours : List ℕ
  pub theirs : List ℕ

-- the difference of a string from ours at its place, if we have one there that differs; else `later`
abbrev pub difference_or : {P : Type 0} → Option (List ℕ) → Hashed P → Option (Difference P) → Option (Difference P)
difference_or None s later = later
difference_or (Some own) s later =
    if bytes_eq own s.text
    then later
    else Some (record { place = s.place; ours = own; theirs = s.text })

-- the first of the strings that differs from ours at its place, among the places where we have one
abbrev pub first_difference : {P : Type 0} → (P → Option (List ℕ)) → List (Hashed P) → Option (Difference P)
first_difference ours [] = None
first_difference ours (s ∷ rest) = difference_or (ours s.place) s (first_difference ours rest)

-- the string is ours at its place, if we have one there
abbrev pub IsOurs : {P : Type 0} → (P → Option (List ℕ)) → Hashed P → Type 0
IsOurs ours s = IfSome (ours s.place) (λ own. own ≡ s.text)

-- the difference is one of the strings and ours at its place, which differs from it; each string before it is ours
pub record IsFirstDifference {P : Type 0} (ours : P → Option (List ℕ))
    (ss : List (Hashed P)) (c : Difference P) : Type 0 where
  pub before : List (Hashed P)
  pub after : List (Hashed P)
  pub stands : ss ≡ before ++ record { place = c.place; text = c.theirs } ∷ after
  pub own : ours c.place ≡ Some c.ours
  pub differs : c.ours ≢ c.theirs
  pub agrees : All (IsOurs ours) before

-- the collision of a string with ours at its place, if we have one there that differs and has an equal digest; else
-- `later`
abbrev pub collision_or : {P : Type 0} → (List ℕ → List ℕ) → Option (List ℕ)
    → Hashed P → Option (Difference P) → Option (Difference P)
collision_or H None s later = later
collision_or H (Some own) s later =
    if bytes_eq own s.text || not (bytes_eq (H own) (H s.text))
    then later
    else Some (record { place = s.place; ours = own; theirs = s.text })

-- the first of the strings that differs from ours at its place and has an equal digest
abbrev pub first_collision : {P : Type 0} → (List ℕ → List ℕ) → (P → Option (List ℕ))
    → List (Hashed P) → Option (Difference P)
first_collision H ours [] = None
first_collision H ours (s ∷ rest) = collision_or H (ours s.place) s (first_collision H ours rest)
