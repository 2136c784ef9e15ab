-- A list of files seen as a map, after a file was added or changed in place.
use Rattle.std.proofs.Common.{◌≡◌, ◌<◌, ◌≤◌, ℕ, List, [], ◌∷◌, ◌++◌, length, Bool, true, false, cond, Option, Some, None, MatchOption, option_map, refl, sym, ap, subst, ◌∙◌, arith}
use Rattle.std.specs.Prelude.{is_some, IsSome, find, position, slice_get, slice_set, slice_index_or}
use Rattle.std.specs.List.{position_or_len}
use Rattle.std.specs.Option.{option_or}
use Rattle.std.specs.Str.{bytes_eq}
use Rattle.std.proofs.lemmas.Bool.{ltb-true, ltb-false}
use Rattle.std.proofs.lemmas.List.Folds.{find_at, find-set, find_past, find-append}
use Rattle.std.proofs.lemmas.List.Sums.{passes_at_first}
use Rattle.std.proofs.lemmas.Option.{slice_get_past, slice_get-get_or}
use Rattle.std.proofs.lemmas.Slice.Eq.{bytes_eq-Decides}
use Rattle.ats_base.specs.Memory.{told_files}
use Rattle.ats_base.specs.Outside.{put, Adds}

picked : (b : Bool) (n i : ℕ) → cond b (Some n) None ≡ Some i → (b ≡ true) × (n ≡ i)
picked true n i is = (refl, cc)
picked false n i is = absurd (cc)

unpicked : (b : Bool) (n : ℕ) → cond b (Some n) None ≡ None → b ≡ false
unpicked true n is = absurd (cc)
unpicked false n is = refl

-- the place of the first element that passes
first_place : {X : Type 0} (p : X → Bool) (xs : List X) (i : ℕ) → position p xs ≡ Some i → (i ≡ position_or_len p xs) × (i < length xs)
first_place p xs i is =
    let both = picked _ _ i is in
    let within : position_or_len p xs < length xs = ltb-true _ _ both.0 in
    (sym both.1, omega (arith, both.1))

no_place : {X : Type 0} (p : X → Bool) (xs : List X) → position p xs ≡ None → find p xs ≡ None
no_place p xs is =
    let past : length xs ≤ position_or_len p xs = ltb-false _ _ (unpicked _ _ is) in
    find_at p xs ∙ slice_get_past xs _ past

-- the file at the place of a name has that name
named : (files : List (List ℕ × List ℕ)) (name : List ℕ) (at : ℕ) (file : List ℕ × List ℕ)
    → position (λ f. bytes_eq f.0 name) files ≡ Some at → file ≡ slice_index_or files at file → bytes_eq file.0 name ≡ true
named files name at file place is =
    let first = first_place (λ f. bytes_eq f.0 name) files at place in
    let passes = passes_at_first (λ f. bytes_eq f.0 name) files file (omega (arith, first.0, first.1)) in
    ap (λ f. bytes_eq f.0 name) (is ∙ ap (λ k. slice_index_or files k file) first.0) ∙ passes

-- the map at a name that has a place
pub told_at : (files : List (List ℕ × List ℕ)) (name : List ℕ) (at : ℕ) (file : List ℕ × List ℕ)
    → position (λ f. bytes_eq f.0 name) files ≡ Some at → file ≡ slice_index_or files at file → told_files files name ≡ Some file.1
told_at files name at file place is =
    let first = first_place (λ f. bytes_eq f.0 name) files at place in
    ap (option_map (λ f. f.1)) (find_at (λ f. bytes_eq f.0 name) files
    ∙ ap (slice_get files) (sym first.0) ∙ slice_get-get_or files at file first.1 ∙ ap Some (sym is))

-- the map at a name that has none
pub told_nowhere : (files : List (List ℕ × List ℕ)) (name : List ℕ)
    → position (λ f. bytes_eq f.0 name) files ≡ None → told_files files name ≡ None
told_nowhere files name place = ap (option_map (λ f. f.1)) (no_place (λ f. bytes_eq f.0 name) files place)

there : (files : List (List ℕ × List ℕ)) (name : List ℕ) (at : ℕ) → position (λ f. bytes_eq f.0 name) files ≡ Some at → IsSome (told_files files name)
there files name at place =
    let first = first_place (λ f. bytes_eq f.0 name) files at place in
    let file = slice_index_or files at ([], []) in
    let told : told_files files name ≡ Some file.1 = ap (option_map (λ f. f.1)) (find_at (λ f. bytes_eq f.0 name) files
    ∙ ap (slice_get files) (sym first.0) ∙ slice_get-get_or files at ([], []) first.1) in
    ap is_some told

-- a name has a place exactly if its file is there
pub told_there : (files : List (List ℕ × List ℕ)) (name : List ℕ) (place : Option ℕ)
    → place ≡ position (λ f. bytes_eq f.0 name) files → MatchOption place (told_files files name ≡ None) (λ _. IsSome (told_files files name))
told_there files name None is = told_nowhere files name (sym is)
told_there files name (Some at) is = there files name at (sym is)

set_at : (files : List (List ℕ × List ℕ)) (name bytes : List ℕ) (at : ℕ) (file new : List ℕ × List ℕ) (other : List ℕ) (same : Bool)
    → position (λ f. bytes_eq f.0 name) files ≡ Some at → file ≡ slice_index_or files at file → new ≡ (file.0, bytes)
    → bytes_eq name other ≡ same → told_files (slice_set files at new) other ≡ cond same (Some bytes) (told_files files other)
set_at files name bytes at file new other true place is changed same =
    let first = first_place (λ f. bytes_eq f.0 name) files at place in
    let here : name ≡ other = (bytes_eq-Decides name other).0 same in
    let passes : bytes_eq new.0 name ≡ true = ap (λ f. bytes_eq f.0 name) changed ∙ named files name at file place is in
    rw (← here) (ap (option_map (λ f. f.1)) (find-set (λ f. bytes_eq f.0 name) files at new first.0 first.1 passes) ∙ ap (λ f. Some f.1) changed)
set_at files name bytes at file new other false place is changed same =
    let its : file.0 ≡ name = (bytes_eq-Decides file.0 name).0 (named files name at file place is) in
    let old_fails : bytes_eq (slice_index_or files at file).0 other ≡ false = ap (λ f. bytes_eq f.0 other) (sym is) ∙ ap (λ n. bytes_eq n other) its ∙ same in
    let new_fails : bytes_eq new.0 other ≡ false = ap (λ f. bytes_eq f.0 other) changed ∙ ap (λ n. bytes_eq n other) its ∙ same in
    ap (option_map (λ f. f.1)) (find_past (λ f. bytes_eq f.0 other) files at new file old_fails new_fails)

-- a file that was changed in place
pub told-set : (files : List (List ℕ × List ℕ)) (name bytes : List ℕ) (at : ℕ) (file new : List ℕ × List ℕ)
    → position (λ f. bytes_eq f.0 name) files ≡ Some at → file ≡ slice_index_or files at file → new ≡ (file.0, bytes)
    → told_files (slice_set files at new) ≡ put (told_files files) name bytes
told-set files name bytes at file new place is changed =
    λ i. λ other. set_at files name bytes at file new other (bytes_eq name other) place is changed refl i

-- a file to which bytes were added in place
pub told-extend : (files : List (List ℕ × List ℕ)) (name bytes : List ℕ) (at : ℕ) (file new : List ℕ × List ℕ)
    → position (λ f. bytes_eq f.0 name) files ≡ Some at → file ≡ slice_index_or files at file → new ≡ (file.0, file.1 ++ bytes)
    → Adds (Some (told_files files)) (Some (told_files (slice_set files at new))) name bytes
told-extend files name bytes at file new place is changed =
    rw (told_at files name at file place is) (ap Some (told-set files name (file.1 ++ bytes) at file new place is changed))

pushed : (o : Option (List ℕ × List ℕ)) (same : Bool) (name bytes : List ℕ)
    → (same ≡ true → o ≡ None)
    → option_map (λ f. f.1) (option_or o (cond same (Some (name, bytes)) None)) ≡ cond same (Some bytes) (option_map (λ f. f.1) o)
pushed None true name bytes none = refl
pushed None false name bytes none = refl
pushed (Some f) true name bytes none = absurd (let is = none refl in cc)
pushed (Some f) false name bytes none = refl

push_at : (files : List (List ℕ × List ℕ)) (name bytes other : List ℕ)
    → position (λ f. bytes_eq f.0 name) files ≡ None
    → told_files (files ++ (name, bytes) ∷ []) other ≡ put (told_files files) name bytes other
push_at files name bytes other place =
    let none : bytes_eq name other ≡ true → find (λ f. bytes_eq f.0 other) files ≡ None =
    λ same. subst (λ n. find (λ f. bytes_eq f.0 n) files ≡ None) ((bytes_eq-Decides name other).0 same) (no_place (λ f. bytes_eq f.0 name) files place) in
    ap (option_map (λ f. f.1)) (find-append (λ f. bytes_eq f.0 other) files ((name, bytes) ∷ []))
    ∙ pushed (find (λ f. bytes_eq f.0 other) files) (bytes_eq name other) name bytes none

-- a file of a name that was not there
pub told-push : (files : List (List ℕ × List ℕ)) (name bytes : List ℕ) (file : List ℕ × List ℕ)
    → position (λ f. bytes_eq f.0 name) files ≡ None → file ≡ (name, bytes)
    → told_files (files ++ file ∷ []) ≡ put (told_files files) name bytes
told-push files name bytes file place is = rw is (λ i. λ other. push_at files name bytes other place i)
