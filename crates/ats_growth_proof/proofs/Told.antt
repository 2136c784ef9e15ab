-- The first difference of the pairs of a growth, from the first two strings that differ in each part.
use Rattle.std.proofs.Common.{◌≡◌, ◌∙◌, ℕ, List, [], ◌∷◌, ◌++◌, map, Option, Some, None, refl, sym, ap, inl, inr}
use Rattle.std.specs.List.{flat_map}
use Rattle.std.specs.Option.{option_map}
use Rattle.std.specs.Str.{bytes_eq}
use Rattle.std.proofs.lemmas.Bool.{cond-true, cond-false, cases_Bool}
use Rattle.ats_tree.specs.Differences.{Hashed, moved, Difference, difference_or, first_difference}
use Rattle.ats_tree.specs.Paths.{Path}
use Rattle.ats_tree.specs.Strings.{string_at}
use Rattle.ats_tree.specs.Tree.{Tree}
use Rattle.ats_tree.proofs.Public.{or_else, difference-append}
use Rattle.ats_growth_check.specs.Strings.{Beside, Range, beside, all_strings, range_pairs, second_of}
use Rattle.ats_growth_proof.specs.Inner.FirstDifference.{Two, two_of, first_unlike, or_two, in_part}
use Rattle.ats_growth_proof.proofs.FirstDifferences.{unlike-append}

-- all of the strings that differ are in this part
abbrev pub IsIn : ℕ → List (Hashed Beside) → Type 0
IsIn part ss = first_difference second_of ss ≡ option_map (in_part part) (first_unlike second_of ss)

-- ---- one string more

step : (part : ℕ) (second : Option (List ℕ)) (text : List ℕ) (later : Option (Difference Beside)) → later ≡ option_map (in_part part) (option_map two_of later)
    → difference_or second (record { place = record { part = part; second = second }; text = text }) later
    ≡ option_map (in_part part) (option_map two_of (difference_or second (record { place = record { part = part; second = second }; text = text }) later))
step part None text later is = is
step part (Some own) text later is =
    let s : Hashed Beside = record { place = record { part = part; second = Some own }; text = text }
    in let there : Option (Difference Beside) → Option (Difference Beside) = λ o. option_map (in_part part) (option_map two_of o)
    in elim (cases_Bool (bytes_eq own text)) [
      | inl same ↦ cond-true _ _ _ same ∙ is ∙ ap there (sym (cond-true _ _ _ same))
      | inr other ↦ cond-false _ _ _ other ∙ ap there (sym (cond-false _ _ _ other))
    ]

pub in-moved : (H : List ℕ → List ℕ) (part : ℕ) (tree : Tree (List ℕ)) (ss : List (Hashed Path)) → IsIn part (map (moved (beside H part tree)) ss)
in-moved H part tree [] = refl
in-moved H part tree (s ∷ ss) =
    step part (string_at H tree s.place) s.text (first_difference second_of (map (moved (beside H part tree)) ss)) (in-moved H part tree ss)

-- ---- joined runs

or-in : (part : ℕ) (a b : Option Two) → or_else (option_map (in_part part) a) (option_map (in_part part) b) ≡ option_map (in_part part) (or_two a b)
or-in part None b = refl
or-in part (Some two) b = refl

pub in-append : (part : ℕ) (a b : List (Hashed Beside)) → IsIn part a → IsIn part b → IsIn part (a ++ b)
in-append part a b is also =
    difference-append second_of a b ∙ (λ i. or_else (is i) (also i)) ∙ or-in part (first_unlike second_of a) (first_unlike second_of b)
    ∙ ap (option_map (in_part part)) (sym (unlike-append second_of a b))

pub in-ranges : (H : List ℕ → List ℕ) (rs : List Range) → IsIn 5 (flat_map (range_pairs H) rs)
in-ranges H [] = refl
in-ranges H (range ∷ rs) =
    in-append 5 (range_pairs H range) (flat_map (range_pairs H) rs) (in-moved H 5 range.new (all_strings H range.old)) (in-ranges H rs)

-- ---- three parts

-- the first difference of three runs, by what differs first in each
module _ (a b c : List (Hashed Beside)) (i j k : ℕ) (in_a : IsIn i a) (in_b : IsIn j b) (in_c : IsIn k c) where
  abbrev Goal : Option (Difference Beside) → Type 0
  Goal o = first_difference second_of (a ++ (b ++ c)) ≡ o

  whole : Goal (or_else (option_map (in_part i) (first_unlike second_of a)) (or_else (option_map (in_part j) (first_unlike second_of b)) (option_map (in_part k) (first_unlike second_of c))))
  whole =
      difference-append second_of a (b ++ c)
      ∙ (λ t. or_else (in_a t) ((difference-append second_of b c ∙ (λ u. or_else (in_b u) (in_c u))) t))

  pub in-first : (two : Two) → first_unlike second_of a ≡ Some two → Goal (Some (in_part i two))
  in-first two is = whole ∙ ap (λ (o : Option Two). or_else (option_map (in_part i) o) (or_else (option_map (in_part j) (first_unlike second_of b)) (option_map (in_part k) (first_unlike second_of c)))) is

  past-first : first_unlike second_of a ≡ None → Goal (or_else (option_map (in_part j) (first_unlike second_of b)) (option_map (in_part k) (first_unlike second_of c)))
  past-first none = whole ∙ ap (λ (o : Option Two). or_else (option_map (in_part i) o) (or_else (option_map (in_part j) (first_unlike second_of b)) (option_map (in_part k) (first_unlike second_of c)))) none

  pub in-second : (two : Two) → first_unlike second_of a ≡ None → first_unlike second_of b ≡ Some two → Goal (Some (in_part j two))
  in-second two none is = past-first none ∙ ap (λ (o : Option Two). or_else (option_map (in_part j) o) (option_map (in_part k) (first_unlike second_of c))) is

  pub in-third : (o : Option Two) → first_unlike second_of a ≡ None → first_unlike second_of b ≡ None → first_unlike second_of c ≡ o → Goal (option_map (in_part k) o)
  in-third o none also is =
      past-first none ∙ ap (λ (p : Option Two). or_else (option_map (in_part j) p) (option_map (in_part k) (first_unlike second_of c))) also
      ∙ ap (option_map (in_part k)) is
