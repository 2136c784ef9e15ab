-- The first two strings that differ, whatever their place: one string before others, strings whose places are moved, runs
-- that are joined, and a node above its parts.
use Rattle.std.proofs.Common.{◌≡◌, ◌∙◌, ℕ, List, [], ◌∷◌, ◌++◌, map, true, false, Option, Some, None, refl, sym, ap, inl, inr}
use Rattle.std.specs.Option.{option_map}
use Rattle.std.specs.Str.{bytes_eq}
use Rattle.std.proofs.lemmas.Bool.{cond-true, cond-false, cases_Bool}
use Rattle.std.proofs.lemmas.Slice.Eq.{bytes_eq-Decides}
use Rattle.ats_tree.specs.Differences.{Hashed, moved, Difference, difference_or, first_difference}
use Rattle.ats_tree.specs.Paths.{Path}
use Rattle.ats_tree.specs.Strings.{below, string_at}
use Rattle.ats_tree.specs.Tree.{Tree, empty, leaf, node, digest_of}
use Rattle.ats_tree.proofs.Public.{or_else, difference-append, moved_difference, difference-moved}
use Rattle.ats_growth_check.specs.Strings.{all_strings}
use Rattle.ats_growth_proof.specs.Inner.FirstDifference.{Two, two_of, first_unlike, unlike_or, or_two}

-- ---- one string before others

unlike-some : {P : Type 0} (own : List ℕ) (s : Hashed P) (later : Option (Difference P))
    → option_map two_of (difference_or (Some own) s later) ≡ unlike_or s.text own (option_map two_of later)
unlike-some own s later =
    elim (cases_Bool (bytes_eq own s.text)) [
      | inl same ↦ ap (option_map two_of) (cond-true _ _ _ same) ∙ sym (cond-true _ _ _ same)
      | inr other ↦ ap (option_map two_of) (cond-false _ _ _ other) ∙ sym (cond-false _ _ _ other)
    ]

pub unlike-first : {P : Type 0} (second : P → Option (List ℕ)) (s : Hashed P) (rest : List (Hashed P)) (own : List ℕ) → second s.place ≡ Some own
    → first_unlike second (s ∷ rest) ≡ unlike_or s.text own (first_unlike second rest)
unlike-first second s rest own is =
    ap (λ (o : Option (List ℕ)). option_map two_of (difference_or o s (first_difference second rest))) is
    ∙ unlike-some own s (first_difference second rest)

-- two equal strings
pub unlike-same : (first second : List ℕ) (later : Option Two) → second ≡ first → unlike_or first second later ≡ later
unlike-same first second later same = cond-true _ _ _ ((bytes_eq-Decides second first).1 same)

-- ---- moved places

forget : {P Q : Type 0} (f : P → Q) (o : Option (Difference P)) → option_map two_of (option_map (moved_difference f) o) ≡ option_map two_of o
forget f None = refl
forget f (Some d) = refl

pub unlike-moved : {P Q : Type 0} (f : P → Q) (second : Q → Option (List ℕ)) (ss : List (Hashed P))
    → first_unlike second (map (moved f) ss) ≡ first_unlike (λ p. second (f p)) ss
unlike-moved f second ss = ap (option_map two_of) (difference-moved f second ss) ∙ forget f (first_difference (λ p. second (f p)) ss)

-- ---- joined runs

or-two : {P : Type 0} (a b : Option (Difference P)) → option_map two_of (or_else a b) ≡ or_two (option_map two_of a) (option_map two_of b)
or-two None b = refl
or-two (Some d) b = refl

pub unlike-append : {P : Type 0} (second : P → Option (List ℕ)) (a b : List (Hashed P))
    → first_unlike second (a ++ b) ≡ or_two (first_unlike second a) (first_unlike second b)
unlike-append second a b = ap (option_map two_of) (difference-append second a b) ∙ or-two (first_difference second a) (first_difference second b)

-- ---- a node

module _ (H : List ℕ → List ℕ) (l r : Tree (List ℕ)) (text : List ℕ) where
  abbrev top : Hashed Path
  top = record { place = []; text = text }

  abbrev own : List ℕ
  own = 1 ∷ digest_of H l ++ digest_of H r

  pub unlike-left : (ss : List (Hashed Path)) → first_unlike (string_at H (node l r)) (top ∷ map (below false) ss) ≡ unlike_or text own (first_unlike (string_at H l) ss)
  unlike-left ss =
      unlike-first (string_at H (node l r)) top (map (below false) ss) own refl
      ∙ ap (unlike_or text own) (unlike-moved (λ (path : Path). false ∷ path) (string_at H (node l r)) ss)

  pub unlike-right : (ss : List (Hashed Path)) → first_unlike (string_at H (node l r)) (top ∷ map (below true) ss) ≡ unlike_or text own (first_unlike (string_at H r) ss)
  unlike-right ss =
      unlike-first (string_at H (node l r)) top (map (below true) ss) own refl
      ∙ ap (unlike_or text own) (unlike-moved (λ (path : Path). true ∷ path) (string_at H (node l r)) ss)

  pub unlike-both : (ss rs : List (Hashed Path)) → first_unlike (string_at H (node l r)) (top ∷ map (below false) ss ++ map (below true) rs)
      ≡ unlike_or text own (or_two (first_unlike (string_at H l) ss) (first_unlike (string_at H r) rs))
  unlike-both ss rs =
      unlike-first (string_at H (node l r)) top (map (below false) ss ++ map (below true) rs) own refl
      ∙ ap (unlike_or text own) (
      unlike-append (string_at H (node l r)) (map (below false) ss) (map (below true) rs)
      ∙ ap (λ (first : Option Two). or_two first (first_unlike (string_at H (node l r)) (map (below true) rs))) (unlike-moved (λ (path : Path). false ∷ path) (string_at H (node l r)) ss)
      ∙ ap (or_two (first_unlike (string_at H l) ss)) (unlike-moved (λ (path : Path). true ∷ path) (string_at H (node l r)) rs)
      )

-- ---- a tree beside itself

pub unlike-none : (H : List ℕ → List ℕ) (t : Tree (List ℕ)) → first_unlike (string_at H t) (all_strings H t) ≡ None
unlike-none H empty = refl
unlike-none H (leaf text) =
    unlike-first (string_at H (leaf text)) (record { place = []; text = 0 ∷ text }) [] (0 ∷ text) refl ∙ unlike-same (0 ∷ text) (0 ∷ text) None refl
unlike-none H (node l r) =
    unlike-both H l r (1 ∷ digest_of H l ++ digest_of H r) (all_strings H l) (all_strings H r)
    ∙ unlike-same (1 ∷ digest_of H l ++ digest_of H r) (1 ∷ digest_of H l ++ digest_of H r) (or_two (first_unlike (string_at H l) (all_strings H l)) (first_unlike (string_at H r) (all_strings H r))) refl
    ∙ ap (λ (first : Option Two). or_two first (first_unlike (string_at H r) (all_strings H r))) (unlike-none H l)
    ∙ unlike-none H r
