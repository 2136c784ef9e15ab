-- The strings of an honest growth are those of the two archives, so it has no collision with them.
use Rattle.std.proofs.Common.{◌≡◌, ◌∙◌, ℕ, ◌≤◌, List, [], ◌∷◌, ◌++◌, length, map, reverse, Bool, true, false, Option, Some, None, MatchOption, refl, sym, ap, subst}
use Rattle.std.specs.List.{flat_map}
use Rattle.std.proofs.lemmas.Bool.{cond-true}
use Rattle.std.proofs.lemmas.Slice.Eq.{bytes_eq-Decides}
use Rattle.ats_commit.specs.Archive.{Archive}
use Rattle.ats_commit.specs.Root.{header_parts, header_string}
use Rattle.ats_tree.specs.Differences.{Hashed, moved, Difference, difference_or, first_difference}
use Rattle.ats_tree.specs.Paths.{Path}
use Rattle.ats_tree.specs.Strings.{string_at}
use Rattle.ats_tree.specs.Tree.{Tree, node, tree_of, digest_of, mth}
use Rattle.ats_tree.proofs.Public.{Collides, difference-collides}
use Rattle.ats_growth_check.specs.Headline.{IsPrefix}
use Rattle.ats_growth_check.specs.Pair.{Roots, roots}
use Rattle.ats_growth_check.specs.Shape.{turns}
use Rattle.ats_growth_check.specs.Strings.{Beside, beside, header_pair, new_strings, old_strings, ranges, range_pairs, second_of, pairs, growth_collision}
use Rattle.ats_growth_check.specs.Value.{Growth}
use Rattle.ats_growth_check.proofs.Public.{Shares, IsKnown}
use Rattle.ats_growth_proof.specs.Inner.Found.{texts_pairs}
use Rattle.ats_growth_proof.specs.Honest.{shown, digests_of, honest}
use Rattle.ats_growth_proof.specs.Inner.FirstDifference.{first_unlike}
use Rattle.ats_growth_proof.proofs.Completeness.{shown-roots, prefix-shares, back}
use Rattle.ats_growth_proof.proofs.Ranging.{none-shared}
use Rattle.ats_growth_proof.proofs.Told.{in-moved, in-ranges, in-third}
use Rattle.ats_growth_proof.proofs.FirstDifferences.{unlike-left, unlike-right, unlike-same, unlike-moved}

module _ (H : List ℕ → List ℕ) (root : List ℕ) where
  pub new-same : (path : Path) (known : Bool) (t u : Tree (List ℕ)) → Shares path t u → IsKnown H root known t
      → first_unlike (string_at H u) (new_strings H root path known (shown H path known u)) ≡ None
  new-same [] known t u same is = refl
  new-same (false ∷ path) known t (node l r) same is =
      let digests : List (List ℕ) = shown H path known l
      in let own : List ℕ = 1 ∷ digest_of H l ++ digest_of H r
      in let text : 1 ∷ (roots H root path known digests).new ++ digest_of H r ≡ own = ap (λ (both : Roots). 1 ∷ both.new ++ digest_of H r) (shown-roots H root path known t l same is)
      in unlike-left H l r (1 ∷ (roots H root path known digests).new ++ digest_of H r) (new_strings H root path known digests)
      ∙ unlike-same (1 ∷ (roots H root path known digests).new ++ digest_of H r) own _ (sym text)
      ∙ new-same path known t l same is
  new-same (true ∷ path) known (node a b) (node l r) same is =
      let digests : List (List ℕ) = shown H path false r
      in let own : List ℕ = 1 ∷ digest_of H l ++ digest_of H r
      in let text : 1 ∷ digest_of H l ++ (roots H root path false digests).new ≡ own = ap (λ (both : Roots). 1 ∷ digest_of H l ++ both.new) (shown-roots H root path false b r same.1 tt)
      in unlike-right H l r (1 ∷ digest_of H l ++ (roots H root path false digests).new) (new_strings H root path false digests)
      ∙ unlike-same (1 ∷ digest_of H l ++ (roots H root path false digests).new) own _ (sym text)
      ∙ new-same path false b r same.1 tt
  new-same (turn ∷ path) known t u same is = absurd same

  pub old-same : (path : Path) (known : Bool) (t u : Tree (List ℕ)) → Shares path t u → IsKnown H root known t
      → first_unlike (string_at H t) (old_strings H root path known (shown H path known u)) ≡ None
  old-same [] known t u same is = refl
  old-same (false ∷ path) known t (node l r) same is = old-same path known t l same is
  old-same (true ∷ path) known (node a b) (node l r) same is =
      let digests : List (List ℕ) = shown H path false r
      in let own : List ℕ = 1 ∷ digest_of H a ++ digest_of H b
      in let text : 1 ∷ digest_of H l ++ (roots H root path false digests).old ≡ own =
      ap (λ (both : Roots). 1 ∷ digest_of H l ++ both.old) (shown-roots H root path false b r same.1 tt) ∙ ap (λ (v : Tree (List ℕ)). 1 ∷ digest_of H v ++ digest_of H b) (sym same.0)
      in unlike-right H a b (1 ∷ digest_of H l ++ (roots H root path false digests).old) (old_strings H root path false digests)
      ∙ unlike-same (1 ∷ digest_of H l ++ (roots H root path false digests).old) own _ (sym text)
      ∙ old-same path false b r same.1 tt
  old-same (turn ∷ path) known t u same is = absurd same

-- a header beside itself
pub past-header : (own : List ℕ) (s : Hashed Beside) (later : Option (Difference Beside)) → s.place.second ≡ Some own → own ≡ s.text
    → difference_or (second_of s.place) s later ≡ later
past-header own s later is same =
    ap (λ (o : Option (List ℕ)). difference_or o s later) is ∙ cond-true _ _ _ ((bytes_eq-Decides own s.text).1 same)

module _ (H : List ℕ → List ℕ) (older newer : Archive) (is : IsPrefix older.texts newer.texts) (some : 1 ≤ length older.texts) where
  abbrev path : Path
  path = turns (length older.texts) (length newer.texts)

  abbrev digests : List (List ℕ)
  digests = reverse (digests_of H (length older.texts) newer.texts)

  abbrev t : Tree (List ℕ)
  t = tree_of older.texts

  abbrev u : Tree (List ℕ)
  u = tree_of newer.texts

  shares : Shares path t u
  shares = prefix-shares older.texts newer.texts is some

  new-none : first_unlike second_of (map (moved (beside H 3 u)) (new_strings H (mth H older.texts) path true digests)) ≡ None
  new-none =
      unlike-moved (beside H 3 u) second_of (new_strings H (mth H older.texts) path true digests)
      ∙ ap (λ (ds : List (List ℕ)). first_unlike (string_at H u) (new_strings H (mth H older.texts) path true ds)) (back H older newer is some)
      ∙ new-same H (mth H older.texts) path true t u shares refl

  old-none : first_unlike second_of (map (moved (beside H 4 t)) (old_strings H (mth H older.texts) path true digests)) ≡ None
  old-none =
      unlike-moved (beside H 4 t) second_of (old_strings H (mth H older.texts) path true digests)
      ∙ ap (λ (ds : List (List ℕ)). first_unlike (string_at H t) (old_strings H (mth H older.texts) path true ds)) (back H older newer is some)
      ∙ old-same H (mth H older.texts) path true t u shares refl

  texts-same : first_difference second_of (texts_pairs H older newer (honest H older newer)) ≡ None
  texts-same =
      in-third (map (moved (beside H 3 u)) (new_strings H (mth H older.texts) path true digests)) (map (moved (beside H 4 t)) (old_strings H (mth H older.texts) path true digests))
      (flat_map (range_pairs H) (ranges path t u)) 3 4 5 (in-moved H 3 u (new_strings H (mth H older.texts) path true digests))
      (in-moved H 4 t (old_strings H (mth H older.texts) path true digests)) (in-ranges H (ranges path t u)) None new-none old-none (none-shared H path t u shares)

  none-differs : first_difference second_of (pairs H older newer (honest H older newer)) ≡ None
  none-differs =
      let g : Growth = honest H older newer
      in let second : Hashed Beside = header_pair H 2 (header_string newer.format (header_parts H newer)) newer
      in past-header (header_string older.format (header_parts H older)) (header_pair H 1 (header_string older.format (header_parts H older)) older)
      (first_difference second_of (second ∷ texts_pairs H older newer g)) refl refl
      ∙ past-header (header_string newer.format (header_parts H newer)) second (first_difference second_of (texts_pairs H older newer g)) refl refl
      ∙ texts-same

  pub honest-none : growth_collision H older newer (honest H older newer) ≡ None
  honest-none =
      let known : MatchOption (first_difference second_of (pairs H older newer (honest H older newer))) (Unit {0}) (Collides H) =
      subst (λ (o : Option (Difference Beside)). MatchOption o (Unit {0}) (Collides H)) (sym none-differs) tt
      in difference-collides H (Unit {0}) second_of (pairs H older newer (honest H older newer)) known ∙ none-differs
