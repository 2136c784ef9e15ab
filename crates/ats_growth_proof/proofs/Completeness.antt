-- The growth of an archive whose texts are the first of another one's is accepted.
use Rattle.std.proofs.Common.{◌≡◌, ℕ, ◌≤◌, List, [], ◌∷◌, ◌++◌, length, reverse, Bool, true, false, refl, sym, ◌∙◌, ap, ap₂, subst, arith}
use Rattle.std.proofs.lemmas.List.{length-reverse, length-take, reverse-reverse}
use Rattle.std.proofs.lemmas.List.Elements.{All-nil, All-cons}
use Rattle.ats_tree.specs.Paths.{Path}
use Rattle.ats_tree.specs.Tree.{Tree, node, tree_of, digest_of, mth}
use Rattle.ats_commit.specs.Archive.{Archive}
use Rattle.ats_commit.specs.Root.{root_of}
use Rattle.ats_growth_check.specs.Headline.{IsPrefix}
use Rattle.ats_growth_check.specs.Pair.{Roots, roots, grown_by, joined_to}
use Rattle.ats_growth_check.specs.Rules.{AcceptsGrowth}
use Rattle.ats_growth_check.specs.Shape.{turns, need}
use Rattle.ats_growth_check.proofs.Public.{Shares, shares, leads, IsKnown, AreSized, length-digest}
use Rattle.ats_growth_proof.specs.Honest.{shown, digests_of, honest}

abbrev both_of : (List ℕ → List ℕ) → Tree (List ℕ) → Tree (List ℕ) → Roots
both_of H t u = record { old = digest_of H t; new = digest_of H u }

pub shown-roots : (H : List ℕ → List ℕ) (root : List ℕ) (path : Path) (known : Bool) (t u : Tree (List ℕ)) → Shares path t u → IsKnown H root known t
    → roots H root path known (shown H path known u) ≡ both_of H t u
shown-roots H root [] true t u same is = ap₂ (λ (a b : List ℕ). let both : Roots = record { old = a; new = b } in both) is (is ∙ ap (digest_of H) same)
shown-roots H root [] false t u same is = ap (λ (a : List ℕ). let both : Roots = record { old = a; new = digest_of H u } in both) (ap (digest_of H) (sym same))
shown-roots H root (false ∷ path) known t (node l r) same is = ap (grown_by H (digest_of H r)) (shown-roots H root path known t l same is)
shown-roots H root (true ∷ path) known (node a b) (node l r) same is =
    ap (joined_to H (digest_of H l)) (shown-roots H root path false b r same.1 tt)
    ∙ ap (λ (d : List ℕ). let both : Roots = record { old = H (1 ∷ d ++ digest_of H b); new = H (1 ∷ digest_of H l ++ digest_of H r) } in both) (ap (digest_of H) (sym same.0))
shown-roots H root (turn ∷ path) known t u same is = absurd same

pub length-shown : (H : List ℕ → List ℕ) (path : Path) (known : Bool) (t u : Tree (List ℕ)) → Shares path t u → length (shown H path known u) ≡ need path known
length-shown H [] true t u same = refl
length-shown H [] false t u same = refl
length-shown H (false ∷ path) known t (node l r) same = omega (arith, length-shown H path known t l same)
length-shown H (true ∷ path) known (node a b) (node l r) same = omega (arith, length-shown H path false b r same.1)
length-shown H (turn ∷ path) known t u same = absurd same

pub sized-shown : (H : List ℕ → List ℕ) → ((m : List ℕ) → length (H m) ≡ 32) → (path : Path) (known : Bool) (u : Tree (List ℕ)) → AreSized (shown H path known u)
sized-shown H sized [] true u = All-nil (λ (d : List ℕ). length d ≡ 32)
sized-shown H sized [] false u = All-cons (λ (d : List ℕ). length d ≡ 32) (digest_of H u) [] (length-digest H sized u) (All-nil (λ (d : List ℕ). length d ≡ 32))
sized-shown H sized (false ∷ path) known (node l r) =
    All-cons (λ (d : List ℕ). length d ≡ 32) (digest_of H r) (shown H path known l) (length-digest H sized r) (sized-shown H sized path known l)
sized-shown H sized (true ∷ path) known (node l r) =
    All-cons (λ (d : List ℕ). length d ≡ 32) (digest_of H l) (shown H path false r) (length-digest H sized l) (sized-shown H sized path false r)
sized-shown H sized (turn ∷ path) known u = All-nil (λ (d : List ℕ). length d ≡ 32)

-- a prefix is no longer
pub prefix-shorter : (xs ys : List (List ℕ)) → IsPrefix xs ys → length xs ≤ length ys
prefix-shorter xs ys is = omega (arith, ap length is, length-take (length xs) ys)

-- the old tree is the old one in the new tree
pub prefix-shares : (xs ys : List (List ℕ)) → IsPrefix xs ys → 1 ≤ length xs → Shares (turns (length xs) (length ys)) (tree_of xs) (tree_of ys)
prefix-shares xs ys is some =
    subst (λ (front : List (List ℕ)). Shares (turns (length xs) (length ys)) (tree_of front) (tree_of ys)) is
    (shares (leads (length xs) (length ys) some (prefix-shorter xs ys is)) ys refl)

module _ (H : List ℕ → List ℕ) (older newer : Archive) (is : IsPrefix older.texts newer.texts) (some : 1 ≤ length older.texts) where
  abbrev path : Path
  path = turns (length older.texts) (length newer.texts)

  -- the digests of the honest growth, from the last to the first
  pub back : reverse (digests_of H (length older.texts) newer.texts) ≡ shown H path true (tree_of newer.texts)
  back = reverse-reverse (shown H path true (tree_of newer.texts))

  both-roots : roots H (mth H older.texts) path true (reverse (digests_of H (length older.texts) newer.texts)) ≡ both_of H (tree_of older.texts) (tree_of newer.texts)
  both-roots =
      ap (roots H (mth H older.texts) path true) back
      ∙ shown-roots H (mth H older.texts) path true (tree_of older.texts) (tree_of newer.texts) (prefix-shares older.texts newer.texts is some) refl

  pub honest_accepted : AcceptsGrowth H (root_of H older) (root_of H newer) (honest H older newer)
  honest_accepted = record {
    holds = (
      refl,
      (
        refl,
        (
          prefix-shorter older.texts newer.texts is,
          (
            length-reverse (shown H path true (tree_of newer.texts)) ∙ length-shown H path true (tree_of older.texts) (tree_of newer.texts) (prefix-shares older.texts newer.texts is some),
            (ap (λ (both : Roots). both.old) both-roots, (ap (λ (both : Roots). both.new) both-roots, tt)),
          ),
        ),
      ),
    );
  }
