-- What an accepted growth says of two archives with the roots: the headers first, then the new side, the old side, and
-- the ranges that both have.
use Rattle.std.proofs.Common.{◌≡◌, ◌⊎◌, ℕ, ◌≤◌, List, [], ◌∷◌, ◌++◌, length, take, reverse, map, true, Option, Some, None, IsSome, refl, sym, ◌∙◌, ap, subst, arith, inl, inr, MatchOption}
use Rattle.std.specs.List.{flat_map}
use Rattle.std.proofs.Math.Seq.{take-append_seam}
use Rattle.std.proofs.lemmas.List.{length-reverse}
use Rattle.ats_tree.specs.Differences.{Hashed, moved, Difference, first_difference}
use Rattle.ats_tree.specs.Paths.{Path}
use Rattle.ats_tree.specs.Tree.{Tree, tree_of}
use Rattle.ats_tree.proofs.Public.{difference-collides, Binds, binds-both, binds-moved, binds-weaker, binds-one}
use Rattle.ats_dict.specs.Header.{header_bytes}
use Rattle.ats_dict.specs.declared.header.Header.{Header}
use Rattle.ats_lists.specs.declared.format.Format.{Format}
use Rattle.ats_commit.specs.Archive.{Archive, header_tag}
use Rattle.ats_commit.specs.Own.{AreTexts, IsHeaderOf}
use Rattle.ats_commit.specs.Root.{header_of, header_root, header_string, root_of}
use Rattle.ats_commit.proofs.Public.{own_header, rest_same}
use Rattle.ats_growth_check.specs.Headline.{IsPrefix, HasGrown, IsGrownOrCollides}
use Rattle.ats_growth_check.specs.Rules.{AcceptsGrowth}
use Rattle.ats_growth_check.specs.Shape.{turns, need}
use Rattle.ats_growth_check.specs.Strings.{Beside, beside, header_pair, new_strings, old_strings, ranges, range_pairs, pairs, second_of, growth_collision}
use Rattle.ats_growth_check.specs.Value.{Growth, IsInRange, AreInRange}
use Rattle.ats_growth_check.proofs.Digests.{All-reverse}
use Rattle.ats_growth_check.proofs.Fits.{Fits, fits, Extends}
use Rattle.ats_growth_check.proofs.Leads.{leads}
use Rattle.ats_growth_check.proofs.SharedParts.{ranges-bind}
use Rattle.ats_growth_check.proofs.Sides.{AreSized, AreOwnNew, AreOwnOld, new-binds, old-binds}
use Rattle.ats_growth_check.proofs.Trees.{leaves-of}

-- ---- the headers

header-binds : (H : List ℕ → List ℕ) → ((m : List ℕ) → length (H m) ≡ 32) → (part : ℕ) (archive : Archive) (format : Format) (header : Header)
    → AreTexts archive.texts → IsInRange header → header_root H format header ≡ root_of H archive
    → Binds H second_of (header_pair H part (header_string format header) archive ∷ []) (IsHeaderOf H archive header)
header-binds H sized part archive format header are range root =
    let bytes : List ℕ = header_bytes header.documents header.dict_leaves header.dict_root header.docs_root header.texts_root
    in binds-one H second_of (header_pair H part (header_string format header) archive) (header_tag archive.format ∷ header_of H archive) (IsHeaderOf H archive header) refl root
    (λ same. own_header H sized archive header are range (rest_same (header_tag archive.format) (header_tag format) (header_of H archive) bytes same))

-- ---- the texts

-- the texts of a tree that extends another one's begin with the texts of that one
prefix-of : (xs ys : List (List ℕ)) → Extends (tree_of xs) (tree_of ys) → IsPrefix xs ys
prefix-of xs ys extends =
    let joined : ys ≡ xs ++ extends.rest =
    sym (leaves-of ys) ∙ extends.joined ∙ ap (λ (front : List (List ℕ)). front ++ extends.rest) (leaves-of xs)
    in ap (take (length xs)) joined ∙ take-append_seam xs extends.rest

module _ (H : List ℕ → List ℕ) (sized : (m : List ℕ) → length (H m) ≡ 32) (older newer : Archive) (g : Growth)
    (old_are : AreTexts older.texts) (new_are : AreTexts newer.texts) (range : AreInRange g) where
  abbrev path : Path
  path = turns g.old.documents g.new.documents

  abbrev digests : List (List ℕ)
  digests = reverse g.digests

  abbrev old_tree : Tree (List ℕ)
  old_tree = tree_of older.texts

  abbrev new_tree : Tree (List ℕ)
  new_tree = tree_of newer.texts

  abbrev third : List (Hashed Beside)
  third = map (moved (beside H 3 new_tree)) (new_strings H g.old.texts_root path true digests)

  abbrev fourth : List (Hashed Beside)
  fourth = map (moved (beside H 4 old_tree)) (old_strings H g.old.texts_root path true digests)

  abbrev fifth : List (Hashed Beside)
  fifth = flat_map (range_pairs H) (ranges path old_tree new_tree)

  abbrev OwnNew : Type 0
  OwnNew = AreOwnNew H g.old.texts_root path true digests new_tree

  abbrev OwnOld : Type 0
  OwnOld = AreOwnOld H path true digests old_tree

  -- the strings after those of the headers, if these are the archives' own
  texts-bind : AcceptsGrowth H (root_of H older) (root_of H newer) g → IsHeaderOf H older g.old → IsHeaderOf H newer g.new
      → Binds H second_of (third ++ (fourth ++ fifth)) (OwnNew × (OwnOld × Extends old_tree new_tree))
  texts-bind accepts old_own new_own =
      let rest = accepts.holds.1.1
      in let fit : Fits path old_tree new_tree =
      fits (leads g.old.documents g.new.documents range.old.numbers.some rest.0) older.texts newer.texts (sym old_own.number) (sym new_own.number)
      in let all : AreSized digests = All-reverse (λ (d : List ℕ). length d ≡ 32) g.digests range.sized
      in let enough : need path true ≤ length digests = omega (arith, rest.1.0, length-reverse g.digests)
      in binds-both H second_of third (fourth ++ fifth) OwnNew (OwnOld × Extends old_tree new_tree)
      (binds-moved H (beside H 3 new_tree) second_of (new_strings H g.old.texts_root path true digests) OwnNew
      (new-binds H sized g.old.texts_root range.old.texts path true digests old_tree new_tree fit all enough (rest.1.1.1.0 ∙ new_own.raw)))
      (λ own_new. binds-both H second_of fourth fifth OwnOld (Extends old_tree new_tree)
      (binds-moved H (beside H 4 old_tree) second_of (old_strings H g.old.texts_root path true digests) OwnOld
      (old-binds H sized g.old.texts_root range.old.texts path true digests old_tree new_tree fit all enough (rest.1.1.0 ∙ old_own.raw)))
      (λ own_old. ranges-bind H sized g.old.texts_root path true digests old_tree new_tree fit old_own.raw own_new own_old))

  pub growth-binds : AcceptsGrowth H (root_of H older) (root_of H newer) g
      → Binds H second_of (pairs H older newer g) (HasGrown older newer g.old.documents g.new.documents)
  growth-binds accepts =
      let first : Hashed Beside = header_pair H 1 (header_string g.old_format g.old) older
      in let second : Hashed Beside = header_pair H 2 (header_string g.new_format g.new) newer
      in let texts : List (Hashed Beside) = third ++ (fourth ++ fifth)
      in let Texts : Type 0 = OwnNew × (OwnOld × Extends old_tree new_tree)
      in let Old : Type 0 = IsHeaderOf H older g.old
      in let New : Type 0 = IsHeaderOf H newer g.new
      in binds-weaker H second_of (pairs H older newer g) (Old × (New × Texts)) (HasGrown older newer g.old.documents g.new.documents)
      (λ all. record { old = sym all.0.number; new = sym all.1.0.number; prefix = prefix-of older.texts newer.texts all.1.1.1.1 })
      (binds-both H second_of (first ∷ []) (second ∷ texts) Old (New × Texts)
      (header-binds H sized 1 older g.old_format g.old old_are range.old accepts.holds.0)
      (λ old_own. binds-both H second_of (second ∷ []) texts New Texts
      (header-binds H sized 2 newer g.new_format g.new new_are range.new accepts.holds.1.0)
      (λ new_own. texts-bind accepts old_own new_own)))

-- ---- the theorem

holds-or-some : {P : Type 0} (A : Type 0) (C : Difference P → Type 0) (o : Option (Difference P)) → MatchOption o A C → A ⊎ IsSome o
holds-or-some A C None known = inl known
holds-or-some A C (Some c) known = inr refl

pub grown_or_collides : (H : List ℕ → List ℕ) → ((m : List ℕ) → length (H m) ≡ 32) → (old new : List ℕ) (g : Growth)
    → AreInRange g → AcceptsGrowth H old new g → IsGrownOrCollides H old new g
grown_or_collides H sized old new g range accepts older newer old_are new_are is_old is_new =
    let under : AcceptsGrowth H (root_of H older) (root_of H newer) g =
    subst (λ (root : List ℕ). AcceptsGrowth H root (root_of H newer) g) (sym is_old) (subst (λ (root : List ℕ). AcceptsGrowth H old root g) (sym is_new) accepts)
    in let Grown : Type 0 = HasGrown older newer g.old.documents g.new.documents
    in let bound : Binds H second_of (pairs H older newer g) Grown = growth-binds H sized older newer g old_are new_are range under
    in let found : growth_collision H older newer g ≡ first_difference second_of (pairs H older newer g) = difference-collides H Grown second_of (pairs H older newer g) bound
    in elim (holds-or-some Grown (λ c. H c.theirs ≡ H c.ours) (first_difference second_of (pairs H older newer g)) bound) [
      | inl grown ↦ inl grown
      | inr some ↦ inr (subst (λ (difference : Option (Difference Beside)). IsSome difference) (sym found) some)
    ]
