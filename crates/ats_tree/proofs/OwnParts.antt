-- What is shown of a part of a tree, compared with the part's own leaves and digests: with no shown leaf, one leaf, two parts.
use Rattle.std.proofs.Common.{◌≡◌, ℕ, ◌+◌, ◌-◌, ◌*◌, ◌/◌, ◌<◌, ◌≤◌, List, [], ◌∷◌, ◌++◌, length, take, drop, get_or, refl, sym, ◌∙◌, ap, ap₂, arith, inl, inr, Some, subst, false, IsTrue}
use Rattle.std.specs.List.{All, slice_get}
use Rattle.std.proofs.Math.Seq.{take-add, take-length, take-append_seam, drop-append_seam}
use Rattle.std.proofs.lemmas.Bool.{cond-false, cases_lt, le-ltb}
use Rattle.std.proofs.lemmas.List.{append-nil, length-append, take-take, drop-take, drop-drop, take-append-drop}
use Rattle.std.proofs.lemmas.List.Elements.{All-nil, All-cons, All-head, All-tail}
use Rattle.std.proofs.lemmas.Option.{get_or_from_slice_get, slice_get-get_or, slice_get_within}
use Rattle.ats_tree.specs.Shown.{Shown, positions_of, first_position, first_leaf}
use Rattle.ats_tree.specs.Part.{RisesFrom, shown_from}
use Rattle.ats_tree.specs.Elided.{shown_with, elided_digests}
use Rattle.ats_tree.specs.Kept.{kept_digests, elided_part}
use Rattle.ats_tree.specs.OwnShown.{IsOwnShown}
use Rattle.ats_tree.specs.Inner.OwnShown.{IsOwnPart}
use Rattle.ats_tree.proofs.ShownPlaces.{All-from, from-from, from-all, from-skip, rises-less}
use Rattle.ats_tree.proofs.Parts.{IsCut}
use Rattle.ats_tree.proofs.KeptElided.{slice_from, part-none, part-one, part-cut, part-blank, kept-elided}
use Rattle.ats_tree.proofs.KeptLemmas.{length-kept}

-- an answer that is no is not yes
pub no : {X : Type 0} → IsTrue false → X
no holds = absurd (cc)

-- ---- leaves before an end

-- it is asked of leaves before b alone
abbrev Before : (Shown → Type 0) → ℕ → Shown → Type 0
Before P b s = s.0 < b → P s

-- nothing is asked where all are from b on
past : (P : Shown → Type 0) (b : ℕ) (shown : List Shown) → RisesFrom b shown → All (Before P b) shown
past P b [] rises = All-nil (Before P b)
past P b (s ∷ rest) rises =
    let later : b ≤ s.0 + 1 = omega (arith, rises.0)
    in All-cons (Before P b) s rest (λ less. absurd (omega (arith, rises.0, less))) (past P b rest (rises-less (s.0 + 1) b rest later rises.1))

-- leaves before b, and those from b on
joined : (P : Shown → Type 0) (b e : ℕ) (shown : List Shown) → All (Before P b) shown → All (Before P e) (shown_from b shown)
    → All (Before P e) shown
joined P b e [] first later = All-nil (Before P e)
joined P b e (s ∷ rest) first later =
    elim (cases_lt s.0 b) [
      | inl low ↦
          All-cons (Before P e) s rest (λ less. All-head (Before P b) s rest first low)
          (joined P b e rest (All-tail (Before P b) s rest first) (subst (All (Before P e)) (from-skip b s rest low) later))
      | inr high ↦ subst (All (Before P e)) (cond-false _ _ _ (le-ltb s.0 b high)) later
    ]

abbrev IsBefore : ℕ → Shown → Type 0
IsBefore b s = s.0 < b

-- none is left from b on exactly where all are before b
all-before : (b : ℕ) (shown : List Shown) → shown_from b shown ≡ [] → All (IsBefore b) shown
all-before b [] none = All-nil (IsBefore b)
all-before b (s ∷ rest) none =
    elim (cases_lt s.0 b) [
      | inl low ↦ All-cons (IsBefore b) s rest low (all-before b rest (sym (from-skip b s rest low) ∙ none))
      | inr high ↦
          let same : s ∷ rest ≡ [] = sym (cond-false _ _ _ (le-ltb s.0 b high)) ∙ none in absurd (cc)
    ]

none-left : (b : ℕ) (shown : List Shown) → All (IsBefore b) shown → shown_from b shown ≡ []
none-left b [] all = refl
none-left b (s ∷ rest) all =
    from-skip b s rest (All-head (IsBefore b) s rest all) ∙ none-left b rest (All-tail (IsBefore b) s rest all)

-- it is the leaf of these at its position
abbrev IsOf : List (List ℕ) → Shown → Type 0
IsOf leaves s = slice_get leaves s.0 ≡ Some s.1

-- ---- digests that begin with others

-- these digests begin with those
abbrev pub Begin : List (List ℕ) → List (List ℕ) → Type 0
Begin ds e = take (length e) ds ≡ e

-- those of two parts
module _ (whole left right ds : List (List ℕ)) (both : whole ≡ left ++ right) where
  pub begins-parts : Begin ds whole → Begin ds left × Begin (drop (length left) ds) right
  begins-parts is =
      let all : take (length left + length right) ds ≡ left ++ right =
      ap (λ (n : ℕ). take n ds) (sym (length-append left right)) ∙ subst (Begin ds) both is
      in let less : length left ≤ length left + length right = omega arith
      in (
        sym (take-take (length left) (length left + length right) ds less) ∙ ap (take (length left)) all ∙ take-append_seam left right,
        sym (drop-take (length left) (length right) ds) ∙ ap (drop (length left)) all ∙ drop-append_seam left right,
      )

  -- after the left part, they go on with the right part exactly where they begin with both
  pub parts-begin : (after : List (List ℕ)) → after ≡ drop (length left) ds → Begin ds left
      → (Begin after right → Begin ds whole) × (Begin ds whole → Begin after right)
  parts-begin after is first =
      rw is (
        λ second. subst (Begin ds) (sym both)
            (ap (λ (n : ℕ). take n ds) (length-append left right) ∙ take-add (length left) (length right) ds ∙ ap₂ ◌++◌ first second),
        λ all. (begins-parts all).1,
      )

  pub drop-parts : (after later : List (List ℕ)) → after ≡ drop (length left) ds → later ≡ drop (length right) after → later ≡ drop (length whole) ds
  drop-parts after later first second =
      second ∙ ap (drop (length right)) first ∙ drop-drop (length right) (length left) ds
      ∙ ap (λ (n : ℕ). drop n ds) (sym (length-append left right) ∙ ap length (sym both))

-- digests that begin with one
pub begins-one : (d : List ℕ) (ds : List (List ℕ)) → slice_get ds 0 ≡ Some d → take 1 ds ≡ d ∷ []
begins-one d [] got = absurd (cc)
begins-one d (x ∷ xs) got = let same : x ≡ d = cc in ap (λ (y : List ℕ). y ∷ []) same

pub one-begins : (d : List ℕ) (ds : List (List ℕ)) → take 1 ds ≡ d ∷ [] → slice_get ds 0 ≡ Some d
one-begins d [] got = absurd (cc)
one-begins d (x ∷ xs) got = let same : x ≡ d = cc in ap Some same

-- ---- the returns

module _ (leaves nodes : List (List ℕ)) (from n : ℕ) (shown : List Shown) (ds : List (List ℕ)) where
  abbrev Own : Type 0
  Own = IsOwnPart leaves nodes from n shown ds

  -- no shown leaf
  pub none-own : 1 ≤ n → RisesFrom (from + n) shown → slice_get ds 0 ≡ Some (get_or nodes 0 []) → Own
  none-own some rises first = record {
    own = past (IsOf leaves) (from + n) shown rises;
    needed = subst (λ (e : List (List ℕ)). take (length e) ds ≡ e) (sym (part-none nodes from n shown some rises)) (begins-one (get_or nodes 0 []) ds first);
  }

  pub own-none : 1 ≤ n → RisesFrom (from + n) shown → Own → slice_get ds 0 ≡ Some (get_or nodes 0 [])
  own-none some rises is = one-begins (get_or nodes 0 []) ds (subst (λ (e : List (List ℕ)). take (length e) ds ≡ e) (part-none nodes from n shown some rises) is.needed)

  pub none-digests : 1 ≤ n → RisesFrom (from + n) shown → drop 1 ds ≡ drop (length (elided_part nodes from n shown)) ds
  none-digests some rises = ap (λ (e : List (List ℕ)). drop (length e) ds) (sym (part-none nodes from n shown some rises))

  -- two parts
  module _ (k : ℕ) (c : IsCut from k n shown) (below : k < n) (largest : n ≤ 2 * k) where
    abbrev left : List (List ℕ)
    left = elided_part (slice_from 1 nodes) from k shown

    abbrev right : List (List ℕ)
    right = elided_part (slice_from (2 * k) nodes) (from + k) (n - k) (shown_from (from + k) shown)

    cut : elided_part nodes from n shown ≡ left ++ right
    cut = part-cut nodes from k n shown c below largest

    abbrev Left : Type 0
    Left = IsOwnPart leaves (slice_from 1 nodes) from k shown ds

    pub own-left : Own → Left
    own-left is = record { own = λ i d inside low. is.own i d inside (omega (arith, low, below)); needed = (begins-parts _ left right ds cut is.needed).0 }

    -- what is left after the left part is the right part's exactly where all is the whole's
    pub own-parts : (after : List Shown) (over : List (List ℕ)) → after ≡ shown_from (from + k) shown → over ≡ drop (length left) ds → Left
        → (IsOwnPart leaves (slice_from (2 * k) nodes) (from + k) (n - k) after over → Own)
        × (Own → IsOwnPart leaves (slice_from (2 * k) nodes) (from + k) (n - k) after over)
    own-parts after over later further l =
        let needs = parts-begin _ left right ds cut (drop (length left) ds) refl l.needed
        in let ends : from + k + (n - k) ≡ from + n = omega (arith, below)
        in let Rest : ℕ → Type 0 = λ e. All (Before (IsOf leaves) e) (shown_from (from + k) shown)
        in rw (later, further) (
          λ r. record { own = joined (IsOf leaves) (from + k) (from + n) shown l.own (subst Rest ends r.own); needed = needs.0 r.needed },
          λ is. record {
            own = subst Rest (sym ends) (All-from (Before (IsOf leaves) (from + n)) (from + k) shown is.own);
            needed = needs.1 is.needed;
          },
        )

    -- what both leave
    pub digests-after : (after : List Shown) (over rest : List (List ℕ)) → after ≡ shown_from (from + k) shown → over ≡ drop (length left) ds
        → rest ≡ drop (length (elided_part (slice_from (2 * k) nodes) (from + k) (n - k) after)) over → rest ≡ drop (length (elided_part nodes from n shown)) ds
    digests-after after over rest later further is = drop-parts _ left right ds cut over rest further (rw later at is)

pub left-after : (from k n : ℕ) (shown after later : List Shown) → k < n → after ≡ shown_from (from + k) shown
    → later ≡ shown_from (from + k + (n - k)) after → later ≡ shown_from (from + n) shown
left-after from k n shown after later below first second =
    let ends : from + k + (n - k) ≡ from + n = omega (arith, below)
    in second ∙ ap₂ shown_from ends first ∙ from-from (from + k) (from + n) shown (omega (arith, below))

-- one leaf, which is shown
module _ (leaves nodes : List (List ℕ)) (from n : ℕ) (s : Shown) (rest : List Shown) (ds : List (List ℕ)) (one : n ≡ 1)
    (rises : RisesFrom from (s ∷ rest)) (low : s.0 < from + n) (within : from + n ≤ length leaves) where
  here : s.0 ≡ from
  here = omega (arith, rises.0)

  later : from + n ≤ s.0 + 1
  later = omega (arith, rises.0)

  leaf-own : s.1 ≡ get_or leaves from [] → IsOwnPart leaves nodes from n (s ∷ rest) ds
  leaf-own same = record {
    own = All-cons (Before (IsOf leaves) (from + n)) s rest
        (λ less. ap (slice_get leaves) here ∙ slice_get-get_or leaves from [] (omega (arith, within, one)) ∙ ap Some (sym same))
        (past (IsOf leaves) (from + n) rest (rises-less (s.0 + 1) (from + n) rest later rises.1));
    needed = subst (λ (e : List (List ℕ)). take (length e) ds ≡ e) (sym (part-one nodes from n s rest one rises.0 low)) refl;
  }

  own-leaf : IsOwnPart leaves nodes from n (s ∷ rest) ds → s.1 ≡ get_or leaves from []
  own-leaf is =
      sym (get_or_from_slice_get leaves s.0 s.1 [] (All-head (Before (IsOf leaves) (from + n)) s rest is.own low))
      ∙ ap (λ (i : ℕ). get_or leaves i []) here

  leaf-left : rest ≡ shown_from (from + n) (s ∷ rest)
  leaf-left =
      sym (from-skip (from + n) s rest low ∙ from-all (from + n) rest (rises-less (s.0 + 1) (from + n) rest later rises.1))

-- that, where the first leaf that is left is the one
pub one-own : (leaves nodes : List (List ℕ)) (from n at : ℕ) (shown : List Shown) (ds : List (List ℕ)) → n ≡ 1 → RisesFrom from shown → first_position shown ≡ Some at
    → at < from + n → from + n ≤ length leaves
    → (0 ∷ first_leaf shown ≡ 0 ∷ get_or leaves from [] → IsOwnPart leaves nodes from n shown ds)
    × (IsOwnPart leaves nodes from n shown ds → 0 ∷ first_leaf shown ≡ 0 ∷ get_or leaves from [])
one-own leaves nodes from n at [] ds one rises first low within = absurd (cc)
one-own leaves nodes from n at (s ∷ rest) ds one rises first low within =
    let place : s.0 ≡ at = cc
    in let less : s.0 < from + n = omega arith
    in (
      λ same. let text : s.1 ≡ get_or leaves from [] = cc in leaf-own leaves nodes from n s rest ds one rises less within text,
      λ is. ap (λ (x : List ℕ). 0 ∷ x) (own-leaf leaves nodes from n s rest ds one rises less within is),
    )

pub one-left : (leaves nodes : List (List ℕ)) (from n at : ℕ) (shown : List Shown) (ds : List (List ℕ)) → n ≡ 1 → RisesFrom from shown → first_position shown ≡ Some at
    → at < from + n → from + n ≤ length leaves
    → drop 1 shown ≡ shown_from (from + n) shown
one-left leaves nodes from n at [] ds one rises first low within = absurd (cc)
one-left leaves nodes from n at (s ∷ rest) ds one rises first low within =
    let place : s.0 ≡ at = cc
    in leaf-left leaves nodes from n s rest ds one rises (omega arith) within

pub one-digests : (leaves nodes : List (List ℕ)) (from n at : ℕ) (shown : List Shown) (ds : List (List ℕ)) → n ≡ 1 → RisesFrom from shown → first_position shown ≡ Some at
    → at < from + n → from + n ≤ length leaves
    → ds ≡ drop (length (elided_part nodes from n shown)) ds
one-digests leaves nodes from n at [] ds one rises first low within = absurd (cc)
one-digests leaves nodes from n at (s ∷ rest) ds one rises first low within =
    let place : s.0 ≡ at = cc
    in ap (λ (e : List (List ℕ)). drop (length e) ds) (sym (part-one nodes from n s rest one rises.0 (omega arith)))

-- ---- the whole

module _ (H : List ℕ → List ℕ) (leaves nodes : List (List ℕ)) (n : ℕ) (shown : List Shown) (ds : List (List ℕ))
    (kept : nodes ≡ kept_digests H leaves) (m : ℕ) (counted : m / 2 + 1 ≡ length leaves) (same : m / 2 + 1 ≡ n) where
  some : 1 ≤ length leaves
  some = omega (arith, counted)

  number : length leaves ≡ n
  number = sym counted ∙ same

  abbrev needs : List (List ℕ)
  needs = elided_part nodes 0 n shown

  needs-is : needs ≡ elided_digests H leaves (positions_of shown)
  needs-is =
      let blanks : List Shown = shown_with [] (positions_of shown)
      in let count : n ≡ length (kept_digests H leaves) / 2 + 1 = omega (arith, length-kept H leaves some)
      in sym (part-blank nodes 0 n shown)
      ∙ ap₂ (λ (ds : List (List ℕ)) (m : ℕ). elided_part ds 0 m blanks) kept count
      ∙ kept-elided H leaves (positions_of shown) some

  pub own-whole : IsOwnPart leaves nodes 0 n shown ds → shown_from (0 + n) shown ≡ [] → drop (length needs) ds ≡ []
      → IsOwnShown H leaves n shown ds
  own-whole is none over =
      let before : All (IsBefore (0 + n)) shown = all-before (0 + n) shown none
      in record {
        some = omega (arith, counted, same);
        number = number;
        own = λ i d inside. is.own i d inside (before i d inside);
        needed = sym (take-append-drop (length needs) ds) ∙ ap₂ ◌++◌ is.needed over ∙ append-nil needs ∙ needs-is;
      }

  pub whole-own : IsOwnShown H leaves n shown ds → IsOwnPart leaves nodes 0 n shown ds
  whole-own is =
      let equal : ds ≡ needs = is.needed ∙ sym needs-is
      in record {
        own = λ i d inside low. is.own i d inside;
        needed = ap (take (length needs)) equal ∙ take-length needs;
      }

  pub whole-leaves : IsOwnShown H leaves n shown ds → shown_from (0 + n) shown ≡ []
  whole-leaves is = none-left (0 + n) shown (λ i d inside. omega (arith, slice_get_within leaves _ _ (is.own i d inside), number))

  pub whole-digests : IsOwnShown H leaves n shown ds → drop (length needs) ds ≡ []
  whole-digests is =
      let equal : ds ≡ needs = is.needed ∙ sym needs-is
      in ap (drop (length needs)) equal ∙ drop-length needs
    where
      drop-length : (xs : List (List ℕ)) → drop (length xs) xs ≡ []
      drop-length [] = refl
      drop-length (x ∷ xs) = drop-length xs
