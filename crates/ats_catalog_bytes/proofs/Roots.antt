-- Two lists of roots with one root of a catalog are equal, or two different strings have equal digests.
use Rattle.std.proofs.Common.{◌≡◌, ◌∙◌, ◌⊎◌, ◌<◌, ◌≤◌, ◌+◌, ℕ, zero, suc, List, [], ◌∷◌, ◌++◌, length, map, get_or, Option, Some, None, IsSome, MatchOption, slice_get, refl, sym, ap, subst, inl, inr, arith}
use Rattle.std.specs.Int.{to_be_bytes, w32}
use Rattle.std.specs.List.{All}
use Rattle.std.proofs.lemmas.List.{same_lists, get_or_default}
use Rattle.std.proofs.lemmas.List.Elements.{All-nil}
use Rattle.std.proofs.lemmas.Option.{get_or_from_slice_get}
use Rattle.ats_commit.proofs.Public.{known-by-numbers}
use Rattle.ats_tree.specs.Differences.{Hashed, moved, Difference, first_difference}
use Rattle.ats_tree.specs.Nodes.{Node, NodeNumbers, numbers_of}
use Rattle.ats_tree.specs.Rebuild.{rebuilt}
use Rattle.ats_tree.specs.Shown.{Shown, places}
use Rattle.ats_tree.specs.Strings.{node_string, node_strings, IsBoundTo}
use Rattle.ats_tree.specs.Tree.{mth}
use Rattle.ats_tree.proofs.Public.{bound_to, Binds, binds-one, binds-both, binds-moved, binds-weaker, Collides, difference-collides, numbered, numbers-lead, rises-increasing}
use Rattle.ats_catalog_bytes.specs.Catalog.{string_over, root_over}
use Rattle.ats_catalog_bytes.proofs.AllShown.{all_shown, positions_rise, leaf_is, shown_many, all_rebuild}
use Rattle.ats_catalog_bytes.specs.Strings.{RootsPlace, catalog_place, in_roots, tree_strings, roots_strings, roots_string, roots_collision}

-- ---- the tree

-- lists of one length, one of which is shown to have the other's strings at all places
same_strings : (ours theirs : List (List ℕ)) → length ours ≡ length theirs
    → All (λ (s : Shown). slice_get ours s.0 ≡ Some s.1) (all_shown theirs) → ours ≡ theirs
same_strings ours theirs same own =
    same_lists ours theirs same (λ k d low.
    let inside : k < length theirs = omega (arith, low, same) in
    let at = own k (0, []) (omega (arith, inside, shown_many theirs)) in
    let stands : slice_get ours k ≡ Some (get_or theirs k []) =
    subst (λ (s : Shown). slice_get ours s.0 ≡ Some s.1) (leaf_is theirs k inside) at in
    get_or_from_slice_get ours k (get_or theirs k []) d stands ∙ get_or_default theirs k [] d inside)

tree_binds : (H : List ℕ → List ℕ) → ((m : List ℕ) → length (H m) ≡ 32) → (ours theirs : List (List ℕ)) → 1 ≤ length theirs
    → length ours ≡ length theirs → mth H ours ≡ mth H theirs → Binds H (roots_string H ours) (tree_strings H theirs) (ours ≡ theirs)
tree_binds H sized ours theirs some same root =
    let n : ℕ = length theirs in
    let shown : List Shown = all_shown theirs in
    let strings : List (Hashed Node) = node_strings H n shown [] in
    let Own : Type 0 = All (λ (s : Shown). slice_get ours s.0 ≡ Some s.1) shown in
    let gives : rebuilt H n shown [] ≡ Some (mth H theirs) =
    all_rebuild H theirs some in
    let bound : IsBoundTo H n shown [] ours =
    bound_to H sized n shown [] (mth H theirs) (rises-increasing shown (positions_rise theirs)) (All-nil (λ (d : List ℕ). length d ≡ 32))
    gives ours same root in
    let own : Binds H (node_string H ours) strings (ours ≡ theirs) =
    binds-weaker H (node_string H ours) strings Own (ours ≡ theirs) (same_strings ours theirs same) bound in
    binds-moved H in_roots (roots_string H ours) (map (moved numbers_of) strings) (ours ≡ theirs)
    (known-by-numbers H (ours ≡ theirs) (λ (at : NodeNumbers). roots_string H ours (in_roots at)) (node_string H ours) strings
    (λ node. ap (node_string H ours) (numbers-lead node)) own)

-- ---- both

pub roots_bind : (H : List ℕ → List ℕ) → ((m : List ℕ) → length (H m) ≡ 32) → (ours theirs : List (List ℕ))
    → length ours ≤ 4096 → 1 ≤ length theirs → length theirs ≤ 4096 → root_over H ours ≡ root_over H theirs
    → Binds H (roots_string H ours) (roots_strings H theirs) (ours ≡ theirs)
roots_bind H sized ours theirs small some less root =
    let Same : Type 0 = string_over H ours ≡ string_over H theirs in
    let header : Hashed RootsPlace = record { place = catalog_place; text = string_over H theirs } in
    let tree : Same → Binds H (roots_string H ours) (tree_strings H theirs) (ours ≡ theirs) = λ same.
    let rests : to_be_bytes w32 (length ours) ++ mth H ours ≡ to_be_bytes w32 (length theirs) ++ mth H theirs = cc in
    let parts = numbered (length ours) (length theirs) (mth H ours) (mth H theirs) (omega (arith, small)) (omega (arith, less)) rests in
    tree_binds H sized ours theirs some parts.0 parts.1 in
    binds-weaker H (roots_string H ours) (roots_strings H theirs) (Same × (ours ≡ theirs)) (ours ≡ theirs) (λ both. both.1)
    (binds-both H (roots_string H ours) (header ∷ []) (tree_strings H theirs) Same (ours ≡ theirs)
    (binds-one H (roots_string H ours) header (string_over H ours) Same refl (sym root) (λ same. same)) tree)

-- the first difference is then the first collision
pub roots-collision-is-difference : (H : List ℕ → List ℕ) → ((m : List ℕ) → length (H m) ≡ 32) → (ours theirs : List (List ℕ))
    → length ours ≤ 4096 → 1 ≤ length theirs → length theirs ≤ 4096 → root_over H ours ≡ root_over H theirs
    → roots_collision H ours theirs ≡ first_difference (roots_string H ours) (roots_strings H theirs)
roots-collision-is-difference H sized ours theirs small some less root =
    difference-collides H (ours ≡ theirs) (roots_string H ours) (roots_strings H theirs) (roots_bind H sized ours theirs small some less root)

-- an option that is equal to one of which something is known
found_or : (H : List ℕ → List ℕ) (A : Type 0) (o found : Option (Difference RootsPlace)) → found ≡ o → MatchOption o A (Collides H) → A ⊎ IsSome found
found_or H A None found is known = inl known
found_or H A (Some c) found is known = inr (subst (λ (x : Option (Difference RootsPlace)). IsSome x) (sym is) refl)

pub roots_bound : (H : List ℕ → List ℕ) → ((m : List ℕ) → length (H m) ≡ 32) → (ours theirs : List (List ℕ))
    → length ours ≤ 4096 → 1 ≤ length theirs → length theirs ≤ 4096 → root_over H ours ≡ root_over H theirs
    → (ours ≡ theirs) ⊎ IsSome (roots_collision H ours theirs)
roots_bound H sized ours theirs small some less root =
    found_or H (ours ≡ theirs) (first_difference (roots_string H ours) (roots_strings H theirs)) (roots_collision H ours theirs)
    (roots-collision-is-difference H sized ours theirs small some less root) (roots_bind H sized ours theirs small some less root)
