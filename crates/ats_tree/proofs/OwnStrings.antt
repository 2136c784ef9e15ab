-- The strings that are hashed from shown leaves of a tree and the digests that they need are the tree's own.
use Rattle.std.proofs.Common.{◌≡◌, ℕ, List, [], ◌∷◌, ◌++◌, length, map, true, false, ◌&&◌, refl, sym, ◌∙◌, ap, ap₂, inl, inr, Option, Some, None, subst, get_or, slice_get, IfSome, All}
use Rattle.std.proofs.lemmas.Bool.{cond-true, cond-false, cases_Bool, or_left}
use Rattle.std.proofs.lemmas.List.{take_at, drop_at}
use Rattle.std.proofs.lemmas.List.Elements.{All-append, All-map, All-nil, All-cons, All-head, All-tail}
use Rattle.std.proofs.lemmas.Slice.Eq.{bytes_eq-Decides}
use Rattle.std.proofs.lemmas.Option.{get_or_from_slice_get}
use Rattle.ats_tree.specs.Tree.{Tree, empty, leaf, node, tree_of}
use Rattle.ats_tree.specs.Shown.{Shown, positions_of}
use Rattle.ats_tree.specs.Rebuild.{is_bare, need, digest_with, tree_of_places}
use Rattle.ats_tree.specs.Elided.{shown_with, elided_of, elided_digests}
use Rattle.ats_tree.specs.OwnShown.{IsOwnShown}
use Rattle.ats_tree.specs.Paths.{Path}
use Rattle.ats_tree.specs.Nodes.{by_path}
use Rattle.ats_tree.specs.Differences.{Hashed, moved, Difference, IsOurs, collision_or, first_collision}
use Rattle.ats_tree.specs.Strings.{below, strings, string_at, node_string, node_strings}
use Rattle.ats_tree.proofs.Bound.{SameShape, Agrees}
use Rattle.ats_tree.proofs.LawLemmas.{length-elided, elided-digest, shown-shape, shown-agrees}

pub elided-strings : (H : List ℕ → List ℕ) (t : Tree (Option (List ℕ))) (u : Tree (List ℕ)) → SameShape t u → Agrees t u
    → All (IsOurs (string_at H u)) (strings H t (elided_of H t u))
elided-strings H empty u shape agrees = All-nil (IsOurs (string_at H u))
elided-strings H (leaf None) u shape agrees = All-nil (IsOurs (string_at H u))
elided-strings H (leaf (Some x)) empty shape agrees = absurd shape
elided-strings H (leaf (Some x)) (leaf y) shape agrees =
    let own : Hashed Path = record { place = []; text = 0 ∷ x } in
    All-cons (IsOurs (string_at H (leaf y))) own [] (ap (λ d. 0 ∷ d) (sym agrees)) (All-nil (IsOurs (string_at H (leaf y))))
elided-strings H (leaf (Some x)) (node l' r') shape agrees = absurd shape
elided-strings H (node l r) empty shape agrees = absurd shape
elided-strings H (node l r) (leaf y) shape agrees = absurd shape
elided-strings H (node l r) (node l' r') shape agrees =
    let Own : Hashed Path → Type 0 = IsOurs (string_at H (node l' r')) in
    elim (cases_Bool (is_bare l && is_bare r)) [
      | inl bare ↦ subst (All Own) (sym (cond-true _ _ _ bare)) (All-nil Own)
      | inr shows ↦
          let el : List (List ℕ) = elided_of H l l' in
          let er : List (List ℕ) = elided_of H r r' in
          let count : length el ≡ need l = length-elided H l l' shape.0 in
          let is : elided_of H (node l r) (node l' r') ≡ el ++ er = cond-false _ _ _ shows in
          let left : List (Hashed Path) = map (below false) (strings H l el) in
          let right : List (Hashed Path) = map (below true) (strings H r er) in
          let root : Hashed Path = record { place = []; text = 1 ∷ digest_with H l el ++ digest_with H r er } in
          let same : strings H (node l r) (elided_of H (node l r) (node l' r')) ≡ root ∷ (left ++ right) =
          ap (strings H (node l r)) is ∙ cond-false _ _ _ shows ∙ rw (take_at el er (need l) count, drop_at el er (need l) count) refl in
          let digests = ap₂ (λ (a b : List ℕ). 1 ∷ a ++ b) (sym (elided-digest H l l' shape.0 agrees.0)) (sym (elided-digest H r r' shape.1 agrees.1)) in
          subst (All Own) (sym same)
          (All-cons Own root (left ++ right) digests
          (All-append Own left right (All-map Own (below false) (strings H l el) (elided-strings H l l' shape.0 agrees.0))
          (All-map Own (below true) (strings H r er) (elided-strings H r r' shape.1 agrees.1))))
    ]

pub own-strings : (H : List ℕ → List ℕ) (leaves : List (List ℕ)) (positions : List ℕ)
    → All (IsOurs (node_string H leaves)) (node_strings H (length leaves) (shown_with leaves positions) (elided_digests H leaves positions))
own-strings H leaves positions =
    All-map (IsOurs (node_string H leaves)) (moved by_path) (strings H (tree_of_places (length leaves) (shown_with leaves positions)) (elided_digests H leaves positions))
    (elided-strings H (tree_of_places (length leaves) (shown_with leaves positions)) (tree_of leaves) (shown-shape leaves positions) (shown-agrees leaves positions))

-- leaves that are a list's own are the list's at their positions
own-leaves : (leaves : List (List ℕ)) (shown : List Shown) → All (λ s. slice_get leaves s.0 ≡ Some s.1) shown
    → shown ≡ shown_with leaves (positions_of shown)
own-leaves leaves [] own = refl
own-leaves leaves (s ∷ rest) own =
    let Own : Shown → Type 0 = λ s. slice_get leaves s.0 ≡ Some s.1 in
    let here : s.1 ≡ get_or leaves s.0 [] = sym (get_or_from_slice_get leaves s.0 s.1 [] (All-head Own s rest own)) in
    ap₂ (λ (x : List ℕ) (more : List Shown). (s.0, x) ∷ more) here (own-leaves leaves rest (All-tail Own s rest own))

-- what is hashed from what is shown of a tree, if that is the tree's own, is the tree's own too
pub own-shown : (H : List ℕ → List ℕ) (leaves : List (List ℕ)) (n : ℕ) (shown : List Shown) (digests : List (List ℕ))
    → IsOwnShown H leaves n shown digests → All (IsOurs (node_string H leaves)) (node_strings H n shown digests)
own-shown H leaves n shown digests is =
    let Own : ℕ → List Shown → List (List ℕ) → Type 0 = λ m ss ds. All (IsOurs (node_string H leaves)) (node_strings H m ss ds) in
    subst (λ (ss : List Shown). Own n ss digests) (sym (own-leaves leaves shown is.own))
    (subst (λ (ds : List (List ℕ)). Own n (shown_with leaves (positions_of shown)) ds) (sym is.needed)
    (subst (λ (m : ℕ). Own m (shown_with leaves (positions_of shown)) (elided_digests H leaves (positions_of shown))) is.number
    (own-strings H leaves (positions_of shown))))

own-step : {P : Type 0} (H : List ℕ → List ℕ) (o : Option (List ℕ)) (s : Hashed P) (later : Option (Difference P)) → IfSome o (λ own. own ≡ s.text)
    → later ≡ None → collision_or H o s later ≡ None
own-step H None s later own none = none
own-step H (Some own) s later same none = cond-true _ _ _ (or_left _ _ ((bytes_eq-Decides own s.text).1 same)) ∙ none

-- strings that are ours have no collision
pub own-none : {P : Type 0} (H : List ℕ → List ℕ) (ours : P → Option (List ℕ)) (ss : List (Hashed P)) → All (IsOurs ours) ss → first_collision H ours ss ≡ None
own-none H ours [] own = refl
own-none H ours (s ∷ rest) own =
    own-step H (ours s.place) s (first_collision H ours rest) (All-head (IsOurs ours) s rest own) (own-none H ours rest (All-tail (IsOurs ours) s rest own))
