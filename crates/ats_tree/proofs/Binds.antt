-- What runs of strings show one after another: each run shows something, unless there is a collision.
use Rattle.std.proofs.Common.{◌≡◌, ℕ, List, [], ◌∷◌, ◌++◌, map, sym, inl, inr, Option, Some, None, subst, MatchOption}
use Rattle.std.specs.List.{All, flat_map}
use Rattle.std.specs.Str.{bytes_eq}
use Rattle.std.proofs.lemmas.Bool.{cond-true, cond-false, cases_Bool}
use Rattle.std.proofs.lemmas.List.Elements.{All-nil, All-cons, All-head, All-tail}
use Rattle.std.proofs.lemmas.Slice.Eq.{bytes_eq-Decides}
use Rattle.ats_tree.specs.Differences.{Hashed, moved, Difference, difference_or, first_difference}
use Rattle.ats_tree.proofs.Differences.{or_else, difference-append, known-moved, Collides}

-- A holds, or the first of the strings that differs from ours has an equal digest
abbrev pub Binds : {P : Type 0} → (List ℕ → List ℕ) → (P → Option (List ℕ)) → List (Hashed P) → Type 0 → Type 0
Binds H ours ss A = MatchOption (first_difference ours ss) A (Collides H)

or-binds : {P : Type 0} (H : List ℕ → List ℕ) (A B : Type 0) (a b : Option (Difference P))
    → MatchOption a A (Collides H) → (A → MatchOption b B (Collides H)) → MatchOption (or_else a b) (A × B) (Collides H)
or-binds H A B None None p q = (p, q p)
or-binds H A B None (Some c) p q = q p
or-binds H A B (Some c) b p q = p

-- two runs joined; the second shows B if the first shows A
pub binds-both : {P : Type 0} (H : List ℕ → List ℕ) (ours : P → Option (List ℕ)) (a b : List (Hashed P)) (A B : Type 0)
    → Binds H ours a A → (A → Binds H ours b B) → Binds H ours (a ++ b) (A × B)
binds-both {P} H ours a b A B p q =
    let Goal : Option (Difference P) → Type 0 = λ c. MatchOption c (A × B) (Collides H)
    in subst Goal (sym (difference-append ours a b)) (or-binds H A B (first_difference ours a) (first_difference ours b) p q)

-- a run whose places are seen from elsewhere
pub binds-moved : {P Q : Type 0} (H : List ℕ → List ℕ) (f : P → Q) (ours : Q → Option (List ℕ)) (ss : List (Hashed P)) (A : Type 0)
    → Binds H (λ p. ours (f p)) ss A → Binds H ours (map (moved f) ss) A
binds-moved H f ours ss A p = known-moved H A f ours ss p

weaker : {P : Type 0} (H : List ℕ → List ℕ) (A B : Type 0) (c : Option (Difference P)) → (A → B)
    → MatchOption c A (Collides H) → MatchOption c B (Collides H)
weaker H A B None f p = f p
weaker H A B (Some c) f p = p

-- a run that shows A shows all that follows from A
pub binds-weaker : {P : Type 0} (H : List ℕ → List ℕ) (ours : P → Option (List ℕ)) (ss : List (Hashed P)) (A B : Type 0) → (A → B)
    → Binds H ours ss A → Binds H ours ss B
binds-weaker H ours ss A B f p = weaker H A B (first_difference ours ss) f p

one-binds : {P : Type 0} (H : List ℕ → List ℕ) (s : Hashed P) (own : List ℕ) (A : Type 0) → H s.text ≡ H own → (own ≡ s.text → A)
    → MatchOption (difference_or (Some own) s None) A (Collides H)
one-binds {P} H s own A same f =
    let Goal : Option (Difference P) → Type 0 = λ c. MatchOption c A (Collides H)
    in elim (cases_Bool (bytes_eq own s.text)) [
      | inl equal ↦ subst Goal (sym (cond-true (bytes_eq own s.text) _ _ equal)) (f ((bytes_eq-Decides own s.text).0 equal))
      | inr other ↦ subst Goal (sym (cond-false (bytes_eq own s.text) _ _ other)) same
    ]

-- one string, whose digest is that of ours
pub binds-one : {P : Type 0} (H : List ℕ → List ℕ) (ours : P → Option (List ℕ)) (s : Hashed P) (own : List ℕ) (A : Type 0)
    → ours s.place ≡ Some own → H s.text ≡ H own → (own ≡ s.text → A) → Binds H ours (s ∷ []) A
binds-one {P} H ours s own A is same f =
    let Goal : Option (List ℕ) → Type 0 = λ o. MatchOption (difference_or o s None) A (Collides H)
    in subst Goal (sym is) (one-binds H s own A same f)

-- a run for each element of a list
pub binds-all : {P X : Type 0} (H : List ℕ → List ℕ) (ours : P → Option (List ℕ)) (f : X → List (Hashed P)) (B : X → Type 0) (xs : List X)
    → All (λ x. Binds H ours (f x) (B x)) xs → Binds H ours (flat_map f xs) (All B xs)
binds-all H ours f B [] each = All-nil B
binds-all {P} {X} H ours f B (x ∷ xs) each =
    let One : X → Type 0 = λ y. Binds H ours (f y) (B y)
    in binds-weaker H ours (f x ++ flat_map f xs) (B x × All B xs) (All B (x ∷ xs)) (λ both. All-cons B x xs both.0 both.1)
    (binds-both H ours (f x) (flat_map f xs) (B x) (All B xs) (All-head One x xs each) (λ known. binds-all H ours f B xs (All-tail One x xs each)))
