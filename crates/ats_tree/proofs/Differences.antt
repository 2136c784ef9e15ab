-- The first difference of a list of strings: of two runs joined, of a run that is moved, and why it is the first.
use Rattle.std.proofs.Common.{◌≡◌, ◌≢◌, ℕ, List, [], ◌∷◌, ◌++◌, map, Bool, true, false, not, ◌||◌, refl, sym, ◌∙◌, ap, inl, inr, Option, Some, None, subst, MatchOption, IfSome, IfNone, All}
use Rattle.std.specs.Option.{option_map}
use Rattle.std.specs.Str.{bytes_eq}
use Rattle.std.proofs.lemmas.Bool.{cond-true, cond-false, cases_Bool, or_left}
use Rattle.std.proofs.lemmas.List.Elements.{All-nil, All-cons}
use Rattle.std.proofs.lemmas.Slice.Eq.{bytes_eq-Decides}
use Rattle.ats_tree.specs.Differences.{Hashed, moved, Difference, difference_or, first_difference, IsOurs, IsFirstDifference, collision_or, first_collision}

-- ---- the first difference of strings one after another

-- the first difference of two, if there is one
abbrev pub or_else : {P : Type 0} → Option (Difference P) → Option (Difference P) → Option (Difference P)
or_else None b = b
or_else (Some c) b = Some c

-- the same difference, its place seen from elsewhere
abbrev pub moved_difference : {P Q : Type 0} → (P → Q) → Difference P → Difference Q
moved_difference f c = record { place = f c.place; ours = c.ours; theirs = c.theirs }

difference_or-or_else : {P : Type 0} (o : Option (List ℕ)) (s : Hashed P) (a b : Option (Difference P))
    → difference_or o s (or_else a b) ≡ or_else (difference_or o s a) b
difference_or-or_else None s a b = refl
difference_or-or_else (Some own) s a b =
    elim (cases_Bool (bytes_eq own s.text)) [
      | inl same ↦ cond-true _ _ _ same ∙ ap (λ c. or_else c b) (sym (cond-true _ _ _ same))
      | inr other ↦ cond-false _ _ _ other ∙ ap (λ c. or_else c b) (sym (cond-false _ _ _ other))
    ]

-- two runs of strings joined
pub difference-append : {P : Type 0} (ours : P → Option (List ℕ)) (a b : List (Hashed P))
    → first_difference ours (a ++ b) ≡ or_else (first_difference ours a) (first_difference ours b)
difference-append ours [] b = refl
difference-append ours (s ∷ a) b =
    ap (difference_or (ours s.place) s) (difference-append ours a b)
    ∙ difference_or-or_else (ours s.place) s (first_difference ours a) (first_difference ours b)

difference_or-moved : {P Q : Type 0} (f : P → Q) (o : Option (List ℕ)) (s : Hashed P) (later : Option (Difference P))
    → difference_or o (moved f s) (option_map (moved_difference f) later) ≡ option_map (moved_difference f) (difference_or o s later)
difference_or-moved f None s later = refl
difference_or-moved f (Some own) s later =
    elim (cases_Bool (bytes_eq own s.text)) [
      | inl same ↦ cond-true _ _ _ same ∙ ap (option_map (moved_difference f)) (sym (cond-true _ _ _ same))
      | inr other ↦ cond-false _ _ _ other ∙ ap (option_map (moved_difference f)) (sym (cond-false _ _ _ other))
    ]

-- a run of strings that is moved, as one turn further from the root or into one of several trees
pub difference-moved : {P Q : Type 0} (f : P → Q) (ours : Q → Option (List ℕ)) (ss : List (Hashed P))
    → first_difference ours (map (moved f) ss) ≡ option_map (moved_difference f) (first_difference (λ p. ours (f p)) ss)
difference-moved f ours [] = refl
difference-moved f ours (s ∷ ss) =
    ap (difference_or (ours (f s.place)) (moved f s)) (difference-moved f ours ss)
    ∙ difference_or-moved f (ours (f s.place)) s (first_difference (λ p. ours (f p)) ss)

-- a difference is a collision of H
abbrev pub Collides : {P : Type 0} → (List ℕ → List ℕ) → Difference P → Type 0
Collides H c = H c.theirs ≡ H c.ours

match-moved : {P Q : Type 0} (H : List ℕ → List ℕ) (A : Type 0) (f : P → Q) (c : Option (Difference P))
    → MatchOption c A (Collides H) → MatchOption (option_map (moved_difference f) c) A (Collides H)
match-moved H A f None known = known
match-moved H A f (Some c) known = known

-- what is known of a run unless it has a collision is known after its places are mapped
pub known-moved : {P Q : Type 0} (H : List ℕ → List ℕ) (A : Type 0) (f : P → Q) (ours : Q → Option (List ℕ)) (ss : List (Hashed P))
    → MatchOption (first_difference (λ p. ours (f p)) ss) A (Collides H) → MatchOption (first_difference ours (map (moved f) ss)) A (Collides H)
known-moved {P} {Q} H A f ours ss known =
    let Goal : Option (Difference Q) → Type 0 = λ c. MatchOption c A (Collides H)
    in subst Goal (sym (difference-moved f ours ss)) (match-moved H A f (first_difference (λ p. ours (f p)) ss) known)

-- two runs, moved, of each of which something is known unless it has a collision
pub both-parts : {P Q R : Type 0} (H : List ℕ → List ℕ) (A B : Type 0) (f : P → R) (g : Q → R) (a : Option (Difference P)) (b : Option (Difference Q))
    → MatchOption a A (Collides H) → MatchOption b B (Collides H)
    → MatchOption (or_else (option_map (moved_difference f) a) (option_map (moved_difference g) b)) (A × B) (Collides H)
both-parts H A B f g None None p q = (p, q)
both-parts H A B f g None (Some c) p q = q
both-parts H A B f g (Some c) b p q = p

-- ---- the first difference is first

first-later : {P : Type 0} (ours : P → Option (List ℕ)) (s : Hashed P) (rest : List (Hashed P)) (later : Option (Difference P)) → IsOurs ours s
    → IfSome later (IsFirstDifference ours rest) → IfSome later (IsFirstDifference ours (s ∷ rest))
first-later ours s rest None same first = tt
first-later ours s rest (Some c) same first = record {
  before = s ∷ first.before;
  after = first.after;
  stands = ap (λ ss. s ∷ ss) first.stands;
  own = first.own;
  differs = first.differs;
  agrees = All-cons (IsOurs ours) s first.before same first.agrees;
}

pub not_same : (xs ys : List ℕ) → bytes_eq xs ys ≡ false → xs ≢ ys
not_same xs ys other same = let equal : bytes_eq xs ys ≡ true = (bytes_eq-Decides xs ys).1 same in cc

first-step : {P : Type 0} (ours : P → Option (List ℕ)) (s : Hashed P) (rest : List (Hashed P)) (o : Option (List ℕ)) (later : Option (Difference P))
    → ours s.place ≡ o → IfSome later (IsFirstDifference ours rest) → IfSome (difference_or o s later) (IsFirstDifference ours (s ∷ rest))
first-step ours s rest None later is first =
    let Same : Option (List ℕ) → Type 0 = λ o. IfSome o (λ own. own ≡ s.text)
    in first-later ours s rest later (subst Same (sym is) tt) first
first-step {P} ours s rest (Some own) later is first =
    let Same : Option (List ℕ) → Type 0 = λ o. IfSome o (λ own. own ≡ s.text)
    in let Goal : Option (Difference P) → Type 0 = λ c. IfSome c (IsFirstDifference ours (s ∷ rest))
    in elim (cases_Bool (bytes_eq own s.text)) [
      | inl equal ↦
          subst Goal (sym (cond-true _ _ _ equal))
          (first-later ours s rest later (subst Same (sym is) ((bytes_eq-Decides own s.text).0 equal)) first)
      | inr other ↦
          subst Goal (sym (cond-false _ _ _ other)) (record {
            before = [];
            after = rest;
            stands = refl;
            own = is;
            differs = not_same own s.text other;
            agrees = All-nil (IsOurs ours);
          })
    ]

pub difference-first : {P : Type 0} (ours : P → Option (List ℕ)) (ss : List (Hashed P)) → IfSome (first_difference ours ss) (IsFirstDifference ours ss)
difference-first ours [] = tt
difference-first ours (s ∷ rest) = first-step ours s rest (ours s.place) (first_difference ours rest) refl (difference-first ours rest)

none-later : {P : Type 0} (ours : P → Option (List ℕ)) (s : Hashed P) (rest : List (Hashed P)) (later : Option (Difference P)) → IsOurs ours s
    → IfNone later (All (IsOurs ours) rest) → IfNone later (All (IsOurs ours) (s ∷ rest))
none-later ours s rest None same all = All-cons (IsOurs ours) s rest same all
none-later ours s rest (Some c) same all = tt

none-step : {P : Type 0} (ours : P → Option (List ℕ)) (s : Hashed P) (rest : List (Hashed P)) (o : Option (List ℕ)) (later : Option (Difference P))
    → ours s.place ≡ o → IfNone later (All (IsOurs ours) rest) → IfNone (difference_or o s later) (All (IsOurs ours) (s ∷ rest))
none-step ours s rest None later is all =
    let Same : Option (List ℕ) → Type 0 = λ o. IfSome o (λ own. own ≡ s.text)
    in none-later ours s rest later (subst Same (sym is) tt) all
none-step {P} ours s rest (Some own) later is all =
    let Same : Option (List ℕ) → Type 0 = λ o. IfSome o (λ own. own ≡ s.text)
    in let Goal : Option (Difference P) → Type 0 = λ c. IfNone c (All (IsOurs ours) (s ∷ rest))
    in elim (cases_Bool (bytes_eq own s.text)) [
      | inl equal ↦
          subst Goal (sym (cond-true _ _ _ equal))
          (none-later ours s rest later (subst Same (sym is) ((bytes_eq-Decides own s.text).0 equal)) all)
      | inr other ↦ subst Goal (sym (cond-false _ _ _ other)) tt
    ]

pub difference-none : {P : Type 0} (ours : P → Option (List ℕ)) (ss : List (Hashed P)) → IfNone (first_difference ours ss) (All (IsOurs ours) ss)
difference-none ours [] = All-nil (IsOurs ours)
difference-none ours (s ∷ rest) = none-step ours s rest (ours s.place) (first_difference ours rest) refl (difference-none ours rest)

-- ---- the first difference is the first collision

differs-collides : {P : Type 0} (H : List ℕ → List ℕ) (A : Type 0) (o : Option (List ℕ)) (s : Hashed P) (later later' : Option (Difference P))
    → (MatchOption later A (Collides H) → later' ≡ later) → MatchOption (difference_or o s later) A (Collides H)
    → collision_or H o s later' ≡ difference_or o s later
differs-collides H A None s later later' same bound = same bound
differs-collides {P} H A (Some own) s later later' same bound =
    let Good : Option (Difference P) → Type 0 = λ c. MatchOption c A (Collides H)
    in elim (cases_Bool (bytes_eq own s.text)) [
      | inl equal ↦
          let bound' : Good later = subst Good (cond-true (bytes_eq own s.text) _ _ equal) bound
          in cond-true (bytes_eq own s.text || not (bytes_eq (H own) (H s.text))) _ _ (or_left _ _ equal)
          ∙ same bound'
          ∙ sym (cond-true (bytes_eq own s.text) _ _ equal)
      | inr other ↦
          let digest : H s.text ≡ H own = subst Good (cond-false (bytes_eq own s.text) _ _ other) bound
          in let test : bytes_eq (H own) (H s.text) ≡ true = (bytes_eq-Decides (H own) (H s.text)).1 (sym digest)
          in cond-false (bytes_eq own s.text || not (bytes_eq (H own) (H s.text))) _ _ (or_both other (ap not test))
          ∙ sym (cond-false (bytes_eq own s.text) _ _ other)
    ]
  where
    or_both : {a b : Bool} → a ≡ false → b ≡ false → (a || b) ≡ false
    or_both e f = rw (e, f) refl

pub difference-collides : {P : Type 0} (H : List ℕ → List ℕ) (A : Type 0) (ours : P → Option (List ℕ)) (ss : List (Hashed P))
    → MatchOption (first_difference ours ss) A (Collides H) → first_collision H ours ss ≡ first_difference ours ss
difference-collides H A ours [] bound = refl
difference-collides H A ours (s ∷ rest) bound =
    differs-collides H A (ours s.place) s (first_difference ours rest) (first_collision H ours rest)
    (difference-collides H A ours rest) bound
