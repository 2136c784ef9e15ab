-- The first collision of strings is two different strings with equal digests.
use Rattle.std.proofs.Common.{◌≡◌, ◌≢◌, ◌||◌, ℕ, Bool, true, false, not, List, [], ◌∷◌, Option, Some, None, IfSome, IsSome, refl, sym, subst, inl, inr}
use Rattle.std.specs.Str.{bytes_eq}
use Rattle.std.proofs.lemmas.Bool.{cases_Bool, cond-true, cond-false}
use Rattle.std.proofs.lemmas.Slice.Eq.{bytes_eq-Decides}
use Rattle.ats_tree.specs.Differences.{Hashed, Difference, collision_or, first_collision}
use Rattle.ats_tree.proofs.Differences.{not_same}

abbrev pub AreColliding : {P : Type 0} → (List ℕ → List ℕ) → Difference P → Type 0
AreColliding H c = (c.ours ≢ c.theirs) × (H c.ours ≡ H c.theirs)

neither : (a b : Bool) → (a || not b) ≡ false → (a ≡ false) × (b ≡ true)
neither true b e = absurd (cc)
neither false true e = (refl, refl)
neither false false e = absurd (cc)

or-collides : {P : Type 0} (H : List ℕ → List ℕ) (o : Option (List ℕ)) (s : Hashed P) (later : Option (Difference P))
    → IfSome later (AreColliding H) → IfSome (collision_or H o s later) (AreColliding H)
or-collides H None s later known = known
or-collides {P} H (Some own) s later known =
    let test : Bool = bytes_eq own s.text || not (bytes_eq (H own) (H s.text))
    in let Goal : Option (Difference P) → Type 0 = λ c. IfSome c (AreColliding H)
    in elim (cases_Bool test) [
      | inl meets ↦ subst Goal (sym (cond-true test _ _ meets)) known
      | inr fails ↦
          let parts = neither (bytes_eq own s.text) (bytes_eq (H own) (H s.text)) fails
          in subst Goal (sym (cond-false test _ _ fails)) (not_same own s.text parts.0, (bytes_eq-Decides (H own) (H s.text)).0 parts.1)
    ]

first-collides : {P : Type 0} (H : List ℕ → List ℕ) (own : P → Option (List ℕ)) (ss : List (Hashed P)) → IfSome (first_collision H own ss) (AreColliding H)
first-collides H own [] = tt
first-collides H own (s ∷ rest) = or-collides H (own s.place) s (first_collision H own rest) (first-collides H own rest)

pub found-collides : {P : Type 0} (H : List ℕ → List ℕ) (own : P → Option (List ℕ)) (ss : List (Hashed P)) (c : Difference P)
    → first_collision H own ss ≡ Some c → AreColliding H c
found-collides {P} H own ss c is =
    let Goal : Option (Difference P) → Type 0 = λ found. IfSome found (AreColliding H)
    in subst Goal is (first-collides H own ss)

pub none_some : {P : Type 0} (o : Option (Difference P)) → o ≡ None → IsSome o → ⊥
none_some None is some = absurd (cc)
none_some (Some c) is some = absurd (cc)
