-- When the old texts are the first of the new ones.
use Rattle.std.proofs.Common.{◌≡◌, ◌↔◌, ℕ, zero, suc, ◌<◌, ◌≤◌, List, [], ◌∷◌, length, take, get_or, slice_get, Option, Some, None, Bool, true, false, refl, sym, ◌∙◌, ap, ap₂, arith}
use Rattle.std.specs.Str.{bytes_eq}
use Rattle.std.proofs.lemmas.Option.{slice_get_read, slice_get_past, slice_get-get_or}
use Rattle.std.proofs.lemmas.Slice.Eq.{bytes_eq-Decides}
use Rattle.ats_growth_check.specs.Headline.{IsPrefix}
use Rattle.ats_growth_proof.specs.Honest.{IsFirstApart}

-- each old document is where it was
pub prefix_of_all : (old new : List (List ℕ)) → ((i : ℕ) → i < length old → slice_get new i ≡ slice_get old i) → IsPrefix old new
prefix_of_all [] new same = refl
prefix_of_all (x ∷ xs) [] same = let none : ◌≡◌ {A = Option (List ℕ)} None (Some x) = same 0 (omega arith) in absurd (cc)
prefix_of_all (x ∷ xs) (y ∷ ys) same =
    let head : ◌≡◌ {A = Option (List ℕ)} (Some y) (Some x) = same 0 (omega arith)
    in let e : y ≡ x = cc
    in ap₂ (λ (z : List ℕ) (zs : List (List ℕ)). z ∷ zs) e (prefix_of_all xs ys (λ i less. same (suc i) (omega arith)))

-- a withdrawn document rules it out
pub not_prefix : (old new : List (List ℕ)) (doc : ℕ) → IsFirstApart old new doc → IsPrefix old new → ⊥
not_prefix old new doc apart is = apart.apart (same_text old new doc is apart.inside)
  where
    same_text : (old new : List (List ℕ)) (i : ℕ) → take (length old) new ≡ old → i < length old → slice_get new i ≡ slice_get old i
    same_text [] new i is less = absurd (omega arith)
    same_text (x ∷ xs) [] i is less = absurd (cc)
    same_text (x ∷ xs) (y ∷ ys) zero is less = let e : y ≡ x = cc in ap Some e
    same_text (x ∷ xs) (y ∷ ys) (suc i) is less = let e : take (length xs) ys ≡ xs = cc in same_text xs ys i e (omega arith)

-- whether a document was withdrawn, by comparing its two texts
pub same_text_is : (old new : List (List ℕ)) (doc : ℕ) (a b : List ℕ) (equal : Bool) → doc < length old → doc < length new → a ≡ get_or old doc a → b ≡ get_or new doc b
    → equal ≡ bytes_eq a b → equal ≡ true ↔ slice_get new doc ≡ slice_get old doc
same_text_is old new doc a b equal inside there is_a is_b test =
    let at_old : slice_get old doc ≡ Some a = slice_get_read old (length old) doc a refl inside is_a
    in let at_new : slice_get new doc ≡ Some b = slice_get_read new (length new) doc b refl there is_b
    in (
      (λ yes. at_new ∙ ap Some (sym ((bytes_eq-Decides a b).0 (sym test ∙ yes))) ∙ sym at_old),
      (λ same. let both : ◌≡◌ {A = Option (List ℕ)} (Some b) (Some a) = sym at_new ∙ same ∙ at_old in let e : a ≡ b = cc in test ∙ (bytes_eq-Decides a b).1 e),
    )

-- a document past the end of the new texts was withdrawn
pub past_is : (old new : List (List ℕ)) (doc : ℕ) → doc < length old → length new ≤ doc → false ≡ true ↔ slice_get new doc ≡ slice_get old doc
past_is old new doc some past =
    let at_new : slice_get new doc ≡ None = slice_get_past new doc past
    in let at_old : slice_get old doc ≡ Some (get_or old doc []) = slice_get-get_or old doc [] some
    in (
      (λ same. absurd (cc)),
      (λ same. let e : ◌≡◌ {A = Option (List ℕ)} None (Some (get_or old doc [])) = sym at_new ∙ same ∙ at_old in absurd (cc)),
    )
