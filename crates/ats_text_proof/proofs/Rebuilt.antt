-- What is rebuilt from a text and digests, and that it fits.
use Rattle.std.proofs.Common.{◌≡◌, ◌∙◌, ℕ, List, length, Bool, ◌&&◌, nat_eq, nat_le, Some, sym, inl, inr}
use Rattle.std.specs.Option.{is_none}
use Rattle.std.proofs.lemmas.Option.{none-some}
use Rattle.std.proofs.lemmas.Bool.{cond-true, cond-false, cases_Bool, and_parts, eqb-true}
use Rattle.ats_tree.specs.Rebuild.{need, rebuilt, first_out, digest_with, tree_of_places}
use Rattle.ats_tree.specs.Shown.{Shown}

some_same : {X : Type 0} (x y : X) → Some x ≡ Some y → x ≡ y
some_same x y e = cc

-- if a digest is rebuilt, there are as many digests as are needed, and it is theirs
pub fits : (H : List ℕ → List ℕ) (n : ℕ) (shown : List Shown) (ds : List (List ℕ)) (x : List ℕ) → rebuilt H n shown ds ≡ Some x
    → (length ds ≡ need (tree_of_places n shown)) × (digest_with H (tree_of_places n shown) ds ≡ x)
fits H n shown ds x is =
    let test : Bool = nat_le 1 n && is_none (first_out n shown) && nat_eq (length ds) (need (tree_of_places n shown)) in
    elim (cases_Bool test) [
      | inl meets ↦ (eqb-true _ _ (and_parts _ _ meets).1, some_same _ _ (sym (cond-true test _ _ meets) ∙ is))
      | inr fails ↦ absurd (none-some x (sym (cond-false test _ _ fails) ∙ is))
    ]
