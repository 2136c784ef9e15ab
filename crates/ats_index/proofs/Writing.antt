-- Parts that are put one after another.
use Rattle.std.proofs.Common.{◌≡◌, ◌+◌, ◌<◌, ℕ, List, [], ◌∷◌, ◌++◌, length, get_or, take, ap, ◌∙◌, add-one, append_assoc}
use Rattle.std.specs.Prelude.{codes}
use Rattle.std.specs.Int.{to_be_bytes, w32}
use Rattle.std.specs.List.{flat_map}
use Rattle.std.proofs.Math.Seq.{take-suc}
use Rattle.std.proofs.lemmas.List.{flat_map_more}
use Rattle.ats_lists.specs.declared.format.Format.{Format}
use Rattle.ats_lists.specs.FormatNumber.{number_of_format}
use Rattle.ats_index.specs.Spelling.{front_bytes}

-- the front, before any text
pub front_put : (start : List ℕ) (format : Format) (n : ℕ) → ((start ++ codes "ATSI") ++ number_of_format format ∷ []) ++ to_be_bytes w32 n ≡ start ++ (front_bytes format n ++ [])
unfolding front_bytes
front_put start format n = append_assoc (start ++ codes "ATSI") (number_of_format format ∷ []) (to_be_bytes w32 n) ∙ append_assoc start (codes "ATSI") (number_of_format format ∷ to_be_bytes w32 n)

-- one item more after a front
pub one_more : {X : Type 0} (f : X → List ℕ) (start front : List ℕ) (items : List X) (i : ℕ) (item d : X) → i < length items → item ≡ get_or items i d
    → (start ++ (front ++ flat_map f (take i items))) ++ f item ≡ start ++ (front ++ flat_map f (take (i + 1) items))
one_more f start front items i item d inside is =
    rw (add-one, take-suc items i d inside, is)
    (append_assoc start (front ++ flat_map f (take i items)) (f (get_or items i d)) ∙ ap (λ ys. start ++ ys) (flat_map_more f front (take i items) (get_or items i d)))
