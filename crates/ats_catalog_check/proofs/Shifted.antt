-- Rows with one more at a place, as the end of a slice is turned there.
use Rattle.std.proofs.Common.{◌≡◌, ◌<◌, ◌≤◌, ◌+◌, ◌-◌, ◌++◌, ◌∙◌, ℕ, List, [], ◌∷◌, length, take, drop, set, sym, ap, ap₂, length-append, arith}
use Rattle.std.specs.List.{slice_rotate_right}
use Rattle.std.proofs.lemmas.List.{take-set-le, take_more_set, drop-take, drop-append-le, length-take, take-take}
use Rattle.std.proofs.Math.Seq.{drop-append_seam, take-append_seam}
use Rattle.ats_catalog_check.specs.declared.row.CatalogRow.{CatalogRow}
use Rattle.ats_catalog_check.specs.Inner.Places.{put_in}

-- one element at the end, turned to the front
turned : {X : Type 0} (xs : List X) (x : X) (n : ℕ) → n ≡ length xs → drop n (xs ++ x ∷ []) ++ take n (xs ++ x ∷ []) ≡ x ∷ xs
turned xs x n is =
    ap (λ m. drop m (xs ++ x ∷ []) ++ take m (xs ++ x ∷ [])) is ∙ ap₂ (λ a b. a ++ b) (drop-append_seam xs (x ∷ [])) (take-append_seam xs (x ∷ []))

pub turned_in : (rows part : List CatalogRow) (len place : ℕ) (row : CatalogRow) → len < length rows → place ≤ len
    → part ≡ take (len + 1 - place) (drop place (set rows len row))
    → (turned : List CatalogRow) → turned ≡ slice_rotate_right part 1
    → take place (set rows len row) ++ turned ≡ put_in row (take len rows) place
turned_in rows part len place row low inside is turned_part after =
    let size : length (take len rows) ≡ len = omega (arith, length-take {A = CatalogRow}) in
    let whole : place + (len + 1 - place) ≡ len + 1 = omega arith in
    let end : part ≡ drop place (take len rows) ++ row ∷ [] =
    is ∙ sym (drop-take place (len + 1 - place) (set rows len row)) ∙ ap (λ n. drop place (take n (set rows len row))) whole
    ∙ ap (drop place) (take_more_set rows len row low) ∙ drop-append-le place (take len rows) (row ∷ []) (omega (arith, size)) in
    let rest : List CatalogRow = drop place (take len rows) in
    let many : length part - 1 ≡ length rest = omega (arith, ap (λ (l : List CatalogRow). length l) end, length-append rest (row ∷ [])) in
    let moved : turned_part ≡ row ∷ rest =
    after ∙ ap (λ (l : List CatalogRow). drop (length part - 1) l ++ take (length part - 1) l) end ∙ turned rest row (length part - 1) many in
    let before : take place (set rows len row) ≡ take place (take len rows) =
    take-set-le place rows len row inside ∙ sym (take-take place len rows inside) in
    ap₂ (λ (a b : List CatalogRow). a ++ b) before moved
