-- The rows of an answer, one more at a time.
use Rattle.std.proofs.Common.{◌≡◌, ◌<◌, ◌≤◌, ◌+◌, ◌++◌, ◌∷◌, ◌∙◌, ℕ, List, [], length, map, take, sym, ap, take_all}
use Rattle.std.proofs.lemmas.List.{map_more}
use Rattle.ats_impact.specs.declared.rank.Row.{Row}
use Rattle.ats_client.specs.Bracketing.{bounds_of}
use Rattle.ats_proof.specs.Value.{Proof}
use Rattle.ats_client.specs.Presented.{lanes_of}
use Rattle.ats_client.specs.Groups.{met_at}
use Rattle.ats_client.specs.Rows.{row_of, row_bracket, rows_of}

-- the first rows
abbrev pub rows_before : List (List ℕ × ℕ) → Proof → ℕ → List Row
rows_before query proof i = map (λ index. row_of (bounds_of proof (lanes_of query proof) (met_at proof.met index))) (take i proof.answer)

pub row_more : (query : List (List ℕ × ℕ)) (proof : Proof) (i : ℕ) (rows : List Row) (row : Row) → i < length proof.answer
    → rows ≡ rows_before query proof i → row ≡ row_of (row_bracket query proof i) → rows ++ row ∷ [] ≡ rows_before query proof (i + 1)
row_more query proof i rows row inside same is =
    ap (λ (r : Row). rows ++ r ∷ []) is
    ∙ ap (λ (front : List Row). front ++ row_of (row_bracket query proof i) ∷ []) same
    ∙ sym (map_more (λ (index : ℕ). row_of (bounds_of proof (lanes_of query proof) (met_at proof.met index))) proof.answer i 0 inside)

pub all_rows : (query : List (List ℕ × ℕ)) (proof : Proof) (i : ℕ) → length proof.answer ≤ i → rows_before query proof i ≡ rows_of query proof
all_rows query proof i whole =
    ap (map (λ (index : ℕ). row_of (bounds_of proof (lanes_of query proof) (met_at proof.met index)))) (take_all i proof.answer whole)
