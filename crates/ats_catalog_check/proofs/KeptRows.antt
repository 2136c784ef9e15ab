-- The rows of a proof, as its check leaves them, merged one by one.
use Rattle.std.proofs.Common.{◌≡◌, ◌<◌, ◌≤◌, ◌+◌, ◌*◌, ◌∙◌, ◌↔◌, ℕ, Bool, true, false, List, length, map, take, get_or, refl, sym, ap, subst, arith, IsTrue}
use Rattle.std.specs.List.{All}
use Rattle.std.proofs.lemmas.List.{get_or-map, length-map, take_all}
use Rattle.std.proofs.lemmas.List.Elements.{All-map}
use Rattle.ats_impact.specs.declared.rank.Row.{Row}
use Rattle.ats_bound.specs.declared.work.Mark.{Mark}
use Rattle.ats_proof.specs.Value.{Proof}
use Rattle.ats_client.specs.Bracketing.{bounds_of}
use Rattle.ats_client.specs.Groups.{met_at}
use Rattle.ats_client.specs.Presented.{lanes_of}
use Rattle.ats_client.specs.Rows.{IsLeftByCheck, row_of, row_bracket, rows_of}
use Rattle.ats_catalog_check.specs.declared.row.CatalogRow.{CatalogRow}
use Rattle.ats_catalog_check.specs.Merge.{in_shard, merge, row_at, AreFalling}
use Rattle.ats_catalog_check.specs.Inner.Places.{IsPlace, AreOrdered, put_in}
use Rattle.ats_catalog_check.specs.Inner.Kept.{AreBefore, IsKeptIf}
use Rattle.ats_catalog_check.proofs.Falls.{nothing}
use Rattle.ats_catalog_check.proofs.Merges.{merge_none}
use Rattle.ats_catalog_check.proofs.Steps.{row_more, none_later, tagged_own, tagged_ordered}

-- the rows of a proof as those of a shard
abbrev pub later : List (List ℕ × ℕ) → Proof → ℕ → List CatalogRow
later query proof shard = map (in_shard shard) (rows_of query proof)

-- the bounds of each row are ordered
pub left_ordered : (query : List (List ℕ × ℕ)) (proof : Proof) (marks : List Mark) (threshold : ℕ) → IsLeftByCheck query proof marks threshold
    → All (λ (row : Row). row.lower ≤ row.upper) (rows_of query proof)
left_ordered query proof marks threshold left =
    All-map (λ (row : Row). row.lower ≤ row.upper) (λ index. row_of (bounds_of proof (lanes_of query proof) (met_at proof.met index))) proof.answer (λ k d low.
    let index : ℕ = get_or proof.answer k d in
    let mark = left.each.each index (left.inside k d low) in
    omega (arith, mark.least, mark.most))

module _ (query : List (List ℕ × ℕ)) (proof : Proof) (marks : List Mark) (threshold : ℕ) (left : IsLeftByCheck query proof marks threshold)
    (r shard : ℕ) (rows : List CatalogRow) (before : AreBefore shard rows) (ordered : AreOrdered rows) where
  abbrev later_rows : List CatalogRow
  later_rows = later query proof shard

  also : AreOrdered later_rows
  also = tagged_ordered shard (rows_of query proof) (left_ordered query proof marks threshold left)

  abbrev answer_row : ℕ → Row
  answer_row index = row_of (bounds_of proof (lanes_of query proof) (met_at proof.met index))

  pub many : length later_rows ≡ length proof.answer
  many = length-map (rows_of query proof) (in_shard shard) ∙ length-map proof.answer answer_row

  row_is : (i : ℕ) → i < length proof.answer → row_at later_rows i ≡ in_shard shard (row_of (row_bracket query proof i))
  row_is i low =
      let none : Row = record { doc = 0; lower = 0; upper = 0 } in
      get_or-map (in_shard shard) (rows_of query proof) i none nothing (omega (arith, low, length-map proof.answer answer_row))
      ∙ ap (in_shard shard) (get_or-map answer_row proof.answer i 0 none low)

  pub row_ordered : (i : ℕ) → i < length proof.answer → (row_of (row_bracket query proof i)).lower ≤ (row_of (row_bracket query proof i)).upper
  row_ordered i low =
      let mark = left.each.each (get_or proof.answer i 0) (left.inside i 0 low) in
      omega (arith, mark.least, mark.most)

  pub none_taken : rows ≡ merge rows (take 0 later_rows)
  none_taken = sym (merge_none rows)

  pub one_taken : (i : ℕ) (kept next : List CatalogRow) (fall : Bool) (row : Row) → i < length proof.answer → row ≡ row_of (row_bracket query proof i)
      → kept ≡ merge rows (take i later_rows) → AreFalling r kept
      → ((place : ℕ) → IsPlace (in_shard shard row) kept place
      → (IsTrue fall ↔ AreFalling r (put_in (in_shard shard row) kept place)) × (fall ≡ true → next ≡ put_in (in_shard shard row) kept place))
      → IsKeptIf r fall next (merge rows (take (i + 1) later_rows))
  one_taken i kept next fall row low is so_far falling puts =
      let here : in_shard shard row ≡ row_at later_rows i = ap (in_shard shard) is ∙ sym (row_is i low) in
      row_more r shard rows later_rows before ordered (tagged_own shard (rows_of query proof)) also i kept next fall (omega (arith, low, many)) so_far falling
      (subst (λ (x : CatalogRow). (place : ℕ) → IsPlace x kept place → (IsTrue fall ↔ AreFalling r (put_in x kept place)) × (fall ≡ true → next ≡ put_in x kept place)) here puts)

  pub not_taken : (i : ℕ) (next : List CatalogRow) (fall : Bool) → fall ≡ false → i < length proof.answer → IsKeptIf r fall next (merge rows (take (i + 1) later_rows))
      → IsKeptIf r false next (merge rows later_rows)
  not_taken i next fall not low kept =
      let unfit : AreFalling r (merge rows (take (i + 1) later_rows)) → ⊥ = λ falling. (let yes' = kept.falls.1 falling in cc) in
      record {
        falls = (
          λ no'. absurd (cc),
          λ falling.
              absurd (none_later r shard rows later_rows before ordered (tagged_own shard (rows_of query proof)) also (i + 1) (omega (arith, low, many)) unfit falling),
        );
        rows = λ no'. absurd (cc);
      }

  pub all_taken : (i : ℕ) (kept : List CatalogRow) → length proof.answer ≤ i → kept ≡ merge rows (take i later_rows) → AreFalling r kept
      → IsKeptIf r true kept (merge rows later_rows)
  all_taken i kept past so_far falling =
      let all : kept ≡ merge rows later_rows = so_far ∙ ap (merge rows) (take_all i later_rows (omega (arith, past, many))) in
      record { falls = (λ _. subst (AreFalling r) all falling, λ _. refl); rows = λ _. all }

-- rows that are kept fall
pub kept_falls : (r : ℕ) (fall : Bool) (kept all : List CatalogRow) → fall ≡ true → IsKeptIf r fall kept all → AreFalling r kept
kept_falls r fall kept all is keeps = subst (AreFalling r) (sym (keeps.rows is)) (keeps.falls.0 is)

-- the steps of one row more
pub more_steps : (top i : ℕ) → (top + 3) * (i + 1) ≡ (top + 3) * i + (top + 3)
more_steps top i = grind arith
