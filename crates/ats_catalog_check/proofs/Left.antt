-- What the check of the shards leaves, shard by shard.
use Rattle.std.proofs.Common.{◌≡◌, ◌<◌, ◌≤◌, ◌+◌, ◌*◌, ◌++◌, ◌∙◌, ℕ, zero, suc, Bool, true, List, [], ◌∷◌, length, map, max, take, drop, get_or, slice_get, Option, Some, None, refl, sym, ap, subst, arith, sum}
use Rattle.std.specs.List.{All, AllZip}
use Rattle.std.proofs.lemmas.List.{take_more, map-append}
use Rattle.std.proofs.Math.Nat.{mul-add}
use Rattle.std.proofs.lemmas.List.Sums.{sum_by-append, sum_by-take-drop}
use Rattle.std.proofs.lemmas.List.Elements.{All-nil, All-cons}
use Rattle.ats_proof.specs.Value.{Proof, IsProof, items_of}
use Rattle.ats_proof.proofs.Public.{in_range}
use Rattle.ats_catalog_bytes.specs.Value.{Framed, frame_at}
use Rattle.ats_catalog_check.specs.declared.row.CatalogRow.{CatalogRow}
use Rattle.ats_catalog_check.specs.Accepts.{MeetAtMost, HaveItems, shown_of}
use Rattle.ats_catalog_check.specs.Merge.{Shown, merge, merged, in_shard, greatest_rest, AreFalling}
use Rattle.ats_catalog_check.specs.Inner.Checked.{IsChecked, IsLeft, AreLeft}
use Rattle.ats_catalog_check.specs.Inner.Kept.{AreBefore, IsKeptIf, HasOrdered}
use Rattle.ats_catalog_check.specs.Inner.Places.{AreOrdered}
use Rattle.ats_catalog_check.proofs.Refusals.{checked_more}
use Rattle.ats_catalog_check.proofs.Steps.{merged_before, merged_ordered, rest_more, shard_more}

-- the shard that is lent next is the one at its place
pub shard_is : (shards left : List Framed) (i : ℕ) (one : Framed) → left ≡ drop i shards → Some one ≡ slice_get left 0 → frame_at shards i ≡ one
shard_is [] left zero one is some = absurd (let none : ◌≡◌ {A = Option Framed} (Some one) None = some ∙ ap (λ (l : List Framed). slice_get l 0) is in cc)
shard_is [] left (suc i) one is some = absurd (let none : ◌≡◌ {A = Option Framed} (Some one) None = some ∙ ap (λ (l : List Framed). slice_get l 0) is in cc)
shard_is (f ∷ shards) left zero one is some = let same : ◌≡◌ {A = Option Framed} (Some one) (Some f) = some ∙ ap (λ (l : List Framed). slice_get l 0) is in cc
shard_is (f ∷ shards) left (suc i) one is some = shard_is shards left i one is some

-- no proof meets more documents than its format has room for
pub met_at_most : (shards : List Framed) → MeetAtMost shards 65536
met_at_most shards i proof low is = (in_range (frame_at shards i).bytes proof is).ids.few

-- the items of a shard's proof
pub items_at : (shards : List Framed) (items : List ℕ) → HaveItems shards items → (i : ℕ) → i < length shards
    → (proof : Proof) → IsProof (frame_at shards i).bytes proof → items_of proof ≤ get_or items i 0
items_at [] items each i low proof is = absurd (omega (arith, low))
items_at (one ∷ shards) [] each i low proof is = absurd each
items_at (one ∷ shards) (n ∷ items) each zero low proof is = each.0 proof is
items_at (one ∷ shards) (n ∷ items) each (suc i) low proof is = items_at shards items each.1 i (omega (arith, low)) proof is

pub as_many_items : (shards : List Framed) (items : List ℕ) → HaveItems shards items → length items ≡ length shards
as_many_items [] [] each = refl
as_many_items [] (n ∷ items) each = absurd each
as_many_items (one ∷ shards) [] each = absurd each
as_many_items (one ∷ shards) (n ∷ items) each = omega (arith, as_many_items shards items each.1)

-- steps of k for each item, with one shard more
pub sum_more : (k : ℕ) (items : List ℕ) (i : ℕ) → i < length items → k * sum (take (i + 1) items) ≡ k * sum (take i items) + k * get_or items i 0
sum_more k items i low =
    let one : sum (take (i + 1) items) ≡ sum (take i items) + get_or items i 0 =
    omega (arith, ap (λ (l : List ℕ). sum l) (take_more items i 0 low), sum_by-append (λ x. x) (take i items) (get_or items i 0 ∷ [])) in
    ap (λ n. k * n) one ∙ mul-add k (sum (take i items)) (get_or items i 0)

pub sum_within : (k : ℕ) (items : List ℕ) (i : ℕ) → k * sum (take i items) ≤ k * sum items
sum_within k items i =
    let all : sum items ≡ sum (take i items) + sum (drop i items) = omega (arith, sum_by-take-drop (λ x. x) items i) in
    omega (arith, ap (λ n. k * n) all, mul-add k (sum (take i items)) (sum (drop i items)))

module _ (H : List ℕ → List ℕ) (query : List (List ℕ × ℕ)) (r : ℕ) where
  as_many : (shards : List Framed) (proofs : List Proof) → AllZip (IsChecked H query) shards proofs → length (map (shown_of query) proofs) ≡ length shards
  as_many [] [] checked = refl
  as_many [] (p ∷ proofs) checked = absurd checked
  as_many (one ∷ shards) [] checked = absurd checked
  as_many (one ∷ shards) (p ∷ proofs) checked = omega (arith, as_many shards proofs checked.1)

  all_ordered : (shards : List Framed) (proofs : List Proof) → AllZip (IsChecked H query) shards proofs → All HasOrdered (map (shown_of query) proofs)
  all_ordered [] [] checked = All-nil HasOrdered
  all_ordered [] (p ∷ proofs) checked = absurd checked
  all_ordered (one ∷ shards) [] checked = absurd checked
  all_ordered (one ∷ shards) (p ∷ proofs) checked = All-cons HasOrdered (shown_of query p) (map (shown_of query) proofs) checked.0.ordered (all_ordered shards proofs checked.1)

  pub none_left : AreLeft H query r [] [] true 0
  none_left = record {
    proofs = [];
    checked = tt;
    kept = record { falls = (λ _. record { most = omega arith; fall = λ k low. absurd (omega (arith, low)) }, λ _. refl); rows = λ _. refl };
    rest_is = refl;
  }

  -- rows that are kept are as the next shard's merge wants them
  pub kept_fit : (shards : List Framed) (rows : List CatalogRow) (fall : Bool) (rest : ℕ) → AreLeft H query r shards rows fall rest → fall ≡ true
      → (number : ℕ) → number ≡ length shards → AreFalling r rows × AreBefore number rows × AreOrdered rows
  kept_fit shards rows fall rest left is number same =
      let all : List Shown = map (shown_of query) left.proofs in
      let kept : rows ≡ merged all = left.kept.rows is in
      let size : length all ≡ number = as_many shards left.proofs left.checked ∙ sym same in (
        subst (AreFalling r) (sym kept) (left.kept.falls.0 is),
        subst (AreBefore number) (sym kept) (subst (λ (n : ℕ). AreBefore n (merged all)) size (merged_before all)),
        subst AreOrdered (sym kept) (merged_ordered all (all_ordered shards left.proofs left.checked)),
      )

  pub left_more : (shards more : List Framed) (one : Framed) (rows next : List CatalogRow) (fall falls : Bool) (rest other most number : ℕ)
      → AreLeft H query r shards rows fall rest → number ≡ length shards → IsLeft H query r number one rows fall next falls other → most ≡ max rest other
      → more ≡ shards ++ one ∷ [] → AreLeft H query r more next falls most
  left_more shards more one rows next fall falls rest other most number left same found greatest is =
      let all : List Shown = map (shown_of query) left.proofs in
      let new : Shown = shown_of query found.proof in
      let size : number ≡ length all = same ∙ sym (as_many shards left.proofs left.checked) in
      let joined : map (shown_of query) (left.proofs ++ found.proof ∷ []) ≡ all ++ new ∷ [] = map-append (shown_of query) left.proofs (found.proof ∷ []) in
      record {
        proofs = left.proofs ++ found.proof ∷ [];
        checked = subst (λ (fs : List Framed). AllZip (IsChecked H query) fs (left.proofs ++ found.proof ∷ [])) (sym is)
            (checked_more H query shards left.proofs one found.proof left.checked found.checked);
        kept = subst (λ (xs : List Shown). IsKeptIf r falls next (merged xs)) (sym joined)
            (shard_more r all new fall falls rows next (all_ordered shards left.proofs left.checked) found.checked.ordered left.kept
            (λ fell. subst (λ (n : ℕ). IsKeptIf r falls next (merge rows (map (in_shard n) new.rows))) size (found.kept fell)) found.none);
        rest_is = omega (arith, greatest, left.rest_is, found.rest_is, rest_more all new, ap greatest_rest joined);
      }
