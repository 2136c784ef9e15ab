-- A cell of a page for each document.
use Rattle.std.proofs.Common.{◌≡◌, ◌≢◌, ◌<◌, ◌+◌, ◌/◌, ◌%◌, ℕ, suc, List, nat_eq, false, get_or, sym, ap, ◌∙◌, arith, inl, inr}
use Rattle.std.specs.HashMap.{HashMap, get}
use Rattle.std.specs.declared.option.Option.TheVariants.{None, Some}
use Rattle.std.proofs.lemmas.Bool.{cases_eq}
use Rattle.std.proofs.lemmas.Bool.Decides.{nat_tests}
use Rattle.std.proofs.lemmas.Nat.{mod_below}
use Rattle.std.proofs.Math.Nat.{div-add-mod}
use Rattle.ats_bound.specs.Inner.Pages.{before, slot_at, slot_in}

-- two documents with one page have two cells
apart : (a b : ℕ) → a ≢ b → a / 64 ≡ b / 64 → a % 64 ≢ b % 64
apart a b differ page same = differ (omega (arith, page, same, div-add-mod a 64, div-add-mod b 64))

module _ {S : Type 0} (old new : HashMap ℕ (List ℕ) S) (doc : ℕ) (page : List ℕ) (is : get nat_eq new (doc / 64) ≡ Some page) where
  -- the number in the cell of a document gives its slot
  pub placed : (slot : ℕ) → get_or page (doc % 64) 0 ≡ slot + 1 → slot_in new doc ≡ Some slot
  placed slot here =
      let next : get_or page (doc % 64) 0 ≡ suc slot = omega (arith, here) in
      ap (λ found. slot_at found (doc % 64)) is ∙ ap before next

  -- a page that is new has no other slot
  pub others_kept : get nat_eq old (doc / 64) ≡ None → ((place : ℕ) → place < 64 → place ≢ doc % 64 → get_or page place 0 ≡ 0)
      → ((q : ℕ) → nat_eq (doc / 64) q ≡ false → get nat_eq new q ≡ get nat_eq old q) → (other : ℕ) → other ≢ doc → slot_in new other ≡ slot_in old other
  others_kept none empty same other differ = elim (cases_eq (other / 64) (doc / 64)) [
    | inl here ↦
        let after : slot_in new other ≡ None =
        ap (λ n. slot_at (get nat_eq new n) (other % 64)) here ∙ ap (λ found. slot_at found (other % 64)) is
        ∙ ap before (empty (other % 64) (mod_below other 64 (omega arith)) (apart other doc differ here)) in
        let earlier : slot_in old other ≡ None = ap (λ n. slot_at (get nat_eq old n) (other % 64)) here ∙ ap (λ found. slot_at found (other % 64)) none in
        after ∙ sym earlier
    | inr elsewhere ↦ ap (λ found. slot_at found (other % 64)) (same (other / 64) (grind (arith, nat_tests, elsewhere)))
  ]
