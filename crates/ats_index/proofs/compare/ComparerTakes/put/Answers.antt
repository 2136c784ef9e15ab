use Rattle.std.proofs.Common.{◌≡◌, ◌≤◌, ◌+◌, ◌-◌, ◌∙◌, ℕ, List, false, length, take, drop, ap, subst, arith, length-drop}
use Rattle.std.specs.Prelude.{nat_eq}
use Rattle.std.specs.List.{common_prefix_len}
use Rattle.std.proofs.lemmas.List.Sums.{common_prefix_len-le}
use Rattle.ats_index.specs.Inner.Comparing.{IsCompared}
use Rattle.ats_index.proofs.Reading.{to_end}
use Rattle.ats_index.proofs.ComparingLemmas.{put_next}
use Rattle.ats_index.proofs.compare.ComparerTakes.put.Goals as goal

-- what is common is within the bytes that are left
space : (bytes piece : List ℕ) (same n : ℕ) → same ≤ length bytes → n ≡ common_prefix_len nat_eq (drop same bytes) piece → same + n ≤ length bytes
space bytes piece same n within is = omega (arith, (common_prefix_len-le nat_eq (drop same bytes) piece).0, length-drop same bytes)

common_is : (bytes piece : List ℕ) (same n : ℕ) → n ≡ common_prefix_len nat_eq (take (length bytes - same) (drop same bytes)) piece
    → n ≡ common_prefix_len nat_eq (drop same bytes) piece
common_is bytes piece same n is = is ∙ ap (λ (left : List ℕ). common_prefix_len nat_eq left piece) (to_end same bytes)

pub overflow_add-self : goal.overflow_add-self
overflow_add-self c =
    let bytes : List ℕ = c.args.self.now.bytes.now in
    let n = common_is bytes c.args.piece.now c.args.self.now.same c.common-same.result c.common-same.ensures in
    omega (arith, space bytes c.args.piece.now c.args.self.now.same c.common-same.result c.args.self.now.within n)

pub invariant_of-self : goal.invariant_of-self
invariant_of-self c =
    let bytes : List ℕ = c.args.self.now.bytes.now in
    let n = common_is bytes c.args.piece.now c.args.self.now.same c.common-same.result c.common-same.ensures in
    record { within = space bytes c.args.piece.now c.args.self.now.same c.common-same.result c.args.self.now.within n }

pub returns-then-not-self : goal.returns-then-not-self
returns-then-not-self c about front is =
    let same : ℕ = c.args.self.now.same in
    let n = common_is c.args.self.now.bytes.now c.args.piece.now same c.common-same.result c.common-same.ensures in
    let so_far : IsCompared about same false front = subst (λ differs. IsCompared about same differs front) c.if-not-self.true is.1 in (
      is.0,
      put_next about same front c.args.piece.now so_far c.common-same.result
          (subst (λ bytes. c.common-same.result ≡ common_prefix_len nat_eq (drop same bytes) c.args.piece.now) is.0 n),
    )
