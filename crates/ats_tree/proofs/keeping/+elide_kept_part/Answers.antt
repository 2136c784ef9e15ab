use Rattle.std.proofs.Common.{◌≡◌, ℕ, ◌+◌, ◌-◌, ◌*◌, ◌<◌, ◌≤◌, List, [], ◌++◌, length, arith, sym, ◌∙◌, ap, subst, OnOk}
use Rattle.std.proofs.lemmas.Bool.{eqb-true, eqb-false}
use Rattle.std.proofs.lemmas.List.{append-nil, append_assoc}
use Rattle.ats_tree.specs.Inner.Part.{RisesWithin}
use Rattle.ats_tree.specs.Elided.{shown_with}
use Rattle.ats_tree.specs.Kept.{elided_part}
use Rattle.ats_tree.proofs.ElidedLemmas.{front-rises, back-rises}
use Rattle.ats_tree.proofs.KeptLemmas.{front-front}
use Rattle.ats_tree.proofs.KeptElided.{slice_from, kept-none, kept-shown, kept-parts, left-nodes, right-nodes}
use Rattle.ats_tree.proofs.keeping.+elide_kept_part.Goals as goal

-- what the left part requires
pub elide_kept_part-requires : goal.elide_kept_part-requires
elide_kept_part-requires t c =
    let k : ℕ = c.cut_of-k.result
    in let some : 1 ≤ k = omega (arith, c.cut_of-k.ensures.below, c.cut_of-k.ensures.largest)
    in let rises : RisesWithin c.args.from (c.args.from + k) c.split_at.result.0.now =
    rw c.split_at.ensures.front (front-rises c.args.from (c.args.from + c.args.n) (c.args.from + k) c.count_below.result c.args.positions.now c.count_below.ensures.value c.requires.rising)
    in let part = left-nodes c.args.digests.now k c.args.n c.cut_of-k.ensures.below (c.requires.nodes, c.requires.sized)
    in (omega arith, (some, (part.0, (part.1, (omega arith, rises)))))

-- what the right part requires
pub elide_kept_part-requires-else-n-eq1 : goal.elide_kept_part-requires-else-n-eq1
elide_kept_part-requires-else-n-eq1 t c =
    let k : ℕ = c.cut_of-k.result
    in let ends : c.args.from + k + (c.args.n - k) ≡ c.args.from + c.args.n = omega arith
    in let rises : RisesWithin (c.args.from + k) (c.args.from + k + (c.args.n - k)) c.split_at.result.1.now =
    rw (ends, c.split_at.ensures.back) (back-rises c.args.from (c.args.from + c.args.n) (c.args.from + k) c.count_below.result c.args.positions.now c.count_below.ensures.value c.requires.rising)
    in let part = right-nodes c.args.digests.now k c.args.n c.cut_of-k.ensures.below (c.requires.nodes, c.requires.sized)
    in (omega arith, (omega arith, (part.0, (part.1, (omega arith, rises)))))

-- no position
pub returns-then-is_empty-clause-ok : goal.returns-then-is_empty-clause-ok
returns-then-is_empty-clause-ok t c =
    rw (kept-none c.args.digests.now [] c.args.from c.args.n c.args.positions.now c.requires.some (eqb-true _ _ (sym c.if-is_empty.ensures)))
    c.push.ensures.ok

-- one leaf, which is shown
pub returns-then-n-eq1-clause-ok : goal.returns-then-n-eq1-clause-ok
returns-then-n-eq1-clause-ok t c =
    let ne : length c.args.positions.now ≡ 0 → ⊥ = eqb-false _ _ (sym c.if-is_empty.ensures)
    in let some : 0 < length c.args.positions.now = omega arith
    in rw (kept-shown c.args.digests.now [] c.args.from c.args.n c.args.positions.now c.if-n-eq1.true some c.requires.rising)
    (sym (append-nil c.args.out.now))

-- two parts
pub returns-in_ok-elide_kept_part-clause-ok : goal.returns-in_ok-elide_kept_part-clause-ok
returns-in_ok-elide_kept_part-clause-ok t c =
    let both = kept-parts c.args.digests.now [] c.args.from c.cut_of-k.result c.args.n c.count_below.result c.args.positions.now _ _ c.count_below.ensures.value
    c.split_at.ensures.front c.split_at.ensures.back c.cut_of-k.ensures.power c.cut_of-k.ensures.below c.cut_of-k.ensures.largest
    (sym c.if-is_empty.ensures) c.requires.rising
    in let left : List (List ℕ) = elided_part (slice_from 1 c.args.digests.now) c.args.from c.cut_of-k.result (shown_with [] c.split_at.result.0.now)
    in let right : List (List ℕ) =
    elided_part (slice_from (2 * c.cut_of-k.result) c.args.digests.now) (c.args.from + c.cut_of-k.result) (c.args.n - c.cut_of-k.result) (shown_with [] c.split_at.result.1.now)
    in let Holds : List (List ℕ) → Type 0 = λ z. OnOk c.elide_kept_part-else-n-eq1.result (c.elide_kept_part-else-n-eq1.new.out ≡ z)
    in subst Holds
    (ap (λ z. z ++ right) {y = c.args.out.now ++ left} c.in_ok-elide_kept_part.ensures.ok ∙ append_assoc c.args.out.now left right
    ∙ ap (λ z. c.args.out.now ++ z) (sym both))
    c.elide_kept_part-else-n-eq1.ensures.ok

pub returns-in_ok-elide_kept_part-clause-front : goal.returns-in_ok-elide_kept_part-clause-front
returns-in_ok-elide_kept_part-clause-front t c =
    front-front c.args.out.now c.elide_kept_part.new.out c.elide_kept_part-else-n-eq1.new.out c.in_ok-elide_kept_part.ensures.front c.elide_kept_part-else-n-eq1.ensures.front
