use Rattle.std.proofs.Common.{◌≡◌, ◌≢◌, ◌<◌, ◌+◌, ◌-◌, ◌∙◌, [], ◌∷◌, List, ℕ, length, get_or, set, take_all, ap, sym, subst, arith, length-append}
use Rattle.std.specs.List.{zip}
use Rattle.std.proofs.lemmas.List.{get_or_default, length-set}
use Rattle.ats_terms.specs.Query.{counted}
use Rattle.ats_terms.specs.Distinct.{AreDistinct}
use Rattle.ats_terms.specs.Inner.Packed.{strings}
use Rattle.ats_terms.proofs.Packing.{length-strings_from}
use Rattle.ats_terms.proofs.Runs.{runs_again, runs_next, zip_push, zip_bump, count_at, run_few, some_runs, length_zipped}
use Rattle.ats_terms.proofs.Unique.{counted_distinct}
use Rattle.ats_terms.proofs.counts.runs.Goals as goal

-- the number of pairs
paired : (bytes ends counts : List ℕ) → length counts ≡ length ends → (length counts ≡ length (strings bytes ends)) × (length (zip (strings bytes ends) counts) ≡ length counts)
paired bytes ends counts same =
    let size = length-strings_from bytes 0 ends in
    let long : length counts ≡ length (strings bytes ends) = omega (arith, size) in
    (long, length_zipped (strings bytes ends) counts long ∙ sym long)

pub overflow_add-index_mut : goal.overflow_add-index_mut
overflow_add-index_mut c =
    let invariant = c.loop-i.invariant in
    let counts = c.loop-i.counts.items in
    let names = strings c.loop-i.bytes.items c.loop-i.ends.items in
    let again = c.repeats.ensures.0 c.if-repeats.true in
    let size = paired c.loop-i.bytes.items c.loop-i.ends.items counts invariant.paired in
    let some = some_runs c.args.sorted.now c.loop-i.i (zip names counts) invariant.runs again.0 in
    let inside : c.len-run.result - 1 < length names = omega (arith, some, size.0, size.1, c.len-run.ensures) in
    let at = count_at names counts (c.len-run.result - 1) c.index_mut.result.now ([], 0) size.0 inside c.index_mut.ensures.value in
    let few = run_few c.args.sorted.now c.loop-i.i (zip names counts) (c.len-run.result - 1) ([], 0) invariant.runs (omega (arith, inside, size.0, size.1)) in
    omega (arith, at, few, c.requires.few, c.loop-i-test.true, c.loop-i.auto.i-end)

pub loop-i-preserved-then-repeats : goal.loop-i-preserved-then-repeats
loop-i-preserved-then-repeats c =
    let invariant = c.loop-i.invariant in
    let counts = c.loop-i.counts.items in
    let names = strings c.loop-i.bytes.items c.loop-i.ends.items in
    let again = c.repeats.ensures.0 c.if-repeats.true in
    let size = paired c.loop-i.bytes.items c.loop-i.ends.items counts invariant.paired in
    let some = some_runs c.args.sorted.now c.loop-i.i (zip names counts) invariant.runs again.0 in
    let run : c.len-run.result - 1 + 1 ≡ length counts = omega (arith, some, size.1, c.len-run.ensures) in
    record {
      packed = invariant.packed;
      paired = length-set counts (c.len-run.result - 1) (c.index_mut.result.now + 1) ∙ invariant.paired;
      runs = runs_again c.args.sorted.now c.loop-i.i (zip names counts) _ invariant.runs (omega (arith, c.loop-i-test.true)) again.0 again.1
          (λ front last weight whole. ap (λ seen. zip names (set counts (c.len-run.result - 1) (seen + 1))) c.index_mut.ensures.value
          ∙ zip_bump names counts (c.len-run.result - 1) c.index_mut.result.now front last weight size.0 run whole);
    }

pub loop-i-preserved : goal.loop-i-preserved
loop-i-preserved c =
    let invariant = c.loop-i.invariant in
    let counts = c.loop-i.counts.items in
    let names = strings c.loop-i.bytes.items c.loop-i.ends.items in
    let i = c.loop-i.i in
    let size = paired c.loop-i.bytes.items c.loop-i.ends.items counts invariant.paired in
    let inside : i < length c.args.sorted.now = omega (arith, c.loop-i-test.true) in
    let differ : 0 < i → get_or c.args.sorted.now i [] ≢ get_or c.args.sorted.now (i - 1) [] =
    λ some same. let again = c.repeats.ensures.1 (some, same) in absurd (cc) in
    let next = runs_next c.args.sorted.now i (zip names counts) invariant.runs c.requires.order inside differ in
    let term : c.term.result.now ≡ get_or c.args.sorted.now i [] =
    c.term.ensures ∙ c.index-sorted-i.is ∙ get_or_default c.args.sorted.now i c.index-sorted-i.result [] inside in
    let ended : length (strings c.pack.new.bytes.items c.pack.new.ends.items) ≡ length names + 1 =
    ap length c.in_ok-pack.ensures.terms ∙ length-append names (_ ∷ []) in
    record {
      packed = c.in_ok-pack.ensures.packed;
      paired = omega (arith, c.in_ok-push.ensures.len, invariant.paired, ended, length-strings_from c.pack.new.bytes.items 0 c.pack.new.ends.items, size.0);
      runs = rw (c.in_ok-push.ensures.items, c.in_ok-pack.ensures.terms, zip_push names counts _ 1 size.0, term) next;
    }

pub invariant_of-result : goal.invariant_of-result
invariant_of-result c =
    let invariant = c.loop-i.invariant in
    let size = paired c.loop-i.bytes.items c.loop-i.ends.items c.loop-i.counts.items invariant.paired in
    let all : zip c.packed-terms.result c.loop-i.counts.items ≡ counted c.args.sorted.now =
    ap (λ names. zip names c.loop-i.counts.items) c.packed-terms.ensures ∙ invariant.runs.made
    ∙ ap counted (take_all c.loop-i.i c.args.sorted.now (omega (arith, c.loop-i-test.false))) in
    (omega (arith, size.0, ap length c.packed-terms.ensures), subst AreDistinct (sym all) (counted_distinct c.args.sorted.now c.requires.terms))
