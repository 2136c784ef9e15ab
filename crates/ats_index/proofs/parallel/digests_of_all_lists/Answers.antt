use Rattle.std.proofs.Common.{rules, ◌<◌, ◌∙◌, ℕ, List, [], length}
use Rattle.rayon.specs.Numbers.{nat_range}
use Rattle.rayon.proofs.ToStd.{nat_range-All}
use Rattle.ats_lists.specs.KeptList.{kept_list}
use Rattle.ats_postings.specs.declared.entry.Entry.{Entry}
use Rattle.ats_index.proofs.Collected.{collected}
use Rattle.ats_index.proofs.parallel.digests_of_all_lists.Goals as goal

pub collect-requires-clause-ready : goal.collect-requires-clause-ready
collect-requires-clause-ready g c κs within =
    let ends = c.into_par_iter.ensures in
    let inside = nat_range-All (λ i. i < length c.args.lists.now) 0 (length c.args.lists.now) (λ i low high. high) in
    rw (c.map.ensures.base, c.map.ensures.f, c.with_min_len.ensures.base, ends.0, ends.1, c.len.ensures.value) (λ k d lt. ((inside k d lt, search rules), λ y p. tt))

pub returns : goal.returns
returns g c =
    let ends = c.into_par_iter.ensures in
    let chain = rw (c.map.ensures.base, c.map.ensures.f, c.with_min_len.ensures.base) at (c.in_ok-made.ensures {u = tt}).1 in
    let places = chain.1 ∙ (λ i. nat_range (ends.0 i) ((ends.1 ∙ c.len.ensures.value) i)) in
    collected (λ (list : List ℕ × List Entry). kept_list g.H.HashKind.hash c.args.format list.1) ([], []) c.args.lists.now (λ v. v.items) _ chain.0 _ c.in_ok-made.made places chain.2 (c.in_ok-made.ensures {u = tt}).2
