use Rattle.std.proofs.Common.{◌∙◌, arith}
use Rattle.ats_lists.proofs.PartedLemmas.{parted_gathered, parted_lists, parted_terms}
use Rattle.ats_postings.proofs.Public.{lists_keep}
use Rattle.ats_lists.proofs.gathering.Gathered.sorted.Goals as goal

pub sort_each-requires : goal.sort_each-requires
sort_each-requires c =
    parted_gathered c.args.collection.now _ _ _ c.in_ok-terms.ensures.pairs c.requires c.in_ok-terms.ensures.rises c.in_ok-terms.ensures.log _ c.deref.ensures.value
    _ c.in_ok-lists.ensures.size c.in_ok-lists.ensures.entries

pub returns-clause-same : goal.returns-clause-same
returns-clause-same c =
    c.in_ok-sort_each.ensures
    ∙ parted_lists c.args.collection.now _ _ _ c.in_ok-terms.ensures.pairs c.requires c.in_ok-terms.ensures.rises c.in_ok-terms.ensures.log _ c.deref.ensures.value
    _ c.in_ok-lists.ensures.size c.in_ok-lists.ensures.entries

pub returns-clause-lists : goal.returns-clause-lists
returns-clause-lists c =
    lists_keep c.args.collection.now (omega (arith, c.total.ensures.value, c.total.ensures.few))
    (parted_terms c.args.collection.now _ _ _ c.in_ok-terms.ensures.pairs c.requires c.in_ok-terms.ensures.rises c.in_ok-terms.ensures.log _ c.deref.ensures.value
    _ c.in_ok-lists.ensures.size c.in_ok-lists.ensures.entries)
