use Rattle.std.proofs.Common.{[], sym}
use Rattle.ats_terms.proofs.Packing.{range_at, term_at}
use Rattle.ats_terms.proofs.terms.term.Goals as goal

pub slice_bounds-result-count : goal.slice_bounds-result-count
slice_bounds-result-count c = rw c.start-start.ensures (range_at c.args.bytes.now c.args.ends.now c.args.i c.requires.packed c.requires.inside).rises

pub slice_bounds-result-start : goal.slice_bounds-result-start
slice_bounds-result-start c = rw c.start-start.ensures (range_at c.args.bytes.now c.args.ends.now c.args.i c.requires.packed c.requires.inside).rises

pub slice_bounds-result-end : goal.slice_bounds-result-end
slice_bounds-result-end c = (range_at c.args.bytes.now c.args.ends.now c.args.i c.requires.packed c.requires.inside).within

pub returns-clause-value : goal.returns-clause-value
returns-clause-value c d =
    rw c.start-start.ensures (sym ((range_at c.args.bytes.now c.args.ends.now c.args.i c.requires.packed c.requires.inside).string d))

pub returns-clause-term : goal.returns-clause-term
returns-clause-term c =
    rw (c.start-start.ensures, ← (range_at c.args.bytes.now c.args.ends.now c.args.i c.requires.packed c.requires.inside).string [])
    (term_at c.args.bytes.now c.args.ends.now c.args.i [] c.requires.packed c.requires.inside)
