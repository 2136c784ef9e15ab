use Rattle.std.proofs.Common.{◌≡◌, ◌+◌, length, arith}
use Rattle.ats_terms.proofs.Packing.{packed_more, packed_still}
use Rattle.ats_terms.proofs.terms.pack.Goals as goal

pub returns-clause-packed : goal.returns-clause-packed
returns-clause-packed c =
    let end : c.in-Ok.end ≡ length c.args.bytes.now.items + length c.args.term.now = omega (arith, c.in-Ok.ensures, c.in_ok-extend_from_slice.ensures.len) in
    rw (c.in_ok-extend_from_slice.ensures.items, c.in_ok-push.ensures.items)
    (packed_still c.args.bytes.now.items c.args.term.now c.args.ends.now.items c.in-Ok.end c.requires.packed end c.requires.term)

pub returns-clause-terms : goal.returns-clause-terms
returns-clause-terms c =
    let end : c.in-Ok.end ≡ length c.args.bytes.now.items + length c.args.term.now = omega (arith, c.in-Ok.ensures, c.in_ok-extend_from_slice.ensures.len) in
    rw (c.in_ok-extend_from_slice.ensures.items, c.in_ok-push.ensures.items)
    (packed_more c.args.bytes.now.items c.args.term.now c.args.ends.now.items c.in-Ok.end c.requires.packed end)
