use Rattle.std.proofs.Common.{length, ap, arith}
use Rattle.ats_terms.proofs.Packing.{length-strings_from}
use Rattle.ats_terms.proofs.terms.Terms.get.Goals as goal

pub term-requires-clause-packed : goal.term-requires-clause-packed
term-requires-clause-packed c = rw (c.deref.ensures.value, c.deref-2.ensures.value) c.self.invariant

pub term-requires-clause-inside : goal.term-requires-clause-inside
term-requires-clause-inside c =
    let size = ap length c.self.view_is in
    omega (arith, size, length-strings_from c.self.inside.bytes.items 0 c.self.inside.ends.items, c.deref-2.ensures.len, c.requires)
