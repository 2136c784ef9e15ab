use Rattle.std.proofs.Common.{inl}
use Rattle.ats_top.proofs.commands.print_stop.Goals as goal

pub returns-in-Usage-clause-prints : goal.returns-in-Usage-clause-prints
returns-in-Usage-clause-prints g c = rw c.in-Usage.is (inl (rw c.as_bytes.ensures.value at c.print.ensures.prints))

pub returns-in-Shelf-clause-prints : goal.returns-in-Shelf-clause-prints
returns-in-Shelf-clause-prints g c = rw c.in-Shelf.is (inl (rw c.as_bytes-in-Shelf.ensures.value at c.print-in-Shelf.ensures.prints))

pub returns-in-Link-clause-prints : goal.returns-in-Link-clause-prints
returns-in-Link-clause-prints g c = rw c.in-Link.is (inl (rw c.as_bytes-in-Link.ensures.value at c.print-in-Link.ensures.prints))
