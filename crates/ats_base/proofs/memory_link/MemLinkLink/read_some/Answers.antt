use Rattle.std.proofs.Common.{◌≡◌, take, drop, length, arith}
use Rattle.std.proofs.lemmas.Grind.{common_steps}
use Rattle.ats_base.proofs.Exchanges.{read_link}
use Rattle.ats_base.proofs.memory_link.MemLinkLink.read_some.Goals as goal

pub returns-clause-bytes : goal.returns-clause-bytes
returns-clause-bytes c =
    let link = c.self.inside in
    let n = c.min-count.result in
    let piece = c.copy_from_slice.new.self in
    let is : piece ≡ take n (drop link.place link.incoming) = grind (arith, common_steps, c.copy_from_slice.ensures.after) in
    let long : length piece ≡ n = grind (arith, common_steps, c.copy_from_slice.ensures.len) in
    rw (← c.self.view_is) (read_link link.address link.incoming link.written piece _ link.place n is long)
