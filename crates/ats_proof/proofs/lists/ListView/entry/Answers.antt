use Rattle.std.proofs.Common.{◌<◌, arith}
use Rattle.std.proofs.lemmas.List.{length-drop}
use Rattle.ats_proof.specs.Reading.{posting_size, posting_in}
use Rattle.ats_proof.proofs.Runs.{length-parts}
use Rattle.ats_proof.proofs.Taking.{part_at}
use Rattle.ats_proof.proofs.lists.ListView.entry.Goals as goal

pub nth-entry-requires-clause-within : goal.nth-entry-requires-clause-within
nth-entry-requires-clause-within c =
    omega (arith, c.requires.within, length-parts posting_size posting_in c.args.self.now.count c.args.self.now.entries.now)

pub split_at-requires : goal.split_at-requires
split_at-requires c = omega (arith, c.nth-entry.ensures.space)

pub number_2-requires : goal.number_2-requires
number_2-requires c = rw c.split_at.ensures.back (omega (arith, c.nth-entry.ensures.space, length-drop 4 c.nth-entry.result.now))

pub returns-clause-entry : goal.returns-clause-entry
returns-clause-entry c =
    let list = c.args.self.now in
    let within : c.args.i < list.count = omega (arith, c.requires.within, length-parts posting_size posting_in list.count list.entries.now) in
    rw (c.number_4.ensures, c.number_2.ensures, c.split_at.ensures.back, c.nth-entry.ensures.part) (part_at 6 posting_in list.count c.args.i list.entries.now within)
