use Rattle.std.proofs.Common.{sym}
use Rattle.ats_proof.specs.Reading.{posting_size, posting_in}
use Rattle.ats_proof.proofs.Runs.{length-parts}
use Rattle.ats_proof.proofs.lists.ListView.len.Goals as goal

pub returns : goal.returns
returns c = sym (length-parts posting_size posting_in c.args.self.now.count c.args.self.now.entries.now)
