use Rattle.std.proofs.Common.{rules, refl}
use Rattle.ats_plan.proofs.Public.{leads_none, done_end}
use Rattle.ats_console.proofs.Public.{leads_index, still_index}
use Rattle.ats_makers.proofs.indexing.root.Goals as goal

pub returns-clause-ok : goal.returns-clause-ok
returns-clause-ok g c =
    (leads_index leads_none c.in_ok-index.ensures.ok).does _ _ (done_end (record {
      archive = c.in_ok-index.index;
      index = still_index c.in_ok-index.ensures.ok refl;
      published = record {
        printed = search rules;
        word = rw c.root.ensures at c.root_line-line.ensures.word;
      };
    }))
