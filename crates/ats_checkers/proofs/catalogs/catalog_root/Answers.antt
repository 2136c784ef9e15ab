use Rattle.std.proofs.Common.{rules}
use Rattle.ats_plan.proofs.Public.{leads_none, done_end}
use Rattle.ats_console.proofs.Public.{passed, at_roots, leads_roots, still_roots}
use Rattle.ats_checkers.proofs.catalogs.catalog_root.Goals as goal

pub returns-in_err-listed-clause-stop : goal.returns-in_err-listed-clause-stop
returns-in_err-listed-clause-stop g c = passed _ c.from_residual.result c.from_residual.ensures.1 (at_roots c.in_err-listed.ensures.stop)

pub returns-clause-ok : goal.returns-clause-ok
returns-clause-ok g c =
    (leads_roots leads_none c.in_ok-listed.ensures.ok).does _ _ (done_end (record {
      roots = c.in_ok-listed.listed.items;
      listed = still_roots c.in_ok-listed.ensures.ok;
      published = record {
        printed = search rules;
        word = rw (c.catalog_root-root.ensures.value, c.as_slice.ensures.value) at c.in_ok-root_line.ensures.word;
      };
    }))
