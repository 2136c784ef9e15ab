use Rattle.std.proofs.Common.{vec_items}
use Rattle.ats_growth_proof.proofs.Public.{told}
use Rattle.ats_plan.proofs.Public.{leads_none}
use Rattle.ats_console.specs.Words.{GrowthWords}
use Rattle.ats_console.specs.Kinds.{growth_kind}
use Rattle.ats_console.proofs.Public.{passed, leads_bytes, at_bytes, still_bytes, check_stops, check_end}
use Rattle.ats_checkers.specs.Commands.{IsGrowthChecked}
use Rattle.ats_checkers.proofs.growths.growth.Goals as goal

pub returns-in_err-bytes-clause-stop : goal.returns-in_err-bytes-clause-stop
returns-in_err-bytes-clause-stop g c = passed _ c.from_residual.result c.from_residual.ensures.1 (at_bytes c.in_err-bytes.ensures.stop)

pub returns-clause-stop : goal.returns-clause-stop
returns-clause-stop g c =
    check_stops (leads_bytes leads_none c.in_ok-bytes.ensures.ok) c.growth_to_line.result (rw c.as_slice.ensures at c.growth_to_line.ensures.stop)

pub returns-clause-ok : goal.returns-clause-ok
returns-clause-ok g c =
    let H = g.H.HashKind.hash in
    let words : GrowthWords = record { old = c.args.old.now; new = c.args.new.now; file = c.args.file.now } in
    let bytes = c.in_ok-bytes.bytes in
    check_end (growth_kind H words.old words.new) bytes (λ files text. IsGrowthChecked H files words text) (leads_bytes leads_none c.in_ok-bytes.ensures.ok)
    vec_items c.growth_to_line.result (rw c.as_slice.ensures at c.growth_to_line.ensures.ok) (λ text is. (
      is.0,
      is.1,
      record {
        checked = record { bytes = bytes; file = still_bytes c.in_ok-bytes.ensures.ok; value = is.0; accepted = is.1 };
        headline = is.2;
        audited = told H g.H.HashKind.sized words.old words.new bytes is.0 is.1.says is.1.accepts;
        printed = is.3;
      },
    ))
