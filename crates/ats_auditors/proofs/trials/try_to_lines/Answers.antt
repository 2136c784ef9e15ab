use Rattle.std.proofs.Common.{ℕ, List, Vec, Global, ap, inr, ◌∙◌}
use Rattle.ats_auditors.specs.Trial.{lines_of_trial}
use Rattle.ats_console.proofs.Public.{passed}
use Rattle.ats_auditors.proofs.trials.try_to_lines.Goals as goal

pub returns-in_err-tra-clause-stop : goal.returns-in_err-tra-clause-stop
returns-in_err-tra-clause-stop g c =
    passed _ c.from_residual.result c.from_residual.ensures.1 (inr c.in_err-tra.ensures.stop)

pub returns-clause-ok : goal.returns-clause-ok
returns-clause-ok g c =
    let tra = c.in_ok-tra.ensures.tra in
    let tnra = c.in_ok-tra.ensures.tnra in record {
      tra = tra.0;
      tnra = tnra.0;
      by_tra = tra.1;
      by_tnra = tnra.1;
      printed = ap (λ (v : Vec ℕ Global). v.items) c.into_bytes.ensures.value ∙ c.in_ok-text.ensures tra.0 tnra.0 tra.2 tnra.2 ∙ ap (λ (r : List ℕ). lines_of_trial r tra.0 tnra.0) c.root.ensures;
    }
