use Rattle.std.proofs.Common.{◌≡◌, List, [], length, refl, sym, subst}
use Rattle.std.specs.List.{AllZip}
use Rattle.ats_audit.specs.Sweeps.{IsVerdictOf}
use Rattle.ats_plan.specs.Runs.{IsDone, IsStopped}
use Rattle.ats_console.specs.Steps.{no_more, comes_to}
use Rattle.ats_auditors.specs.Inner.Sweeping.{AreJobs, IsReport, entry_names}
use Rattle.ats_auditors.specs.Commands.{gathers}
use Rattle.ats_auditors.specs.declared.gathering.Gathered.{Gathered}
use Rattle.ats_auditors.specs.declared.listing.Entry.{Entry}
use Rattle.ats_console.specs.declared.stops.Stop.TheVariants.{Shelf, Memory}
use Rattle.ats_console.proofs.Public.{passed}
use Rattle.ats_auditors.proofs.Gathers.{has_gathers}
use Rattle.ats_auditors.proofs.JobSteps.{as_many, as_many_verdicts}
use Rattle.ats_auditors.proofs.SweepSteps.{done_of, jobs_of, verdicts_of, list_stops, gather_stops, runs_out, swept_right, swept_stops}
use Rattle.ats_auditors.proofs.sweeping.sweep_to_lines.Goals as goal

pub returns-in_err-entries-clause-stop : goal.returns-in_err-entries-clause-stop
returns-in_err-entries-clause-stop g c words =
    passed _ c.from_residual.result c.from_residual.ensures.1
    (list_stops g.H.HashKind.hash words c.args.index.now c.args.list.now (g.S.Shelf.told c.args.shelf.now) c.in_err-entries.field-0.0 c.in_err-entries.ensures.stop)

pub returns-in_err-proofs-clause-stop : goal.returns-in_err-proofs-clause-stop
returns-in_err-proofs-clause-stop g c words =
    let stops = subst (λ (es : List Entry). IsStopped Shelf Memory (gathers [] (entry_names es) (λ proofs. no_more)) (g.S.Shelf.told c.args.shelf.now) (g.S.Shelf.told c.gather_all.new.shelf) c.in_err-proofs.field-0.0)
    c.as_slice.ensures.value c.in_err-proofs.ensures.stop in
    passed _ c.from_residual-in_err-proofs.result c.from_residual-in_err-proofs.ensures.1
    (gather_stops g.H.HashKind.hash words c.args.index.now c.args.list.now c.in_ok-entries.entries.items c.in_ok-entries.ensures.ok c.in_ok-entries.ensures.some c.in_ok-entries.ensures.few (g.S.Shelf.told c.args.shelf.now) (g.S.Shelf.told c.gather_all.new.shelf) c.in_err-proofs.field-0.0 stops)

pub returns-in_err-jobs-clause-stop : goal.returns-in_err-jobs-clause-stop
returns-in_err-jobs-clause-stop g c words =
    let done : IsDone (gathers [] (entry_names c.in_ok-entries.entries.items) (comes_to c.in_ok-proofs.proofs.items)) (g.S.Shelf.told c.args.shelf.now) (g.S.Shelf.told c.gather_all.new.shelf) [] =
    done_of (g.S.Shelf.told c.args.shelf.now) (g.S.Shelf.told c.gather_all.new.shelf) c.in_ok-proofs.proofs.items _ _ c.as_slice.ensures.value c.in_ok-proofs.ensures.ok in
    passed _ c.from_residual-in_err-jobs.result c.from_residual-in_err-jobs.ensures.1
    (runs_out g.H.HashKind.hash words c.args.index.now c.args.list.now c.in_ok-entries.entries.items c.in_ok-entries.ensures.ok c.in_ok-entries.ensures.some c.in_ok-entries.ensures.few (g.S.Shelf.told c.args.shelf.now) (g.S.Shelf.told c.gather_all.new.shelf) c.in_ok-proofs.proofs.items done refl)

pub returns-in_err-verdicts-clause-stop : goal.returns-in_err-verdicts-clause-stop
returns-in_err-verdicts-clause-stop g c words =
    let done : IsDone (gathers [] (entry_names c.in_ok-entries.entries.items) (comes_to c.in_ok-proofs.proofs.items)) (g.S.Shelf.told c.args.shelf.now) (g.S.Shelf.told c.gather_all.new.shelf) [] =
    done_of (g.S.Shelf.told c.args.shelf.now) (g.S.Shelf.told c.gather_all.new.shelf) c.in_ok-proofs.proofs.items _ _ c.as_slice.ensures.value c.in_ok-proofs.ensures.ok in
    passed _ c.from_residual-in_err-verdicts.result c.from_residual-in_err-verdicts.ensures.1
    (runs_out g.H.HashKind.hash words c.args.index.now c.args.list.now c.in_ok-entries.entries.items c.in_ok-entries.ensures.ok c.in_ok-entries.ensures.some c.in_ok-entries.ensures.few (g.S.Shelf.told c.args.shelf.now) (g.S.Shelf.told c.gather_all.new.shelf) c.in_ok-proofs.proofs.items done c.in_err-verdicts.ensures.stop)

pub returns-in_err-report_of-clause-stop : goal.returns-in_err-report_of-clause-stop
returns-in_err-report_of-clause-stop g c words =
    let done : IsDone (gathers [] (entry_names c.in_ok-entries.entries.items) (comes_to c.in_ok-proofs.proofs.items)) (g.S.Shelf.told c.args.shelf.now) (g.S.Shelf.told c.gather_all.new.shelf) [] =
    done_of (g.S.Shelf.told c.args.shelf.now) (g.S.Shelf.told c.gather_all.new.shelf) c.in_ok-proofs.proofs.items _ _ c.as_slice.ensures.value c.in_ok-proofs.ensures.ok in
    passed _ c.from_residual-in_err-report_of.result c.from_residual-in_err-report_of.ensures.1
    (runs_out g.H.HashKind.hash words c.args.index.now c.args.list.now c.in_ok-entries.entries.items c.in_ok-entries.ensures.ok c.in_ok-entries.ensures.some c.in_ok-entries.ensures.few (g.S.Shelf.told c.args.shelf.now) (g.S.Shelf.told c.gather_all.new.shelf) c.in_ok-proofs.proofs.items done refl)

pub jobs-requires : goal.jobs-requires
jobs-requires g c =
    let done : IsDone (gathers [] (entry_names c.in_ok-entries.entries.items) (comes_to c.in_ok-proofs.proofs.items)) (g.S.Shelf.told c.args.shelf.now) (g.S.Shelf.told c.gather_all.new.shelf) [] =
    done_of (g.S.Shelf.told c.args.shelf.now) (g.S.Shelf.told c.gather_all.new.shelf) c.in_ok-proofs.proofs.items _ _ c.as_slice.ensures.value c.in_ok-proofs.ensures.ok in
    subst (λ (ps : List Gathered). length c.in_ok-entries.entries.items ≡ length ps) (sym c.as_slice-2.ensures.value) (as_many c.in_ok-entries.entries.items c.in_ok-proofs.proofs.items (g.S.Shelf.told c.args.shelf.now).files (has_gathers (entry_names c.in_ok-entries.entries.items) c.in_ok-proofs.proofs.items (g.S.Shelf.told c.args.shelf.now) (g.S.Shelf.told c.gather_all.new.shelf) done).each)

pub report_of-requires : goal.report_of-requires
report_of-requires g c =
    let done : IsDone (gathers [] (entry_names c.in_ok-entries.entries.items) (comes_to c.in_ok-proofs.proofs.items)) (g.S.Shelf.told c.args.shelf.now) (g.S.Shelf.told c.gather_all.new.shelf) [] =
    done_of (g.S.Shelf.told c.args.shelf.now) (g.S.Shelf.told c.gather_all.new.shelf) c.in_ok-proofs.proofs.items _ _ c.as_slice.ensures.value c.in_ok-proofs.ensures.ok in
    let its : AreJobs c.in_ok-entries.entries.items c.in_ok-proofs.proofs.items c.in_ok-jobs.jobs.items = jobs_of c.in_ok-entries.entries.items _ _ c.in_ok-jobs.jobs.items c.as_slice-2.ensures.value c.in_ok-jobs.ensures in
    let found : AllZip (IsVerdictOf g.H.HashKind.hash c.args.index.now) c.in_ok-jobs.jobs.items c.as_slice-5.result.now =
    verdicts_of g.H.HashKind.hash c.args.index.now _ _ _ _ c.as_slice-3.ensures.value c.as_slice-5.ensures c.in_ok-verdicts.ensures.ok in
    subst (λ (ps : List Gathered). length c.as_slice-5.result.now ≡ length ps) (sym c.as_slice-4.ensures.value)
    (as_many_verdicts c.in_ok-entries.entries.items c.in_ok-proofs.proofs.items c.in_ok-jobs.jobs.items c.as_slice-5.result.now g.H.HashKind.hash c.args.index.now (as_many c.in_ok-entries.entries.items c.in_ok-proofs.proofs.items (g.S.Shelf.told c.args.shelf.now).files (has_gathers (entry_names c.in_ok-entries.entries.items) c.in_ok-proofs.proofs.items (g.S.Shelf.told c.args.shelf.now) (g.S.Shelf.told c.gather_all.new.shelf) done).each) its found)

pub returns-clause-ok : goal.returns-clause-ok
returns-clause-ok g c words index file =
    let done : IsDone (gathers [] (entry_names c.in_ok-entries.entries.items) (comes_to c.in_ok-proofs.proofs.items)) (g.S.Shelf.told c.args.shelf.now) (g.S.Shelf.told c.gather_all.new.shelf) [] =
    done_of (g.S.Shelf.told c.args.shelf.now) (g.S.Shelf.told c.gather_all.new.shelf) c.in_ok-proofs.proofs.items _ _ c.as_slice.ensures.value c.in_ok-proofs.ensures.ok in
    let its : AreJobs c.in_ok-entries.entries.items c.in_ok-proofs.proofs.items c.in_ok-jobs.jobs.items = jobs_of c.in_ok-entries.entries.items _ _ c.in_ok-jobs.jobs.items c.as_slice-2.ensures.value c.in_ok-jobs.ensures in
    let found : AllZip (IsVerdictOf g.H.HashKind.hash c.args.index.now) c.in_ok-jobs.jobs.items c.as_slice-5.result.now =
    verdicts_of g.H.HashKind.hash c.args.index.now _ _ _ _ c.as_slice-3.ensures.value c.as_slice-5.ensures c.in_ok-verdicts.ensures.ok in
    let is : IsReport c.in_ok-proofs.proofs.items c.as_slice-5.result.now c.in_ok-report_of.field-0 =
    subst (λ (ps : List Gathered). IsReport ps c.as_slice-5.result.now c.in_ok-report_of.field-0) c.as_slice-4.ensures.value c.in_ok-report_of.ensures in
    swept_right g.H.HashKind.hash words c.args.index.now c.args.list.now c.in_ok-entries.entries.items c.in_ok-entries.ensures.ok c.in_ok-entries.ensures.some c.in_ok-entries.ensures.few (g.S.Shelf.told c.args.shelf.now) (g.S.Shelf.told c.gather_all.new.shelf) c.in_ok-proofs.proofs.items done
    c.in_ok-jobs.jobs.items c.as_slice-5.result.now its found c.in_ok-report_of.field-0 is index file c.conclusion.result c.conclusion.ensures.ok

pub returns-clause-stop : goal.returns-clause-stop
returns-clause-stop g c words =
    let done : IsDone (gathers [] (entry_names c.in_ok-entries.entries.items) (comes_to c.in_ok-proofs.proofs.items)) (g.S.Shelf.told c.args.shelf.now) (g.S.Shelf.told c.gather_all.new.shelf) [] =
    done_of (g.S.Shelf.told c.args.shelf.now) (g.S.Shelf.told c.gather_all.new.shelf) c.in_ok-proofs.proofs.items _ _ c.as_slice.ensures.value c.in_ok-proofs.ensures.ok in
    let its : AreJobs c.in_ok-entries.entries.items c.in_ok-proofs.proofs.items c.in_ok-jobs.jobs.items = jobs_of c.in_ok-entries.entries.items _ _ c.in_ok-jobs.jobs.items c.as_slice-2.ensures.value c.in_ok-jobs.ensures in
    let found : AllZip (IsVerdictOf g.H.HashKind.hash c.args.index.now) c.in_ok-jobs.jobs.items c.as_slice-5.result.now =
    verdicts_of g.H.HashKind.hash c.args.index.now _ _ _ _ c.as_slice-3.ensures.value c.as_slice-5.ensures c.in_ok-verdicts.ensures.ok in
    let is : IsReport c.in_ok-proofs.proofs.items c.as_slice-5.result.now c.in_ok-report_of.field-0 =
    subst (λ (ps : List Gathered). IsReport ps c.as_slice-5.result.now c.in_ok-report_of.field-0) c.as_slice-4.ensures.value c.in_ok-report_of.ensures in
    swept_stops g.H.HashKind.hash words c.args.index.now c.args.list.now c.in_ok-entries.entries.items c.in_ok-entries.ensures.ok c.in_ok-entries.ensures.some c.in_ok-entries.ensures.few (g.S.Shelf.told c.args.shelf.now) (g.S.Shelf.told c.gather_all.new.shelf) c.in_ok-proofs.proofs.items done
    c.in_ok-jobs.jobs.items c.as_slice-5.result.now its found c.in_ok-report_of.field-0 is c.conclusion.result c.conclusion.ensures.stop
