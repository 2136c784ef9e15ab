use Rattle.std.proofs.Common.{◌≡◌, ℕ, List, [], subst, sym, ap, ◌∙◌}
use Rattle.std.proofs.lemmas.Result.{on_ok_weaker}
use Rattle.ats_bound.specs.Schedule.{IsCut, WholeLane, shown, whole_lanes}
use Rattle.ats_honest.specs.Lanes.{lanes_of}
use Rattle.ats_honest.specs.Honest.{AreMet, IsCutShown}
use Rattle.ats_prover.specs.Inner.Writing.{IsShownWith}
use Rattle.ats_prover.proofs.Asked.{written_as}
use Rattle.ats_prover.proofs.proving.write_unanswered.Goals as goal

pub met_documents-requires : goal.met_documents-requires
met_documents-requires g c =
    record { cut = subst (λ (ls : List WholeLane). IsCut ls c.args.cut.now) (sym (ap whole_lanes c.deref.ensures.value ∙ c.in_ok-terms.ensures.own)) c.requires.cut }

-- what the lent lanes meet, the query's do
met_by : (own given : List WholeLane) (cut lent met : List ℕ) → given ≡ own → lent ≡ met → AreMet (shown given cut) met → AreMet (shown own cut) lent
met_by own given cut lent met same lends are = subst (AreMet (shown own cut)) (sym lends) (subst (λ (ls : List WholeLane). AreMet (shown ls cut) met) same are)

pub write_shown-requires-clause-met : goal.write_shown-requires-clause-met
write_shown-requires-clause-met g c =
    met_by (lanes_of c.args.index.now.texts c.args.query.now) (whole_lanes c.deref.result.now) c.args.cut.now c.deref-2.result.now c.in_ok-met.met.items
    (ap whole_lanes c.deref.ensures.value ∙ c.in_ok-terms.ensures.own) c.deref-2.ensures.value c.in_ok-met.ensures

pub returns : goal.returns
returns g c =
    let H = g.H.HashKind.hash in
    let archive = c.args.index.now in
    let query = c.args.query.now in
    let algorithm = c.args.algorithm in
    let cut = c.args.cut.now in
    let met = c.deref-2.result.now in
    let are : AreMet (shown (lanes_of archive.texts query) cut) met =
    met_by (lanes_of archive.texts query) (whole_lanes c.deref.result.now) cut met c.in_ok-met.met.items
    (ap whole_lanes c.deref.ensures.value ∙ c.in_ok-terms.ensures.own) c.deref-2.ensures.value c.in_ok-met.ensures in
    on_ok_weaker c.write_shown.result (written_as (IsShownWith H archive query algorithm cut met []) (IsCutShown H archive query algorithm cut)
    c.args.writer.now c.write_shown.new.writer (λ proof is. record {
      documents = met;
      met = are;
      shows = is.shows;
      empty = is.rows;
    })) c.write_shown.ensures.written
