use Rattle.std.proofs.Common.{inl, inr}
use Rattle.ats_auditors.proofs.ListEntries.{rows_out, query_out}
use Rattle.ats_auditors.proofs.listing.read_line.Goals as goal

pub returns-in_default-clause-ok : goal.returns-in_default-clause-ok
returns-in_default-clause-ok c listed is = c.in_default.ensures listed is.spelled

pub returns-in_default-new-clause-ok : goal.returns-in_default-new-clause-ok
returns-in_default-new-clause-ok c =
    rows_out c.args.line.now c.in-Some.r c.in-Some.proof.now c.in-Some.query.now c.in-Some.ensures c.in_default-new.ensures.out.1

pub returns-in_default-fault : goal.returns-in_default-fault
returns-in_default-fault c = record {
  ok = query_out c.args.line.now c.in-Some.r c.in-Some.proof.now c.in-Some.query.now c.in-Some.ensures (elim c.in-Err.ensures.out [
    | inl wants ↦ absurd (c.in_default-fault.not-OutOfMemory wants)
    | inr none ↦ none
  ]);
  stop = tt;
}
