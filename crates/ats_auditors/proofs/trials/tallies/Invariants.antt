use Rattle.ats_proof.specs.declared.record.Algorithm.TheVariants.{Tra, Tnra}
use Rattle.ats_auditors.specs.Inner.Trial.{IsSmall}
use Rattle.ats_auditors.proofs.Tried.{AreFirst}
use Rattle.ats_auditors.proofs.trials.tallies.Given as goal

-- the totals of the proofs of the queries so far
abbrev pub invariant-loop-query : goal.invariant-loop-query
invariant-loop-query g l = record {
  tra : AreFirst g.H.HashKind.hash l.index l.queries Tra l.query-index l.tra;
  tnra : AreFirst g.H.HashKind.hash l.index l.queries Tnra l.query-index l.tnra;
  tra_small : IsSmall l.tra;
  tnra_small : IsSmall l.tnra;
}
