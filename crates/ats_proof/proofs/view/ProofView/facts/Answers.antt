use Rattle.std.proofs.Common.{subst}
use Rattle.ats_proof.specs.Value.{IsProof}
use Rattle.ats_proof.proofs.InRange.{in_range}
use Rattle.ats_proof.proofs.view.ProofView.facts.Goals as goal

pub returns-clause-spelled : goal.returns-clause-spelled
returns-clause-spelled c =
    let bytes = c.self.inside.bytes.now in (bytes, subst (IsProof bytes) c.self.view_is c.self.invariant.spelled)

pub returns-clause-range : goal.returns-clause-range
returns-clause-range c =
    let bytes = c.self.inside.bytes.now in
    in_range bytes c.args.self.now (subst (IsProof bytes) c.self.view_is c.self.invariant.spelled)
