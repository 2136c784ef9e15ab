use Rattle.std.proofs.Common.{◌∙◌, length, sym, ap}
use Rattle.ats_proof.specs.Value.{Proof}
use Rattle.ats_proof.proofs.Showing.{ids_count}
use Rattle.ats_proof.proofs.view.ProofView.met.Goals as goal

pub returns : goal.returns
returns c = sym (ids_count c.self.inside c.self.invariant) ∙ ap (λ (p : Proof). length p.met) c.self.view_is
