use Rattle.ats_index.proofs.ComparingLemmas.{tells_seen, tells_left}
use Rattle.ats_index.proofs.compare.Comparer.difference.Goals as goal
use Rattle.ats_index.proofs.compare.Comparer.difference.Goals.{then-self-via-then-self, then-self-via-else-self+then-self-2}

pub returns-then-self : goal.returns-then-self
returns-then-self c put is = elim c.then-self.branch [
  | then-self-via-then-self w ↦ tells_seen c.args.self.now.bytes.now c.args.self.now.same c.args.self.now.differs put is w.if-self.true
  | then-self-via-else-self+then-self-2 w ↦ tells_left c.args.self.now.bytes.now c.args.self.now.same c.args.self.now.differs put is w.if-self.false w.if-self-2.true
]
