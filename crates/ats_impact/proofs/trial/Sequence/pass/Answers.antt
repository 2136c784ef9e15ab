use Rattle.std.proofs.Common.{sym}
use Rattle.ats_impact.proofs.Drawing.{number_at-zero, moved_more}
use Rattle.ats_impact.proofs.trial.Sequence.pass.Goals as goal

pub loop-i-init : goal.loop-i-init
loop-i-init c = sym (number_at-zero c.args.self.now)

pub loop-i-preserved : goal.loop-i-preserved
loop-i-preserved c = moved_more c.args.self.now c.loop-i.i c.loop-i.self c.word.new.self c.loop-i.invariant c.word.ensures.moved
