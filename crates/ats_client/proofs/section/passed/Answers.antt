use Rattle.std.proofs.Common.{◌≡◌, ◌+◌, ◌-◌, arith}
use Rattle.ats_client.proofs.Walks.{ends, one_more}
use Rattle.ats_client.proofs.section.passed.Goals as goal

pub returns-then-not-pass-clause-passed : goal.returns-then-not-pass-clause-passed
returns-then-not-pass-clause-passed g c =
    let i = c.loop-i._i in
    let rest : i + (c.args.count - i) ≡ c.args.count = omega arith in
    rw rest at (ends (g.S.Section.leaves c.args.section) (g.S.Section.leaves c.loop-i.left) (g.S.Section.leaves c.pass.new.self) i (c.args.count - i)
    c.pass.result c.if-not-pass.true c.pass.ensures.end c.pass.ensures.passed c.loop-i.invariant.left)

pub loop-i-preserved : goal.loop-i-preserved
loop-i-preserved g c = record {
  left = one_more (g.S.Section.leaves c.args.section) (g.S.Section.leaves c.loop-i.left) _ c.loop-i._i c.pass.ensures.passed c.loop-i.invariant.left;
  cost = omega (arith, c.pass.ensures.cost, c.loop-i.invariant.cost);
  most = omega (arith, c.pass.ensures.most, c.loop-i.invariant.most);
}
