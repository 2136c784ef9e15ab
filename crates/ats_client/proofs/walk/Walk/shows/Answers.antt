use Rattle.std.proofs.Common.{ℕ, List, Some, None, ◌∙◌, ap}
use Rattle.std.specs.Str.{bytes_eq}
use Rattle.ats_client.proofs.Walks.{present_at, absent_at, no_next, next_left}
use Rattle.ats_client.proofs.walk.Walk.shows.Goals as goal

pub returns-then-slot-clause-shows : goal.returns-then-slot-clause-shows
returns-then-slot-clause-shows g c =
    present_at g.S.Section.shown (g.S.Section.leaves c.args.self.now.all) c.args.term.now c.args.slot (g.S.Section.item c.in-Some.leaf) c.eq.result
    c.if-slot.true c.in-Some.ensures.leaf (c.eq.ensures ∙ ap (λ (t : List ℕ). bytes_eq t c.args.term.now) c.term.ensures)

pub returns-in-Some-first-clause-shows : goal.returns-in-Some-first-clause-shows
returns-in-Some-first-clause-shows g c =
    let leaves = g.S.Section.leaves c.args.self.now.all in
    let next = next_left leaves (g.S.Section.leaves c.leaf.new.self.left) (g.S.Section.leaves c.passed.result) c.args.slot.index (Some (g.S.Section.item c.in-Some-first.next)) c.leaf.ensures.left c.passed.ensures.passed c.in-Some-first.ensures in
    absent_at g.S.Section.shown leaves c.args.term.now c.args.slot (g.S.Section.item c.in-Some.leaf) (g.S.Section.item c.in-Some-first.next)
    c.lies_between.result c.if-slot.false c.in-Some.ensures.leaf next c.lies_between.ensures

pub returns-in-None-clause-shows : goal.returns-in-None-clause-shows
returns-in-None-clause-shows g c =
    let leaves = g.S.Section.leaves c.args.self.now.all in
    let next = next_left leaves (g.S.Section.leaves c.leaf.new.self.left) (g.S.Section.leaves c.passed.result) c.args.slot.index None c.leaf.ensures.left c.passed.ensures.passed c.in-None.ensures in
    no_next g.S.Section.shown leaves c.args.term.now c.args.slot c.if-slot.false next
