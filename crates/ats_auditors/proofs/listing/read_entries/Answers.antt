use Rattle.std.proofs.Common.{rules, arith, refl, inl, inr, sym, subst, ℕ, length, ◌≡◌, ◌+◌}
use Rattle.std.proofs.lemmas.Bool.{eqb-true}
use Rattle.ats_console.specs.Lists.{lines_of, IsBadLine}
use Rattle.ats_console.proofs.Public.{read_more, as_many_read, no_lines}
use Rattle.ats_auditors.specs.Listed.{IsListed}
use Rattle.ats_auditors.specs.Inner.Sweeping.{IsEntry}
use Rattle.ats_auditors.proofs.ListEntries.{next_line_bad}
use Rattle.ats_auditors.proofs.listing.read_entries.Goals as goal

pub returns-in_default-clause-stop : goal.returns-in_default-clause-stop
returns-in_default-clause-stop c =
    rw (c.bad_line-in_default.ensures, c.len.ensures) (inr (
      c.lines.entries.len + 1,
      subst (λ (n : ℕ). IsBadLine IsListed 1000 (lines_of c.args.bytes.now) (n + 1)) (sym c.lines.entries.ok.0)
          (next_line_bad c.args.bytes.now c.lines.rest.now c.first_line.result.0.now c.first_line.result.1.now c.lines.entries.items c.lines.invariant c.first_line.ensures.lines
          (omega (arith, c.count_lines-count.ensures, c.if-count-gt-LINES.false)) (rw c.in_default.is at c.in_ok-entry.ensures.ok)),
      refl,
    ))

pub lines-preserved : goal.lines-preserved
lines-preserved c =
    rw c.in_ok-push.ensures.items
    (read_more IsEntry c.args.bytes.now c.lines.rest.now c.first_line.result.0.now c.first_line.result.1.now c.lines.entries.items c.in-Some.entry c.lines.invariant
    c.first_line.ensures.lines (rw c.in-Some.is at c.in_ok-entry.ensures.ok))

pub returns-clause-some : goal.returns-clause-some
returns-clause-some c =
    let none : length c.lines.rest.now ≡ 0 = eqb-true _ 0 (sym (c.lines-test.ensures)) in
    let long = as_many_read IsEntry c.args.bytes.now c.lines.rest.now c.lines.entries.items c.lines.invariant none in
    omega (arith, long, c.count_lines-count.ensures, c.if-count-eq0.false)

pub returns-clause-few : goal.returns-clause-few
returns-clause-few c =
    let none : length c.lines.rest.now ≡ 0 = eqb-true _ 0 (sym (c.lines-test.ensures)) in
    let long = as_many_read IsEntry c.args.bytes.now c.lines.rest.now c.lines.entries.items c.lines.invariant none in
    omega (arith, long, c.count_lines-count.ensures, c.if-count-gt-LINES.false)

pub returns-then-count-eq0-clause-stop : goal.returns-then-count-eq0-clause-stop
returns-then-count-eq0-clause-stop c = rw c.bad_line.ensures (inr (1, inl (no_lines _ (omega (arith, c.count_lines-count.ensures, c.if-count-eq0.true)), refl), refl))

pub returns-then-count-gt-LINES-clause-stop : goal.returns-then-count-gt-LINES-clause-stop
returns-then-count-gt-LINES-clause-stop c = rw c.bad_line-then-count-gt-LINES.ensures (inr (1001, search rules, refl))
