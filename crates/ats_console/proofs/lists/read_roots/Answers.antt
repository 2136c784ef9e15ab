use Rattle.std.proofs.Common.{rules, arith, refl, inl, inr, sym, ◌∙◌, subst, ℕ, length, ◌≡◌, ◌+◌}
use Rattle.std.proofs.lemmas.Bool.{eqb-true}
use Rattle.ats_console.specs.Lists.{lines_of, IsBadLine}
use Rattle.ats_console.specs.Roots.{SpellsRoot}
use Rattle.ats_console.proofs.ListReading.{next_bad, read_more, all_read, as_many_read, no_lines}
use Rattle.ats_console.proofs.lists.read_roots.Goals as goal

pub returns-then-count-eq0-clause-stop : goal.returns-then-count-eq0-clause-stop
returns-then-count-eq0-clause-stop c =
    rw c.bad_line.ensures (inr (1, inl (no_lines _ (omega (arith, c.count_lines-count.ensures, c.if-count-eq0.true)), refl), refl))

pub returns-then-count-gt-SHARDS-clause-stop : goal.returns-then-count-gt-SHARDS-clause-stop
returns-then-count-gt-SHARDS-clause-stop c = rw c.bad_line-then-count-gt-SHARDS.ensures (inr (4097, search rules, refl))

pub returns-in_default-clause-stop : goal.returns-in_default-clause-stop
returns-in_default-clause-stop c =
    rw (c.bad_line-in_default.ensures, c.len.ensures) (inr (
      c.lines.roots.len + 1,
      subst (λ (n : ℕ). IsBadLine SpellsRoot 4096 (lines_of c.args.bytes.now) (n + 1)) (sym c.lines.roots.ok.0)
          (next_bad SpellsRoot 4096 c.args.bytes.now c.lines.rest.now c.first_line.result.0.now c.first_line.result.1.now c.lines.roots.items c.lines.invariant
          c.first_line.ensures.lines (omega (arith, c.count_lines-count.ensures, c.if-count-gt-SHARDS.false))
          (λ root spells. let clash = sym c.in_default.is ∙ c.root_digits.ensures ∙ spells in absurd (cc))),
      refl,
    ))

pub lines-preserved : goal.lines-preserved
lines-preserved c =
    rw c.in_ok-push.ensures.items
    (read_more SpellsRoot c.args.bytes.now c.lines.rest.now c.first_line.result.0.now c.first_line.result.1.now c.lines.roots.items c.in-Some.root c.lines.invariant
    c.first_line.ensures.lines (sym (rw c.in-Some.is at c.root_digits.ensures)))

pub returns-clause-ok : goal.returns-clause-ok
returns-clause-ok c =
    let none : length c.lines.rest.now ≡ 0 = eqb-true _ 0 (sym (c.lines-test.ensures)) in
    let long = as_many_read SpellsRoot c.args.bytes.now c.lines.rest.now c.lines.roots.items c.lines.invariant none in
    record {
      some = omega (arith, long, c.count_lines-count.ensures, c.if-count-eq0.false);
      few = omega (arith, long, c.count_lines-count.ensures, c.if-count-gt-SHARDS.false);
      each = all_read SpellsRoot c.args.bytes.now c.lines.rest.now c.lines.roots.items c.lines.invariant none;
    }
