use Rattle.std.proofs.Common.{◌<◌, ◌∙◌, List, map, sym, arith}
use Rattle.std.proofs.lemmas.List.{ext_get_or, get_or-map, length-map}
use Rattle.ats_lists.specs.Inner.Gathered.{renumbered}
use Rattle.ats_lists.specs.declared.gathering.Logged.{Logged}
use Rattle.ats_lists.proofs.gathering.replace_numbers.Goals as goal

pub returns : goal.returns
returns c =
    let log : List Logged = c.args.log.now.items in
    let own : Logged → Logged = renumbered c.args.numbers.now in
    let blank : Logged = record { number = 0; entry = record { doc = 0; impact = 0 } } in
    let size = c.loop-i.invariant.size in
    ext_get_or blank c.loop-i.log.items (map own log) (omega (arith, size, length-map log own)) (λ n inside.
    let low : n < c.loop-i.i = omega (arith, inside, size, c.loop-i-test.false, c.loop-i.auto.i-end, c.len-i-end.ensures) in
    c.loop-i.invariant.done n blank low ∙ sym (get_or-map own log n blank blank (omega (arith, inside, size))))
