use Rattle.std.proofs.Common.{◌≡◌, ◌≤◌, ◌-◌, ℕ, List, length, take, drop, arith, length-append}
use Rattle.std.proofs.lemmas.Grind.{common_steps}
use Rattle.std.proofs.lemmas.List.{length-take-le, take_at}
use Rattle.ats_wire.proofs.asking.read_piece.Goals as goal

pub returns-in-Whole-clause-ok : goal.returns-in-Whole-clause-ok
returns-in-Whole-clause-ok g c =
    let buf : List ℕ = c.fill.new.buf in
    let back : List ℕ = drop c.min-count.result c.args.piece.now in
    let long_piece : length buf ≡ c.min-count.result = grind (arith, common_steps, c.fill.auto.buf) in
    let within : c.min-count.result ≤ c.args.size - c.args.done = grind (arith, common_steps, c.min-count.ensures) in (
      grind (arith, common_steps, c.min-count.ensures, c.requires.some, c.requires.space),
      omega (arith, length-append buf back, long_piece),
      omega (arith, within, c.requires.some),
      rw (take_at buf back c.min-count.result long_piece) c.in-Whole.ensures.fills,
    )

pub returns-in-Ended-clause-err : goal.returns-in-Ended-clause-err
returns-in-Ended-clause-err g c =
    let buf : List ℕ = c.fill.new.buf in
    let filled = c.in-Ended.ensures.fills in
    let long_piece : length buf ≤ c.args.size - c.args.done = grind (arith, common_steps, c.fill.auto.buf, c.min-count.ensures) in
    let came : List ℕ = take c.in-Ended.came buf in
    let came_is = length-take-le c.in-Ended.came buf (omega (arith, filled.0)) in (
      came,
      filled.2,
      λ front first.
          let all = length-append front came in
          (omega (arith, all, first, came_is, long_piece, filled.0), omega (arith, all, first, came_is), omega (arith, c.from.ensures), filled.1),
    )

pub returns-in-Broken-clause-err : goal.returns-in-Broken-clause-err
returns-in-Broken-clause-err g c =
    let buf : List ℕ = c.fill.new.buf in
    let filled = c.in-Broken.ensures.fills in
    let long_piece : length buf ≤ c.args.size - c.args.done = grind (arith, common_steps, c.fill.auto.buf, c.min-count.ensures) in
    let came_is = length-take-le filled.0 buf (omega (arith, filled.1)) in
    (take filled.0 buf, filled.2, λ front first. omega (arith, length-append front (take filled.0 buf), first, came_is, long_piece, filled.1))
