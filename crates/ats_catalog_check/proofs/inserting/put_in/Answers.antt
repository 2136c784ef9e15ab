use Rattle.std.proofs.Common.{◌≡◌, ◌+◌, ◌-◌, ◌∙◌, take, drop, set, length, length-drop, length-set, refl, arith}
use Rattle.std.proofs.lemmas.List.{length-take}
use Rattle.std.proofs.lemmas.Slice.{take-put_mid}
use Rattle.ats_catalog_check.proofs.Shifted.{turned_in}
use Rattle.ats_catalog_check.proofs.inserting.put_in.Goals as goal

pub returns-clause-rows : goal.returns-clause-rows
returns-clause-rows c =
    let xs = set c.args.items.now c.args.len c.args.row in
    let k = c.args.len + 1 - c.args.place in
    let size : length xs ≡ length c.args.items.now = length-set c.args.items.now c.args.len c.args.row in
    let long : length (take k (drop c.args.place xs)) ≡ k =
    omega (arith, length-take k (drop c.args.place xs), length-drop c.args.place xs, size) in
    take-put_mid c.args.place k xs c.rotate_right.new.self (c.args.len + 1) (omega (arith, c.rotate_right.ensures.len, long)) (omega (arith, size))
    ∙ turned_in c.args.items.now (take k (drop c.args.place xs)) c.args.len c.args.place c.args.row (omega arith) (omega arith) refl c.rotate_right.new.self c.rotate_right.ensures.after
