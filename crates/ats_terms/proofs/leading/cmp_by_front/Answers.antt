use Rattle.std.proofs.Common.{◌≡◌, sym, ◌∙◌, arith}
use Rattle.std.proofs.lemmas.Bool.Decides.{nat_tests}
use Rattle.ats_terms.proofs.Fronts.{front_decides, length_decides}
use Rattle.ats_terms.proofs.leading.cmp_by_front.Goals as goal

pub returns-in-Equal : goal.returns-in-Equal
returns-in-Equal c =
    let tied = c.cmp.ensures in
    let first : c.args.first ≡ c.args.other_first = grind (arith, nat_tests) in
    c.cmp-in-Equal.ensures
    ∙ length_decides 8 c.args.term.now c.args.other.now c.requires.bytes c.requires.other_bytes
    (sym c.requires.first ∙ first ∙ c.requires.other_first) (rw c.min.ensures at c.if-min-le8.true)

pub returns-in_default : goal.returns-in_default
returns-in_default c =
    front_decides 8 c.args.term.now c.args.other.now c.requires.bytes c.requires.other_bytes c.cmp.result
    (rw (← c.requires.first, ← c.requires.other_first) c.cmp.ensures) c.in_default.not-Equal
