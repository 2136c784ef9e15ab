use Rattle.std.proofs.Common.{◌∙◌}
use Rattle.ats_lists.proofs.NumberLemmas.{short_is}
use Rattle.ats_lists.proofs.numbering.number_in.Goals as goal

pub returns-then-term-le-FIRST_BYTES : goal.returns-then-term-le-FIRST_BYTES
returns-then-term-le-FIRST_BYTES c =
    short_is c.args.terms.now c.args.slot.now c.args.term.now c.requires.bytes c.if-term-le-FIRST_BYTES.true c.if-slot-term.false
    (c.if-slot-first.false ∙ c.requires.first) c.requires.slot
