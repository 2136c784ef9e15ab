use Rattle.std.proofs.Common.{◌≡◌, ◌∙◌, IsTrue, false}
use Rattle.ats_dict.specs.Header.{AreInRange, HasHeader}
use Rattle.ats_dict.proofs.HeaderLemmas.{joined, parts, has}
use Rattle.ats_dict.proofs.header.Header.read.Goals as goal
use Rattle.ats_dict.proofs.header.Header.read.Goals.{then-version-ne-VERSION-via-then-version-ne-VERSION, then-version-ne-VERSION-via-else-version-ne-VERSION+then-not-are_in_range}

pub returns-then-version-ne-VERSION-clause-again : goal.returns-then-version-ne-VERSION-clause-again
returns-then-version-ne-VERSION-clause-again c documents dict_leaves a b e header is =
    let has_it : HasHeader c.args.bytes.now = rw is (has documents dict_leaves a b e header) in
    let range : AreInRange c.number_at-documents.result c.number_at-dict_leaves.result =
    rw (c.number_at-documents.ensures, c.number_at-dict_leaves.ensures) has_it.numbers in
    absurd (elim c.then-version-ne-VERSION.branch [
      | then-version-ne-VERSION-via-then-version-ne-VERSION w ↦ w.if-version-ne-VERSION.true has_it.version
      | then-version-ne-VERSION-via-else-version-ne-VERSION+then-not-are_in_range w ↦ let told : IsTrue w.are_in_range.result = w.are_in_range.ensures.1 range in
          let other : w.are_in_range.result ≡ false = w.if-not-are_in_range.true in cc
    ])

pub returns-clause-bytes : goal.returns-clause-bytes
returns-clause-bytes c =
    rw (c.number_at-documents.ensures, c.number_at-dict_leaves.ensures, c.root_at.ensures, c.root_at-2.ensures, c.root_at-3.ensures)
    (joined c.args.bytes.now c.told-bytes c.fits-bytes c.if-version-ne-VERSION.false)

pub returns-clause-again : goal.returns-clause-again
returns-clause-again c documents dict_leaves a b e header is =
    let at = rw (← is) at (parts documents dict_leaves a b e header) in
    let first = c.number_at-documents.ensures ∙ at.counts in
    let second = c.number_at-dict_leaves.ensures ∙ at.leaves in
    let third = c.root_at.ensures ∙ at.dict in
    let fourth = c.root_at-2.ensures ∙ at.docs in
    let fifth = c.root_at-3.ensures ∙ at.texts in
    rw (first, second, third, fourth, fifth)
