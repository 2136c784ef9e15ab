use Rattle.std.proofs.Common.{sym, arith}
use Rattle.std.proofs.lemmas.Bool.{eqb-true}
use Rattle.ats_auditors.proofs.ListCuts.{unspelled, unspelled_rest, unnamed, unnumbered, spelled, some_bytes}
use Rattle.ats_auditors.proofs.listing.parts.Goals as goal

pub returns-in_default-split_once : goal.returns-in_default-split_once
returns-in_default-split_once c listed is =
    unspelled c.args.line.now c.in-Ok.text.now c.in-Ok.ensures.cases.0 listed is (c.in_default-split_once.ensures.byte (omega arith) (λ w o h. h))

pub returns-in_default-split_once-2 : goal.returns-in_default-split_once-2
returns-in_default-split_once-2 c listed is =
    unspelled_rest c.args.line.now c.in-Ok.text.now c.in-Ok.ensures.cases.0 listed is c.in-Some.word.now c.in-Some.rest.now
    (c.in-Some.ensures.byte (omega arith) (λ w o h. h)) (c.in_default-split_once-2.ensures.byte (omega arith) (λ w o h. h))

pub returns-then-is_empty : goal.returns-then-is_empty
returns-then-is_empty c listed is =
    let empty = c.if-is_empty.ensures in
    unnamed c.args.line.now c.in-Ok.text.now c.in-Ok.ensures.cases.0 listed is c.in-Some.word.now c.in-Some.rest.now c.in-Some-split_once.proof.now c.in-Some-split_once.query.now
    (c.in-Some.ensures.byte (omega arith) (λ w o h. h)) (c.in-Some-split_once.ensures.byte (omega arith) (λ w o h. h)) (eqb-true _ 0 (sym empty))

pub returns-in-Some-number : goal.returns-in-Some-number
returns-in-Some-number c =
    let some = c.if-is_empty.ensures in
    let number = c.in-Some-number.ensures in
    spelled c.args.line.now c.in-Ok.text.now c.in-Some.word.now c.in-Some.rest.now c.in-Some-split_once.proof.now c.in-Some-split_once.query.now c.in-Some-number.r
    c.in-Ok.ensures.cases.0 c.in-Ok.ensures.cases.1 (c.in-Some.ensures.byte (omega arith) (λ w o h. h)) (c.in-Some-split_once.ensures.byte (omega arith) (λ w o h. h))
    (sym number) (some_bytes _ (sym some))

pub returns-in-None : goal.returns-in-None
returns-in-None c listed is =
    let number = c.in-None.ensures in
    unnumbered c.args.line.now c.in-Ok.text.now c.in-Ok.ensures.cases.0 listed is c.in-Some.word.now c.in-Some.rest.now
    (c.in-Some.ensures.byte (omega arith) (λ w o h. h)) (sym number)
