use Rattle.std.proofs.Common.{◌≡◌, ◌∙◌, ◌-◌, ◌++◌, ℕ, List, drop, length, replicate, ap₂, arith}
use Rattle.std.proofs.lemmas.List.{drop-replicate}
use Rattle.ats_terms.proofs.Fronts.{front_joined, front_padded, front_read}
use Rattle.ats_terms.proofs.leading.front.Goals as goal

pub returns-then-term-ge8-clause-value : goal.returns-then-term-ge8-clause-value
returns-then-term-ge8-clause-value c = c.read_u64.ensures ∙ front_read c.args.term.now

pub returns-clause-value : goal.returns-clause-value
returns-clause-value c =
    let term = c.args.term.now in
    let first = c.copy_from_slice.new.self ++ drop (length term) (replicate {A = ℕ} 8 0) in
    let padded : first ≡ term ++ replicate (8 - length term) 0 =
    ap₂ (λ (front back : List ℕ). front ++ back) c.copy_from_slice.ensures.after (drop-replicate (length term) 8 0) in
    c.read_u64-2.ensures ∙ front_read first ∙ rw padded (front_padded 8 (8 - length term) term)

pub returns-then-term-ge4-clause-value : goal.returns-then-term-ge4-clause-value
returns-then-term-ge4-clause-value c =
    front_joined c.args.term.now c.from.result c.from-last.result (λ i. omega (arith, c.type_inv.term i)) c.if-term-ge4.true c.if-term-ge8.false
    (c.from.ensures ∙ c.read_u32-then-term-ge4.ensures) (c.from-last.ensures ∙ c.read_u32.ensures)
