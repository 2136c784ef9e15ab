use Rattle.std.proofs.Common.{◌∙◌, ◌++◌, ◌∷◌, [], ℕ, List, length, sym, ap, ap₂, subst, append_assoc, arith}
use Rattle.std.proofs.lemmas.Result.{err_from_is_err_and}
use Rattle.ats_grammar.specs.Front.{Spells}
use Rattle.ats_grammar.specs.Grammar.{digests}
use Rattle.ats_grammar.specs.Table.{End, spelled}
use Rattle.ats_proof.proofs.Encoded.{length_digests}
use Rattle.ats_proof.proofs.Taking.{digests-sized}
use Rattle.ats_proof.proofs.shared_fields.read_digests.Goals as goal

pub returns-in_err-lent-clause-refused : goal.returns-in_err-lent-clause-refused
returns-in_err-lent-clause-refused c =
    let told = err_from_is_err_and c.from_residual-in_err-lent.result c.from_residual-in_err-lent.ensures.1 in
    rw (told.1, told.2) (λ schema bytes fields stands.
    c.in_err-lent.ensures.refused End schema bytes _ (c.in_ok-count.ensures.read (λ n. digests n End) schema bytes fields stands))

pub returns-in_err-end-clause-refused : goal.returns-in_err-end-clause-refused
returns-in_err-end-clause-refused c =
    let told = err_from_is_err_and c.from_residual-in_err-end.result c.from_residual-in_err-end.ensures.1 in
    rw (told.1, told.2) (λ schema bytes fields stands.
    c.in_err-end.ensures.refused schema bytes _ (c.in_ok-lent.ensures.read.2 End schema bytes _ (c.in_ok-count.ensures.read (λ n. digests n End) schema bytes fields stands)))

pub of-requires : goal.of-requires
of-requires c =
    let found = c.in_ok-lent.ensures.read.1 in
    omega (arith, c.requires, c.in_ok-count.ensures.range, found.many, ap length found.join ∙ length_digests c.in_ok-lent.ensures.read.0 found.sized)

pub returns-clause-few : goal.returns-clause-few
returns-clause-few c =
    let found = c.in_ok-lent.ensures.read.1 in
    omega (arith, c.in_ok-count.ensures.range, found.many, ap length (c.of.ensures.digests c.in_ok-count.count c.in_ok-lent.ensures.read.0 found))

pub returns-clause-sized : goal.returns-clause-sized
returns-clause-sized c = digests-sized c.of.result.left c.of.result.bytes.now c.of.result.fits

pub returns-clause-spelled : goal.returns-clause-spelled
returns-clause-spelled c schema bytes fields stands =
    let count : ℕ = c.in_ok-count.count in
    let all : List (List ℕ) = c.in_ok-lent.ensures.read.0 in
    let found = c.in_ok-lent.ensures.read.1 in
    let same = sym (c.of.ensures.digests count all found) in
    let first = c.in_ok-count.ensures.read (λ n. digests n End) schema bytes fields stands in
    subst (λ (fs : List (List ℕ)). Spells schema bytes fs)
    (append_assoc fields (spelled 1 count ∷ []) all ∙ ap₂ (λ (n : ℕ) (ds : List (List ℕ)). fields ++ spelled 1 n ∷ ds) (sym found.many ∙ ap length same) same)
    (c.in_ok-end.ensures.spelled schema bytes _ (c.in_ok-lent.ensures.read.2 End schema bytes _ first))
