use Rattle.std.proofs.Common.{◌∙◌, ◌++◌, ◌∷◌, [], ℕ, List, sym, ap₂, subst, append_assoc}
use Rattle.std.proofs.lemmas.Result.{err_from_is_err_and}
use Rattle.ats_dict.specs.declared.header.Header.{Header}
use Rattle.ats_grammar.specs.Grammar.{header}
use Rattle.ats_grammar.specs.Position.{StandsBefore}
use Rattle.ats_grammar.specs.Table.{spelled}
use Rattle.ats_proof.specs.Value.{header_fields}
use Rattle.ats_proof.proofs.SharedFields.{header_is}
use Rattle.ats_proof.proofs.shared_fields.read_archive.Goals as goal

pub returns-in_err-bytes-clause-refused : goal.returns-in_err-bytes-clause-refused
returns-in_err-bytes-clause-refused c =
    let told = err_from_is_err_and c.from_residual-in_err-bytes.result c.from_residual-in_err-bytes.ensures.1 in
    rw (told.1, told.2) (λ rest schema bytes fields stands.
    c.in_err-bytes.ensures.refused rest schema bytes _ (c.in_ok-number.ensures.read (λ _. header rest) schema bytes fields stands))

pub returns-clause-read : goal.returns-clause-read
returns-clause-read c rest schema bytes fields stands =
    let read = c.in_ok-bytes.ensures.read in
    let number = c.in_ok-number.ensures.read (λ _. header rest) schema bytes fields stands in
    subst (λ (all : List (List ℕ)). StandsBefore schema bytes all c.header.new.self rest)
    (append_assoc fields (spelled 1 c.in_ok-number.number ∷ []) _
    ∙ ap₂ (λ (n : ℕ) (h : Header). fields ++ spelled 1 n ∷ header_fields h) (sym c.format_of.ensures) (sym (c.header_at.ensures ∙ header_is c.in_ok-bytes.bytes.now read.0 read.1)))
    (read.2 rest schema bytes _ number)
