-- Beside specs/Pending: what only the functions of this room promise one another.
use Rattle.std.specs.Prelude.{◌≡◌, ℕ, Bool, true, false, if◌then◌else◌}
use Rattle.ats_grammar.specs.declared.fault.ShapeKind.{ShapeKind}
use Rattle.ats_grammar.specs.declared.fault.ShapeKind.TheVariants.{Cut}
use Rattle.ats_grammar.specs.declared.field_kinds.Next.{Next}
use Rattle.ats_grammar.specs.declared.field_kinds.Next.TheVariants as next
use Rattle.ats_grammar.specs.declared.reader_state.DictPart.TheVariants as dict
use Rattle.ats_grammar.specs.declared.reader_state.TermsPart.TheVariants as terms
use Rattle.ats_grammar.specs.declared.reader_state.Part.{Part}
use Rattle.ats_grammar.specs.declared.reader_state.Part.TheVariants.{Dict, Terms}

-- a term may have no bytes; no other field does
abbrev pub is_term : Part → Bool
is_term (Dict dict.Term) = true
is_term (Terms terms.Term) = true
is_term _ = false

abbrev pub may_be_empty : Part → ℕ
may_be_empty part = if is_term part then 1 else 0

abbrev pub is_cut : ShapeKind → Bool
is_cut Cut = true
is_cut _ = false

-- a number that is out of range is not reported as a cut
abbrev pub HasOwnKind : Next → Type 0
HasOwnKind (next.Number size low high kind) = is_cut kind ≡ false
HasOwnKind _ = Unit {0}
