-- Fields determine the growth that they spell.
use Rattle.std.proofs.Common.{◌≡◌, ◌∙◌, ℕ, List, ◌∷◌, ◌++◌, length, drop, sym, ap}
use Rattle.std.specs.Prelude.{Ok, Err, IfOk, IfErr}
use Rattle.std.specs.declared.result.Result.{Result}
use Rattle.ats_grammar.specs.declared.fault.ShapeFault.{ShapeFault}
use Rattle.ats_grammar.specs.Front.{IsBad}
use Rattle.ats_grammar.specs.Table.{spelled}
use Rattle.ats_grammar.proofs.Public.{no_fault, one_fault, one_spelling}
use Rattle.ats_proof.specs.Value.{archive_fields}
use Rattle.ats_proof.proofs.Public.{archive_tells}
use Rattle.ats_growth_check.specs.Grammar.{growth_schema}
use Rattle.ats_growth_check.specs.Value.{Growth, fields_of, IsGrowth}

pub one_growth : (bytes : List ℕ) (g h : Growth) → IsGrowth bytes g → IsGrowth bytes h → g ≡ h
one_growth bytes g h is also =
    let last : Growth → List (List ℕ) = λ g. spelled 1 (length g.digests) ∷ g.digests
    in let same : fields_of g ≡ fields_of h = one_spelling growth_schema bytes (fields_of g) (fields_of h) is also
    in let old = archive_tells g.old_format h.old_format g.old h.old (archive_fields g.new_format g.new ++ last g) (archive_fields h.new_format h.new ++ last h) (ap (drop 1) same)
    in let new = archive_tells g.new_format h.new_format g.new h.new (last g) (last h) old.header.rest
    in let digests : g.digests ≡ h.digests = ap (drop 1) new.header.rest
    in λ i. record { old_format = old.format i; old = old.header.value i; new_format = new.format i; new = new.header.value i; digests = digests i }

-- two spellings of one growth are the same bytes
pub one_join : (bytes others : List ℕ) (g : Growth) → IsGrowth bytes g → IsGrowth others g → bytes ≡ others
one_join bytes others g is also = is.whole.parts ∙ sym also.whole.parts

-- ---- what reading returns, if it returns only what the bytes spell, and only faults that they have

pub reads : (bytes : List ℕ) (result : Result Growth ShapeFault) → IfOk result (IsGrowth bytes) → IfErr result (IsBad growth_schema bytes)
    → (g : Growth) → IsGrowth bytes g → result ≡ Ok g
reads bytes (Ok h) good bad g is = ap Ok (one_growth bytes h g good is)
reads bytes (Err fault) good bad g is = absurd (no_fault growth_schema bytes fault (fields_of g) bad is)

pub refuses : (bytes : List ℕ) (result : Result Growth ShapeFault) → IfOk result (IsGrowth bytes) → IfErr result (IsBad growth_schema bytes)
    → (fault : ShapeFault) → IsBad growth_schema bytes fault → result ≡ Err fault
refuses bytes (Ok g) good bad fault is = absurd (no_fault growth_schema bytes fault (fields_of g) is good)
refuses bytes (Err e) good bad fault is = ap Err (one_fault growth_schema bytes e fault bad is)
