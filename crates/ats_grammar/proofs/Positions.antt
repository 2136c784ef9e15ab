-- What a reader knows of the bytes after a field.
use Rattle.std.proofs.Common.{◌≡◌, ◌∙◌, ℕ, zero, suc, ◌+◌, ◌≤◌, List, [], ◌∷◌, ◌++◌, length, take, sym, ap, subst, append_assoc, length-append, arith}
use Rattle.std.proofs.lemmas.List.{take_at}
use Rattle.ats_grammar.specs.declared.fault.ShapeFault.{ShapeFault}
use Rattle.ats_grammar.specs.declared.fault.ShapeKind.{ShapeKind}
use Rattle.ats_grammar.specs.declared.field_kinds.Next.TheVariants as next
use Rattle.ats_grammar.specs.declared.reader.Reader.{Reader}
use Rattle.ats_grammar.specs.Table.{Table, Number, Bytes, spelled, AreBytes, head, follow}
use Rattle.ats_grammar.specs.Inner.Reading.{IsTaken, IsRefused}
use Rattle.ats_grammar.specs.Position.{StandsBefore, Passes, HasFault}
use Rattle.ats_grammar.proofs.Fronts.{front_more, refused}
use Rattle.ats_grammar.proofs.Spelling.{spelled-number}

-- the first of two parts holds bytes if both do
pub front_bytes : (front left : List ℕ) → AreBytes (front ++ left) → AreBytes front
front_bytes [] left small i = omega arith
front_bytes (b ∷ bs) left small zero = small 0
front_bytes (b ∷ bs) left small (suc i) = front_bytes bs left (λ j. small (suc j)) i

-- one more field was taken
pub passes : (reader later : Reader) (t : Table) (n : ℕ) (taken : IsTaken (head t) reader.rest.now n later.rest.now) → later.total ≡ reader.total
    → Passes reader later t (taken.field ∷ []) (follow t n)
passes reader later t n taken total schema bytes fields stands = record {
  front = front_more schema bytes fields t reader.rest.now n taken.field later.rest.now stands.front taken.parts taken.is taken.value;
  few = stands.few;
  total = total ∙ stands.total;
}

-- a number is the bytes that were taken
pub field_spelled : (size low high : ℕ) (kind : ShapeKind) (bytes : List ℕ) (n : ℕ) (after : List ℕ) (taken : IsTaken (next.Number size low high kind) bytes n after) → AreBytes bytes
    → taken.field ≡ spelled size n
field_spelled size low high kind bytes n after taken small =
    sym (ap (spelled size) taken.value ∙ spelled-number size taken.field taken.is.0 (front_bytes taken.field after (subst AreBytes taken.parts small)))

-- the next field has this fault
pub has_fault : (reader : Reader) (t : Table) (fault : ShapeFault) → IsRefused (head t) reader.rest.now fault.kind → fault.at + length reader.rest.now ≡ reader.total
    → HasFault reader t fault
has_fault reader t fault is at schema bytes fields stands =
    refused schema bytes t reader.rest.now fault stands.few (record { fields = fields; front = stands.front }) is (at ∙ stands.total)

-- ---- several calls

pub passes_both : (a b c : Reader) (t u v : Table) (xs ys : List (List ℕ)) → Passes a b t xs u → Passes b c u ys v → Passes a c t (xs ++ ys) v
passes_both a b c t u v xs ys first second schema bytes fields stands =
    subst (λ (zs : List (List ℕ)). StandsBefore schema bytes zs c v) (append_assoc fields xs ys) (second schema bytes (fields ++ xs) (first schema bytes fields stands))

pub fault_after : (a b : Reader) (t u : Table) (xs : List (List ℕ)) (fault : ShapeFault) → Passes a b t xs u → HasFault b u fault → HasFault a t fault
fault_after a b t u xs fault first second schema bytes fields stands = second schema bytes (fields ++ xs) (first schema bytes fields stands)

-- ---- one number

module _ (reader later : Reader) (size low high n : ℕ) (kind : ShapeKind) (taken : IsTaken (next.Number size low high kind) reader.rest.now n later.rest.now) where
  pub number_passes : (rest : ℕ → Table) → AreBytes reader.rest.now → later.total ≡ reader.total → Passes reader later (Number size low high kind rest) (spelled size n ∷ []) (rest n)
  number_passes rest small total =
      subst (λ (field : List ℕ). Passes reader later (Number size low high kind rest) (field ∷ []) (rest n)) (field_spelled size low high kind reader.rest.now n later.rest.now taken small)
      (passes reader later (Number size low high kind rest) n taken total)

  pub number_parts : AreBytes reader.rest.now → reader.rest.now ≡ spelled size n ++ later.rest.now
  number_parts small = taken.parts ∙ ap (λ (field : List ℕ). field ++ later.rest.now) (field_spelled size low high kind reader.rest.now n later.rest.now taken small)

-- ---- bytes of any content

module _ (reader later : Reader) (size n : ℕ) (taken : IsTaken (next.Bytes size) reader.rest.now n later.rest.now) where
  pub bytes_there : size ≤ length reader.rest.now
  bytes_there = omega (arith, taken.is, ap length taken.parts, length-append taken.field later.rest.now)

  pub bytes_taken : take size reader.rest.now ≡ taken.field
  bytes_taken = ap (take size) taken.parts ∙ take_at taken.field later.rest.now size taken.is

  pub bytes_passes : (rest : Table) (lent : List ℕ) → lent ≡ take size reader.rest.now → later.total ≡ reader.total → Passes reader later (Bytes size rest) (lent ∷ []) rest
  bytes_passes rest lent is total =
      subst (λ (field : List ℕ). Passes reader later (Bytes size rest) (field ∷ []) rest) (sym (is ∙ bytes_taken)) (passes reader later (Bytes size rest) n taken total)

  pub bytes_parts : (lent : List ℕ) → lent ≡ take size reader.rest.now → reader.rest.now ≡ lent ++ later.rest.now
  bytes_parts lent is = taken.parts ∙ ap (λ (field : List ℕ). field ++ later.rest.now) (sym (is ∙ bytes_taken))
