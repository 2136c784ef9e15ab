-- A fault that is no cut stays, whatever bytes follow.
use Rattle.std.proofs.Common.{◌≡◌, ◌∙◌, ℕ, ◌+◌, ◌≤◌, cond, List, [], ◌∷◌, ◌++◌, length, take, drop, refl, sym, ap, append_assoc, length-append, arith, inl, inr}
use Rattle.std.specs.List.{concat}
use Rattle.std.proofs.lemmas.Bool.{cases_lt, lt-ltb, le-ltb}
use Rattle.std.proofs.lemmas.List.{take_at, take-append-le, take-append-drop}
use Rattle.ats_grammar.specs.declared.fault.ShapeFault.{ShapeFault}
use Rattle.ats_grammar.specs.declared.fault.ShapeKind.{ShapeKind}
use Rattle.ats_grammar.specs.declared.fault.ShapeKind.TheVariants.{Cut}
use Rattle.ats_grammar.specs.declared.field_kinds.Next.{Next}
use Rattle.ats_grammar.specs.declared.field_kinds.Next.TheVariants as next
use Rattle.ats_grammar.specs.Table.{Table, Schema, number, head, follow, size_of}
use Rattle.ats_grammar.specs.Front.{IsFront, IsLongest, IsFirst}
use Rattle.ats_grammar.specs.Reading.{IsNumberOf}
use Rattle.ats_grammar.specs.Inner.Reading.{BeginsWithNoField, IsRefused}
use Rattle.ats_grammar.proofs.Fronts.{field_size, front_more, longest}

number_itself : (n : Next) (field : List ℕ) → IsNumberOf n field (number field)
number_itself next.End field = tt
number_itself (next.Number size low high kind) field = refl
number_itself (next.Bytes size) field = tt

stuck_longest : (schema : Schema) (bytes : List ℕ) (fields : List (List ℕ)) (u : Table) (left : List ℕ) → IsFront schema bytes fields u left → IsLongest schema bytes fields → BeginsWithNoField (head u) left
stuck_longest schema bytes fields u left front most field after e is =
    let next_front = front_more schema bytes fields u left (number field) field after front e is (number_itself (head u) field) in
    omega (arith, most (fields ++ field ∷ []) (follow u (number field)) after next_front, length-append fields (field ∷ []))

stuck_more : (n : Next) (left more : List ℕ) → size_of n ≤ length left → BeginsWithNoField n left → BeginsWithNoField n (left ++ more)
stuck_more n left more enough stuck field after e is =
    let begins : take (size_of n) left ≡ field = sym (take-append-le (size_of n) left more enough) ∙ ap (take (size_of n)) e ∙ take_at field after (size_of n) (field_size n field is) in
    stuck field (drop (size_of n) left) (sym (take-append-drop (size_of n) left) ∙ ap (λ (xs : List ℕ). xs ++ drop (size_of n) left) begins) is

refused_more : (n : Next) (left more : List ℕ) (kind : ShapeKind) → IsRefused n left kind → (kind ≡ Cut → ⊥) → IsRefused n (left ++ more) kind
refused_more next.End left more kind is no_cut = record { stuck = λ field after e f. f; more = omega (arith, is.more, length-append left more); same = is.same }
refused_more (next.Number size low high other) left more kind is no_cut = elim (cases_lt (length left) size) [
  | inl short ↦ absurd (no_cut (is.same ∙ ap (λ b. cond b Cut other) (lt-ltb _ _ short)))
  | inr long ↦ record {
    stuck = stuck_more (next.Number size low high other) left more long is.stuck;
    more = tt;
    same = is.same ∙ ap (λ b. cond b Cut other) (le-ltb _ _ long) ∙ sym (ap (λ b. cond b Cut other) (le-ltb (length (left ++ more)) size (omega (arith, long, length-append left more))));
  }
]
refused_more (next.Bytes size) left more kind is no_cut = absurd (no_cut is.same)

pub fault_stays : (schema : Schema) (bytes more : List ℕ) (fault : ShapeFault) → IsFirst schema bytes fault → (fault.kind ≡ Cut → ⊥) → length bytes + length more ≤ schema.limit → IsFirst schema (bytes ++ more) fault
fault_stays schema bytes more fault is no_cut few =
    let there : IsRefused (head is.table) is.left fault.kind = record { stuck = stuck_longest schema bytes is.fields is.table is.left is.front is.longest; more = is.more; same = is.kind } in
    let following = refused_more (head is.table) is.left more fault.kind there no_cut in
    let front : IsFront schema (bytes ++ more) is.fields is.table (is.left ++ more) = record {
      come = is.front.come;
      parts = ap (λ (xs : List ℕ). xs ++ more) is.front.parts ∙ append_assoc (concat is.fields) is.left more;
    } in
    record {
      few = omega (arith, few, length-append bytes more);
      fields = is.fields;
      table = is.table;
      left = is.left ++ more;
      front = front;
      longest = longest schema (bytes ++ more) is.fields is.table (is.left ++ more) front following.stuck;
      more = following.more;
      at = is.at;
      kind = following.same;
    }
