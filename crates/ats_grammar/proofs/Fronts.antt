-- Two fronts of the same bytes agree as far as both go.
use Rattle.std.proofs.Common.{◌≡◌, ◌∙◌, ℕ, ◌+◌, ◌≤◌, List, [], ◌∷◌, ◌++◌, length, take, drop, refl, sym, ap, ap₂, subst, append_assoc, length-append, arith, inl, inr, Result, Ok, Err}
use Rattle.std.specs.Prelude.{IfErr, OnOk}
use Rattle.std.specs.List.{concat}
use Rattle.std.proofs.lemmas.List.{take_at, drop_at, append-nil}
use Rattle.std.proofs.lemmas.List.Folds.{concat-append}
use Rattle.ats_grammar.specs.declared.fault.ShapeFault.{ShapeFault}
use Rattle.ats_grammar.specs.declared.fault.ShapeKind.{ShapeKind}
use Rattle.ats_grammar.specs.declared.fault.ShapeKind.TheVariants.{Trailing}
use Rattle.ats_grammar.specs.declared.field_kinds.Next.{Next}
use Rattle.ats_grammar.specs.declared.field_kinds.Next.TheVariants as next
use Rattle.ats_grammar.specs.Table.{Table, Schema, End, Number, Bytes, number, head, follow, size_of}
use Rattle.ats_grammar.specs.Front.{IsField, Come, IsFront, Spells, IsSpelling, IsLongest, IsBad, IsOpen, kind_of}
use Rattle.ats_grammar.specs.Reading.{IsNumberOf, IsReached}
use Rattle.ats_grammar.specs.Inner.Reading.{IsTaken, BeginsWithNoField, IsRefused}

-- ---- fields of one size

pub field_size : (n : Next) (field : List ℕ) → IsField n field → length field ≡ size_of n
field_size next.End field is = absurd is
field_size (next.Number size low high kind) field is = is.0
field_size (next.Bytes size) field is = is

pub record AreSame (f g l m : List ℕ) : Type 0 where
  pub fields : f ≡ g
  pub left : l ≡ m

same_parts : (f g l m : List ℕ) → length f ≡ length g → f ++ l ≡ g ++ m → AreSame f g l m
same_parts f g l m len e = record {
  fields = sym (take_at f l (length f) refl) ∙ ap (take (length f)) e ∙ take_at g m (length f) (sym len);
  left = sym (drop_at f l (length f) refl) ∙ ap (drop (length f)) e ∙ drop_at g m (length f) (sym len);
}

same_field : (n : Next) (f g l m : List ℕ) → IsField n f → IsField n g → f ++ l ≡ g ++ m → AreSame f g l m
same_field n f g l m is other e = same_parts f g l m (field_size n f is ∙ sym (field_size n g other)) e

-- ---- one field more

come_more : (fields : List (List ℕ)) (t u : Table) (field : List ℕ) → Come fields t u → IsField (head u) field → Come (fields ++ field ∷ []) t (follow u (number field))
come_more [] t u field same is = (subst (λ (x : Table). IsField (head x) field) (sym same) is, ap (λ (x : Table). follow x (number field)) same)
come_more (f ∷ fields) t u field come is = (come.0, come_more fields (follow t (number f)) u field come.1 is)

-- if the field is a number, what follows depends only on it
follow_same : (t : Table) (field : List ℕ) (n : ℕ) → IsNumberOf (head t) field n → follow t n ≡ follow t (number field)
follow_same End field n is = refl
follow_same (Number size low high kind rest) field n is = ap rest is
follow_same (Bytes size rest) field n is = refl

pub front_more : (schema : Schema) (bytes : List ℕ) (fields : List (List ℕ)) (t : Table) (left : List ℕ) (n : ℕ) (field after : List ℕ) → IsFront schema bytes fields t left
    → left ≡ field ++ after → IsField (head t) field → IsNumberOf (head t) field n → IsFront schema bytes (fields ++ field ∷ []) (follow t n) after
front_more schema bytes fields t left n field after front parts is value = record {
  come = subst (λ (u : Table). Come (fields ++ field ∷ []) schema.table u) (sym (follow_same t field n value)) (come_more fields schema.table t field front.come is);
  parts = front.parts ∙ ap (λ (xs : List ℕ). concat fields ++ xs) parts ∙ sym (append_assoc (concat fields) field after)
      ∙ ap (λ (xs : List ℕ). (concat fields ++ xs) ++ after) (sym (append-nil field))
      ∙ ap (λ (xs : List ℕ). xs ++ after) (sym (concat-append fields (field ∷ [])));
}

pub reached_more : (schema : Schema) (bytes : List ℕ) (t : Table) (left : List ℕ) (n : ℕ) (after : List ℕ) → IsReached schema bytes t left → IsTaken (head t) left n after → IsReached schema bytes (follow t n) after
reached_more schema bytes t left n after reached taken = record {
  fields = reached.fields ++ taken.field ∷ [];
  front = front_more schema bytes reached.fields t left n taken.field after reached.front taken.parts taken.is taken.value;
}

-- ---- a front that is stuck is the longest

not_longer : (fields others : List (List ℕ)) (t u v : Table) (left rest : List ℕ) → Come fields t u → Come others t v
    → concat fields ++ left ≡ concat others ++ rest → BeginsWithNoField (head u) left → length others ≤ length fields
not_longer fields [] t u v left rest come other e stuck = omega arith
not_longer [] (o ∷ others) t u v left rest same other e stuck =
    absurd (stuck o (concat others ++ rest) (e ∙ append_assoc o (concat others) rest) (subst (λ (x : Table). IsField (head x) o) same other.0))
not_longer (f ∷ fields) (o ∷ others) t u v left rest come other e stuck =
    let same = same_field (head t) f o (concat fields ++ left) (concat others ++ rest) come.0 other.0 (sym (append_assoc f (concat fields) left) ∙ e ∙ append_assoc o (concat others) rest) in
    let there : Come others (follow t (number f)) v = subst (λ (x : List ℕ). Come others (follow t (number x)) v) (sym same.fields) other.1 in
    omega (arith, not_longer fields others (follow t (number f)) u v left rest come.1 there same.left stuck)

pub longest : (schema : Schema) (bytes : List ℕ) (fields : List (List ℕ)) (u : Table) (left : List ℕ) → IsFront schema bytes fields u left → BeginsWithNoField (head u) left → IsLongest schema bytes fields
longest schema bytes fields u left front stuck others v rest other =
    not_longer fields others schema.table u v left rest front.come other.come (sym front.parts ∙ other.parts) stuck

-- ---- fronts of one length are the same

pub record AreOneFront (fields others : List (List ℕ)) (u v : Table) (left rest : List ℕ) : Type 0 where
  pub fields_same : fields ≡ others
  pub tables_same : u ≡ v
  pub left_same : left ≡ rest

one_front : (fields others : List (List ℕ)) (t u v : Table) (left rest : List ℕ) → Come fields t u → Come others t v
    → concat fields ++ left ≡ concat others ++ rest → length fields ≡ length others → AreOneFront fields others u v left rest
one_front [] [] t u v left rest same other e len = record { fields_same = refl; tables_same = sym same ∙ other; left_same = e }
one_front [] (o ∷ others) t u v left rest same other e len = absurd (omega (arith, len))
one_front (f ∷ fields) [] t u v left rest same other e len = absurd (omega (arith, len))
one_front (f ∷ fields) (o ∷ others) t u v left rest come other e len =
    let same = same_field (head t) f o (concat fields ++ left) (concat others ++ rest) come.0 other.0 (sym (append_assoc f (concat fields) left) ∙ e ∙ append_assoc o (concat others) rest) in
    let there : Come others (follow t (number f)) v = subst (λ (x : List ℕ). Come others (follow t (number x)) v) (sym same.fields) other.1 in
    let one = one_front fields others (follow t (number f)) u v left rest come.1 there same.left (omega (arith, len)) in
    record { fields_same = ap₂ (λ (x : List ℕ) (xs : List (List ℕ)). x ∷ xs) same.fields one.fields_same; tables_same = one.tables_same; left_same = one.left_same }

both_longest : (schema : Schema) (bytes : List ℕ) (fields others : List (List ℕ)) (u v : Table) (left rest : List ℕ) → IsFront schema bytes fields u left → IsFront schema bytes others v rest
    → IsLongest schema bytes fields → IsLongest schema bytes others → AreOneFront fields others u v left rest
both_longest schema bytes fields others u v left rest front other most most_other =
    one_front fields others schema.table u v left rest front.come other.come (sym front.parts ∙ other.parts)
    (omega (arith, most others v rest other, most_other fields u left front))

-- ---- at most one fault, and none of what spells a proof

pub whole_is_longest : (schema : Schema) (bytes : List ℕ) (fields : List (List ℕ)) → IsFront schema bytes fields End [] → IsLongest schema bytes fields
whole_is_longest schema bytes fields front = longest schema bytes fields End [] front (λ field after e is. is)

pub fault_same : (f g : ShapeFault) → f.at ≡ g.at → f.kind ≡ g.kind → f ≡ g
fault_same f g at kind = ap₂ (λ (n : ℕ) (k : ShapeKind). let r : ShapeFault = record { at = n; kind = k } in r) at kind

pub one_fault : (schema : Schema) (bytes : List ℕ) (f g : ShapeFault) → IsBad schema bytes f → IsBad schema bytes g → f ≡ g
one_fault schema bytes f g (inl a) (inl b) = fault_same f g (a.at ∙ sym b.at) (a.kind ∙ sym b.kind)
one_fault schema bytes f g (inl a) (inr b) = absurd (omega (arith, a.many, b.few))
one_fault schema bytes f g (inr a) (inl b) = absurd (omega (arith, b.many, a.few))
one_fault schema bytes f g (inr a) (inr b) =
    let one = both_longest schema bytes a.fields b.fields a.table b.table a.left b.left a.front b.front a.longest b.longest in
    fault_same f g (a.at ∙ ap (λ (xs : List (List ℕ)). length (concat xs)) one.fields_same ∙ sym b.at)
    (a.kind ∙ ap₂ (λ (t : Table) (xs : List ℕ). kind_of (head t) (length xs)) one.tables_same one.left_same ∙ sym b.kind)

pub no_fault : (schema : Schema) (bytes : List ℕ) (f : ShapeFault) (fields : List (List ℕ)) → IsBad schema bytes f → Spells schema bytes fields → ⊥
no_fault schema bytes f fields (inl a) spells = omega (arith, a.many, spells.few)
no_fault schema bytes f fields (inr a) spells =
    let one = both_longest schema bytes fields a.fields End a.table [] a.left spells.whole a.front (whole_is_longest schema bytes fields spells.whole) a.longest in
    let open_end : IsOpen (head End) [] = subst (λ (xs : List ℕ). IsOpen (head End) xs) (sym one.left_same) (subst (λ (t : Table). IsOpen (head t) a.left) (sym one.tables_same) a.more) in
    omega (arith, open_end)

pub refused : (schema : Schema) (bytes : List ℕ) (t : Table) (left : List ℕ) (fault : ShapeFault) → length bytes ≤ schema.limit → IsReached schema bytes t left → IsRefused (head t) left fault.kind
    → fault.at + length left ≡ length bytes → IsBad schema bytes fault
refused schema bytes t left fault few reached is at = inr (record {
  few = few;
  fields = reached.fields;
  table = t;
  left = left;
  front = reached.front;
  longest = longest schema bytes reached.fields t left reached.front is.stuck;
  more = is.more;
  at = omega (arith, at, ap length reached.front.parts, length-append (concat reached.fields) left);
  kind = is.same;
})

pub reached_few : (schema : Schema) (bytes : List ℕ) (t : Table) (left : List ℕ) → IsReached schema bytes t left → length left ≤ length bytes
reached_few schema bytes t left reached = omega (arith, ap length reached.front.parts, length-append (concat reached.fields) left)

-- a right result is the only right one
pub reads : (schema : Schema) (bytes : List ℕ) (answer : Result (Unit {0}) ShapeFault) → IfErr answer (λ f. IsBad schema bytes f) → (fields : List (List ℕ)) → Spells schema bytes fields → answer ≡ Ok tt
reads schema bytes (Ok x) bad fields spells = refl
reads schema bytes (Err e) bad fields spells = absurd (no_fault schema bytes e fields bad spells)

pub refuses : {T : Type 0} → (schema : Schema) (bytes : List ℕ) (answer : Result T ShapeFault) → OnOk answer (IsSpelling schema bytes) → IfErr answer (λ f. IsBad schema bytes f) → (fault : ShapeFault) → IsBad schema bytes fault → answer ≡ Err fault
refuses schema bytes (Ok x) good bad fault is = absurd (no_fault schema bytes fault good.fields is good.spells)
refuses schema bytes (Err e) good bad fault is = ap Err (one_fault schema bytes e fault bad is)

pub one_spelling : (schema : Schema) (bytes : List ℕ) (fields others : List (List ℕ)) → Spells schema bytes fields → Spells schema bytes others → fields ≡ others
one_spelling schema bytes fields others spells other =
    (both_longest schema bytes fields others End End [] [] spells.whole other.whole (whole_is_longest schema bytes fields spells.whole) (whole_is_longest schema bytes others other.whole)).fields_same

pub trailing : (schema : Schema) (bytes more : List ℕ) (fields : List (List ℕ)) → Spells schema bytes fields → 1 ≤ length more → length bytes + length more ≤ schema.limit
    → IsBad schema (bytes ++ more) (record { at = length bytes; kind = Trailing })
trailing schema bytes more fields spells some few =
    let join : bytes ≡ concat fields = spells.whole.parts ∙ append-nil (concat fields) in
    let front : IsFront schema (bytes ++ more) fields End more = record { come = spells.whole.come; parts = ap (λ (xs : List ℕ). xs ++ more) join } in
    inr (record {
      few = omega (arith, few, length-append bytes more);
      fields = fields;
      table = End;
      left = more;
      front = front;
      longest = longest schema (bytes ++ more) fields End more front (λ field after e is. is);
      more = some;
      at = ap length join;
      kind = refl;
    })
