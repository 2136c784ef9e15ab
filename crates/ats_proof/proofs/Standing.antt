-- Fields in bytes: one field, and runs of like parts.
use Rattle.std.proofs.Common.{◌≡◌, ◌∙◌, ℕ, zero, suc, ◌+◌, ◌≤◌, List, [], ◌∷◌, ◌++◌, length, take, drop, refl, sym, ap, subst, arith, append_assoc, length-append}
use Rattle.std.specs.List.{concat}
use Rattle.std.proofs.lemmas.List.{take_at, drop_at, drop-drop, get_or-drop, length-drop}
use Rattle.ats_grammar.specs.declared.fault.ShapeKind.{ShapeKind}
use Rattle.ats_grammar.specs.Table.{Table, End, Number, Bytes, number}
use Rattle.ats_grammar.specs.Front.{Come}
use Rattle.ats_proof.specs.Parts.{spelled, number_in}
use Rattle.ats_proof.proofs.Numbers.{AreBytes, spelled-number}

-- the table's last fields are the bytes
pub record Stands (table : Table) (fields : List (List ℕ)) (bytes : List ℕ) : Type 0 where
  pub come : Come fields table End
  pub join : bytes ≡ concat fields
  pub small : AreBytes bytes

-- these are the first fields, of `size` bytes, and the others are the rest's
pub record HasFront (front : List (List ℕ)) (size : ℕ) (rest : Table) (fields : List (List ℕ)) (bytes : List ℕ) : Type 0 where
  pub after : List (List ℕ)
  pub split : fields ≡ front ++ after
  pub stands : Stands rest after (drop size bytes)
  pub space : size ≤ length bytes

abbrev pub IsEnd : Table → Type 0
IsEnd End = Unit {0}
IsEnd (Number size low high kind rest) = ⊥
IsEnd (Bytes size rest) = ⊥

pub record IsRanged (low high n : ℕ) : Type 0 where
  pub least : low ≤ n
  pub most : n ≤ high

pub record HasNumber (size low high : ℕ) (rest : ℕ → Table) (fields : List (List ℕ)) (bytes : List ℕ) : Type 0 where
  pub front : HasFront (spelled size (number_in size bytes) ∷ []) size (rest (number_in size bytes)) fields bytes
  pub range : IsRanged low high (number_in size bytes)

pub small-drop : (k : ℕ) (bytes : List ℕ) → AreBytes bytes → AreBytes (drop k bytes)
small-drop k bytes small i = rw (get_or-drop k bytes i 0) (small (k + i))

-- a byte of the first of two joined lists
small-front : (front left : List ℕ) → AreBytes (front ++ left) → AreBytes front
small-front [] left small i = omega arith
small-front (b ∷ front) left small zero = small 0
small-front (b ∷ front) left small (suc i) = small-front front left (λ j. small (suc j)) i

join_front : (front : List ℕ) (after : List (List ℕ)) (size : ℕ) (rest : Table) (bytes : List ℕ) → bytes ≡ front ++ concat after → AreBytes bytes → length front ≡ size
    → Come after rest End → HasFront (take size bytes ∷ []) size rest (front ∷ after) bytes
join_front front after size rest bytes join small same come =
    let first : take size bytes ≡ front = ap (take size) join ∙ take_at front (concat after) size same in
    let left : drop size bytes ≡ concat after = ap (drop size) join ∙ drop_at front (concat after) size same in
    record {
      after = after;
      split = ap (λ (x : List ℕ). x ∷ after) (sym first);
      stands = record { come = come; join = left; small = small-drop size bytes small };
      space = omega (arith, same, ap length join, length-append front (concat after));
    }

pub has_bytes : (size : ℕ) (rest : Table) (fields : List (List ℕ)) (bytes : List ℕ) → Stands (Bytes size rest) fields bytes → HasFront (take size bytes ∷ []) size rest fields bytes
has_bytes size rest [] bytes is = absurd (subst IsEnd (sym is.come) tt)
has_bytes size rest (f ∷ fields) bytes is = join_front f fields size rest bytes is.join is.small is.come.0 is.come.1

pub has_number : (size low high : ℕ) (kind : ShapeKind) (rest : ℕ → Table) (fields : List (List ℕ)) (bytes : List ℕ) → Stands (Number size low high kind rest) fields bytes → HasNumber size low high rest fields bytes
has_number size low high kind rest [] bytes is = absurd (subst IsEnd (sym is.come) tt)
has_number size low high kind rest (f ∷ fields) bytes is =
    let is_field = is.come.0 in
    let first : take size bytes ≡ f = ap (take size) is.join ∙ take_at f (concat fields) size is_field.0 in
    let value : number_in size bytes ≡ number f = ap number first in
    let come : Come fields (rest (number_in size bytes)) End = subst (λ (n : ℕ). Come fields (rest n) End) (sym value) is.come.1 in
    let own : spelled size (number_in size bytes) ≡ take size bytes =
    ap (spelled size) value ∙ spelled-number size f is_field.0 (small-front f (concat fields) (subst AreBytes is.join is.small)) ∙ sym first in
    let whole = join_front f fields size (rest (number_in size bytes)) bytes is.join is.small is_field.0 come in
    record {
      front = subst (λ (x : List ℕ). HasFront (x ∷ []) size (rest (number_in size bytes)) (f ∷ fields) bytes) (sym own) whole;
      range = record { least = subst (λ (n : ℕ). low ≤ n) (sym value) is_field.1; most = subst (λ (n : ℕ). n ≤ high) (sym value) is_field.2 };
    }

-- a front, and a front of the rest
pub both : (a : List (List ℕ)) (k : ℕ) (t : Table) (fields : List (List ℕ)) (bytes : List ℕ) (b : List (List ℕ)) (m : ℕ) (u : Table) (first : HasFront a k t fields bytes)
    → HasFront b m u first.after (drop k bytes) → HasFront (a ++ b) (k + m) u fields bytes
both a k t fields bytes b m u first second = record {
  after = second.after;
  split = first.split ∙ ap (λ (xs : List (List ℕ)). a ++ xs) second.split ∙ sym (append_assoc a b second.after);
  stands = subst (λ (xs : List ℕ). Stands u second.after xs) (drop-drop m k bytes) second.stands;
  space = omega (arith, first.space, second.space, length-drop k bytes);
}

-- no fields
pub nothing : (t : Table) (fields : List (List ℕ)) (bytes : List ℕ) → Stands t fields bytes → HasFront [] 0 t fields bytes
nothing t fields bytes is = record { after = fields; split = refl; stands = is; space = omega arith }

-- ---- a front, and the field after it

pub then_bytes : {a : List (List ℕ)} {k size : ℕ} {rest : Table} {fields : List (List ℕ)} {bytes : List ℕ} → HasFront a k (Bytes size rest) fields bytes
    → HasFront (a ++ take size (drop k bytes) ∷ []) (k + size) rest fields bytes
then_bytes {a} {k} {size} {rest} {fields} {bytes} is =
    both a k (Bytes size rest) fields bytes (take size (drop k bytes) ∷ []) size rest is (has_bytes size rest is.after (drop k bytes) is.stands)

pub record HasNumberAfter (a : List (List ℕ)) (k size low high : ℕ) (rest : ℕ → Table) (fields : List (List ℕ)) (bytes : List ℕ) : Type 0 where
  pub front : HasFront (a ++ spelled size (number_in size (drop k bytes)) ∷ []) (k + size) (rest (number_in size (drop k bytes))) fields bytes
  pub range : IsRanged low high (number_in size (drop k bytes))

pub then_number : {a : List (List ℕ)} {k size low high : ℕ} {kind : ShapeKind} {rest : ℕ → Table} {fields : List (List ℕ)} {bytes : List ℕ}
    → HasFront a k (Number size low high kind rest) fields bytes → HasNumberAfter a k size low high rest fields bytes
then_number {a} {k} {size} {low} {high} {kind} {rest} {fields} {bytes} is =
    let number = has_number size low high kind rest is.after (drop k bytes) is.stands in
    record {
      front = both a k (Number size low high kind rest) fields bytes (spelled size (number_in size (drop k bytes)) ∷ []) size (rest (number_in size (drop k bytes))) is number.front;
      range = number.range;
    }
