-- What a reader of pieces knows of the bytes after a step.
use Rattle.std.proofs.Common.{◌≡◌, ◌≢◌, ◌⊎◌, ◌∙◌, ℕ, zero, suc, ◌+◌, ◌-◌, ◌*◌, ◌<◌, ◌≤◌, ◌^◌, cond, Bool, true, false, List, [], ◌∷◌, ◌++◌, length, take, drop, refl, sym, ap, subst, append_assoc, length-append, arith, inl, inr, add-one}
use Rattle.std.specs.List.{concat}
use Rattle.std.proofs.Math.Nat.{pow-suc, mul_assoc}
use Rattle.std.proofs.lemmas.Bool.{true≢false, lt-ltb, le-ltb}
use Rattle.std.proofs.lemmas.List.{append-nil, take_at, take-append-drop, length-take-le}
use Rattle.ats_grammar.specs.declared.fault.ShapeFault.{ShapeFault}
use Rattle.ats_grammar.specs.declared.fault.ShapeKind.{ShapeKind}
use Rattle.ats_grammar.specs.declared.fault.ShapeKind.TheVariants.{Cut}
use Rattle.ats_grammar.specs.declared.field_kinds.Next.{Next}
use Rattle.ats_grammar.specs.declared.field_kinds.Next.TheVariants as next
use Rattle.ats_grammar.specs.declared.piece_position.PiecePosition.{PiecePosition}
use Rattle.ats_grammar.specs.Table.{Table, End, Number, Bytes, number, head, follow, size_of}
use Rattle.ats_grammar.specs.Grammar.{proof_schema}
use Rattle.ats_grammar.specs.Front.{IsField, IsFront, IsSpelling, IsFirst, IsBad}
use Rattle.ats_grammar.specs.ReaderState.{remaining}
use Rattle.ats_grammar.specs.Reading.{IsNumberOf, IsReached}
use Rattle.ats_grammar.specs.Inner.Reading.{IsTaken, BeginsWithNoField, IsRefused}
use Rattle.ats_grammar.specs.Inner.Pending.{is_cut, is_term, may_be_empty, HasOwnKind}
use Rattle.ats_grammar.specs.PiecePosition.{IsAt, IsWaiting}
use Rattle.ats_grammar.specs.Inner.PiecePosition.{IsOn, IsWrong}
use Rattle.ats_grammar.specs.declared.feeder.Place.{Place}
use Rattle.ats_grammar.specs.declared.feeder.Place.TheVariants as places
use Rattle.ats_grammar.specs.Feeding.{StandsAt}
use Rattle.ats_grammar.proofs.Staying.{fault_stays}
use Rattle.ats_grammar.proofs.Fronts.{field_size, reached_more, reached_few, refused, one_fault, no_fault}

-- ---- numbers

-- one byte more
pub number_last : (xs : List ℕ) (b : ℕ) → number (xs ++ b ∷ []) ≡ number xs * 256 + b
number_last [] b = omega arith
number_last (x ∷ xs) b =
    let long : 256 ^ length (xs ++ b ∷ []) ≡ 256 ^ length xs * 256 = ap (λ n. 256 ^ n) (length-append xs (b ∷ []) ∙ add-one (length xs)) ∙ pow-suc 256 (length xs) in
    let high : x * 256 ^ length (xs ++ b ∷ []) ≡ x * 256 ^ length xs * 256 = ap (λ p. x * p) long ∙ sym (mul_assoc x (256 ^ length xs) 256) in
    omega (arith, high, number_last xs b)

pub record FitsMore (came old new : ℕ) : Type 0 where
  pub small : new < 256 ^ (came + 1)
  pub fits : new < 2 ^ 32

pub number_fits : (came old b : ℕ) → came ≤ 3 → old < 256 ^ came → b < 256 → FitsMore came old (old * 256 + b)
number_fits zero old b few small byte = record { small = omega (arith, small, byte); fits = omega (arith, small, byte) }
number_fits (suc zero) old b few small byte = record { small = omega (arith, small, byte); fits = omega (arith, small, byte) }
number_fits (suc (suc zero)) old b few small byte = record { small = omega (arith, small, byte); fits = omega (arith, small, byte) }
number_fits (suc (suc (suc zero))) old b few small byte = record { small = omega (arith, small, byte); fits = omega (arith, small, byte) }
number_fits (suc (suc (suc (suc came)))) old b few small byte = absurd (omega (arith, few))

-- ---- kinds

pub no_cut : (kind : ShapeKind) → is_cut kind ≡ false → kind ≢ Cut
no_cut kind own same = absurd (true≢false (sym (ap is_cut same) ∙ own))

-- ---- steps

one_at_most : (b : Bool) → cond b 1 0 ≤ 1
one_at_most true = omega arith
one_at_most false = omega arith

empty_number : (n : Next) → IsNumberOf n [] 0
empty_number next.End = tt
empty_number (next.Number size low high kind) = refl
empty_number (next.Bytes size) = tt

list_cases : (xs : List ℕ) → (xs ≡ []) ⊎ (1 ≤ length xs)
list_cases [] = inl refl
list_cases (x ∷ xs) = inr (omega arith)

-- a field is whole: it was begun, and the part makes it whole
pub at_whole : (bytes : List ℕ) (stand after : PiecePosition) (part rest : List ℕ) (n : ℕ) → IsAt bytes stand (part ++ rest)
    → ((left : List ℕ) → length left ≡ stand.came → IsNumberOf (head (remaining stand.state)) left stand.number
    → IsField (head (remaining stand.state)) (left ++ part) × IsNumberOf (head (remaining stand.state)) (left ++ part) n)
    → remaining after.state ≡ follow (remaining stand.state) n → after.came ≡ 0 → after.number ≡ 0 → IsAt bytes after rest
at_whole bytes stand after part rest n at whole follows none nought =
    let field = whole at.left at.many at.value in
    let taken : IsTaken (head (remaining stand.state)) (at.left ++ (part ++ rest)) n rest =
    record { field = at.left ++ part; parts = sym (append_assoc at.left part rest); is = field.0; value = field.1 } in
    record {
      left = [];
      reached = subst (λ (t : Table). IsReached proof_schema bytes t rest) (sym follows) (reached_more proof_schema bytes (remaining stand.state) (at.left ++ (part ++ rest)) n rest at.reached taken);
      many = sym none;
      value = subst (λ n. IsNumberOf (head (remaining after.state)) [] n) (sym nought) (empty_number (head (remaining after.state)));
    }

-- a part of a field was read
pub at_part : (bytes : List ℕ) (stand after : PiecePosition) (part rest : List ℕ) → IsAt bytes stand (part ++ rest)
    → after.state ≡ stand.state → after.came ≡ stand.came + length part
    → ((left : List ℕ) → IsNumberOf (head (remaining stand.state)) left stand.number → IsNumberOf (head (remaining stand.state)) (left ++ part) after.number)
    → IsAt bytes after rest
at_part bytes stand after part rest at same came value = record {
  left = at.left ++ part;
  reached = subst (λ s. IsReached proof_schema bytes (remaining s) ((at.left ++ part) ++ rest)) (sym same)
      (subst (λ (xs : List ℕ). IsReached proof_schema bytes (remaining stand.state) xs) (sym (append_assoc at.left part rest)) at.reached);
  many = omega (arith, length-append at.left part, at.many, came);
  value = subst (λ s. IsNumberOf (head (remaining s)) (at.left ++ part) after.number) (sym same) (value at.left at.value);
}

-- nothing of the field was read
pub at_start : (bytes : List ℕ) (stand : PiecePosition) (rest : List ℕ) → IsAt bytes stand rest → stand.came ≡ 0 → IsReached proof_schema bytes (remaining stand.state) rest
at_start bytes stand rest at none = elim (list_cases at.left) [
  | inl is ↦ subst (λ (xs : List ℕ). IsReached proof_schema bytes (remaining stand.state) (xs ++ rest)) is at.reached
  | inr some ↦ absurd (omega (arith, some, at.many, none))
]

-- ---- refusals

-- a whole field that is at hand is refused for what it is
pub own_refusal : (n : Next) (rest : List ℕ) (kind : ShapeKind) → HasOwnKind n → size_of n ≤ length rest → IsRefused n rest kind → kind ≢ Cut
own_refusal next.End rest kind own enough is = λ same. absurd (true≢false (sym (ap is_cut (sym is.same ∙ same))))
own_refusal (next.Number size low high other) rest kind own enough is =
    no_cut kind (ap is_cut (is.same ∙ ap (λ b. cond b Cut other) (le-ltb (length rest) size enough)) ∙ own)
own_refusal (next.Bytes size) rest kind own enough is =
    absurd (is.stuck (take size rest) (drop size rest) (sym (take-append-drop size rest)) (length-take-le size rest enough))

pub wrong_start : (bytes : List ℕ) (stand : PiecePosition) (rest : List ℕ) (kind : ShapeKind) → IsAt bytes stand rest → stand.came ≡ 0 → IsRefused (head (remaining stand.state)) rest kind → kind ≢ Cut
    → IsWrong bytes kind (stand.came + length rest)
wrong_start bytes stand rest kind at none is here = record {
  table = remaining stand.state;
  left = rest;
  reached = at_start bytes stand rest at none;
  refused = is;
  same = omega (arith, none);
  here = here;
}

-- ---- whole steps

pub on_taken : (stand after : PiecePosition) (rest following : List ℕ) (n : ℕ) → stand.came ≡ 0 → IsTaken (head (remaining stand.state)) rest n following
    → remaining after.state ≡ follow (remaining stand.state) n → after.came ≡ 0 → after.number ≡ 0
    → may_be_empty after.state.part < may_be_empty stand.state.part + 2 * size_of (head (remaining stand.state)) → IsOn stand rest after following
on_taken stand after rest following n none taken follows start nought smaller =
    let long : length rest ≡ size_of (head (remaining stand.state)) + length following =
    omega (arith, ap length taken.parts, length-append taken.field following, field_size (head (remaining stand.state)) taken.field taken.is) in
    record {
      at = λ bytes at. record {
        left = [];
        reached = subst (λ (t : Table). IsReached proof_schema bytes t following) (sym follows)
            (reached_more proof_schema bytes (remaining stand.state) rest n following (at_start bytes stand rest at none) taken);
        many = sym start;
        value = subst (λ m. IsNumberOf (head (remaining after.state)) [] m) (sym nought) (empty_number (head (remaining after.state)));
      };
      fewer = omega (arith, long, start);
      smaller = omega (arith, long, smaller);
    }

pub on_whole : (stand after : PiecePosition) (part rest : List ℕ) (n : ℕ)
    → ((left : List ℕ) → length left ≡ stand.came → IsNumberOf (head (remaining stand.state)) left stand.number
    → IsField (head (remaining stand.state)) (left ++ part) × IsNumberOf (head (remaining stand.state)) (left ++ part) n)
    → remaining after.state ≡ follow (remaining stand.state) n → after.came ≡ 0 → after.number ≡ 0 → 1 ≤ length part → IsOn stand (part ++ rest) after rest
on_whole stand after part rest n whole follows start nought some = record {
  at = λ bytes at. at_whole bytes stand after part rest n at whole follows start nought;
  fewer = omega (arith, start, length-append part rest);
  smaller = omega (arith, some, length-append part rest, one_at_most (is_term after.state.part));
}

pub on_part : (stand after : PiecePosition) (part rest : List ℕ) → after.state ≡ stand.state → after.came ≡ stand.came + length part
    → ((left : List ℕ) → IsNumberOf (head (remaining stand.state)) left stand.number → IsNumberOf (head (remaining stand.state)) (left ++ part) after.number)
    → 1 ≤ length part → IsOn stand (part ++ rest) after rest
on_part stand after part rest same came value some = record {
  at = λ bytes at. at_part bytes stand after part rest at same came value;
  fewer = omega (arith, came, length-append part rest);
  smaller = omega (arith, some, length-append part rest, one_at_most (is_term after.state.part));
}

-- ---- a number of which one more byte was read

pub number_part : (t : Table) (size low high : ℕ) (kind : ShapeKind) (left : List ℕ) (old b n : ℕ) → head t ≡ next.Number size low high kind
    → n ≡ old * 256 + b → IsNumberOf (head t) left old → IsNumberOf (head t) (left ++ b ∷ []) n
number_part t size low high kind left old b n is new value =
    let before : old ≡ number left = subst (λ m. IsNumberOf m left old) is value in
    subst (λ m. IsNumberOf m (left ++ b ∷ []) n) (sym is) (omega (arith, before, new, number_last left b))

pub number_whole : (t : Table) (size low high : ℕ) (kind : ShapeKind) (left : List ℕ) (old b n : ℕ) → head t ≡ next.Number size low high kind
    → n ≡ old * 256 + b → length left + 1 ≡ size → low ≤ n → n ≤ high → IsNumberOf (head t) left old
    → IsField (head t) (left ++ b ∷ []) × IsNumberOf (head t) (left ++ b ∷ []) n
number_whole t size low high kind left old b n is new long least most value =
    let all : number (left ++ b ∷ []) ≡ n =
    omega (arith, new, number_last left b, subst (λ m. IsNumberOf m left old) is value) in (
      subst (λ m. IsField m (left ++ b ∷ [])) (sym is) (omega (arith, long, length-append left (b ∷ [])), omega (arith, all, least), omega (arith, all, most)),
      number_part t size low high kind left old b n is new value,
    )

same_front : (f g l m : List ℕ) → length f ≡ length g → f ++ l ≡ g ++ m → f ≡ g
same_front f g l m len e = sym (take_at f l (length f) refl) ∙ ap (take (length f)) e ∙ take_at g m (length f) (sym len)

pub number_wrong : (bytes : List ℕ) (stand : PiecePosition) (size low high : ℕ) (kind : ShapeKind) (b : ℕ) (rest : List ℕ) → head (remaining stand.state) ≡ next.Number size low high kind
    → is_cut kind ≡ false → stand.came + 1 ≡ size → (stand.number * 256 + b < low) ⊎ (high < stand.number * 256 + b) → IsAt bytes stand (b ∷ rest)
    → IsWrong bytes kind (stand.came + 1 + length rest)
number_wrong bytes stand size low high kind b rest is own last out at =
    let left = at.left in
    let whole : number (left ++ b ∷ []) ≡ stand.number * 256 + b = omega (arith, number_last left b, subst (λ n. IsNumberOf n left stand.number) is at.value) in
    let long : length (left ++ b ∷ []) ≡ size = omega (arith, last, at.many, length-append left (b ∷ [])) in
    let many : length (left ++ b ∷ rest) ≡ stand.came + 1 + length rest = omega (arith, at.many, length-append left (b ∷ rest)) in
    let stuck : BeginsWithNoField (next.Number size low high kind) (left ++ b ∷ rest) = λ field after e is_field.
    let one : field ≡ left ++ b ∷ [] = same_front field (left ++ b ∷ []) after rest (is_field.0 ∙ sym long) (sym e ∙ sym (append_assoc left (b ∷ []) rest)) in
    let n : number field ≡ stand.number * 256 + b = ap number one ∙ whole in
    elim out [
      | inl less ↦ omega (arith, less, is_field.1, n)
      | inr more ↦ omega (arith, more, is_field.2, n)
    ] in
    let refused : IsRefused (next.Number size low high kind) (left ++ b ∷ rest) kind = record {
      stuck = stuck;
      more = tt;
      same = sym (ap (λ c. cond c Cut kind) (le-ltb (length (left ++ b ∷ rest)) size (omega (arith, many, last))));
    } in
    record {
      table = remaining stand.state;
      left = left ++ b ∷ rest;
      reached = at.reached;
      refused = subst (λ n. IsRefused n (left ++ b ∷ rest) kind) (sym is) refused;
      same = many;
      here = no_cut kind own;
    }

-- ---- bytes of any content

pub bytes_part : (t : Table) (size : ℕ) (left part : List ℕ) (old : ℕ) → head t ≡ next.Bytes size → IsNumberOf (head t) (left ++ part) old
bytes_part t size left part old is = subst (λ n. IsNumberOf n (left ++ part) old) (sym is) tt

pub bytes_whole : (t : Table) (size : ℕ) (left part : List ℕ) → head t ≡ next.Bytes size → length left + length part ≡ size
    → IsField (head t) (left ++ part) × IsNumberOf (head t) (left ++ part) 0
bytes_whole t size left part is long =
    (subst (λ n. IsField n (left ++ part)) (sym is) (omega (arith, long, length-append left part)), bytes_part t size left part 0 is)

pub one_or_more : (n : ℕ) → 1 ≤ 256 ^ n
one_or_more zero = omega arith
one_or_more (suc n) = omega (arith, pow-suc 256 n, one_or_more n)

-- at most three bytes of a number were read, and the last one makes it whole
pub came_of : (stand : PiecePosition) (size low high : ℕ) (kind : ShapeKind) → head (remaining stand.state) ≡ next.Number size low high kind
    → (size ≡ 1) ⊎ (size ≡ 2) ⊎ (size ≡ 4) → (stand.came ≤ 3) × (size ≤ stand.came + 1 → stand.came + 1 ≡ size)
came_of stand size low high kind is sized =
    let most : stand.came ≤ size - 1 = subst (λ n. stand.came ≤ size_of n - 1) is stand.inside in
    elim sized [
      | inl one ↦ (omega (arith, most, one), λ enough. omega (arith, most, one, enough))
      | inr (inl two) ↦ (omega (arith, most, two), λ enough. omega (arith, most, two, enough))
      | inr (inr four) ↦ (omega (arith, most, four), λ enough. omega (arith, most, four, enough))
    ]

-- ---- which bytes a feeder was fed

-- one more piece after the bytes so far
pub at_more : (bytes piece : List ℕ) (stand : PiecePosition) → IsAt bytes stand [] → IsAt (bytes ++ piece) stand piece
at_more bytes piece stand at =
    let front = at.reached.front in
    let left : at.left ++ [] ≡ at.left = append-nil at.left in
    record {
      left = at.left;
      reached = record {
        fields = at.reached.fields;
        front = record {
          come = front.come;
          parts = ap (λ (xs : List ℕ). xs ++ piece) (front.parts ∙ ap (λ (xs : List ℕ). concat at.reached.fields ++ xs) left) ∙ append_assoc (concat at.reached.fields) at.left piece;
        };
      };
      many = at.many;
      value = at.value;
    }

abbrev is_wanted : Next → Bool
is_wanted next.End = false
is_wanted (next.Number size low high kind) = true
is_wanted (next.Bytes size) = true

another_than_end : (n : Next) → is_wanted n ≡ true → n ≡ next.End → ⊥
another_than_end n wanted e = true≢false (sym wanted ∙ ap is_wanted e)

is_end : (t : Table) → head t ≡ next.End → t ≡ End
is_end End e = refl
is_end (Number size low high kind rest) e = absurd (another_than_end _ refl e)
is_end (Bytes size rest) e = absurd (another_than_end _ refl e)

end_or_not : (n : Next) → (n ≡ next.End) ⊎ (n ≡ next.End → ⊥)
end_or_not next.End = inl refl
end_or_not (next.Number size low high kind) = inr (λ e. another_than_end _ refl e)
end_or_not (next.Bytes size) = inr (λ e. another_than_end _ refl e)

-- bytes of the field are missing
missing : (n : Next) (left : List ℕ) → IsWaiting n (length left) → (n ≡ next.End → ⊥) → IsRefused n left Cut
missing next.End left waiting wanted = absurd (wanted refl)
missing (next.Number size low high kind) left waiting wanted = record {
  stuck = λ field after e is. omega (arith, waiting, is.0, ap length e, length-append field after);
  more = tt;
  same = sym (ap (λ b. cond b Cut kind) (lt-ltb (length left) size waiting));
}
missing (next.Bytes size) left waiting wanted = record {
  stuck = λ field after e is. omega (arith, waiting, is, ap length e, length-append field after);
  more = tt;
  same = refl;
}

-- if a field is missing, the bytes so far are cut
pub cut_off : (bytes : List ℕ) (stand : PiecePosition) (fault : ShapeFault) → length bytes ≤ 2 ^ 26 → IsAt bytes stand [] → IsWaiting (head (remaining stand.state)) stand.came
    → (head (remaining stand.state) ≡ next.End → ⊥) → fault.kind ≡ Cut → fault.at + stand.came ≡ length bytes → IsBad proof_schema bytes fault
cut_off bytes stand fault few at waiting wanted kind place =
    let there : IsWaiting (head (remaining stand.state)) (length (at.left ++ [])) =
    subst (λ m. IsWaiting (head (remaining stand.state)) m) (omega (arith, at.many, length-append at.left [])) waiting in
    refused proof_schema bytes (remaining stand.state) (at.left ++ []) fault few at.reached
    (subst (λ k. IsRefused (head (remaining stand.state)) (at.left ++ []) k) (sym kind) (missing (head (remaining stand.state)) (at.left ++ []) there wanted))
    (omega (arith, place, at.many, length-append at.left []))

-- if none is, they spell a proof
pub spelled : (bytes : List ℕ) (stand : PiecePosition) → length bytes ≤ 2 ^ 26 → IsAt bytes stand [] → IsWaiting (head (remaining stand.state)) stand.came
    → head (remaining stand.state) ≡ next.End → IsSpelling proof_schema bytes
spelled bytes stand few at waiting done =
    let none : stand.came ≡ 0 = subst (λ n. IsWaiting n stand.came) done waiting in
    let last : remaining stand.state ≡ End = is_end (remaining stand.state) done in
    let start = at_start bytes stand [] at none in
    record {
      fields = start.fields;
      spells = record {
        whole = subst (λ (t : Table). IsFront proof_schema bytes start.fields t []) last start.front;
        few = few;
      };
    }

-- a fault of bytes that are read to their end is that they are cut
pub only_cut : (bytes : List ℕ) (stand : PiecePosition) (fault : ShapeFault) → length bytes ≤ 2 ^ 26 → IsAt bytes stand [] → IsWaiting (head (remaining stand.state)) stand.came
    → IsBad proof_schema bytes fault → fault.kind ≡ Cut
only_cut bytes stand fault few at waiting bad = elim (end_or_not (head (remaining stand.state))) [
  | inl done ↦ let s = spelled bytes stand few at waiting done in absurd (no_fault proof_schema bytes fault s.fields bad s.spells)
  | inr wanted ↦
      let here : ShapeFault = record { at = length bytes - stand.came; kind = Cut } in
      let came : stand.came ≤ length bytes = omega (arith, reached_few proof_schema bytes (remaining stand.state) (at.left ++ []) at.reached, at.many, length-append at.left []) in
      ap (λ (f : ShapeFault). f.kind) (one_fault proof_schema bytes fault here bad (cut_off bytes stand here few at waiting wanted refl (omega (arith, came))))
]

-- bytes that are few enough have no other fault than the first
first_of : (bytes : List ℕ) (fault : ShapeFault) → length bytes ≤ 2 ^ 26 → IsBad proof_schema bytes fault → IsFirst proof_schema bytes fault
first_of bytes fault few (inl long) = absurd (omega (arith, few, long.many))
first_of bytes fault few (inr first) = first

-- bytes that are wrong have this fault
pub wrong_is_first : (bytes : List ℕ) (fault : ShapeFault) (many : ℕ) → length bytes ≤ 2 ^ 26 → IsWrong bytes fault.kind many → fault.at + many ≡ length bytes → IsFirst proof_schema bytes fault
wrong_is_first bytes fault many few wrong place = first_of bytes fault few
    (refused proof_schema bytes wrong.table wrong.left fault few wrong.reached wrong.refused (omega (arith, place, wrong.same)))

-- ---- the position of a feeder

pub stand_of : (place : Place) (stand : PiecePosition) (bytes : List ℕ) → place ≡ places.Reading stand → StandsAt place bytes → IsAt bytes stand [] × IsWaiting (head (remaining stand.state)) stand.came
stand_of place stand bytes is at = subst (λ (p : Place). StandsAt p bytes) is at

-- a fault stays, whatever is fed
pub still_refused : (place : Place) (fault : ShapeFault) (bytes piece : List ℕ) → place ≡ places.Refused fault → StandsAt place bytes → length bytes + length piece ≤ 2 ^ 26
    → IsFirst proof_schema (bytes ++ piece) fault × (fault.kind ≢ Cut)
still_refused place fault bytes piece is at few =
    let there : IsFirst proof_schema bytes fault × (fault.kind ≢ Cut) = subst (λ (p : Place). StandsAt p bytes) is at in
    (fault_stays proof_schema bytes piece fault there.0 there.1 few, there.1)
