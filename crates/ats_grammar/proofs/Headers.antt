-- What a reader knows of the bytes after each field of a header.
use Rattle.std.proofs.Common.{◌≡◌, ◌∙◌, ℕ, ◌-◌, ◌≤◌, List, [], ◌∷◌, ◌++◌, length, take, drop, refl, sym, ap, subst, append_assoc, length-append, arith}
use Rattle.std.specs.List.{concat}
use Rattle.std.proofs.lemmas.List.{append-nil, drop_at, take_at}
use Rattle.ats_grammar.specs.declared.fault.ShapeKind.{ShapeKind}
use Rattle.ats_grammar.specs.declared.fault.ShapeKind.TheVariants.{Version, Count}
use Rattle.ats_grammar.specs.declared.reader.Reader.{Reader}
use Rattle.ats_grammar.specs.Front.{Come}
use Rattle.ats_grammar.specs.Table.{Table, Schema, End, Number, Bytes, spelled}
use Rattle.ats_grammar.specs.Grammar.{digests, header}
use Rattle.ats_grammar.specs.Position.{Passes, HeaderValue, header_fields, IsHeader, AreDigests}
use Rattle.ats_grammar.proofs.Positions.{passes_both}
use Rattle.ats_grammar.proofs.Spelling.{length-spelled}

abbrev pub Reads : Reader → Reader → ℕ → ℕ → ℕ → ShapeKind → ℕ → Type 0
Reads a b size low high kind n = (rest : ℕ → Table) → Passes a b (Number size low high kind rest) (spelled size n ∷ []) (rest n)

abbrev pub from_leaves : Table → Table
from_leaves rest = Number 4 2 16777218 Count (λ _. digests 3 rest)

abbrev pub from_documents : Table → Table
from_documents rest = Number 4 1 65536 Count (λ _. from_leaves rest)

-- the fields of a header up to one of them were taken
abbrev pub Comes : Reader → Reader → List (List ℕ) → (Table → Table) → Type 0
Comes a b fields next = (rest : Table) → Passes a b (header rest) fields (next rest)

pub to_documents : (a b : Reader) (n : ℕ) → Reads a b 1 1 1 Version n → Comes a b (spelled 1 n ∷ []) from_documents
to_documents a b n read rest = read (λ _. from_documents rest)

pub to_leaves : (a b c : Reader) (fields : List (List ℕ)) (n : ℕ) → Comes a b fields from_documents → Reads b c 4 1 65536 Count n → Comes a c (fields ++ spelled 4 n ∷ []) from_leaves
to_leaves a b c fields n before read rest = passes_both a b c (header rest) (from_documents rest) (from_leaves rest) fields (spelled 4 n ∷ []) (before rest) (read (λ _. from_leaves rest))

pub to_roots : (a b c : Reader) (fields : List (List ℕ)) (n : ℕ) → Comes a b fields from_leaves → Reads b c 4 2 16777218 Count n → Comes a c (fields ++ spelled 4 n ∷ []) (digests 3)
to_roots a b c fields n before read rest = passes_both a b c (header rest) (from_leaves rest) (digests 3 rest) fields (spelled 4 n ∷ []) (before rest) (read (λ _. digests 3 rest))

-- fields that were taken are those of their table, and their join was read: they could have come after any other bytes
taken : (a b : Reader) (t u : Table) (fields : List (List ℕ)) → Passes a b t fields u → Come fields t u × (a.rest.now ≡ concat fields ++ b.rest.now)
taken a b t u fields passes =
    let size = a.total - length a.rest.now in
    let other : List ℕ = spelled size 0 in
    let long : length other ≡ size = length-spelled size 0 in
    let schema : Schema = record { table = Bytes size t; limit = a.total } in
    let all : length (other ++ a.rest.now) ≡ a.total = omega (arith, length-append other a.rest.now, long, a.within) in
    let is = passes schema (other ++ a.rest.now) (other ∷ []) (record {
      front = record { come = (long, refl); parts = ap (λ (xs : List ℕ). xs ++ a.rest.now) (sym (append-nil other)) };
      few = omega (arith, all);
      total = sym all;
    }) in
    let joined = is.front.parts ∙ append_assoc other (concat fields) b.rest.now in
    (is.front.come.1, sym (drop_at other a.rest.now size long) ∙ ap (drop size) joined ∙ drop_at other (concat fields ++ b.rest.now) size long)

-- a whole header was taken
pub record HasHeader (a b : Reader) : Type 0 where
  pub value : HeaderValue
  pub passes : (rest : Table) → Passes a b (header rest) (header_fields value) rest
  pub come : Come (header_fields value) (header End) End
  pub parts : a.rest.now ≡ concat (header_fields value) ++ b.rest.now
  pub long : length (concat (header_fields value)) ≡ 105

header_of : (a b : Reader) (n documents leaves : ℕ) (roots : List (List ℕ)) → n ≡ 1 → length roots ≡ 3
    → Comes a b (spelled 1 n ∷ spelled 4 documents ∷ spelled 4 leaves ∷ roots) (λ rest. rest) → HasHeader a b
header_of a b n documents leaves [] one three comes = absurd (omega (arith, three))
header_of a b n documents leaves (dict ∷ []) one three comes = absurd (omega (arith, three))
header_of a b n documents leaves (dict ∷ docs ∷ []) one three comes = absurd (omega (arith, three))
header_of a b n documents leaves (dict ∷ docs ∷ texts ∷ other ∷ more) one three comes = absurd (omega (arith, three))
header_of a b n documents leaves (dict ∷ docs ∷ texts ∷ []) one three comes =
    let value : HeaderValue = record { documents = documents; dict_leaves = leaves; dict_root = dict; docs_root = docs; texts_root = texts } in
    let passes = subst (λ (m : ℕ). Comes a b (spelled 1 m ∷ spelled 4 documents ∷ spelled 4 leaves ∷ dict ∷ docs ∷ texts ∷ []) (λ rest. rest)) one comes in
    let is = taken a b (header End) End (header_fields value) (passes End) in
    let (_, (_, (_, (dict_long, (docs_long, (texts_long, _)))))) = is.0 in
    record { value = value; passes = passes; come = is.0; parts = is.1; long = simp length-append (omega (arith, dict_long, docs_long, texts_long)) }

pub all_read : (a b c d e : Reader) (n documents leaves : ℕ) (lent : List ℕ) → Reads a b 1 1 1 Version n → (1 ≤ n) × (n ≤ 1)
    → Reads b c 4 1 65536 Count documents → Reads c d 4 2 16777218 Count leaves
    → (all : List (List ℕ)) × AreDigests 3 lent all × ((rest : Table) → Passes d e (digests 3 rest) all rest) → HasHeader a e
all_read a b c d e n documents leaves lent version one first second (all, are, roots) =
    let before = to_roots a c d _ leaves (to_leaves a b c _ documents (to_documents a b n version) first) second in
    header_of a e n documents leaves all (omega (arith, one)) are.many (λ rest. passes_both a d e (header rest) (digests 3 rest) rest _ all (before rest) (roots rest))

-- what is lent of the bytes is the header
pub lent_header : (a b : Reader) (lent : List ℕ) (h : HasHeader a b) → lent ≡ take 105 a.rest.now → IsHeader lent h.value × (a.rest.now ≡ lent ++ b.rest.now)
lent_header a b lent h is =
    let join : lent ≡ concat (header_fields h.value) = is ∙ ap (take 105) h.parts ∙ take_at (concat (header_fields h.value)) b.rest.now 105 h.long in
    (record { come = h.come; join = join }, h.parts ∙ ap (λ (xs : List ℕ). xs ++ b.rest.now) (sym join))
