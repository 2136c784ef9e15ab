-- The fields of a catalog's proof: their ranges, what they tell, and their join.
use Rattle.std.proofs.Common.{◌≡◌, ◌∙◌, ℕ, ◌+◌, ◌*◌, ◌≤◌, ◌^◌, ◌/◌, List, [], ◌∷◌, ◌++◌, length, take, drop, get_or, refl, sym, ap, ap₂, subst, append-nil, append_assoc, length-append, arith, Result, Ok, Err}
use Rattle.std.specs.Prelude.{IfOk, IfErr}
use Rattle.std.specs.List.{All, concat, flat_map, sum_by}
use Rattle.std.proofs.lemmas.List.{take_at, drop_at, length-map}
use Rattle.std.proofs.lemmas.List.Elements.{All-nil, All-cons, All-head, All-tail}
use Rattle.std.proofs.lemmas.List.Folds.{concat-append}
use Rattle.std.proofs.lemmas.List.Sums.{sum_by-cons}
use Rattle.std.specs.Simd.{first_chunks}
use Rattle.ats_grammar.specs.declared.fault.ShapeFault.{ShapeFault}
use Rattle.ats_grammar.specs.declared.fault.ShapeKind.TheVariants.{Count}
use Rattle.ats_grammar.specs.Front.{Come, Spells, IsBad}
use Rattle.ats_grammar.specs.Grammar.{digests}
use Rattle.ats_grammar.specs.Position.{AreDigests}
use Rattle.ats_grammar.specs.Table.{Table, End, Number, spelled, number}
use Rattle.ats_grammar.proofs.Public.{length-spelled, number-spelled, no_fault, one_fault, one_spelling}
use Rattle.ats_proof.proofs.Public.{length_digests}
use Rattle.ats_catalog_bytes.specs.Bytes.{shards_in, HaveRoom}
use Rattle.ats_catalog_bytes.specs.Grammar.{shard_proofs, catalog_schema}
use Rattle.ats_catalog_bytes.specs.Value.{Framed, frame_size, shown_roots, proof_fields, proofs_fields, fields_of, IsCatalogProof, IsFrame, AreFrames}
use Rattle.ats_catalog_bytes.proofs.Joined.{joined, shards-joined, roots-kept, shards-counted, proofs-kept, room}

-- ---- ranges

-- n digests come before the fields of a table, each of 32 bytes
roots_first : (roots fields : List (List ℕ)) (t : Table) → Come (roots ++ fields) (digests (length roots) t) End
    → All (λ (d : List ℕ). length d ≡ 32) roots × Come fields t End
roots_first [] fields t come = (All-nil (λ (d : List ℕ). length d ≡ 32), come)
roots_first (root ∷ roots) fields t come =
    let later = roots_first roots fields t come.1 in
    (All-cons (λ (d : List ℕ). length d ≡ 32) root roots come.0 later.0, later.1)

in_frames : (shards : List Framed) → All (λ (d : List ℕ). length d ≡ 32) (shown_roots shards)
    → Come (proofs_fields shards) (shard_proofs (length shards)) End → All IsFrame shards
in_frames [] sized come = All-nil IsFrame
in_frames (one ∷ shards) sized come =
    let short : length one.bytes ≤ 2 ^ 26 = omega (arith, come.0.2, number-spelled 3 (length one.bytes)) in
    let first : IsFrame one = record { sized = All-head (λ (d : List ℕ). length d ≡ 32) one.root (shown_roots shards) sized; short = short } in
    All-cons IsFrame one shards first
    (in_frames shards (All-tail (λ (d : List ℕ). length d ≡ 32) one.root (shown_roots shards) sized) come.1.1)

-- the fields before the roots
abbrev pub front_fields : ℕ → List (List ℕ)
front_fields n = spelled 4 0x41545353 ∷ spelled 1 1 ∷ spelled 4 n ∷ []

-- what comes after the number of shards
roots_come : (bytes : List ℕ) (roots fields : List (List ℕ)) → Spells catalog_schema bytes (front_fields (length roots) ++ (roots ++ fields))
    → All (λ (d : List ℕ). length d ≡ 32) roots × Come fields (shard_proofs (length roots)) End
roots_come bytes roots fields spells =
    roots_first roots fields (shard_proofs (length roots))
    (subst (λ (n : ℕ). Come (roots ++ fields) (digests n (shard_proofs n)) End) (number-spelled 3 (length roots)) spells.whole.come.1.1.1)

roots_many : (shards : List Framed) → length (shown_roots shards) ≡ length shards
roots_many shards = length-map shards (λ (one : Framed). one.root)

-- ---- how many bytes there are

size_of_proofs : (shards : List Framed) → All IsFrame shards → length (concat (shown_roots shards)) + length (concat (proofs_fields shards)) ≡ sum_by frame_size shards
size_of_proofs [] each = refl
size_of_proofs (one ∷ shards) each =
    let rest : List ℕ = concat (proofs_fields shards) in
    let root : length one.root ≡ 32 = (All-head IsFrame one shards each).sized in
    let later = size_of_proofs shards (All-tail IsFrame one shards each) in
    let sizes : sum_by frame_size (one ∷ shards) ≡ (36 + length one.bytes) + sum_by frame_size shards = sum_by-cons frame_size one shards in
    let roots : length (concat (shown_roots (one ∷ shards))) ≡ length one.root + length (concat (shown_roots shards)) =
    length-append one.root (concat (shown_roots shards)) in
    let proofs : length (concat (proofs_fields (one ∷ shards))) ≡ length (spelled 4 (length one.bytes)) + length (one.bytes ++ rest) =
    length-append (spelled 4 (length one.bytes)) (one.bytes ++ rest) in
    omega (arith, root, later, sizes, roots, proofs, length-append one.bytes rest, length-spelled 4 (length one.bytes))

size_of_all : (shards : List Framed) → All IsFrame shards → length (concat (fields_of shards)) ≡ 9 + sum_by frame_size shards
size_of_all shards each =
    let front : List (List ℕ) = front_fields (length shards) in
    let roots : List (List ℕ) = shown_roots shards in
    let proofs : List (List ℕ) = proofs_fields shards in
    omega (
      arith,
      size_of_proofs shards each,
      ap length (concat-append front (roots ++ proofs)),
      length-append (concat front) (concat (roots ++ proofs)),
      ap length (concat-append roots proofs),
      length-append (concat roots) (concat proofs),
    )

-- each part of what is spelled is in its range
pub in_range : (bytes : List ℕ) (shards : List Framed) → IsCatalogProof bytes shards → AreFrames shards
in_range bytes shards is =
    let count = is.spells.whole.come.1.1.0 in
    let value = number-spelled 3 (length shards) in
    let spells : Spells catalog_schema bytes (front_fields (length (shown_roots shards)) ++ (shown_roots shards ++ proofs_fields shards)) =
    subst (λ (n : ℕ). Spells catalog_schema bytes (front_fields n ++ (shown_roots shards ++ proofs_fields shards))) (sym (roots_many shards)) is.spells in
    let parts = roots_come bytes (shown_roots shards) (proofs_fields shards) spells in
    let each : All IsFrame shards =
    in_frames shards parts.0 (subst (λ (n : ℕ). Come (proofs_fields shards) (shard_proofs n) End) (roots_many shards) parts.1) in
    record {
      some = omega (arith, count.1, value);
      few = omega (arith, count.2, value);
      each = each;
      fit = omega (arith, is.spells.few, ap length is.spells.whole.parts, ap length (append-nil (concat (fields_of shards))), size_of_all shards each);
    }

-- ---- parts in their ranges are spelled

roots_all : (shards : List Framed) → All IsFrame shards → (fields : List (List ℕ)) (t : Table) → Come fields t End
    → Come (shown_roots shards ++ fields) (digests (length shards) t) End
roots_all [] each fields t come = come
roots_all (one ∷ shards) each fields t come =
    ((All-head IsFrame one shards each).sized, roots_all shards (All-tail IsFrame one shards each) fields t come)

proofs_all : (shards : List Framed) → All IsFrame shards → Come (proofs_fields shards) (shard_proofs (length shards)) End
proofs_all [] each = refl
proofs_all (one ∷ shards) each =
    let value = number-spelled 3 (length one.bytes) in (
      (refl, omega arith, omega (arith, value, (All-head IsFrame one shards each).short)),
      (sym value, proofs_all shards (All-tail IsFrame one shards each)),
    )

pub spells : (shards : List Framed) → AreFrames shards → IsCatalogProof (concat (fields_of shards)) shards
spells shards are =
    let value = number-spelled 3 (length shards) in
    let rest : Come (shown_roots shards ++ proofs_fields shards) (digests (length shards) (shard_proofs (length shards))) End =
    roots_all shards are.each (proofs_fields shards) (shard_proofs (length shards)) (proofs_all shards are.each) in
    let count : Come (spelled 4 (length shards) ∷ (shown_roots shards ++ proofs_fields shards)) (Number 4 1 4096 Count (λ n. digests n (shard_proofs n))) End = (
      (refl, omega (arith, value, are.some), omega (arith, value, are.few)),
      subst (λ (n : ℕ). Come (shown_roots shards ++ proofs_fields shards) (digests n (shard_proofs n)) End) (sym value) rest,
    ) in
    record {
      spells = record {
        whole = record {
          come = ((refl, omega arith, omega arith), ((refl, omega arith, omega arith), count));
          parts = sym (append-nil (concat (fields_of shards)));
        };
        few = omega (arith, size_of_all shards are.each, are.fit);
      };
    }

-- ---- bytes say one catalog

pub one_catalog : (bytes : List ℕ) (a b : List Framed) → IsCatalogProof bytes a → IsCatalogProof bytes b → a ≡ b
one_catalog bytes a b is other =
    let same : fields_of a ≡ fields_of b = one_spelling catalog_schema bytes (fields_of a) (fields_of b) is.spells other.spells in
    let count : length a ≡ length b =
    sym (number-spelled 3 (length a)) ∙ ap (λ (fields : List (List ℕ)). number (get_or fields 2 [])) same ∙ number-spelled 3 (length b) in
    let rest : shown_roots a ++ proofs_fields a ≡ shown_roots b ++ proofs_fields b = ap (drop 3) same in
    let n : ℕ = length a in
    let here : length (shown_roots a) ≡ n = roots_many a in
    let there : length (shown_roots b) ≡ n = roots_many b ∙ sym count in
    let roots : shown_roots a ≡ shown_roots b =
    sym (take_at (shown_roots a) (proofs_fields a) n here) ∙ ap (take n) rest ∙ take_at (shown_roots b) (proofs_fields b) n there in
    let proofs : proofs_fields a ≡ proofs_fields b =
    sym (drop_at (shown_roots a) (proofs_fields a) n here) ∙ ap (drop n) rest ∙ drop_at (shown_roots b) (proofs_fields b) n there in
    sym (shards-joined a) ∙ ap₂ (λ (rs : List (List ℕ)) (xs : List (List ℕ)). shards_in rs (concat xs)) roots proofs ∙ shards-joined b

pub one_join : (bytes others : List ℕ) (shards : List Framed) → IsCatalogProof bytes shards → IsCatalogProof others shards → bytes ≡ others
one_join bytes others shards is other = is.spells.whole.parts ∙ sym other.spells.whole.parts

-- ---- what reading lends

-- digests in bytes are the chunks of 32 bytes
pub chunks-are : (count : ℕ) (bytes : List ℕ) (all : List (List ℕ)) → AreDigests count bytes all → first_chunks 32 (length bytes / 32) bytes ≡ all
chunks-are count bytes all are =
    let size : length bytes / 32 ≡ length all = omega (arith, ap length are.join, length_digests all are.sized) in
    ap₂ (λ (n : ℕ) (xs : List ℕ). first_chunks 32 n xs) size (are.join ∙ sym (append-nil (concat all))) ∙ chunks all [] are.sized
  where
    chunks : (ds : List (List ℕ)) (rest : List ℕ) → All (λ (d : List ℕ). length d ≡ 32) ds → first_chunks 32 (length ds) (concat ds ++ rest) ≡ ds
    chunks [] rest sized = refl
    chunks (d ∷ ds) rest sized =
        let first : length d ≡ 32 = All-head (λ (e : List ℕ). length e ≡ 32) d ds sized in
        let parts : (d ++ concat ds) ++ rest ≡ d ++ (concat ds ++ rest) = append_assoc d (concat ds) rest in
        ap₂ (λ (x : List ℕ) (xs : List (List ℕ)). x ∷ xs)
        (ap (take 32) parts ∙ take_at d (concat ds ++ rest) 32 first)
        (ap (first_chunks 32 (length ds)) (ap (drop 32) parts ∙ drop_at d (concat ds ++ rest) 32 first)
        ∙ chunks ds rest (All-tail (λ (e : List ℕ). length e ≡ 32) d ds sized))

-- the bytes after the roots
abbrev pub after_roots : List (List ℕ) → List ℕ → List ℕ
after_roots roots bytes = drop (9 + 32 * length roots) bytes

-- with the roots, the bytes after them have the shards that are spelled
pub record IsRead (bytes : List ℕ) (roots : List (List ℕ)) : Type 0 where
  pub fits : 9 + 32 * length roots ≤ length bytes
  pub room : HaveRoom roots (after_roots roots bytes)
  pub is : IsCatalogProof bytes (shards_in roots (after_roots roots bytes))

pub is_read : (bytes : List ℕ) (roots proofs : List (List ℕ)) → length proofs ≡ length roots
    → Spells catalog_schema bytes (front_fields (length roots) ++ (roots ++ flat_map proof_fields proofs)) → IsRead bytes roots
is_read bytes roots proofs same spells =
    let front : List (List ℕ) = front_fields (length roots) in
    let proofs_there : List (List ℕ) = flat_map proof_fields proofs in
    let sized = (roots_come bytes roots proofs_there spells).0 in
    let before : List ℕ = concat front ++ concat roots in
    let parts : bytes ≡ before ++ joined proofs =
    spells.whole.parts ∙ append-nil (concat (front ++ (roots ++ proofs_there))) ∙ concat-append front (roots ++ proofs_there)
    ∙ ap (λ (xs : List ℕ). concat front ++ xs) (concat-append roots proofs_there)
    ∙ sym (append_assoc (concat front) (concat roots) (joined proofs)) in
    let size : length before ≡ 9 + 32 * length roots = omega (arith, length-append (concat front) (concat roots), length_digests roots sized) in
    let there : after_roots roots bytes ≡ joined proofs =
    ap (drop (9 + 32 * length roots)) parts ∙ drop_at before (joined proofs) (9 + 32 * length roots) size in
    let shards : List Framed = shards_in roots (joined proofs) in
    let fields : fields_of shards ≡ front ++ (roots ++ proofs_there) =
    ap₂ (λ (n : ℕ) (fs : List (List ℕ)). front_fields n ++ fs) (shards-counted roots (joined proofs))
    (ap₂ (λ (rs : List (List ℕ)) (ps : List (List ℕ)). rs ++ ps) (roots-kept roots (joined proofs)) (proofs-kept roots proofs same)) in
    record {
      fits = omega (arith, ap length parts, length-append before (joined proofs), size);
      room = subst (λ (xs : List ℕ). HaveRoom roots xs) (sym there) (room roots proofs same);
      is = subst (λ (xs : List ℕ). IsCatalogProof bytes (shards_in roots xs)) (sym there)
          (record { spells = subst (λ (fs : List (List ℕ)). Spells catalog_schema bytes fs) (sym fields) spells });
    }

-- ---- the two outcomes of reading

pub reads : (bytes : List ℕ) (result : Result (List Framed) ShapeFault) → IfOk result (IsCatalogProof bytes) → IfErr result (IsBad catalog_schema bytes)
    → (shards : List Framed) → IsCatalogProof bytes shards → result ≡ Ok shards
reads bytes (Ok found) good bad shards is = ap Ok (one_catalog bytes found shards good is)
reads bytes (Err fault) good bad shards is = absurd (no_fault catalog_schema bytes fault (fields_of shards) bad is.spells)

pub refuses : (bytes : List ℕ) (result : Result (List Framed) ShapeFault) → IfOk result (IsCatalogProof bytes) → IfErr result (IsBad catalog_schema bytes)
    → (fault : ShapeFault) → IsBad catalog_schema bytes fault → result ≡ Err fault
refuses bytes (Ok found) good bad fault is = absurd (no_fault catalog_schema bytes fault (fields_of found) is good.spells)
refuses bytes (Err other) good bad fault is = ap Err (one_fault catalog_schema bytes other fault bad is)
