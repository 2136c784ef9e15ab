-- The file of all shards, once each has its proof.
use Rattle.std.proofs.Common.{◌≡◌, ◌∙◌, ◌+◌, ◌*◌, ◌<◌, ◌≤◌, ◌^◌, ◌++◌, ◌∷◌, ℕ, zero, suc, List, [], length, get_or, refl, sym, ap, ap₂, subst, arith, length-append}
use Rattle.std.specs.List.{All, concat, flat_map, sum_by}
use Rattle.std.proofs.lemmas.List.{length-map}
use Rattle.std.proofs.lemmas.List.Elements.{All-cons, All-head, All-map, All-nil, All-tail}
use Rattle.std.proofs.lemmas.List.Folds.{concat-append}
use Rattle.std.proofs.lemmas.List.Sums.{sum_by-cons}
use Rattle.ats_grammar.specs.Table.{spelled}
use Rattle.ats_commit.specs.Archive.{Archive}
use Rattle.ats_commit.specs.Root.{root_of}
use Rattle.ats_proof.specs.Value.{IsProof, Proof}
use Rattle.ats_proof.proofs.Public.{length-spelled}
use Rattle.ats_honest.specs.Honest.{IsHonestWithin}
use Rattle.ats_catalog_bytes.specs.Catalog.{IsCatalog, archive_at, roots_of}
use Rattle.ats_catalog_bytes.specs.Value.{AreFrames, Framed, IsCatalogProof, IsFrame, fields_of, frame_size, proof_fields, proofs_fields, shown_roots}
use Rattle.ats_catalog_bytes.proofs.Public.{spells}
use Rattle.ats_catalog_check.specs.Accepts.{AreProofs}
use Rattle.ats_catalog_honest.specs.Honest.{IsHonestFile, IsProvedCatalog}
use Rattle.ats_catalog_honest.specs.Ranking.{shares_of}
use Rattle.ats_catalog_honest.specs.Shares.{floors_of}
use Rattle.ats_catalog_proof.specs.Proving.{IsProving, IsTooLongCatalog}
use Rattle.ats_catalog_proof.specs.ProvingState.{ProvingState}
use Rattle.ats_catalog_proof.specs.Written.{bytes_of, front_fields}
use Rattle.ats_catalog_proof.proofs.Asked.{NeedNoEdges, asked_is_share}
use Rattle.ats_catalog_proof.proofs.Shards.{is_catalog}
use Rattle.ats_catalog_proof.proofs.Spelling.{front_size}

-- each root with the proof in its place
frames_of : List (List ℕ) → List (List ℕ) → List Framed
frames_of [] proofs = []
frames_of (root ∷ roots) [] = []
frames_of (root ∷ roots) (bytes ∷ proofs) = record { root = root; bytes = bytes } ∷ frames_of roots proofs

roots_kept : (roots proofs : List (List ℕ)) → length roots ≡ length proofs → shown_roots (frames_of roots proofs) ≡ roots
unfolding frames_of
roots_kept [] proofs same = refl
roots_kept (root ∷ roots) [] same = absurd (omega (arith, same))
roots_kept (root ∷ roots) (bytes ∷ proofs) same = ap (λ (rs : List (List ℕ)). root ∷ rs) (roots_kept roots proofs (omega (arith, same)))

proofs_kept : (roots proofs : List (List ℕ)) → length roots ≡ length proofs → proofs_fields (frames_of roots proofs) ≡ flat_map proof_fields proofs
unfolding frames_of
proofs_kept [] [] same = refl
proofs_kept [] (bytes ∷ proofs) same = absurd (omega (arith, same))
proofs_kept (root ∷ roots) [] same = absurd (omega (arith, same))
proofs_kept (root ∷ roots) (bytes ∷ proofs) same = ap (λ (fs : List (List ℕ)). proof_fields bytes ++ fs) (proofs_kept roots proofs (omega (arith, same)))

frames_many : (roots proofs : List (List ℕ)) → length roots ≡ length proofs → length (frames_of roots proofs) ≡ length roots
frames_many roots proofs same = sym (length-map (frames_of roots proofs) (λ (one : Framed). one.root)) ∙ ap length (roots_kept roots proofs same)

-- the bytes are the join of the fields
bytes_joined : (roots proofs : List (List ℕ)) → length roots ≡ length proofs → concat (fields_of (frames_of roots proofs)) ≡ bytes_of roots proofs
bytes_joined roots proofs same =
    let frames : List Framed = frames_of roots proofs in
    let rest : shown_roots frames ++ proofs_fields frames ≡ roots ++ flat_map proof_fields proofs =
    ap₂ (λ (rs fs : List (List ℕ)). rs ++ fs) (roots_kept roots proofs same) (proofs_kept roots proofs same) in
    ap₂ (λ (n : ℕ) (fs : List (List ℕ)). concat (spelled 4 0x41545353 ∷ spelled 1 1 ∷ spelled 4 n ∷ fs)) (frames_many roots proofs same) rest
    ∙ concat-append (front_fields roots) (flat_map proof_fields proofs)

frames_size : (roots proofs : List (List ℕ)) → length roots ≡ length proofs
    → sum_by frame_size (frames_of roots proofs) ≡ length roots * 32 + length (concat (flat_map proof_fields proofs))
unfolding frames_of
frames_size [] [] same = refl
frames_size [] (bytes ∷ proofs) same = absurd (omega (arith, same))
frames_size (root ∷ roots) [] same = absurd (omega (arith, same))
frames_size (root ∷ roots) (bytes ∷ proofs) same =
    let rest : List ℕ = concat (flat_map proof_fields proofs) in
    let one : Framed = record { root = root; bytes = bytes } in
    let first : length (concat (flat_map proof_fields (bytes ∷ proofs))) ≡ length (spelled 4 (length bytes)) + length (bytes ++ rest) =
    length-append (spelled 4 (length bytes)) (bytes ++ rest) in
    omega (arith, frames_size roots proofs (omega (arith, same)), sum_by-cons frame_size one (frames_of roots proofs), first, length-append bytes rest, length-spelled 4 (length bytes))

frames_each : (roots proofs : List (List ℕ)) → All (λ (root : List ℕ). length root ≡ 32) roots → All (λ (bytes : List ℕ). length bytes ≤ 2 ^ 26) proofs → All IsFrame (frames_of roots proofs)
unfolding frames_of
frames_each [] proofs sized short = All-nil IsFrame
frames_each (root ∷ roots) [] sized short = All-nil IsFrame
frames_each (root ∷ roots) (bytes ∷ proofs) sized short =
    let Sized : List ℕ → Type 0 = λ d. length d ≡ 32 in
    let Short : List ℕ → Type 0 = λ b. length b ≤ 2 ^ 26 in
    All-cons IsFrame (record { root = root; bytes = bytes }) (frames_of roots proofs)
    (record { sized = All-head Sized root roots sized; short = All-head Short bytes proofs short })
    (frames_each roots proofs (All-tail Sized root roots sized) (All-tail Short bytes proofs short))

-- the proofs that the bytes spell, each such for its place
record AreSpelled (Such : ℕ → Proof → Type 0) (roots bytes : List (List ℕ)) (proofs : List Proof) : Type 0 where
  many : length proofs ≡ length bytes
  each : (i : ℕ) (d : Proof) → i < length proofs → Such i (get_or proofs i d)
  say : AreProofs (frames_of roots bytes) proofs

first_each : (Such : ℕ → Proof → Type 0) (p : Proof) (proofs : List Proof) → Such 0 p → ((i : ℕ) (d : Proof) → i < length proofs → Such (suc i) (get_or proofs i d))
    → (i : ℕ) (d : Proof) → i < length (p ∷ proofs) → Such i (get_or (p ∷ proofs) i d)
first_each Such p proofs here later zero d low = here
first_each Such p proofs here later (suc i) d low = later i d (omega (arith, low))

all_spelled : (Such : ℕ → Proof → Type 0) (roots bytes : List (List ℕ)) → length roots ≡ length bytes
    → ((i : ℕ) (d : List ℕ) → i < length bytes → (p : Proof) × Such i p × IsProof (get_or bytes i d) p) → (proofs : List Proof) × AreSpelled Such roots bytes proofs
unfolding frames_of
all_spelled Such [] [] same make = ([], record { many = refl; each = λ i d low. absurd (omega (arith, low)); say = tt })
all_spelled Such [] (b ∷ bytes) same make = absurd (omega (arith, same))
all_spelled Such (root ∷ roots) [] same make = absurd (omega (arith, same))
all_spelled Such (root ∷ roots) (b ∷ bytes) same make =
    let here = make 0 [] (omega arith) in
    let later = all_spelled (λ i. Such (suc i)) roots bytes (omega (arith, same)) (λ i d low. make (suc i) d (omega (arith, low))) in
    (here.0 ∷ later.0, record { many = omega (arith, later.1.many); each = first_each Such here.0 later.0 here.1 later.1.each; say = (here.2, later.1.say) })

module _ (H : List ℕ → List ℕ) (hash_sized : (bytes : List ℕ) → length (H bytes) ≡ 32) (catalog : List Archive) (query : List (List ℕ × ℕ)) (r : ℕ) (state : ProvingState)
    (is : IsProving H catalog query r state) (edges : NeedNoEdges H) (all : state.proved ≡ length state.ranking.roots) (some : 1 ≤ state.proved) (few : length state.ranking.roots ≤ 4096) where
  abbrev roots : List (List ℕ)
  roots = roots_of H catalog

  abbrev frames : List Framed
  frames = frames_of roots is.proofs

  same : length roots ≡ length is.proofs
  same = omega (arith, ap length is.ranked.roots, is.many, all)

  shards : length is.proofs ≡ length catalog
  shards = omega (arith, same, length-map catalog (root_of H))

  whole : IsCatalog catalog
  whole = is_catalog H catalog query r state.ranking is.ranked (omega (arith, all, some)) few

  abbrev Such : ℕ → Proof → Type 0
  Such i p = IsHonestWithin H (archive_at catalog i) query (floors_of (shares_of (λ _. state.algorithm) r is.ranked.ranking) i) state.algorithm p

  made : (proofs : List Proof) × AreSpelled Such roots is.proofs proofs
  made = all_spelled Such roots is.proofs same (λ i d low.
      let proved = is.each i d low in (
        proved.proof,
        (asked_is_share H edges catalog query r state.algorithm is.ranked.ranking i proved.proof whole is.ranked.valid is.ranked.ranked (omega (arith, low, shards))).1 proved.honest,
        proved.spells,
      ))

  honest : IsHonestFile H catalog query r (λ _. state.algorithm) frames
  honest = record {
    proofs = made.0;
    honest = record {
      ranking = is.ranked.ranking;
      ranked = is.ranked.ranked;
      honest = record { many = made.1.many ∙ shards; each = made.1.each };
    };
    frames = record { roots = roots_kept roots is.proofs same; say = made.1.say };
  }

  sized : All (λ (root : List ℕ). length root ≡ 32) roots
  sized = All-map (λ (root : List ℕ). length root ≡ 32) (root_of H) catalog (λ k d low. hash_sized _)

  short : All (λ (bytes : List ℕ). length bytes ≤ 2 ^ 26) is.proofs
  short = λ k d low. (is.each k d low).spells.spells.few

  size : length (bytes_of roots is.proofs) ≡ 9 + sum_by frame_size frames
  size = omega (arith, length-append (concat (front_fields roots)) (concat (flat_map proof_fields is.proofs)), front_size roots sized, frames_size roots is.proofs same)

  -- within the limit they spell the honest file
  pub proved_whole : (bytes : List ℕ) → bytes ≡ bytes_of roots is.proofs → length bytes ≤ 2 ^ 28 → IsProvedCatalog H catalog query r (λ _. state.algorithm) bytes
  proved_whole bytes are within =
      let many : length frames ≡ length roots = frames_many roots is.proofs same in
      let fit : AreFrames frames = record {
        some = omega (arith, many, same, is.many, some);
        few = omega (arith, many, same, is.many, all, few);
        each = frames_each roots is.proofs sized short;
        fit = omega (arith, size, ap length are, within);
      } in
      let spell : IsCatalogProof bytes frames =
      subst (λ (xs : List ℕ). IsCatalogProof xs frames) (bytes_joined roots is.proofs same ∙ sym are) (spells frames fit) in
      record { shards = frames; honest = honest; spells = spell }

  pub proved_long : (n : ℕ) → n ≡ length (bytes_of roots is.proofs) → 2 ^ 28 < n → IsTooLongCatalog H catalog query r state.algorithm n
  proved_long n are beyond = record {
    shards = frames;
    honest = honest;
    bytes_are = are ∙ ap length (sym (bytes_joined roots is.proofs same));
    beyond = beyond;
  }
