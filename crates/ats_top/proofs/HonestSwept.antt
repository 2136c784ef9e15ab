-- `sweep` serves a list of honest proofs: each is found right.
use Rattle.std.proofs.Common.{◌≡◌, ◌⊎◌, ◌∙◌, ◌==◌, ◌++◌, ◌∷◌, ◌+◌, ◌≤◌, ◌^◌, ℕ, Bool, true, false, List, [], length, All, Some, None, inl, inr, refl, sym, ap, subst, arith, append-nil, append_assoc}
use Rattle.std.specs.List.{AllZip, list_any}
use Rattle.std.proofs.lemmas.List.Elements.{All-head, All-tail}
use Rattle.std.proofs.lemmas.List.{length-append}
use Rattle.std.proofs.lemmas.List.Sums.{sum_by-append, sum_by-cons}
use Rattle.ats_terms.specs.Query.{IsQuery}
use Rattle.ats_commit.specs.Archive.{Archive}
use Rattle.ats_commit.specs.Root.{root_of}
use Rattle.ats_index.specs.Spelling.{IsSpelling}
use Rattle.ats_proof.specs.declared.record.Algorithm.{Algorithm}
use Rattle.ats_proof.proofs.Public.{in_range}
use Rattle.ats_honest.specs.Honest.{IsProved}
use Rattle.ats_client.specs.Bytes.{IsAcceptedBytes}
use Rattle.ats_client.specs.Headline.{AreRight, IsTopOrCollides}
use Rattle.ats_client.specs.Rows.{rows_of}
use Rattle.ats_client.proofs.Public.{top_or_collides}
use Rattle.ats_audit.proofs.Public.{right_rows}
use Rattle.ats_accepts.proofs.Public.{proved_unclashing}
use Rattle.ats_plan.specs.Files.{Files, IsTold}
use Rattle.ats_plan.specs.Plan.{Plan, Passes}
use Rattle.ats_plan.proofs.Public.{one_file, file_short}
use Rattle.ats_console.specs.Words.{SweepWords, Sweep, Auditor}
use Rattle.ats_console.specs.Read.{HasIndex}
use Rattle.ats_console.specs.Lists.{lines_of, IsListOf}
use Rattle.ats_auditors.specs.Listed.{Listed, IsListed, IsList, names_of}
use Rattle.ats_auditors.specs.Gathered.{IsGathered, AreGathered, AreAllThere, size, total}
use Rattle.ats_auditors.specs.Findings.{Finding, FoundRight, IsFinding, AreFindings, IsHonestLine, is_refused, is_collision}
use Rattle.ats_console.specs.Steps.{reads_file}
use Rattle.ats_auditors.specs.Commands.{gathers, audits, sweeps}
use Rattle.ats_top.specs.Run.{StepsHold}
use Rattle.ats_auditors.specs.declared.gathering.Gathered.{Gathered}
use Rattle.ats_auditors.specs.declared.gathering.Gathered.TheVariants.{Whole, Long}
use Rattle.ats_console.specs.declared.stops.Stop.{Stop}
use Rattle.ats_top.proofs.HonestAccepted.{bytes_accepted}
use Rattle.ats_auditors.proofs.Public.{one_findings}

-- ---- the proofs that are gathered

total_front : (got more : List Gathered) → total got ≤ total (got ++ more)
total_front got more = let all = sum_by-append size got more in omega (arith, all)

module _ (files : Files) (rest : List Gathered → Plan Stop) where
  passes_next : (got : List Gathered) (name : List ℕ) (names : List (List ℕ)) (proof : Gathered) → IsGathered files name proof
      → total (got ++ proof ∷ []) ≤ 2 ^ 28 → Passes files (gathers (got ++ proof ∷ []) names rest) → Passes files (gathers got (name ∷ names) rest)
  passes_next got name names (Whole bytes) is few later = inr (bytes, is, (few, later))
  passes_next got name names Long is few later = inl (is, (few, later))

  passes_gathers : (got : List Gathered) (names : List (List ℕ)) (more : List Gathered) → AllZip (IsGathered files) names more
      → total (got ++ more) ≤ 2 ^ 28 → Passes files (rest (got ++ more)) → Passes files (gathers got names rest)
  passes_gathers got [] [] are within passes = subst (λ (all : List Gathered). Passes files (rest all)) (append-nil got) passes
  passes_gathers got [] (proof ∷ more) are within passes = absurd are
  passes_gathers got (name ∷ names) [] are within passes = absurd are
  passes_gathers got (name ∷ names) (proof ∷ more) are within passes =
      let same = append_assoc got (proof ∷ []) more in
      let bytes = ap total same in
      let space = total_front (got ++ proof ∷ []) more in
      passes_next got name names proof are.0 (omega (arith, space, bytes, within))
      (passes_gathers (got ++ proof ∷ []) names more are.1 (omega (arith, bytes, within))
      (subst (λ (all : List Gathered). Passes files (rest all)) (sym same) passes))

-- ---- the first line of a list

begun_alone : (byte : ℕ) → (byte == 10) ≡ false → (line : List ℕ) → (lines_of line ≡ line ∷ []) ⊎ (line ≡ []) → lines_of (byte ∷ line) ≡ (byte ∷ line) ∷ []
begun_alone byte plain [] is = rw plain refl
begun_alone byte plain (b ∷ line) (inl alone) = rw (plain, alone) refl
begun_alone byte plain (b ∷ line) (inr none) = absurd (cc)

-- it is a list of one line, or it is empty; and it is no longer than the list
abbrev IsFirst : (line bytes : List ℕ) → Type 0
IsFirst line bytes = ((lines_of line ≡ line ∷ []) ⊎ (line ≡ [])) × (length line ≤ length bytes)

first_alone : (bytes line : List ℕ) (lines : List (List ℕ)) → lines_of bytes ≡ line ∷ lines → IsFirst line bytes
first_alone [] line lines is = absurd (cc)
first_alone (byte ∷ bytes) line lines is = go (byte == 10) refl (lines_of bytes) refl (first_alone bytes)
  where
    go : (b : Bool) → (byte == 10) ≡ b → (rest : List (List ℕ)) → lines_of bytes ≡ rest
        → ((front : List ℕ) (later : List (List ℕ)) → lines_of bytes ≡ front ∷ later → IsFirst front bytes) → IsFirst line (byte ∷ bytes)
    go true feed rest same before =
        let split : lines_of (byte ∷ bytes) ≡ [] ∷ lines_of bytes = rw feed refl in
        let all = sym split ∙ is in
        let none : line ≡ [] = cc in
        (inr none, omega (arith, ap length none))
    go false plain [] same before =
        let split : lines_of (byte ∷ bytes) ≡ (byte ∷ []) ∷ [] = rw (plain, same) refl in
        let all = sym split ∙ is in
        let one : byte ∷ [] ≡ line = cc in
        subst (λ (l : List ℕ). IsFirst l (byte ∷ bytes)) one (inl (begun_alone byte plain [] (inr refl)), omega arith)
    go false plain (front ∷ later) same before =
        let split : lines_of (byte ∷ bytes) ≡ (byte ∷ front) ∷ later = rw (plain, same) refl in
        let all = sym split ∙ is in
        let one : byte ∷ front ≡ line = cc in
        let first = before front later same in
        subst (λ (l : List ℕ). IsFirst l (byte ∷ bytes)) one (inl (begun_alone byte plain front first.0), omega (arith, first.1))

-- a line that asks for something has bytes
asks_some : (line : List ℕ) (listed : Listed) → IsListed line listed → line ≡ [] → ⊥
asks_some line listed is none =
    let parts = is.spelled.parts in
    let cut : length (is.spelled.word ++ 32 ∷ (listed.proof ++ 32 ∷ listed.query)) ≡ length is.spelled.word + length (32 ∷ (listed.proof ++ 32 ∷ listed.query)) =
    length-append is.spelled.word (32 ∷ (listed.proof ++ 32 ∷ listed.query)) in
    omega (arith, ap length parts, cut, ap length none)

module _ (H : List ℕ → List ℕ) (sized : (m : List ℕ) → length (H m) ≡ 32) (files : Files) (archive : Archive) (index : List ℕ)
    (spelling : IsSpelling H index archive) where
  -- ---- what is found

  -- the rows of an honest proof are right
  honest_right : (asked : List (List ℕ × ℕ)) (r : ℕ) (algorithm : Algorithm) (bytes : List ℕ) (proved : IsProved H archive asked r algorithm bytes) → IsQuery asked
      → AreRight archive.texts asked r (rows_of asked proved.proof)
  honest_right asked r algorithm bytes proved is_query =
      let proof = proved.proof in
      let says = proved.spells in
      let accepted : IsAcceptedBytes H (root_of H archive) asked r bytes proof = bytes_accepted H archive asked r algorithm bytes proved in
      let headline : IsTopOrCollides H (root_of H archive) asked r proof =
      top_or_collides H sized (root_of H archive) asked r proof is_query (in_range bytes proof says) says.prefix_each says.documents accepted.accepts in
      right_rows H archive asked r proof (record { utf8 = spelling.utf8; within = spelling.within }) headline
      (proved_unclashing H archive asked r algorithm bytes proved proof says)

  abbrev rows_found : (line : Listed) → IsHonestLine H files archive line → Finding
  rows_found line honest = FoundRight (rows_of honest.query honest.proved.proof)

  line_right : (line : Listed) (honest : IsHonestLine H files archive line) → IsFinding H archive line (Whole honest.bytes) (rows_found line honest)
  line_right line honest = (
    honest.query,
    honest.asked,
    record {
      proof = honest.proved.proof;
      accepted = bytes_accepted H archive honest.query line.r honest.algorithm honest.bytes honest.proved;
      none = proved_unclashing H archive honest.query line.r honest.algorithm honest.bytes honest.proved honest.proved.proof honest.proved.spells;
      answer = refl;
      right = honest_right honest.query line.r honest.algorithm honest.bytes honest.proved honest.is_query;
    },
  )

  -- all that is found is right
  record AreRightOf (listed : List Listed) (proofs : List Gathered) : Type 0 where
    findings : List Finding
    each : AreFindings H archive listed proofs findings
    collides : list_any is_collision findings ≡ false
    refused : list_any is_refused findings ≡ false

  one_right : (line : Listed) (listed : List Listed) (proof : Gathered) (proofs : List Gathered) (honest : IsHonestLine H files archive line)
      → IsFinding H archive line proof (rows_found line honest) → AreRightOf listed proofs → AreRightOf (line ∷ listed) (proof ∷ proofs)
  one_right line listed proof proofs honest is later = record {
    findings = rows_found line honest ∷ later.findings;
    each = (is, later.each);
    collides = later.collides;
    refused = later.refused;
  }

  -- if the shelf reports its files, what is gathered for a line is its honest proof
  gathered_right : IsTold files → (line : Listed) (proof : Gathered) → IsGathered files line.proof proof → (honest : IsHonestLine H files archive line)
      → IsFinding H archive line proof (rows_found line honest)
  gathered_right told line (Whole bytes) is honest =
      subst (λ (all : List ℕ). IsFinding H archive line (Whole all) (rows_found line honest))
      (one_file files line.proof honest.bytes bytes (2 ^ 26) (2 ^ 26) told honest.file is) (line_right line honest)
  gathered_right told line Long is honest = absurd (file_short files line.proof honest.bytes (2 ^ 26) told honest.file is)

  all_right : IsTold files → (listed : List Listed) (proofs : List Gathered) → AllZip (IsGathered files) (names_of listed) proofs
      → All (IsHonestLine H files archive) listed → AreRightOf listed proofs
  all_right told [] proofs are honest = record { findings = []; each = tt; collides = refl; refused = refl }
  all_right told (line ∷ listed) [] are honest = absurd are
  all_right told (line ∷ listed) (proof ∷ proofs) are honest =
      let one : IsHonestLine H files archive line = All-head (IsHonestLine H files archive) line listed honest in
      one_right line listed proof proofs one (gathered_right told line proof are.0 one)
      (all_right told listed proofs are.1 (All-tail (IsHonestLine H files archive) line listed honest))

  -- ---- the steps of `sweep`

  -- whatever is found is right
  findings_pass : (words : SweepWords) (listed : List Listed) (proofs : List Gathered) → AreRightOf listed proofs → Passes files (audits H words archive listed proofs)
  findings_pass words listed proofs right findings are =
      let same = one_findings H archive listed proofs right.findings findings right.each are in (
        subst (λ (all : List Finding). list_any is_collision all ≡ false) same right.collides,
        (subst (λ (all : List Finding). list_any is_refused all ≡ false) same right.refused, tt),
      )

  passes_right : (words : SweepWords) (bytes : List ℕ) (listed : List Listed) (proofs : List Gathered) → IsListOf IsListed 1000 bytes listed
      → AreGathered files (names_of listed) proofs → AreRightOf listed proofs → Passes files (sweeps H words archive bytes)
  passes_right words bytes listed proofs list gathered right = (
    listed,
    list,
    passes_gathers files (audits H words archive listed) [] (names_of listed) proofs gathered.each gathered.within
        (findings_pass words listed proofs right),
  )

  -- the first line alone
  passes_one : (words : SweepWords) (bytes line : List ℕ) (lines : List (List ℕ)) (listed : Listed) → lines_of bytes ≡ line ∷ lines → IsListed line listed
      → IsHonestLine H files archive listed → Passes files (sweeps H words archive line)
  passes_one words bytes line lines listed first is honest =
      let alone : lines_of line ≡ line ∷ [] = elim (first_alone bytes line lines first).0 [
        | inl one ↦ one
        | inr none ↦ absurd (asks_some line listed is none)
      ] in
      let counted = sum_by-cons size (Whole honest.bytes) [] in
      passes_right words line (listed ∷ []) (Whole honest.bytes ∷ [])
      (record { some = omega arith; few = omega arith; each = subst (λ (all : List (List ℕ)). AllZip IsListed all (listed ∷ [])) (sym alone) (is, tt) })
      (record { each = (honest.file, tt); within = omega (arith, counted, honest.file.short) })
      (one_right listed [] (Whole honest.bytes) [] honest (line_right listed honest) (record { findings = []; each = tt; collides = refl; refused = refl }))

module _ (H : List ℕ → List ℕ) (sized : (m : List ℕ) → length (H m) ≡ 32) (archive : Archive) where
  -- if the shelf does not report its files, any file may be the list: it is one of the first line alone
  unreported : (words : SweepWords) (bytes : List ℕ) (lines : List (List ℕ)) (listed : List Listed) → lines_of bytes ≡ lines → AllZip IsListed lines listed
      → 1 ≤ length listed → length bytes ≤ 2 ^ 20 → (index : List ℕ) → IsSpelling H index archive → All (IsHonestLine H None archive) listed
      → Passes None (reads_file words.list (2 ^ 20) (λ all. sweeps H words archive all))
  unreported words bytes [] [] same are some short index spelling honest = absurd (omega (arith, some))
  unreported words bytes [] (one ∷ listed) same are some short index spelling honest = absurd are
  unreported words bytes (line ∷ lines) [] same are some short index spelling honest = absurd are
  unreported words bytes (line ∷ lines) (one ∷ listed) same are some short index spelling honest =
      let within = (first_alone bytes line lines same).1 in
      inr (
        line,
        record { held = tt; short = omega (arith, within, short) },
        passes_one H sized None archive index spelling words bytes line lines one same are.0 (All-head (IsHonestLine H None archive) one listed honest),
      )

  pub sweep_steps_hold : (files : Files) (words : SweepWords) (listed : List Listed) → HasIndex H files words.index archive → IsList files words.list listed
      → AreAllThere files (names_of listed) → All (IsHonestLine H files archive) listed → StepsHold H files (Auditor (Sweep words))
  sweep_steps_hold None words listed index list there honest = inr (
    index.bytes,
    index.file,
    (archive, index.spelling, unreported words list.bytes (lines_of list.bytes) listed refl list.list.each list.list.some list.file.short index.bytes index.spelling honest),
  )
  sweep_steps_hold (Some map) words listed index list there honest =
      let right = all_right H sized (Some map) archive index.bytes index.spelling refl listed there.0 there.1.each honest in
      inr (
        index.bytes,
        index.file,
        (
          archive,
          index.spelling,
          inr (
            list.bytes,
            list.file,
            passes_right H sized (Some map) archive index.bytes index.spelling words list.bytes listed there.0 list.list there.1 right,
          ),
        ),
      )
