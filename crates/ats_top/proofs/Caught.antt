-- If two strings of what was accepted and of an archive collide, each audit of it prints the first two that do.
use Rattle.std.proofs.Common.{◌≡◌, ◌⊎◌, ◌∙◌, ◌++◌, ◌∷◌, ℕ, List, [], Option, None, Some, refl, sym, ap, subst, inl, inr, append-nil, append_assoc}
use Rattle.std.specs.List.{AllZip}
use Rattle.std.specs.Prelude.{IsSome, option_map}
use Rattle.ats_terms.specs.Query.{IsQueryOf}
use Rattle.ats_tree.specs.Differences.{Difference}
use Rattle.ats_tree.proofs.Public.{AreColliding}
use Rattle.ats_commit.specs.Archive.{Archive}
use Rattle.ats_commit.specs.Root.{root_of}
use Rattle.ats_proof.specs.Value.{Proof}
use Rattle.ats_client.specs.Bytes.{IsAcceptedBytes}
use Rattle.ats_client.specs.Strings.{proof_collision}
use Rattle.ats_client.proofs.Public.{collision-collides}
use Rattle.ats_all_check.specs.Bytes.{AreAcceptedBytes}
use Rattle.ats_text_check.specs.Strings.{text_collision}
use Rattle.ats_text_check.specs.Value.{TextProof}
use Rattle.ats_text_check.specs.Bytes.{IsAcceptedText}
use Rattle.ats_text_proof.proofs.Public as texts
use Rattle.ats_growth_check.specs.Strings as growth
use Rattle.ats_growth_check.specs.Value.{Growth}
use Rattle.ats_growth_check.specs.Bytes.{IsAcceptedGrowth}
use Rattle.ats_growth_proof.proofs.Public as growths
use Rattle.ats_catalog_bytes.specs.Catalog.{catalog_root}
use Rattle.ats_catalog_audit.specs.Verdicts.{Shards, AreAcceptedShards, shards_collision}
use Rattle.ats_catalog_audit.proofs.Public as catalogs
use Rattle.ats_plan.specs.Files.{Files, IsTold}
use Rattle.ats_plan.specs.Plan.{Plan, Refuses, Finishes}
use Rattle.ats_console.specs.Words.{Audit, AuditBoth, AuditCatalog, AuditCatalogWords, AuditFetch, AuditGrowth, Command, command_of, Auditor}
use Rattle.ats_console.specs.Names.{reads_archives}
use Rattle.ats_console.specs.Read.{HasIndex}
use Rattle.ats_console.specs.Steps.{AsksRanking}
use Rattle.ats_console.specs.declared.stops.Stop.{Stop}
use Rattle.ats_top.specs.Calling.{MayCall, MayOpen}
use Rattle.ats_auditors.specs.Collided.{Collides, lines_of_proof_collision, lines_of_catalog_collision, lines_of_growth_collision, lines_of_text_collision}
use Rattle.ats_auditors.specs.Audited.{audits_bytes, catalog_audit}
use Rattle.ats_auditors.specs.Commands.{IsCatalogAudited}
use Rattle.ats_top.specs.Commands.{plan_of}
use Rattle.ats_top.specs.Outside.{Outside}
use Rattle.ats_top.specs.Run.{StepsHold, Excuse, NoMemory, SinkFailed, ShelfFailed, CallerFailed, DoorBroke, Ran}
use Rattle.ats_top.specs.Serving.{Took}
use Rattle.ats_top.specs.Theorem.{AuditsProof, AuditsText, AuditsBoth, AuditsGrowth, AuditsCatalog, FailsForCause, IsCaught}
use Rattle.ats_console.specs.declared.stops.Stop.TheVariants.{Shelf, Collision}
use Rattle.ats_top.proofs.OneCommand.{its}
use Rattle.ats_top.proofs.Sound.{plan_sound}
use Rattle.ats_top.proofs.StopPrinted.{stop_printed}

-- a run of a command that comes to no link, and is refused by the lines of a collision
module _ (H : List ℕ → List ℕ) (said : List (List ℕ)) (before now : Outside) (status : ℕ) (command : Command) (is : command_of said ≡ Some command)
    (calls : MayCall command → ⊥) (opens : MayOpen command → ⊥) where
  hindered : Excuse H said before now status → FailsForCause before now status
  hindered (NoMemory six some) = inl six
  hindered (SinkFailed seven rose) = inr (inr (seven, rose))
  hindered (ShelfFailed three comes rose) = inr (inl (three, rose))
  hindered (CallerFailed eight may rose) = absurd (calls (its said MayCall command may is))
  hindered (DoorBroke may failed) =
      absurd (opens (its said (λ c. MayOpen c × StepsHold H before.shelf.files c) command may is).0)

  collision_printed : (lines : List ℕ) → IsTold before.shelf.files → Refuses Shelf before.shelf.files (plan_of H command) (Collision lines) → Ran H said before now status
      → ((status ≡ 5) × Took before.sink now.sink lines) ⊎ FailsForCause before now status
  collision_printed lines told refuses ran = elim (stop_printed H said before now command (Collision lines) is (plan_sound H command) (inl told) refuses status ran) [
    | inl printed ↦ inl printed
    | inr excuse ↦ inr (hindered excuse)
  ]

-- a value that is there
there : {T : Type 0} (found : Option T) → IsSome found → (value : T) × (found ≡ Some value)
there None some = absurd (cc)
there (Some value) some = (value, refl)

-- if some strings collide, and each audit is a command that comes to no link and is refused by the lines of the first that do
caught : {P : Type 0} (H : List ℕ → List ℕ) (first : Option (Difference P)) (lines_of : Difference P → List ℕ) (audits : List (List ℕ) → Files → Type 0)
    → ((c : Difference P) → first ≡ Some c → AreColliding H c)
    → ((c : Difference P) → Collides H first c → (said : List (List ℕ)) (files : Files) → audits said files → (command : Command) × (command_of said ≡ Some command)
    × (MayCall command → ⊥) × (MayOpen command → ⊥) × Refuses Shelf files (plan_of H command) (Collision (lines_of c)))
    → IsSome first → IsCaught H lines_of audits
caught H first lines_of audits collides refused some =
    let found = there first some in
    let two = collides found.0 found.1 in
    record {
      collision = found.0;
      differ = two.0;
      equal = two.1;
      printed = λ said before now status told is ran.
          let run = refused found.0 (record { found = found.1; differ = two.0; equal = two.1 }) said before.shelf.files is in
          collision_printed H said before now status run.0 run.1 run.2 run.3 (lines_of found.0) told run.4 ran;
    }

-- it is right, or what collides is caught
pub or_caught : {A S C : Type 0} → A ⊎ S → (S → C) → A ⊎ C
or_caught (inl right) caught = inl right
or_caught (inr some) caught = inr (caught some)

module _ (H : List ℕ → List ℕ) (root : List ℕ) (bytes : List ℕ) (archive : Archive) (is : root_of H archive ≡ root) where
  -- the bytes of a proof of an answer
  pub proof_caught : (r : ℕ) (text : List ℕ) (query : List (List ℕ × ℕ)) (proof : Proof) → AsksRanking r text → IsQueryOf text query → IsAcceptedBytes H root query r bytes proof
      → IsSome (proof_collision H archive query proof) → IsCaught H lines_of_proof_collision (AuditsProof H archive r text bytes)
  proof_caught r text query proof asks asked accepted =
      let own = subst (λ (other : List ℕ). IsAcceptedBytes H other query r bytes proof) (sym is) accepted in
      caught H (proof_collision H archive query proof) lines_of_proof_collision (AuditsProof H archive r text bytes) (collision-collides H archive query proof) (λ c two said files audits. (
        Auditor (Audit (record { index = audits.index; r = r; query = text; proof = audits.proof })),
        ap command_of audits.says ∙ ap (option_map (λ n. Auditor (Audit (record { index = audits.index; r = n; query = text; proof = audits.proof })))) audits.number,
        (λ never. never),
        (λ never. never),
        inr (asks.rows, inr (query, asked, inr (inr (audits.has.bytes, audits.has.file, inr (archive, audits.has.spelling, inr (inr (bytes, audits.file, inr (proof, own, inl (c, two, refl))))))))),
      ))

  -- those of a text
  pub text_caught : (doc : ℕ) (proof : TextProof) → IsAcceptedText H root doc bytes proof
      → IsSome (text_collision H archive doc proof) → IsCaught H lines_of_text_collision (AuditsText H archive doc bytes)
  text_caught doc proof accepted =
      let own = subst (λ (other : List ℕ). IsAcceptedText H other doc bytes proof) (sym is) accepted in
      caught H (text_collision H archive doc proof) lines_of_text_collision (AuditsText H archive doc bytes) (texts.collision-collides H archive doc proof) (λ c two said files audits. (
        Auditor (AuditFetch (record { index = audits.index; doc = doc; file = audits.text })),
        ap command_of audits.says ∙ ap (option_map (λ n. Auditor (AuditFetch (record { index = audits.index; doc = n; file = audits.text })))) audits.number,
        (λ never. never),
        (λ never. never),
        inr (inr (audits.has.bytes, audits.has.file, inr (archive, audits.has.spelling, inr (inr (bytes, audits.file, inr (proof, own, inl (c, two, refl))))))),
      ))

  -- those of a proof of all documents with every term
  pub both_caught : (text : List ℕ) (query : List (List ℕ × ℕ)) (proof : Proof) → IsQueryOf text query → AreAcceptedBytes H root query bytes proof
      → IsSome (proof_collision H archive query proof) → IsCaught H lines_of_proof_collision (AuditsBoth H archive text bytes)
  both_caught text query proof asked accepted =
      let own = subst (λ (other : List ℕ). AreAcceptedBytes H other query bytes proof) (sym is) accepted in
      caught H (proof_collision H archive query proof) lines_of_proof_collision (AuditsBoth H archive text bytes) (collision-collides H archive query proof) (λ c two said files audits. (
        Auditor (AuditBoth (record { index = audits.index; query = text; proof = audits.proof })),
        ap command_of audits.says,
        (λ never. never),
        (λ never. never),
        inr (query, asked, inr (inr (audits.has.bytes, audits.has.file, inr (archive, audits.has.spelling, inr (inr (bytes, audits.file, inr (proof, own, inl (c, two, refl)))))))),
      ))

-- those of a growth
pub growth_caught : (H : List ℕ → List ℕ) (old_root new_root bytes : List ℕ) (shown : Growth) → IsAcceptedGrowth H old_root new_root bytes shown
    → (older newer : Archive) → root_of H older ≡ old_root → root_of H newer ≡ new_root
    → IsSome (growth.growth_collision H older newer shown) → IsCaught H lines_of_growth_collision (AuditsGrowth H older newer bytes)
growth_caught H old_root new_root bytes shown accepted older newer is also =
    let own = subst (λ (root : List ℕ). IsAcceptedGrowth H root (root_of H newer) bytes shown) (sym is)
    (subst (λ (root : List ℕ). IsAcceptedGrowth H old_root root bytes shown) (sym also) accepted) in
    caught H (growth.growth_collision H older newer shown) lines_of_growth_collision (AuditsGrowth H older newer bytes) (growths.collision-collides H older newer shown) (λ c two said files audits. (
      Auditor (AuditGrowth (record { old = audits.old; new = audits.new; file = audits.growth })),
      ap command_of audits.says,
      (λ never. never),
      (λ never. never),
      inr (inr (audits.has.bytes, audits.has.file, inr (older, audits.has.spelling, inr (inr (audits.also.bytes, audits.also.file, inr (newer, audits.also.spelling, inr (inr (bytes, audits.file, inr (shown, own, inl (c, two, refl)))))))))),
    ))

-- and those of a catalog's answer
module _ (H : List ℕ → List ℕ) (root bytes : List ℕ) (catalog : List Archive) (is : catalog_root H catalog ≡ root) where
  -- a command that reads the indexes comes to what is left
  refuses_archives : (files : Files) (rest : List Archive → Plan Stop) (stop : Stop) (got : List Archive) (names : List (List ℕ)) (archives : List Archive)
      → AllZip (HasIndex H files) names archives → Refuses Shelf files (rest (got ++ archives)) stop → Refuses Shelf files (reads_archives H got names rest) stop
  refuses_archives files rest stop got [] [] have refused = subst (λ (all : List Archive). Refuses Shelf files (rest all) stop) (append-nil got) refused
  refuses_archives files rest stop got [] (a ∷ archives) have refused = absurd have
  refuses_archives files rest stop got (name ∷ names) [] have refused = absurd have
  refuses_archives files rest stop got (name ∷ names) (archive ∷ archives) have refused =
      inr (inr (
        have.0.bytes,
        have.0.file,
        inr (
          archive,
          have.0.spelling,
          refuses_archives files rest stop (got ++ archive ∷ []) names archives have.1
              (subst (λ (all : List Archive). Refuses Shelf files (rest all) stop) (sym (append_assoc got (archive ∷ []) archives)) refused),
        ),
      ))

  pub catalog_caught : (r : ℕ) (text : List ℕ) (query : List (List ℕ × ℕ)) (shards : Shards) → AsksRanking r text → IsQueryOf text query
      → AreAcceptedShards H root query r bytes shards → IsSome (shards_collision H catalog query shards)
      → IsCaught H lines_of_catalog_collision (AuditsCatalog H catalog r text bytes)
  catalog_caught r text query shards asks asked accepted =
      let own : AreAcceptedShards H (catalog_root H catalog) query r bytes shards = subst (λ (other : List ℕ). AreAcceptedShards H other query r bytes shards) (sym is) accepted in
      caught H (shards_collision H catalog query shards) lines_of_catalog_collision (AuditsCatalog H catalog r text bytes) (catalogs.collision-collides H catalog query shards) (λ c two said files audits.
      let words : AuditCatalogWords = record { list = audits.list; r = r; query = text; file = audits.shown } in
      let rest : List Archive → Plan Stop = λ all. audits_bytes H (catalog_audit H all query r) bytes (λ shown. Finishes (λ files text. IsCatalogAudited H files words text)) in
      let stop : Stop = Collision (lines_of_catalog_collision c) in
      let refused : Refuses Shelf files (reads_archives H [] audits.names rest) stop =
      refuses_archives files rest stop [] audits.names catalog audits.have (inr (shards, own, inl (c, two, refl))) in (
        Auditor (AuditCatalog words),
        ap command_of audits.says ∙ ap (option_map (λ n. Auditor (AuditCatalog (record { list = audits.list; r = n; query = text; file = audits.shown })))) audits.number,
        (λ never. never),
        (λ never. never),
        inr (
          asks.rows,
          inr (
            query,
            asked,
            inr (inr (
              audits.listed.bytes,
              audits.listed.file,
              inr (
                audits.names,
                audits.listed.list,
                inr (inr (bytes, audits.file, inr (shards.frames, own.accepted.says, refused))),
              ),
            )),
          ),
        ),
      ))
