-- An audit that begins, takes one index more, and ends.
use Rattle.std.proofs.Common.{◌≡◌, ◌≢◌, ◌∙◌, ◌≤◌, ◌+◌, ◌++◌, ◌∷◌, ℕ, zero, suc, List, [], length, drop, slice_get, Option, Some, None, Result, Ok, Err, IfOk, IfErr, refl, sym, ap, subst, inl, inr, arith}
use Rattle.std.specs.List.{All}
use Rattle.std.specs.Option.{option_or, option_map}
use Rattle.std.proofs.lemmas.List.{length-append, length-map, map-append, drop-drop}
use Rattle.std.proofs.lemmas.List.Elements.{All-nil, All-cons, All-tail, All-append}
use Rattle.ats_refusal.specs.declared.catalog.CatalogRefusal.{CatalogRefusal}
use Rattle.ats_refusal.specs.declared.catalog.CatalogRefusal.TheVariants.{OtherRoot}
use Rattle.ats_tree.specs.Differences.{Difference}
use Rattle.ats_tree.proofs.Public.{none_some}
use Rattle.ats_commit.specs.Archive.{Archive}
use Rattle.ats_commit.specs.Own.{AreTexts}
use Rattle.ats_commit.specs.Root.{root_of}
use Rattle.ats_proof.specs.Value.{Proof, IsProof}
use Rattle.ats_client.specs.Strings.{proof_collision}
use Rattle.ats_catalog_bytes.specs.Catalog.{IsCatalog, catalog_root, root_over, roots_of}
use Rattle.ats_catalog_bytes.specs.Strings.{roots_collision}
use Rattle.ats_catalog_bytes.specs.Value.{Framed, IsCatalogProof, shown_roots}
use Rattle.ats_catalog_bytes.proofs.Public.{one_catalog}
use Rattle.ats_catalog_check.specs.Accepts.{AreProofs, IsShardRight}
use Rattle.ats_catalog_check.specs.Bytes.{AreVerifiedRows, IsAcceptedCatalog, IsRefusedCatalog}
use Rattle.ats_catalog_check.specs.Headline.{AreRightIn}
use Rattle.ats_catalog_check.specs.Merge.{Held}
use Rattle.ats_catalog_check.specs.Strings.{CatalogPlace, over_roots, in_proof, difference_at, proofs_collision}
use Rattle.ats_catalog_audit.specs.Inner.Firsts.{IsFirstWith}
use Rattle.ats_catalog_audit.specs.AuditState.{AuditState}
use Rattle.ats_catalog_audit.specs.UnderWay.{IsUnderWay, HasTaken}
use Rattle.ats_catalog_audit.specs.Verdicts.{Shards, AreAcceptedShards, shards_collision, IsFoundRight, IsFoundClash, difference_of}
use Rattle.ats_catalog_audit.specs.declared.verdict.CatalogClash.{CatalogClash}
use Rattle.ats_catalog_audit.proofs.Firsts.{all_right, collision_more, collision_past}

-- ---- it begins

-- each shard's proof of an accepted file keeps its rules
pub shown_right : (H : List ℕ → List ℕ) (root : List ℕ) (query : List (List ℕ × ℕ)) (r : ℕ) (bytes : List ℕ) (shown : List Framed) (rows : Held)
    → IsCatalogProof bytes shown → AreVerifiedRows H root query r bytes rows.rows → All (IsShardRight H query) shown
shown_right H root query r bytes shown rows says verified =
    subst (All (IsShardRight H query)) (one_catalog bytes verified.shards shown verified.accepted.says says)
    (all_right H root query r verified.shards verified.accepted.accepts)

pub rights : (H : List ℕ → List ℕ) (root : List ℕ) (query : List (List ℕ × ℕ)) (r : ℕ) (bytes : List ℕ) (shown left : List Framed) (checked : Result Held CatalogRefusal)
    → left ≡ shown → IsCatalogProof bytes shown → IfOk checked (λ rows. AreVerifiedRows H root query r bytes rows.rows) → IfOk checked (λ rows. All (IsShardRight H query) left)
rights H root query r bytes shown left (Ok rows) same says verified = subst (All (IsShardRight H query)) (sym same) (shown_right H root query r bytes shown rows says verified)
rights H root query r bytes shown left (Err refusal) same says verified = tt

-- ---- one index more

-- those after the first keep them, too
dropped : {X : Type 0} (P : X → Type 0) (xs : List X) → All P xs → All P (drop 1 xs)
dropped P [] each = All-nil P
dropped P (x ∷ xs) each = All-tail P x xs each

pub left_right : {R E : Type 0} (P : Framed → Type 0) (checked : Result R E) (left old : List Framed) → left ≡ drop 1 old → IfOk checked (λ rows. All P old)
    → IfOk checked (λ rows. All P left)
left_right P (Ok rows) left old passed each = subst (All P) (sym passed) (dropped P old each)
left_right P (Err refusal) left old passed each = tt

-- the proof of the next shard, if there is one
proof_at : (shown : List Framed) (proofs : List Proof) (n : ℕ) (one : Framed) → AreProofs shown proofs → slice_get (drop n shown) 0 ≡ Some one
    → (proof : Proof) × (slice_get proofs n ≡ Some proof) × IsProof one.bytes proof
proof_at [] proofs zero one are is = absurd (cc)
proof_at [] proofs (suc n) one are is = absurd (cc)
proof_at (f ∷ shown) [] n one are is = absurd are
proof_at (f ∷ shown) (p ∷ proofs) zero one are is =
    let same : f ≡ one = cc in
    (p, refl, subst (λ (x : Framed). IsProof x.bytes p) same are.0)
proof_at (f ∷ shown) (p ∷ proofs) (suc n) one are is = proof_at shown proofs n one are.1 is

proof_past : (shown : List Framed) (proofs : List Proof) (n : ℕ) → AreProofs shown proofs → slice_get (drop n shown) 0 ≡ None → slice_get proofs n ≡ None
proof_past [] [] n are is = refl
proof_past [] (p ∷ proofs) n are is = absurd are
proof_past (f ∷ shown) [] n are is = absurd are
proof_past (f ∷ shown) (p ∷ proofs) zero are is = absurd (cc)
proof_past (f ∷ shown) (p ∷ proofs) (suc n) are is = proof_past shown proofs n are.1 is

module _ (H : List ℕ → List ℕ) (index : Archive) (audit : AuditState) (left : List Framed) (roots : List (List ℕ)) (first : Option (Difference CatalogPlace)) where
  -- what it keeps then
  abbrev pub after : AuditState
  after = record { query = audit.query; shown = audit.shown; root = audit.root; checked = audit.checked; left = left; roots = roots; first = first }

  first_goes : (archives : List Archive) (query : List (List ℕ × ℕ)) (proofs : List Proof) (next : Option Framed) → audit.query ≡ query → length audit.roots ≡ length archives
      → AreProofs audit.shown proofs → slice_get (drop (length archives) audit.shown) 0 ≡ next → audit.first ≡ proofs_collision H query 0 archives proofs
      → IsFirstWith H index audit next first → first ≡ proofs_collision H query 0 (archives ++ index ∷ []) proofs
  first_goes archives query proofs None asked counted are is before with_it =
      with_it ∙ before ∙ collision_past H query index 0 archives proofs (proof_past audit.shown proofs (length archives) are is)
  first_goes archives query proofs (Some next) asked counted are is before with_it =
      let there = proof_at audit.shown proofs (length archives) next are is in
      with_it there.0 there.2
      ∙ ap (λ (o : Option (Difference CatalogPlace)). option_or o (option_map (difference_at (in_proof (length audit.roots))) (proof_collision H index audit.query there.0))) before
      ∙ ap (λ (n : ℕ). option_or (proofs_collision H query 0 archives proofs) (option_map (difference_at (in_proof n)) (proof_collision H index audit.query there.0))) (omega (arith, counted))
      ∙ ap (λ (q : List (List ℕ × ℕ)). option_or (proofs_collision H query 0 archives proofs) (option_map (difference_at (in_proof (0 + length archives))) (proof_collision H index q there.0))) asked
      ∙ collision_more H query index 0 archives proofs there.0 there.1

  all_firsts : (checked : Result Held CatalogRefusal) (archives : List Archive) (query : List (List ℕ × ℕ)) → audit.query ≡ query → length audit.roots ≡ length archives
      → slice_get audit.left 0 ≡ slice_get (drop (length archives) audit.shown) 0
      → IfOk checked (λ rows. (proofs : List Proof) → AreProofs audit.shown proofs → audit.first ≡ proofs_collision H query 0 archives proofs)
      → IfOk checked (λ rows. IsFirstWith H index audit (slice_get audit.left 0) first)
      → IfOk checked (λ rows. (proofs : List Proof) → AreProofs audit.shown proofs → first ≡ proofs_collision H query 0 (archives ++ index ∷ []) proofs)
  all_firsts (Ok rows) archives query asked counted same before with_it = λ proofs are.
      first_goes archives query proofs (slice_get audit.left 0) asked counted are (sym same) (before proofs are) with_it
  all_firsts (Err refusal) archives query asked counted same before with_it = tt

  pub taken_one : AreTexts index.texts → left ≡ drop 1 audit.left → roots ≡ audit.roots ++ root_of H index ∷ []
      → IfOk audit.checked (λ rows. IsFirstWith H index audit (slice_get audit.left 0) first) → HasTaken H (index ∷ []) audit after
  taken_one texts passed added with_it = record {
    roots = added;
    goes = λ archives query r bytes is.
        let counted : length audit.roots ≡ length archives = ap length is.roots ∙ length-map archives (root_of H) in
        record {
          asked = is.asked;
          says = is.says;
          root = is.root;
          accepted = is.accepted;
          refused = is.refused;
          texts = All-append (λ (archive : Archive). AreTexts archive.texts) archives (index ∷ []) is.texts
              (All-cons (λ (archive : Archive). AreTexts archive.texts) index [] texts (All-nil (λ (archive : Archive). AreTexts archive.texts)));
          roots = added ∙ ap (λ (l : List (List ℕ)). l ++ root_of H index ∷ []) is.roots ∙ sym (map-append (root_of H) archives (index ∷ []));
          left = passed ∙ ap (drop 1) is.left ∙ drop-drop 1 (length archives) audit.shown
              ∙ ap (λ (n : ℕ). drop n audit.shown) (sym (length-append archives (index ∷ [])));
          first = all_firsts audit.checked archives query is.asked counted (ap (λ (l : List Framed). slice_get l 0) is.left) is.first with_it;
        };
  }

-- ---- it ends

module _ (H : List ℕ → List ℕ) (catalog : List Archive) (query : List (List ℕ × ℕ)) (r : ℕ) (bytes : List ℕ) (audit : AuditState) (is : IsUnderWay H catalog query r bytes audit) where
  -- the root over the roots that it kept is the catalog's
  pub own_root : (root : List ℕ) → root ≡ root_over H audit.roots → root ≡ catalog_root H catalog
  own_root root so = so ∙ ap (root_over H) is.roots

  pub ends_other : catalog_root H catalog ≢ audit.root → IsRefusedCatalog H (catalog_root H catalog) query r bytes OtherRoot
  ends_other other = record {
    shards = audit.shown;
    says = is.says;
    refused = record { first = inl (λ same. other (sym (is.root ∙ same))) };
  }

  module _ (same : audit.root ≡ catalog_root H catalog) where
    pub ends_refused : (refusal : CatalogRefusal) → audit.checked ≡ Err refusal → IsRefusedCatalog H (catalog_root H catalog) query r bytes refusal
    ends_refused refusal err =
        subst (λ (root : List ℕ). IsRefusedCatalog H root query r bytes refusal) same
        (subst (λ (c : Result Held CatalogRefusal). IfErr c (IsRefusedCatalog H audit.root query r bytes)) err is.refused)

    module _ (rows : Held) (ok : audit.checked ≡ Ok rows) where
      verified : AreVerifiedRows H audit.root query r bytes rows.rows
      verified = subst (λ (c : Result Held CatalogRefusal). IfOk c (λ rows. AreVerifiedRows H audit.root query r bytes rows.rows)) ok is.accepted

      firsts : (proofs : List Proof) → AreProofs audit.shown proofs → audit.first ≡ proofs_collision H query 0 catalog proofs
      firsts = subst (λ (c : Result Held CatalogRefusal). IfOk c (λ rows. (proofs : List Proof) → AreProofs audit.shown proofs → audit.first ≡ proofs_collision H query 0 catalog proofs)) ok is.first

      frames : verified.shards ≡ audit.shown
      frames = one_catalog bytes verified.shards audit.shown verified.accepted.says is.says

      abbrev shards : Shards
      shards = record { frames = verified.shards; proofs = verified.answer.proofs }

      accepted : AreAcceptedShards H (catalog_root H catalog) query r bytes shards
      accepted = record { accepted = subst (λ (root : List ℕ). IsAcceptedCatalog H root query r bytes verified.shards) same verified.accepted; say = verified.answer.say }

      collided : (over : Option (Difference CatalogPlace)) → over ≡ option_map (difference_at over_roots) (roots_collision H audit.roots (shown_roots audit.shown))
          → option_or over audit.first ≡ shards_collision H catalog query shards
      collided over so =
          ap (λ (o : Option (Difference CatalogPlace)). option_or o audit.first)
          (so ∙ ap (λ (l : List (List ℕ)). option_map (difference_at over_roots) (roots_collision H l (shown_roots audit.shown))) is.roots
          ∙ ap (λ (l : List Framed). option_map (difference_at over_roots) (roots_collision H (roots_of H catalog) (shown_roots l))) (sym frames))
          ∙ ap (option_or (option_map (difference_at over_roots) (roots_collision H (roots_of H catalog) (shown_roots verified.shards))))
          (firsts verified.answer.proofs (subst (λ (l : List Framed). AreProofs l verified.answer.proofs) frames verified.answer.say))

      -- over the roots
      pub ends_over : (clash : CatalogClash) → Some (difference_of clash) ≡ option_map (difference_at over_roots) (roots_collision H audit.roots (shown_roots audit.shown))
          → IsFoundClash H catalog query r bytes clash
      ends_over clash so = record { shards = shards; accepted = accepted; found = sym (collided (Some (difference_of clash)) so) }

      -- in a shard
      pub ends_in : (clash : CatalogClash) → None ≡ option_map (difference_at over_roots) (roots_collision H audit.roots (shown_roots audit.shown))
          → audit.first ≡ Some (difference_of clash) → IsFoundClash H catalog query r bytes clash
      ends_in clash so here = record { shards = shards; accepted = accepted; found = sym (collided None so) ∙ here }

      -- nowhere
      pub ends_right : None ≡ option_map (difference_at over_roots) (roots_collision H audit.roots (shown_roots audit.shown)) → audit.first ≡ None
          → 1 ≤ length audit.roots → length audit.roots ≤ 4096 → IsFoundRight H catalog query r bytes rows.rows
      ends_right so here some few =
          let none : shards_collision H catalog query shards ≡ None = sym (collided None so) ∙ here in
          let counted : length audit.roots ≡ length catalog = ap length is.roots ∙ length-map catalog (root_of H) in
          let are : IsCatalog catalog = record { some = omega (arith, counted, some); few = omega (arith, counted, few); texts = is.texts } in
          record {
            shards = shards;
            accepted = accepted;
            none = none;
            answer = verified.answer.are;
            right = elim (verified.headline catalog are (sym same) verified.answer.proofs verified.answer.say) [
              | inl right ↦ subst (AreRightIn catalog query r) (sym verified.answer.are) right
              | inr some ↦ absurd (none_some (shards_collision H catalog query shards) none some)
            ];
          }
