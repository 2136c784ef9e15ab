-- The plan of each command goes one way at most, and stops none for its words.
use Rattle.std.proofs.Common.{◌≡◌, ◌≤◌, ◌^◌, ◌++◌, ◌∷◌, ◌∙◌, ℕ, Bool, true, false, List, [], Option, sym, arith, true≢false, ap}
use Rattle.std.specs.List.{list_any}
use Rattle.ats_tree.specs.Differences.{Difference}
use Rattle.ats_commit.specs.Archive.{Archive}
use Rattle.ats_commit.specs.Root.{root_of}
use Rattle.ats_grammar.specs.declared.fault.ShapeFault.{ShapeFault}
use Rattle.ats_grammar.proofs.Public.{no_fault, one_fault}
use Rattle.ats_refusal.specs.declared.proof.Rejection.TheVariants.{Shape}
use Rattle.ats_catalog_bytes.specs.Catalog.{catalog_root}
use Rattle.ats_catalog_bytes.specs.Grammar.{catalog_schema}
use Rattle.ats_catalog_bytes.specs.Value.{IsCatalogProof, fields_of}
use Rattle.ats_catalog_bytes.proofs.Public.{one_catalog}
use Rattle.ats_catalog_check.specs.Bytes.{IsAcceptedCatalog}
use Rattle.ats_catalog_audit.specs.Verdicts.{AreAcceptedShards}
use Rattle.ats_catalog_audit.proofs.Public.{one_shards}
use Rattle.ats_plan.specs.Plan.{Plan, Tries}
use Rattle.ats_plan.specs.Inner.Sound.{IsExact, IsOne}
use Rattle.ats_console.specs.Words.{AuditorCommand, Audit, AuditFetch, AuditBoth, AuditGrowth, AuditCatalog, Sweep, Trial, SweepWords, AuditCatalogWords}
use Rattle.ats_console.specs.Kinds.{catalog_kind}
use Rattle.ats_console.specs.RejectionLines.{line_of_rejection}
use Rattle.ats_console.specs.declared.stops.Stop.{Stop}
use Rattle.ats_console.specs.declared.stops.Stop.TheVariants.{Rejected, Collision}
use Rattle.ats_console.proofs.Public.{Sound, ends, fails, tries, gets, makes, reads, not_input, not_rejected, not_collision, list_one, query_sound, ranking_sound, index_sound, checks_sound, named_sound, names_sound, archives_sound, text_one, both_one, growth_one, catalog_one}
use Rattle.ats_auditors.specs.Listed.{IsListed, names_of}
use Rattle.ats_auditors.specs.Gathered.{total}
use Rattle.ats_auditors.specs.Findings.{Finding, is_refused, is_collision, lines_of_findings}
use Rattle.ats_auditors.specs.Trial.{IsTrialAccepted, RefusesTrial}
use Rattle.ats_auditors.specs.Collided.{finds_none}
use Rattle.ats_auditors.specs.Commands.{auditor_plan, audit_catalog_plan, RejectsShape, PassesSweepLimit, gathers, concludes, audits, sweeps}
use Rattle.ats_auditors.specs.declared.gathering.Gathered.{Gathered}
use Rattle.ats_auditors.specs.declared.gathering.Gathered.TheVariants.{Whole, Long}
use Rattle.ats_auditors.proofs.OneListed.{one_listed}
use Rattle.ats_auditors.proofs.OneFinding.{one_findings}
use Rattle.ats_auditors.proofs.OneCollision.{collision_exact}
use Rattle.ats_auditors.proofs.OneTrial.{trial_not_refused, one_trial}

none_sound : {P : Type 0} {H : List ℕ → List ℕ} {first : Option (Difference P)} {lines_of : Difference P → List ℕ} {rest : Plan Stop} → Sound rest
    → Sound (finds_none H first lines_of rest)
none_sound {H = H} {first = first} {lines_of = lines_of} later = tries (collision_exact H first lines_of) (λ stops. not_collision stops.2) later

sweep_limit_exact : (bytes : ℕ) → IsExact (bytes ≤ 2 ^ 28) (PassesSweepLimit bytes)
sweep_limit_exact bytes = record {
  breaks = λ stop is within. omega (arith, is.0, within);
  one = λ a b is also. is.1 ∙ sym also.1;
}

gathers_sound : {rest : List Gathered → Plan Stop} (got : List Gathered) (names : List (List ℕ)) → ((proofs : List Gathered) → Sound (rest proofs))
    → Sound (gathers got names rest)
gathers_sound got [] later = later got
gathers_sound {rest = rest} got (name ∷ names) later =
    let next : (proof : Gathered) → Sound (Tries (total (got ++ proof ∷ []) ≤ 2 ^ 28) (PassesSweepLimit (total (got ++ proof ∷ []))) (gathers (got ++ proof ∷ []) names rest)) =
    λ proof. tries (sweep_limit_exact (total (got ++ proof ∷ []))) (λ stops. not_input stops.1) (gathers_sound {rest = rest} (got ++ proof ∷ []) names later) in
    reads (next Long) (λ bytes. next (Whole bytes))

-- a test that is to be false
test_exact : (test : Bool) (to : Stop) → IsExact (test ≡ false) (λ (stop : Stop). (test ≡ true) × (stop ≡ to))
test_exact test to = record {
  breaks = λ stop is not. true≢false (sym is.0 ∙ not);
  one = λ a b is also. is.1 ∙ sym also.1;
}

concludes_sound : (findings : List Finding) {rest : Plan Stop} → Sound rest → Sound (concludes findings rest)
concludes_sound findings later =
    tries (test_exact (list_any is_collision findings) (Collision (lines_of_findings findings))) (λ stops. not_collision stops.1)
    (tries (test_exact (list_any is_refused findings) (Rejected (lines_of_findings findings))) (λ stops. not_rejected stops.1) later)

sweeps_sound : (H : List ℕ → List ℕ) (words : SweepWords) (archive : Archive) (bytes : List ℕ) → Sound (sweeps H words archive bytes)
sweeps_sound H words archive bytes =
    gets (list_one IsListed 1000 one_listed bytes) (λ stops. not_input stops.2) (λ listed. gathers_sound {rest = audits H words archive listed} [] (names_of listed)
    (λ proofs. makes (one_findings H archive listed proofs) (λ findings. concludes_sound findings ends)))

-- ---- the audit of a catalog's answer

shape_one : (bytes : List ℕ) → IsOne (IsCatalogProof bytes) (RejectsShape bytes)
shape_one bytes = record {
  single = one_catalog bytes;
  breaks = λ shown stop stops is. no_fault catalog_schema bytes stops.0 (fields_of shown) stops.1 is.spells;
  one = λ a b is also. is.2 ∙ ap (λ (fault : ShapeFault). Rejected (line_of_rejection (Shape fault))) (one_fault catalog_schema bytes is.0 also.0 is.1 also.1) ∙ sym also.2;
}

shards_one : (H : List ℕ → List ℕ) (root : List ℕ) (query : List (List ℕ × ℕ)) (r : ℕ) (bytes : List ℕ)
    → IsOne (AreAcceptedShards H root query r bytes) ((catalog_kind H root query r).rejects bytes)
shards_one H root query r bytes =
    let whole : IsOne (IsAcceptedCatalog H root query r bytes) ((catalog_kind H root query r).rejects bytes) = (catalog_one H root query r).one bytes in
    record {
      single = one_shards H root query r bytes;
      breaks = λ shards stop stops is. whole.breaks shards.frames stop stops is.accepted;
      one = whole.one;
    }

catalog_sound : (H : List ℕ → List ℕ) (words : AuditCatalogWords) → Sound (audit_catalog_plan H words)
catalog_sound H words = ranking_sound (λ query. names_sound (λ names. reads (fails not_rejected) (λ bytes.
    gets (shape_one bytes) (λ stops. not_rejected stops.2) (λ shown. archives_sound H [] names (λ catalog.
    gets (shards_one H (catalog_root H catalog) query words.r bytes) ((catalog_one H (catalog_root H catalog) query words.r).free bytes) (λ shards. none_sound ends))))))

trial_exact : (H : List ℕ → List ℕ) (number : ℕ) → IsExact (IsTrialAccepted H number) (RefusesTrial H number)
trial_exact H number = record { breaks = trial_not_refused H number; one = one_trial H number }

pub auditor_sound : (H : List ℕ → List ℕ) (command : AuditorCommand) → Sound (auditor_plan H command)
auditor_sound H (Audit words) = ranking_sound (λ query. index_sound (λ archive. reads (fails not_rejected) (λ bytes. checks_sound (λ proof. none_sound ends))))
auditor_sound H (AuditFetch words) = index_sound (λ archive. named_sound (text_one H (root_of H archive) words.doc) (λ proof. none_sound ends))
auditor_sound H (AuditBoth words) = query_sound (λ query. index_sound (λ archive. named_sound (both_one H (root_of H archive) query) (λ proof. none_sound ends)))
auditor_sound H (AuditGrowth words) = index_sound (λ older. index_sound (λ newer. named_sound (growth_one H (root_of H older) (root_of H newer)) (λ growth. none_sound ends)))
auditor_sound H (AuditCatalog words) = catalog_sound H words
auditor_sound H (Sweep words) = index_sound (λ archive. reads (fails not_input) (λ bytes. sweeps_sound H words archive bytes))
auditor_sound H (Trial words) = tries (trial_exact H words.number) (λ stops. not_input stops.2) ends
