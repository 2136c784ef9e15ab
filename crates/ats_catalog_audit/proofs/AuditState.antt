-- Indexes taken in two runs.
use Rattle.std.proofs.Common.{◌∙◌, ◌++◌, ℕ, List, [], sym, ap, subst, append-nil, append_assoc}
use Rattle.std.proofs.lemmas.List.{map-append}
use Rattle.ats_commit.specs.Archive.{Archive}
use Rattle.ats_commit.specs.Root.{root_of}
use Rattle.ats_catalog_bytes.specs.Catalog.{roots_of}
use Rattle.ats_catalog_audit.specs.AuditState.{AuditState}
use Rattle.ats_catalog_audit.specs.UnderWay.{IsUnderWay, HasTaken}

module _ (H : List ℕ → List ℕ) where
  pub taken_none : (audit : AuditState) → HasTaken H [] audit audit
  taken_none audit = record {
    roots = sym (append-nil audit.roots);
    goes = λ first query r bytes is. subst (λ (all : List Archive). IsUnderWay H all query r bytes audit) (sym (append-nil first)) is;
  }

  pub taken_more : (archives others : List Archive) (old now new : AuditState) → HasTaken H archives old now → HasTaken H others now new → HasTaken H (archives ++ others) old new
  taken_more archives others old now new took later = record {
    roots = later.roots ∙ ap (λ (roots : List (List ℕ)). roots ++ roots_of H others) took.roots ∙ append_assoc old.roots (roots_of H archives) (roots_of H others)
        ∙ ap (λ (roots : List (List ℕ)). old.roots ++ roots) (sym (map-append (root_of H) archives others));
    goes = λ first query r bytes is.
        subst (λ (all : List Archive). IsUnderWay H all query r bytes new) (append_assoc first archives others)
        (later.goes (first ++ archives) query r bytes (took.goes first query r bytes is));
  }
