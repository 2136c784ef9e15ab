use Rattle.std.proofs.Common.{◌≡◌, ◌∙◌, ◌^◌, ℕ, List, [], append-nil, ap, refl, sym}
use Rattle.ats_proof.specs.Written.{writing}
use Rattle.ats_catalog_proof.specs.Written.{front_bytes}
use Rattle.ats_catalog_proof.proofs.Shards.{none_proved}
use Rattle.ats_catalog_proof.proofs.proving.CatalogProver.begin.Goals as goal

pub returns : goal.returns
returns g c =
    let ranking = c.args.ranking in
    let front : c.in_ok-writer.writer ≡ writing (2 ^ 28) (front_bytes ranking.roots) =
    c.in_ok-writer.ensures.front ∙ ap (λ (roots : List (List ℕ)). writing (2 ^ 28) (front_bytes roots)) c.roots.ensures.value in record {
      kept = refl;
      by = refl;
      none = refl;
      written = front ∙ ap (writing (2 ^ 28)) (sym (append-nil (front_bytes ranking.roots)));
      goes = λ catalog query r is. none_proved g.H.HashKind.hash catalog query r ranking c.args.algorithm c.in_ok-writer.writer front is;
    }
