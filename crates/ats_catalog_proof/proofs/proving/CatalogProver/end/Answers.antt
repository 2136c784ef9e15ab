use Rattle.std.proofs.Common.{◌≡◌, ◌≤◌, ◌^◌, length, sym, subst}
use Rattle.ats_proof.specs.Written.{writing}
use Rattle.ats_catalog_bytes.specs.Catalog.{roots_of}
use Rattle.ats_catalog_honest.specs.Honest.{IsProvedCatalog}
use Rattle.ats_catalog_proof.specs.Proving.{IsProving, IsTooLongCatalog}
use Rattle.ats_catalog_proof.specs.ProvingState.{ProvingState}
use Rattle.ats_catalog_proof.specs.Written.{bytes_of}
use Rattle.ats_catalog_proof.proofs.Frames.{proved_long, proved_whole}
use Rattle.ats_catalog_proof.proofs.proving.CatalogProver.end.Goals as goal

pub returns-in-Ok-clause-ok : goal.returns-in-Ok-clause-ok
returns-in-Ok-clause-ok g c catalog query r is =
    let H = g.H.HashKind.hash in
    let inside = c.self.inside in
    let old : ProvingState = record { ranking = inside.ranking; algorithm = inside.algorithm; written = inside.writer; proved = inside.proved } in
    let own : IsProving H catalog query r old = subst (IsProving H catalog query r) (sym c.self.view_is) is in
    let all : inside.proved ≡ length inside.ranking.roots = subst (λ (s : ProvingState). s.proved ≡ length s.ranking.roots) (sym c.self.view_is) c.requires.whole in
    let some : 1 ≤ inside.proved = subst (λ (s : ProvingState). 1 ≤ s.proved) (sym c.self.view_is) c.requires.some in
    let whole = c.in-Ok.ensures.whole (bytes_of (roots_of H catalog) own.proofs) own.written in
    subst (λ (s : ProvingState). IsProvedCatalog H catalog query r (λ _. s.algorithm) c.in-Ok.bytes) c.self.view_is
    (proved_whole H g.H.HashKind.sized catalog query r old own c.scores_need_no_edges.ensures all some c.self.invariant.1 c.in-Ok.bytes whole.0 whole.1)

pub returns-clause-long : goal.returns-clause-long
returns-clause-long g c catalog query r is =
    let H = g.H.HashKind.hash in
    let inside = c.self.inside in
    let old : ProvingState = record { ranking = inside.ranking; algorithm = inside.algorithm; written = inside.writer; proved = inside.proved } in
    let own : IsProving H catalog query r old = subst (IsProving H catalog query r) (sym c.self.view_is) is in
    let all : inside.proved ≡ length inside.ranking.roots = subst (λ (s : ProvingState). s.proved ≡ length s.ranking.roots) (sym c.self.view_is) c.requires.whole in
    let some : 1 ≤ inside.proved = subst (λ (s : ProvingState). 1 ≤ s.proved) (sym c.self.view_is) c.requires.some in
    let long = c.in-Err.ensures.beyond (bytes_of (roots_of H catalog) own.proofs) own.written in
    subst (λ (s : ProvingState). IsTooLongCatalog H catalog query r s.algorithm c.in-Err.length) c.self.view_is
    (proved_long H g.H.HashKind.sized catalog query r old own c.scores_need_no_edges.ensures all some c.self.invariant.1 c.in-Err.length long.0 long.1)

pub returns-in-Ok-clause-whole : goal.returns-in-Ok-clause-whole
returns-in-Ok-clause-whole g c bytes is =
    (c.in-Ok.ensures.whole bytes (subst (λ (s : ProvingState). s.written ≡ writing (2 ^ 28) bytes) (sym c.self.view_is) is)).0

pub returns-clause-beyond : goal.returns-clause-beyond
returns-clause-beyond g c bytes is =
    c.in-Err.ensures.beyond bytes (subst (λ (s : ProvingState). s.written ≡ writing (2 ^ 28) bytes) (sym c.self.view_is) is)
