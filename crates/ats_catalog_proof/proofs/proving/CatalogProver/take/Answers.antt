use Rattle.std.proofs.Common.{◌≡◌, ◌∙◌, ◌+◌, ◌<◌, ◌++◌, ◌^◌, ℕ, true, false, not, nat_eq, List, [], length, get_or, sym, ap, subst, refl, inl}
use Rattle.std.specs.List.{concat}
use Rattle.std.specs.Cmp.Lexicographic.{pointwise}
use Rattle.std.proofs.lemmas.List.{get_or_default}
use Rattle.std.proofs.lemmas.Result.{err_from_is_err_and}
use Rattle.ats_commit.specs.Root.{root_of}
use Rattle.ats_proof.specs.Written.{writing}
use Rattle.ats_catalog_bytes.specs.Value.{proof_fields}
use Rattle.ats_catalog_proof.specs.Proving.{HasProved, HasRootOf, IsProveFault}
use Rattle.ats_catalog_proof.specs.ProvingState.{ProvingState}
use Rattle.ats_catalog_proof.specs.Ranking.{IsRankingOf}
use Rattle.ats_catalog_proof.specs.Written.{bytes_of}
use Rattle.ats_catalog_proof.proofs.Shards.{asked_over, bytes_more, fault_of, has_root, not_other, one_proved, other_root, roots_tell}
use Rattle.ats_catalog_proof.proofs.proving.CatalogProver.take.Goals as goal

pub returns-then-ne-clause-fault : goal.returns-then-ne-clause-fault
returns-then-ne-clause-fault g c catalog query r is =
    let H = g.H.HashKind.hash in
    let index = c.args.index.now in
    let inside = c.self.inside in
    let same : inside.proved ≡ c.args.self.proved = ap (λ (s : ProvingState). s.proved) c.self.view_is in
    let old : ProvingState = record { ranking = inside.ranking; algorithm = inside.algorithm; written = inside.writer; proved = inside.proved } in
    let own : IsRankingOf H catalog query r old.ranking = subst (λ (s : ProvingState). IsRankingOf H catalog query r s.ranking) (sym c.self.view_is) is in
    let low : inside.proved < length inside.ranking.roots = subst (λ (s : ProvingState). s.proved < length s.ranking.roots) (sym c.self.view_is) c.requires.left in
    let differs : get_or inside.ranking.roots inside.proved c.root.result ≡ c.root.result → ⊥ = λ equal.
    let at : get_or c.roots.result.now inside.proved [] ≡ c.root.result =
    ap (λ (roots : List (List ℕ)). get_or roots inside.proved []) c.roots.ensures.value ∙ get_or_default inside.ranking.roots inside.proved [] c.root.result low ∙ equal in
    let tests : pointwise nat_eq (get_or c.roots.result.now inside.proved []) c.root.result ≡ true =
    (roots_tell (get_or c.roots.result.now inside.proved []) c.root.result).1 at in
    absurd (let clash : true ≡ false = c.if-ne.ensures ∙ ap not tests in cc) in (
      same,
      inl (subst (λ (n : ℕ). HasRootOf H catalog n index → ⊥) same (other_root H catalog query r old.ranking own inside.proved index c.root.result low c.root.ensures differs)),
    )

pub returns-in_err-proof-clause-fault : goal.returns-in_err-proof-clause-fault
returns-in_err-proof-clause-fault g c =
    let H = g.H.HashKind.hash in
    let index = c.args.index.now in
    let inside = c.self.inside in
    let old : ProvingState = record { ranking = inside.ranking; algorithm = inside.algorithm; written = inside.writer; proved = inside.proved } in
    let low : inside.proved < length inside.ranking.roots = subst (λ (s : ProvingState). s.proved < length s.ranking.roots) (sym c.self.view_is) c.requires.left in
    let shown : List ℕ = get_or c.roots.result.now inside.proved [] in
    let root : root_of H index ≡ get_or inside.ranking.roots inside.proved [] =
    sym c.root.ensures ∙ sym ((roots_tell shown c.root.result).0 (not_other (pointwise nat_eq shown c.root.result) c.if-ne.ensures))
    ∙ ap (λ (roots : List (List ℕ)). get_or roots inside.proved []) c.roots.ensures.value in
    let told = err_from_is_err_and c.from_residual.result c.from_residual.ensures.1 in
    rw (told.1, told.2) (λ catalog query r.
    subst (λ (s : ProvingState). (is : IsRankingOf H catalog query r s.ranking) → IsProveFault H catalog query is.ranking r index s c.in_err-proof.field-0.0) c.self.view_is
    (λ own.
    fault_of H catalog query r old.ranking own index old (has_root H catalog query r old.ranking own inside.proved index low root)
    c.in_err-proof.field-0.0 c.in_err-proof.ensures.fault))

pub returns-clause-proved : goal.returns-clause-proved
returns-clause-proved g c =
    let H = g.H.HashKind.hash in
    let index = c.args.index.now in
    let inside = c.self.inside in
    let old : ProvingState = record { ranking = inside.ranking; algorithm = inside.algorithm; written = inside.writer; proved = inside.proved } in
    let new : ProvingState = record { ranking = inside.ranking; algorithm = inside.algorithm; written = c.put.new.self; proved = inside.proved + 1 } in
    let shown : List ℕ = get_or c.roots.result.now inside.proved [] in
    let root : root_of H index ≡ get_or inside.ranking.roots inside.proved [] =
    sym c.root.ensures ∙ sym ((roots_tell shown c.root.result).0 (not_other (pointwise nat_eq shown c.root.result) c.if-ne.ensures))
    ∙ ap (λ (roots : List (List ℕ)). get_or roots inside.proved []) c.roots.ensures.value in
    let proof = c.in_ok-proof.proof in
    let put : (before : List ℕ) → inside.writer ≡ writing (2 ^ 28) before → c.put.new.self ≡ writing (2 ^ 28) (before ++ concat (proof_fields proof)) = λ before start.
    c.in_ok-put.ensures.ok before start ∙ ap (λ (bytes : List ℕ). writing (2 ^ 28) (before ++ concat (proof_fields bytes))) c.as_slice.ensures in
    subst (λ (before : ProvingState). HasProved H index before new) c.self.view_is
    (record {
      kept = refl;
      by = refl;
      one = refl;
      root = root;
      proof = proof;
      asked = λ catalog query r own. asked_over H catalog query r inside.ranking own index inside.algorithm inside.proved proof c.in_ok-proof.ensures.ok;
      short = c.in_ok-proof.ensures.within;
      written = λ proofs start. put (bytes_of inside.ranking.roots proofs) start ∙ ap (writing (2 ^ 28)) (sym (bytes_more inside.ranking.roots proofs proof));
      goes = λ catalog query r mine own. one_proved H catalog query r old own index proof c.put.new.self mine c.in_ok-proof.ensures.ok put;
    })
