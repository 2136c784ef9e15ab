use Rattle.std.proofs.Common.{◌≡◌, ◌∙◌, List, ℕ, ◌<◌, ◌+◌, ◌*◌, length, take, drop, slice_get, sym, ap, subst, arith}
use Rattle.std.proofs.lemmas.List.{drop-drop}
use Rattle.ats_proof.specs.Reading.{id_in, met_place}
use Rattle.ats_proof.specs.Value.{IsProof, Proof}
use Rattle.ats_proof.proofs.Taking.{part_at}
use Rattle.ats_proof.proofs.Showing.{ids_space, ids_shown, ids_count}
use Rattle.ats_proof.proofs.Unique.{one_join}
use Rattle.ats_proof.proofs.view.ProofView.met_id.Goals as goal

pub nth-requires-clause-within : goal.nth-requires-clause-within
nth-requires-clause-within c = omega (arith, c.requires.within, ids_count c.self.inside c.self.invariant, ap (λ (p : Proof). length p.met) c.self.view_is)

pub nth-requires-clause-space : goal.nth-requires-clause-space
nth-requires-clause-space c = rw c.split_at.ensures.back (ids_space c.self.inside c.self.invariant)

pub returns-clause-id : goal.returns-clause-id
returns-clause-id c =
    let view = c.self.inside in
    let ids = drop (view.begun.met_at + 4) view.bytes.now in
    let within : c.args.i < view.begun.met = omega (arith, c.requires.within, ids_count view c.self.invariant, ap (λ (p : Proof). length p.met) c.self.view_is) in
    rw (← c.self.view_is, c.split_at-2.ensures.front, c.nth.ensures.part, c.split_at.ensures.back)
    (ap (λ met. slice_get met c.args.i) (sym (ids_shown view c.self.invariant)) ∙ part_at 4 id_in view.begun.met c.args.i ids within)

pub returns-clause-lent : goal.returns-clause-lent
returns-clause-lent c bytes is =
    let own = c.self.inside.bytes.now in
    let at = c.self.inside.begun.met_at in
    let spelled : IsProof own c.args.self.now = subst (IsProof own) c.self.view_is c.self.invariant.spelled in
    let lent : c.split_at-2.result.0.now ≡ take 4 (drop (met_place own + 4 + 4 * c.args.i) own) =
    rw (c.split_at-2.ensures.front, c.nth.ensures.part, c.split_at.ensures.back)
    (ap (take 4) (drop-drop (4 * c.args.i) (at + 4) own) ∙ ap (λ (n : ℕ). take 4 (drop (n + 4 + 4 * c.args.i) own)) c.self.invariant.first.met_at) in
    subst (λ (b : List ℕ). c.split_at-2.result.0.now ≡ take 4 (drop (met_place b + 4 + 4 * c.args.i) b)) (one_join own bytes c.args.self.now spelled is) lent
