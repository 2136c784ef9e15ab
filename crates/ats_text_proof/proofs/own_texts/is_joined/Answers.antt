use Rattle.std.proofs.Common.{◌≡◌, ◌∙◌, ◌++◌, ℕ, List, length, take, sym, ap}
use Rattle.std.specs.Str.{bytes_eq}
use Rattle.std.proofs.Math.Seq.{take-append_seam}
use Rattle.std.proofs.lemmas.Slice.Eq.{bytes_eq-Decides}
use Rattle.ats_text_proof.proofs.Joined.{denied, whole-is}
use Rattle.ats_text_proof.proofs.own_texts.is_joined.Goals as goal

pub returns-then-eq : goal.returns-then-eq
returns-then-eq c =
    let begins : take (length c.args.front.now) c.args.whole.now ≡ c.args.front.now =
    sym c.split_at.ensures.front ∙ (bytes_eq-Decides c.split_at.result.0.now c.args.front.now).0 (sym c.eq.ensures ∙ c.if-eq.true) in
    whole-is c.args.whole.now c.args.front.now c.args.back.now begins c.eq-then-eq.result
    (c.eq-then-eq.ensures ∙ ap (λ (x : List ℕ). bytes_eq x c.args.back.now) c.split_at.ensures.back)

pub returns-else-eq : goal.returns-else-eq
returns-else-eq c =
    denied (c.args.whole.now ≡ c.args.front.now ++ c.args.back.now) c.eq.result c.split_at.result.0.now c.args.front.now c.eq.ensures c.if-eq.false
    (λ same. c.split_at.ensures.front ∙ ap (take (length c.args.front.now)) same ∙ take-append_seam c.args.front.now c.args.back.now)
