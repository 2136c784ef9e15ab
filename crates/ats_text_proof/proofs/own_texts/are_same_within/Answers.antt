use Rattle.std.proofs.Common.{◌≡◌, ◌∙◌, ◌++◌, ℕ, List, length, take, sym, ap}
use Rattle.std.proofs.lemmas.Slice.Eq.{bytes_eq-Decides}
use Rattle.ats_text_proof.proofs.Joined.{split, joined, denied}
use Rattle.ats_text_proof.proofs.own_texts.are_same_within.Goals as goal

pub returns-then-eq : goal.returns-then-eq
returns-then-eq c =
    let front : c.args.a.now ≡ take (length c.args.a.now) c.args.c.now =
    (bytes_eq-Decides c.args.a.now c.split_at.result.0.now).0 (sym c.eq.ensures ∙ c.if-eq.true) ∙ c.split_at.ensures.front in (
      (λ yes. joined c.args.a.now c.args.b.now c.args.c.now c.args.d.now front
          (c.is_joined.ensures.0 yes ∙ ap (λ (x : List ℕ). x ++ c.args.d.now) c.split_at.ensures.back)),
      (λ same. c.is_joined.ensures.1
          ((split c.args.a.now c.args.b.now c.args.c.now c.args.d.now c.requires same).1 ∙ ap (λ (x : List ℕ). x ++ c.args.d.now) (sym c.split_at.ensures.back))),
    )

pub returns-else-eq : goal.returns-else-eq
returns-else-eq c =
    denied (c.args.a.now ++ c.args.b.now ≡ c.args.c.now ++ c.args.d.now) c.eq.result c.args.a.now c.split_at.result.0.now c.eq.ensures c.if-eq.false
    (λ same. (split c.args.a.now c.args.b.now c.args.c.now c.args.d.now c.requires same).0 ∙ sym c.split_at.ensures.front)
