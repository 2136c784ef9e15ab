use Rattle.std.proofs.Common.{ℕ, List, refl, sym, subst, inl}
use Rattle.ats_client.specs.Bytes.{IsAcceptedBytes}
use Rattle.ats_top.proofs.HonestAccepted.{bytes_accepted}
use Rattle.ats_top.proofs.laws.honest_replies_are_accepted.Goals as goal

pub returns : goal.returns
returns g c archive asked algorithm bytes words before now proved same within is_query conversation =
    let H = g.H.HashKind.hash in
    let own = bytes_accepted H archive asked words.r algorithm bytes proved in
    let accepted = subst (λ (root : List ℕ). IsAcceptedBytes H root asked words.r bytes proved.proof) (sym same) own in
    inl (
      refl,
      record {
        query = asked;
        bytes = bytes;
        replied = record { asks = record { rows = within; query = is_query.has }; asked = is_query; conversation = conversation };
        proof = proved.proof;
        accepted = accepted;
      },
    )
