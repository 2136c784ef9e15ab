use Rattle.std.proofs.Common.{sym, subst}
use Rattle.std.specs.Str.{IsUtf8}
use Rattle.std.proofs.lemmas.List.Elements.{All-push}
use Rattle.ats_impact.proofs.texts.Texts.push.Goals as goal

pub invariant_of-self : goal.invariant_of-self
invariant_of-self c = rw c.in_err-push.ensures.items c.self.invariant

pub invariant_of-self-2 : goal.invariant_of-self-2
invariant_of-self-2 c =
    rw c.in_ok-push.ensures.items
    (All-push IsUtf8 c.self.inside.items.items c.in_ok-text.text.bytes.items c.self.invariant (subst IsUtf8 (sym c.in_ok-text.ensures.ok) c.utf8.text))
