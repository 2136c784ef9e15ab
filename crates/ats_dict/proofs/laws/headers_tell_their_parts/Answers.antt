use Rattle.std.proofs.Common.{◌∙◌, sym, subst, List, ℕ}
use Rattle.ats_dict.specs.Header.{header_bytes}
use Rattle.ats_dict.proofs.HeaderLemmas.{AreParts, parts}
use Rattle.ats_dict.proofs.laws.headers_tell_their_parts.Goals as goal

pub returns : goal.returns
returns call m n d e a b c x y z first second same =
    let here = parts m d a b c first in
    let there : AreParts (header_bytes m d a b c) n e x y z =
    subst (λ (bytes : List ℕ). AreParts bytes n e x y z) (sym same) (parts n e x y z second) in (
      sym here.counts ∙ there.counts,
      sym here.leaves ∙ there.leaves,
      sym here.dict ∙ there.dict,
      sym here.docs ∙ there.docs,
      sym here.texts ∙ there.texts,
    )
