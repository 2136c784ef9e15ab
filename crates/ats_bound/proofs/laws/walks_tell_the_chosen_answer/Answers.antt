use Rattle.std.proofs.Common.{◌≡◌, Bool, true, false, refl, sym}
use Rattle.std.specs.Prelude.{IsTrue}
use Rattle.ats_bound.proofs.laws.walks_tell_the_chosen_answer.Goals as goal

same_answer : (a b : Bool) → (IsTrue a → IsTrue b) → (IsTrue b → IsTrue a) → a ≡ b
same_answer true b to back = sym (to refl)
same_answer false true to back = back refl
same_answer false false to back = refl

pub returns : goal.returns
returns c = λ bounds lanes r cut told answered brackets picks tells bounded chosen is.
    let both = tells.chosen brackets picks bounded chosen in
    same_answer told answered (λ yes_told. is.1 (both.0 yes_told)) (λ yes_answered. both.1 (is.0 yes_answered))
