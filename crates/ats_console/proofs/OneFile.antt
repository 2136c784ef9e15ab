-- A file that is checked is accepted or refused in one way.
use Rattle.std.proofs.Common.{◌≡◌, ◌∙◌, List, ℕ, sym, ap, inl, inr}
use Rattle.ats_refusal.specs.declared.proof.Rejection.TheVariants.{Shape}
use Rattle.ats_grammar.specs.declared.fault.ShapeFault.{ShapeFault}
use Rattle.ats_plan.specs.Inner.Sound.{IsOne}
use Rattle.ats_console.specs.RejectionLines.{refused_line, line_of_rejection}
use Rattle.ats_console.specs.Steps.{RejectsFile}
use Rattle.ats_console.specs.declared.stops.Stop.{Stop}
use Rattle.ats_console.specs.declared.stops.Stop.TheVariants.{Usage, Rejected}

-- one value at most is accepted, none whose bytes have a bad shape or that a rule refuses, and each of these is one; bytes
-- of a bad shape are refused by no rule
pub record IsFileOne {V F : Type 0} (accepted : V → Type 0) (bad : ShapeFault → Type 0) (refused : F → Type 0) : Type 0 where
  pub single : (a b : V) → accepted a → accepted b → a ≡ b
  pub whole : (v : V) (fault : ShapeFault) → accepted v → bad fault → ⊥
  pub never_both : (v : V) (fault : F) → accepted v → refused fault → ⊥
  pub apart : (fault : ShapeFault) (other : F) → bad fault → refused other → ⊥
  pub one_shape : (a b : ShapeFault) → bad a → bad b → a ≡ b
  pub one_rule : (a b : F) → refused a → refused b → a ≡ b

module _ {V F : Type 0} {accepted : V → Type 0} {bad : ShapeFault → Type 0} {refused : F → Type 0} (words_of : F → List ℕ)
    (is : IsFileOne accepted bad refused) where
  breaks : (v : V) (stop : Stop) → RejectsFile bad refused words_of stop → accepted v → ⊥
  breaks v stop (inl (fault, wrong, same)) good = is.whole v fault good wrong
  breaks v stop (inr (fault, wrong, same)) good = is.never_both v fault good wrong

  one_stop : (a b : Stop) → RejectsFile bad refused words_of a → RejectsFile bad refused words_of b → a ≡ b
  one_stop a b (inl (fault, wrong, same)) (inl (other, also, like)) =
      same ∙ ap (λ (f : ShapeFault). Rejected (line_of_rejection (Shape f))) (is.one_shape fault other wrong also) ∙ sym like
  one_stop a b (inl (fault, wrong, same)) (inr (other, also, like)) = absurd (is.apart fault other wrong also)
  one_stop a b (inr (fault, wrong, same)) (inl (other, also, like)) = absurd (is.apart other fault also wrong)
  one_stop a b (inr (fault, wrong, same)) (inr (other, also, like)) =
      same ∙ ap (λ (f : F). Rejected (refused_line (words_of f))) (is.one_rule fault other wrong also) ∙ sym like

  pub file_one : IsOne accepted (RejectsFile bad refused words_of)
  file_one = record { single = is.single; breaks = breaks; one = one_stop }

-- such a stop is not for words
pub not_usage : {F : Type 0} {bad : ShapeFault → Type 0} {refused : F → Type 0} (words_of : F → List ℕ) → RejectsFile bad refused words_of Usage → ⊥
not_usage words_of (inl (fault, wrong, same)) = absurd (cc)
not_usage words_of (inr (fault, wrong, same)) = absurd (cc)
