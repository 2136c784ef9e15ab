-- A plan that passes is not refused, and a plan is refused in one way at most.
use Rattle.std.proofs.Common.{◌≡◌, ◌∙◌, ℕ, List, inl, inr, sym, subst}
use Rattle.ats_plan.specs.Files.{Files, IsTold}
use Rattle.ats_plan.specs.Plan.{Plan, Finishes, Stores, Fails, Tries, Gets, Makes, Reads, Refuses, Passes, ComesToShelf, IsKnown}
use Rattle.ats_plan.specs.Inner.Sound.{IsSound}
use Rattle.ats_plan.proofs.Files.{one_file, file_there, file_short, missing_short}

module _ {F : Type 0} (files : Files) where
  -- if the rest of a plan comes to the shelf only if the plan does, its files are known if those of the plan are
  known_past : (plan rest : Plan F) → (ComesToShelf rest → ComesToShelf plan) → IsKnown files plan → IsKnown files rest
  known_past plan rest comes (inl told) = inl told
  known_past plan rest comes (inr none) = inr (λ came. none (comes came))

  -- a plan that reads a file comes to the shelf
  known_read : (name : List ℕ) (limit : ℕ) (long : Plan F) (rest : List ℕ → Plan F) → IsKnown files (Reads name limit long rest) → IsTold files
  known_read name limit long rest (inl told) = told
  known_read name limit long rest (inr none) = absurd (none tt)

module _ {F : Type 0} (shelf : F) (files : Files) where
  -- a plan of which all steps hold is not refused
  pub passes_not_refused : (plan : Plan F) (stop : F) → IsKnown files plan → IsSound plan → Passes files plan → Refuses shelf files plan stop → ⊥
  passes_not_refused (Finishes says) stop known sound passes refused = refused
  passes_not_refused (Stores name bytes says) stop known sound passes refused = refused
  passes_not_refused (Fails fault) stop known sound passes refused = passes
  passes_not_refused (Tries holds fault rest) stop known sound passes (inl here) = sound.0.breaks stop here passes.0
  passes_not_refused (Tries holds fault rest) stop known sound passes (inr later) =
      passes_not_refused rest stop (known_past files (Tries holds fault rest) rest (λ comes. (later.0, comes)) known) sound.1 passes.1 later.1
  passes_not_refused (Gets A is fault rest) stop known sound (a, holds, passes) (inl here) = sound.0.breaks a stop here holds
  passes_not_refused (Gets A is fault rest) stop known sound (a, holds, passes) (inr (b, also, later)) =
      passes_not_refused (rest b) stop (known_past files (Gets A is fault rest) (rest b) (λ comes. (b, also, comes)) known) (sound.1 b)
      (subst (λ (x : A). Passes files (rest x)) (sound.0.single a b holds also) passes) later
  passes_not_refused (Makes A is rest) stop known sound passes (a, holds, later) =
      passes_not_refused (rest a) stop (known_past files (Makes A is rest) (rest a) (λ comes. (a, holds, comes)) known) (sound.1 a) (passes a holds) later
  passes_not_refused (Reads name limit long rest) stop known sound (inl (longer, passes)) (inl missing) = missing_short files name limit missing.1 longer
  passes_not_refused (Reads name limit long rest) stop known sound (inl (longer, passes)) (inr (inl (also, later))) =
      passes_not_refused long stop (inl (known_read files name limit long rest known)) sound.0 passes later
  passes_not_refused (Reads name limit long rest) stop known sound (inl (longer, passes)) (inr (inr (b, file, later))) =
      file_short files name b limit (known_read files name limit long rest known) file longer
  passes_not_refused (Reads name limit long rest) stop known sound (inr (a, file, passes)) (inl missing) = file_there files name a limit missing.1 file
  passes_not_refused (Reads name limit long rest) stop known sound (inr (a, file, passes)) (inr (inl (longer, later))) =
      file_short files name a limit (known_read files name limit long rest known) file longer
  passes_not_refused (Reads name limit long rest) stop known sound (inr (a, file, passes)) (inr (inr (b, also, later))) =
      let told = known_read files name limit long rest known in
      passes_not_refused (rest b) stop (inl told) (sound.1 b)
      (subst (λ (x : List ℕ). Passes files (rest x)) (one_file files name a b limit limit told file also) passes) later

  -- a plan is refused in one way at most
  pub one_refusal : (plan : Plan F) (a b : F) → IsKnown files plan → IsSound plan → Refuses shelf files plan a → Refuses shelf files plan b → a ≡ b
  one_refusal (Finishes says) a b known sound is also = absurd is
  one_refusal (Stores name bytes says) a b known sound is also = absurd is
  one_refusal (Fails fault) a b known sound is also = is ∙ sym also
  one_refusal (Tries holds fault rest) a b known sound (inl here) (inl also) = sound.0.one a b here also
  one_refusal (Tries holds fault rest) a b known sound (inl here) (inr later) = absurd (sound.0.breaks a here later.0)
  one_refusal (Tries holds fault rest) a b known sound (inr later) (inl here) = absurd (sound.0.breaks b here later.0)
  one_refusal (Tries holds fault rest) a b known sound (inr later) (inr also) =
      one_refusal rest a b (known_past files (Tries holds fault rest) rest (λ comes. (later.0, comes)) known) sound.1 later.1 also.1
  one_refusal (Gets A is fault rest) a b known sound (inl here) (inl also) = sound.0.one a b here also
  one_refusal (Gets A is fault rest) a b known sound (inl here) (inr (x, holds, later)) = absurd (sound.0.breaks x a here holds)
  one_refusal (Gets A is fault rest) a b known sound (inr (x, holds, later)) (inl here) = absurd (sound.0.breaks x b here holds)
  one_refusal (Gets A is fault rest) a b known sound (inr (x, holds, later)) (inr (y, same, also)) =
      one_refusal (rest y) a b (known_past files (Gets A is fault rest) (rest y) (λ comes. (y, same, comes)) known) (sound.1 y)
      (subst (λ (z : A). Refuses shelf files (rest z) a) (sound.0.single x y holds same) later) also
  one_refusal (Makes A is rest) a b known sound (x, holds, later) (y, same, also) =
      one_refusal (rest y) a b (known_past files (Makes A is rest) (rest y) (λ comes. (y, same, comes)) known) (sound.1 y)
      (subst (λ (z : A). Refuses shelf files (rest z) a) (sound.0 x y holds same) later) also
  one_refusal (Reads name limit long rest) a b known sound (inl missing) (inl also) = missing.0 ∙ sym also.0
  one_refusal (Reads name limit long rest) a b known sound (inl missing) (inr (inl (longer, later))) = absurd (missing_short files name limit missing.1 longer)
  one_refusal (Reads name limit long rest) a b known sound (inl missing) (inr (inr (x, file, later))) = absurd (file_there files name x limit missing.1 file)
  one_refusal (Reads name limit long rest) a b known sound (inr (inl (longer, later))) (inl missing) = absurd (missing_short files name limit missing.1 longer)
  one_refusal (Reads name limit long rest) a b known sound (inr (inl (longer, later))) (inr (inl (same, also))) =
      one_refusal long a b (inl (known_read files name limit long rest known)) sound.0 later also
  one_refusal (Reads name limit long rest) a b known sound (inr (inl (longer, later))) (inr (inr (x, file, also))) =
      absurd (file_short files name x limit (known_read files name limit long rest known) file longer)
  one_refusal (Reads name limit long rest) a b known sound (inr (inr (x, file, later))) (inl missing) = absurd (file_there files name x limit missing.1 file)
  one_refusal (Reads name limit long rest) a b known sound (inr (inr (x, file, later))) (inr (inl (longer, also))) =
      absurd (file_short files name x limit (known_read files name limit long rest known) file longer)
  one_refusal (Reads name limit long rest) a b known sound (inr (inr (x, file, later))) (inr (inr (y, same, also))) =
      let told = known_read files name limit long rest known in
      one_refusal (rest y) a b (inl told) (sound.1 y)
      (subst (λ (z : List ℕ). Refuses shelf files (rest z) a) (one_file files name x y limit limit told file same) later) also
