-- The turns to the end of the old leaves, cut by cut.
use Rattle.std.proofs.Common.{◌≡◌, ℕ, zero, suc, ◌+◌, ◌-◌, ◌*◌, ◌^◌, ◌<◌, ◌≤◌, [], ◌∷◌, length, Bool, true, false, refl, sym, ◌∙◌, ap, subst, arith, inl, inr}
use Rattle.std.proofs.Math.Nat.{two-pow-succ}
use Rattle.std.proofs.Math.Pow.{pow_mono}
use Rattle.std.proofs.lemmas.Bool.{le-leb, lt-leb, cond-true, cond-false, cases_lt}
use Rattle.ats_tree.specs.Paths.{Path}
use Rattle.ats_tree.proofs.Public.{below_power}
use Rattle.ats_growth_check.specs.Shape.{turns_within, turns, need}

-- ---- one level

within-suc : (h m n : ℕ) → n ≤ 2 ^ h → turns_within (suc h) m n ≡ turns_within h m n
unfolding turns_within
within-suc h m n short = cond-true _ _ _ (le-leb n (2 ^ h) short)

within-old : (h m n : ℕ) → n ≤ m → turns_within h m n ≡ []
unfolding turns_within
within-old zero m n whole = refl
within-old (suc h) m n whole =
    elim (cases_lt (2 ^ h) n) [
      | inr short ↦ cond-true _ _ _ (le-leb n (2 ^ h) short) ∙ within-old h m n whole
      | inl long ↦ cond-false _ _ _ (lt-leb n (2 ^ h) long) ∙ cond-true _ _ _ (le-leb n m whole)
    ]

within-left : (h m n : ℕ) → m ≤ 2 ^ h → 2 ^ h < n → turns_within (suc h) m n ≡ false ∷ turns_within h m (2 ^ h)
unfolding turns_within
within-left h m n inside long =
    let more : m < n = omega arith
    in cond-false _ _ _ (lt-leb n (2 ^ h) long) ∙ cond-false _ _ _ (lt-leb n m more) ∙ cond-true _ _ _ (le-leb m (2 ^ h) inside)

within-right : (h m n : ℕ) → 2 ^ h < m → m < n → turns_within (suc h) m n ≡ true ∷ turns_within h (m - 2 ^ h) (n - 2 ^ h)
unfolding turns_within
within-right h m n past more =
    let long : 2 ^ h < n = omega arith
    in cond-false _ _ _ (lt-leb n (2 ^ h) long) ∙ cond-false _ _ _ (lt-leb n m more) ∙ cond-false _ _ _ (lt-leb m (2 ^ h) past)

-- ---- any height that is enough gives the same turns

within-more : (g h m n : ℕ) → n ≤ 2 ^ h → h ≤ g → turns_within g m n ≡ turns_within h m n
within-more zero h m n short le = let e : h ≡ 0 = omega arith in ap (λ k. turns_within k m n) (sym e)
within-more (suc g) h m n short le =
    elim (cases_lt g h) [
      | inl more ↦ let e : h ≡ suc g = omega arith in ap (λ k. turns_within k m n) (sym e)
      | inr less ↦
          let shorter : n ≤ 2 ^ g = omega (arith, short, pow_mono less)
          in within-suc g m n shorter ∙ within-more g h m n short less
    ]

within-any : (g h m n : ℕ) → n ≤ 2 ^ g → n ≤ 2 ^ h → turns_within g m n ≡ turns_within h m n
within-any g h m n by_g by_h =
    elim (cases_lt g h) [
      | inl less ↦ let le : g ≤ h = omega arith in sym (within-more h g m n by_g le)
      | inr le ↦ within-more g h m n by_h le
    ]

of-within : (h m n : ℕ) → n ≤ 2 ^ h → turns m n ≡ turns_within h m n
unfolding turns
of-within h m n by_h =
    let by_number : n ≤ 2 ^ n = omega (arith, below_power n)
    in within-any n h m n by_number by_h

-- ---- the turns at a cut

pub turns-end : (m n : ℕ) → n ≤ m → turns m n ≡ []
unfolding turns
turns-end m n whole = within-old n m n whole

pub turns-left : (h m n : ℕ) → m ≤ 2 ^ h → 2 ^ h < n → n ≤ 2 * 2 ^ h → turns m n ≡ false ∷ turns m (2 ^ h)
turns-left h m n inside long few =
    let by_suc : n ≤ 2 ^ suc h = omega (arith, two-pow-succ h)
    in let part : 2 ^ h ≤ 2 ^ h = omega arith
    in of-within (suc h) m n by_suc ∙ within-left h m n inside long ∙ ap (λ (path : Path). false ∷ path) (sym (of-within h m (2 ^ h) part))

pub turns-right : (h m n : ℕ) → 2 ^ h < m → m < n → n ≤ 2 * 2 ^ h → turns m n ≡ true ∷ turns (m - 2 ^ h) (n - 2 ^ h)
turns-right h m n past more few =
    let by_suc : n ≤ 2 ^ suc h = omega (arith, two-pow-succ h)
    in let part : n - 2 ^ h ≤ 2 ^ h = omega arith
    in of-within (suc h) m n by_suc ∙ within-right h m n past more
    ∙ ap (λ (path : Path). true ∷ path) (sym (of-within h (m - 2 ^ h) (n - 2 ^ h) part))

-- ---- the turns, with the cuts on the way

pub data Leads : ℕ → ℕ → Path → Type 0 where
  ends : {m n : ℕ} → 1 ≤ m → m ≡ n → Leads m n []
  left : {m n : ℕ} {path : Path} (h : ℕ) → 1 ≤ m → m ≤ 2 ^ h → 2 ^ h < n → n ≤ 2 * 2 ^ h → Leads m (2 ^ h) path → Leads m n (false ∷ path)
  right : {m n : ℕ} {path : Path} (h : ℕ) → 2 ^ h < m → m < n → n ≤ 2 * 2 ^ h → Leads (m - 2 ^ h) (n - 2 ^ h) path → Leads m n (true ∷ path)

leads-within : (h m n : ℕ) → 1 ≤ m → m ≤ n → n ≤ 2 ^ h → Leads m n (turns_within h m n)
unfolding turns_within
leads-within zero m n some le small = let one : m ≡ n = omega arith in ends some one
leads-within (suc h) m n some le small =
    let few : n ≤ 2 * 2 ^ h = omega (arith, two-pow-succ h)
    in elim (cases_lt (2 ^ h) n) [
      | inr short ↦ subst (λ (path : Path). Leads m n path) (sym (within-suc h m n short)) (leads-within h m n some le short)
      | inl long ↦
          elim (cases_lt m n) [
            | inr whole ↦
                let one : m ≡ n = omega arith
                in subst (λ (path : Path). Leads m n path) (sym (within-old (suc h) m n whole)) (ends some one)
            | inl more ↦
                elim (cases_lt (2 ^ h) m) [
                  | inr inside ↦
                      let part : 2 ^ h ≤ 2 ^ h = omega arith
                      in subst (λ (path : Path). Leads m n path) (sym (within-left h m n inside long))
                      (left h some inside long few (leads-within h m (2 ^ h) some inside part))
                  | inl past ↦
                      let some' : 1 ≤ m - 2 ^ h = omega arith
                      in let le' : m - 2 ^ h ≤ n - 2 ^ h = omega arith
                      in let part : n - 2 ^ h ≤ 2 ^ h = omega arith
                      in subst (λ (path : Path). Leads m n path) (sym (within-right h m n past more))
                      (right h past more few (leads-within h (m - 2 ^ h) (n - 2 ^ h) some' le' part))
                ]
          ]
    ]

pub leads : (m n : ℕ) → 1 ≤ m → m ≤ n → Leads m n (turns m n)
unfolding turns
leads m n some le =
    let by_number : n ≤ 2 ^ n = omega (arith, below_power n)
    in leads-within n m n some le by_number

-- ---- how many turns, and how many digests

-- at most 2 ^ h leaves need at most h turns
pub depth : {m n : ℕ} {path : Path} → Leads m n path → (h : ℕ) → n ≤ 2 ^ h → length path ≤ h
depth (ends some one) h small = omega arith
depth {m} {n} (left g some inside long few rest) h small =
    elim (cases_lt g h) [
      | inr high ↦ absurd (omega (arith, pow_mono high))
      | inl low ↦
          let part : 2 ^ g ≤ 2 ^ g = omega arith
          in omega (arith, depth rest g part)
    ]
depth {m} {n} (right g past more few rest) h small =
    elim (cases_lt g h) [
      | inr high ↦ absurd (omega (arith, pow_mono high))
      | inl low ↦
          let part : n - 2 ^ g ≤ 2 ^ g = omega arith
          in omega (arith, depth rest g part)
    ]

-- one digest for each turn, and one more at most
pub need-turns : (path : Path) (known : Bool) → need path known ≤ length path + 1
need-turns [] true = omega arith
need-turns [] false = omega arith
need-turns (false ∷ path) known = omega (arith, need-turns path known)
need-turns (true ∷ path) known = omega (arith, need-turns path false)
