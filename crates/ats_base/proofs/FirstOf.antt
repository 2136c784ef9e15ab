-- The first of some elements that breaks its rules: there is at most one, and either all satisfy theirs or there is
-- one.
use Rattle.std.proofs.Common.{◌≡◌, ◌∙◌, ◌⊎◌, List, [], ◌∷◌, ◌++◌, refl, sym, ap, ap₂, subst, inl, inr}
use Rattle.std.specs.List.{All}
use Rattle.std.proofs.lemmas.List.Elements.{All-nil, All-cons, All-head, All-tail}
use Rattle.ats_base.specs.Rules.{IsFirstOf}

pub all_middle : {X : Type 0} (P : X → Type 0) (before : List X) (x : X) (after : List X) → All P (before ++ x ∷ after) → P x
all_middle P [] x after all = All-head P x after all
all_middle P (y ∷ ys) x after all = all_middle P ys x after (All-tail P y (ys ++ x ∷ after) all)

-- two fronts of a list that satisfy a rule, each before an element that breaks it whatever follows, are the same
pub one_front : {X : Type 0} (Keeps : List X → Type 0) (before other : List X) (x y : X) (after rest : List X) → before ++ x ∷ after ≡ other ++ y ∷ rest
    → Keeps before → Keeps other → ((more : List X) → Keeps (before ++ x ∷ more) → ⊥) → ((more : List X) → Keeps (other ++ y ∷ more) → ⊥)
    → (before ≡ other) × (x ≡ y)
one_front Keeps [] [] x y after rest same kept held breaks ends = (refl, cc)
one_front Keeps [] (z ∷ other) x y after rest same kept held breaks ends =
    let first : z ≡ x = cc in
    absurd (breaks other (subst (λ w. Keeps (w ∷ other)) first held))
one_front Keeps (z ∷ before) [] x y after rest same kept held breaks ends =
    let first : z ≡ y = cc in
    absurd (ends before (subst (λ w. Keeps (w ∷ before)) first kept))
one_front Keeps (z ∷ before) (w ∷ other) x y after rest same kept held breaks ends =
    let first : z ≡ w = cc in
    let later : before ++ x ∷ after ≡ other ++ y ∷ rest = cc in
    let one = one_front (λ xs. Keeps (z ∷ xs)) before other x y after rest later kept (subst (λ v. Keeps (v ∷ other)) (sym first) held) breaks
    (λ more keeps. ends more (subst (λ v. Keeps (v ∷ (other ++ y ∷ more))) first keeps)) in
    (ap₂ (λ v xs. v ∷ xs) first one.0, one.1)

-- an element that fails breaks its rules
abbrev pub Breaks : {X F : Type 0} → (X → Type 0) → (X → F → Type 0) → Type 0
Breaks {X} {F} Keeps Fails = (x : X) (fault : F) → Fails x fault → Keeps x → ⊥

pub not_first_of : {X F : Type 0} (Keeps : X → Type 0) (Fails : X → F → Type 0) (xs : List X) (fault : F) → Breaks Keeps Fails → IsFirstOf Keeps Fails xs fault → All Keeps xs → ⊥
not_first_of Keeps Fails xs fault breaks is right =
    breaks is.one fault is.fault (all_middle Keeps is.before is.one is.after (subst (All Keeps) is.stands right))

pub one_first_of : {X F : Type 0} (Keeps : X → Type 0) (Fails : X → F → Type 0) (xs : List X) (a b : F) → Breaks Keeps Fails
    → ((x : X) (a b : F) → Fails x a → Fails x b → a ≡ b) → IsFirstOf Keeps Fails xs a → IsFirstOf Keeps Fails xs b → a ≡ b
one_first_of {X} {F} Keeps Fails xs a b breaks one is also =
    let same = one_front (All Keeps) is.before also.before is.one also.one is.after also.after (sym is.stands ∙ also.stands) is.right also.right
    (λ more right. breaks is.one a is.fault (all_middle Keeps is.before is.one more right))
    (λ more right. breaks also.one b also.fault (all_middle Keeps also.before also.one more right)) in
    one is.one a b is.fault (subst (λ (x : X). Fails x b) (sym same.1) also.fault)

pub hold_or_first_of : {X F : Type 0} (Keeps : X → Type 0) (Fails : X → F → Type 0) (xs : List X) → ((x : X) → Keeps x ⊎ ((fault : F) × Fails x fault))
    → All Keeps xs ⊎ ((fault : F) × IsFirstOf Keeps Fails xs fault)
hold_or_first_of Keeps Fails [] tried = inl (All-nil Keeps)
hold_or_first_of {X} {F} Keeps Fails (x ∷ xs) tried = elim (tried x) [
  | inr fails ↦ inr (fails.0, record { before = []; one = x; after = xs; stands = refl; right = All-nil Keeps; fault = fails.1 })
  | inl keeps ↦ elim (hold_or_first_of Keeps Fails xs tried) [
    | inl all ↦ inl (All-cons Keeps x xs keeps all)
    | inr first ↦ inr (
      first.0,
      record {
        before = x ∷ first.1.before;
        one = first.1.one;
        after = first.1.after;
        stands = ap (λ ys. x ∷ ys) first.1.stands;
        right = All-cons Keeps x first.1.before keeps first.1.right;
        fault = first.1.fault;
      },
    )
  ]
]
