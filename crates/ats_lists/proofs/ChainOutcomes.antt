-- What rebuilding a list in blocks returns, by what is left after its shown blocks.
use Rattle.std.proofs.Common.{◌≡◌, ℕ, ◌+◌, ◌-◌, ◌*◌, ◌<◌, ◌≤◌, List, [], ◌∷◌, length, drop, min, Bool, true, false, ◌&&◌, refl, sym, ◌∙◌, ap, arith, inl, inr, Option, Some, None, IsSome, slice_get, get_or, nat_lt, nat_le, nat_eq, if◌then◌else◌}
use Rattle.std.proofs.lemmas.Bool.{cond-true, cond-false, cases_Bool, and_parts, and_from, le-leb, eq-eqb, leb-true, eqb-true, ltb-true}
use Rattle.std.proofs.lemmas.List.{length-drop, get_or-drop}
use Rattle.std.proofs.lemmas.List.FromFn.{length-map-range_with_len}
use Rattle.std.proofs.lemmas.Option.{get_or_from_slice_get, slice_get_within}
use Rattle.ats_tree.specs.Shown.{Shown}
use Rattle.ats_lists.specs.Blocks.{blocks_in}
use Rattle.ats_lists.specs.Inner.BlockRoots.{AreBlockRoots}
use Rattle.ats_lists.specs.Chain.{no_block, chain_digest}
use Rattle.ats_lists.specs.ChainPrefix.{block_need, block_root, has_next, chain_need, next_digest, shown_from, chain_rebuilt}

-- how many digests the next block takes
abbrev pub for_next : Bool → ℕ
for_next follows = if follows then 1 else 0

-- ---- no digest

pub chain-none : (H : List ℕ → List ℕ) (f : ℕ) (shown : List Shown) (ds : List (List ℕ))
    → (length shown ≤ f → length ds ≡ chain_need f shown → ⊥) → None ≡ chain_rebuilt H f shown ds
chain-none H f shown ds not =
    let test : Bool = nat_le 1 (length shown) && nat_le (length shown) f && nat_eq (length ds) (chain_need f shown)
    in elim (cases_Bool test) [
      | inl meets ↦
          let outer : ((nat_le 1 (length shown) && nat_le (length shown) f) ≡ true) × (nat_eq (length ds) (chain_need f shown) ≡ true) =
          and_parts _ _ meets
          in let inner : (nat_le 1 (length shown) ≡ true) × (nat_le (length shown) f ≡ true) = and_parts _ _ outer.0
          in absurd (not (leb-true (length shown) f inner.1) (eqb-true _ _ outer.1))
      | inr fails ↦ sym (cond-false test _ _ fails)
    ]

nothing_at : (ds : List (List ℕ)) → None ≡ slice_get ds 0 → length ds ≡ 0
nothing_at [] none = refl
nothing_at (d ∷ ds) none = absurd (cc)

-- the last block's digests are missing
pub none-short : (H : List ℕ → List ℕ) (f : ℕ) (shown : List Shown) (ds : List (List ℕ)) → length ds < block_need f shown
    → None ≡ chain_rebuilt H f shown ds
none-short H f shown ds lacks = chain-none H f shown ds (λ within exact. absurd (omega arith))

-- the next block's digest is missing
pub none-next : (H : List ℕ → List ℕ) (f : ℕ) (shown shown₁ : List Shown) (ds ds₁ roots : List (List ℕ)) (follows : Bool)
    → AreBlockRoots H f shown ds roots shown₁ ds₁ → follows ≡ has_next f shown
    → None ≡ (if follows then slice_get ds₁ 0 else Some no_block) → None ≡ chain_rebuilt H f shown ds
none-next H f shown shown₁ ds ds₁ roots false is same none = absurd (cc)
none-next H f shown shown₁ ds ds₁ roots true is same none =
    let left : length ds₁ ≡ 0 = nothing_at ds₁ none
    in let count : length ds₁ ≡ length ds - block_need f shown = ap length is.digests_left ∙ length-drop (block_need f shown) ds
    in let one : chain_need f shown ≡ block_need f shown + 1 = ap (λ n. block_need f shown + n) (cond-true _ _ _ (sym same))
    in chain-none H f shown ds (λ within exact. absurd (omega (arith, is.enough)))

need-for : (f : ℕ) (shown : List Shown) (follows : Bool) → follows ≡ has_next f shown → chain_need f shown ≡ block_need f shown + for_next follows
need-for f shown follows same = ap (λ b. block_need f shown + for_next b) (sym same)

-- a digest is left
pub none-left : (H : List ℕ → List ℕ) (f : ℕ) (shown shown₁ : List Shown) (ds ds₁ ds₂ roots : List (List ℕ)) (follows : Bool)
    → AreBlockRoots H f shown ds roots shown₁ ds₁ → follows ≡ has_next f shown
    → ds₂ ≡ drop (for_next follows) ds₁ → 0 < length ds₂ → None ≡ chain_rebuilt H f shown ds
none-left H f shown shown₁ ds ds₁ ds₂ roots follows is same left some =
    let count : length ds₁ ≡ length ds - block_need f shown = ap length is.digests_left ∙ length-drop (block_need f shown) ds
    in let count' : length ds₂ ≡ length ds₁ - for_next follows = ap length left ∙ length-drop (for_next follows) ds₁
    in let needs : chain_need f shown ≡ block_need f shown + for_next follows = need-for f shown follows same
    in chain-none H f shown ds (λ within exact. absurd (omega arith))

-- ---- the digest

pub chain-rebuilt : (H : List ℕ → List ℕ) (f : ℕ) (shown : List Shown) (ds : List (List ℕ)) → 1 ≤ length shown → length shown ≤ f
    → length ds ≡ chain_need f shown → chain_rebuilt H f shown ds ≡ Some (shown_from H f shown ds 0)
chain-rebuilt H f shown ds some within exact =
    cond-true _ _ _ (and_from _ _ (and_from _ _ (le-leb 1 (length shown) some) (le-leb (length shown) f within)) (eq-eqb _ _ exact))

-- the digest of the next block was there if one follows
pub next-there : (ds₁ : List (List ℕ)) (next : List ℕ) (follows : Bool) → Some next ≡ (if follows then slice_get ds₁ 0 else Some no_block)
    → for_next follows ≤ length ds₁
next-there ds₁ next false is = omega arith
next-there ds₁ next true is = omega (arith, slice_get_within ds₁ 0 next (sym is))

-- the digest of the next block is the first one left
pub next-is : (f : ℕ) (shown : List Shown) (ds ds₁ : List (List ℕ)) (next : List ℕ) (follows : Bool) → ds₁ ≡ drop (block_need f shown) ds
    → follows ≡ has_next f shown → Some next ≡ (if follows then slice_get ds₁ 0 else Some no_block) → next ≡ next_digest f shown ds
next-is f shown ds ds₁ next false left same is = let e : next ≡ no_block = cc in e ∙ sym (cond-false _ _ _ (sym same))
next-is f shown ds ds₁ next true left same is =
    let got : next ≡ get_or ds₁ 0 [] = sym (get_or_from_slice_get ds₁ 0 next [] (sym is))
    in let at : block_need f shown + 0 ≡ block_need f shown = omega arith
    in got ∙ ap (λ es. get_or es 0 []) left ∙ get_or-drop (block_need f shown) ds 0 [] ∙ ap (λ n. get_or ds n []) at ∙ sym (cond-true _ _ _ (sym same))

pub chain-some : (H : List ℕ → List ℕ) (f : ℕ) (shown shown₁ : List Shown) (ds ds₁ ds₂ roots : List (List ℕ)) (follows : Bool) (next x : List ℕ)
    → 1 ≤ length shown → length shown ≤ f
    → AreBlockRoots H f shown ds roots shown₁ ds₁ → follows ≡ has_next f shown
    → Some next ≡ (if follows then slice_get ds₁ 0 else Some no_block)
    → ds₂ ≡ drop (for_next follows) ds₁ → None ≡ slice_get ds₂ 0 → x ≡ chain_digest H roots next
    → Some x ≡ chain_rebuilt H f shown ds
chain-some H f shown shown₁ ds ds₁ ds₂ roots follows next x some within is same passed left none value =
    let count : length ds₁ ≡ length ds - block_need f shown = ap length is.digests_left ∙ length-drop (block_need f shown) ds
    in let count' : length ds₂ ≡ length ds₁ - for_next follows = ap length left ∙ length-drop (for_next follows) ds₁
    in let there : for_next follows ≤ length ds₁ = next-there ds₁ next follows passed
    in let needs : chain_need f shown ≡ block_need f shown + for_next follows = need-for f shown follows same
    in let gone : length ds₂ ≡ 0 = nothing_at ds₂ none
    in let exact : length ds ≡ chain_need f shown = omega (arith, is.enough)
    in ap Some (value ∙ rw (is.value, next-is f shown ds ds₁ next follows is.digests_left same passed) refl)
    ∙ sym (chain-rebuilt H f shown ds some within exact)

-- no digest is left
pub none-gone : (ds ds' : List (List ℕ)) → None ≡ slice_get ds 0 → ds' ≡ drop 1 ds → ds' ≡ []
none-gone [] ds' none left = left
none-gone (d ∷ ds) ds' none left = absurd (cc)

-- ---- steps

-- b blocks take 3 steps for each of their places at most, and a block that follows has a place
pub steps-by_places : (f b before blocks_done now : ℕ) (follows : Bool) → follows ≡ nat_lt (64 * b) f
    → blocks_done + b ≤ before + 3 * min f (64 * b) → now ≡ blocks_done + for_next follows → now + b ≤ before + 3 * f
steps-by_places f b before blocks_done now false same few is = omega arith
steps-by_places f b before blocks_done now true same few is =
    let more : 64 * b < f = ltb-true (64 * b) f (sym same) in omega arith

-- fewer leaves than are shown
pub none-long : (H : List ℕ → List ℕ) (f : ℕ) (shown : List Shown) (ds : List (List ℕ)) → f < length shown → None ≡ chain_rebuilt H f shown ds
none-long H f shown ds long = chain-none H f shown ds (λ (within : length shown ≤ f) (exact : length ds ≡ chain_need f shown). absurd (omega arith))

pub some-left : (ds : List (List ℕ)) (d : List ℕ) → Some d ≡ slice_get ds 0 → 0 < length ds
some-left ds d some = slice_get_within ds 0 d (sym some)

pub for-next-few : (follows : Bool) → for_next follows ≤ 1
for-next-few false = omega arith
for-next-few true = omega arith

-- there are as many roots as shown blocks
pub block-count : (H : List ℕ → List ℕ) (f : ℕ) (shown shown₁ : List Shown) (ds ds₁ roots : List (List ℕ))
    → AreBlockRoots H f shown ds roots shown₁ ds₁ → length roots ≡ blocks_in (length shown)
block-count H f shown shown₁ ds ds₁ roots is =
    ap length is.value ∙ length-map-range_with_len (block_root H f shown ds) 0 (blocks_in (length shown) - 0) ∙ omega arith

-- nothing that is rebuilt is missing
pub not-none : (o : Option (List ℕ)) → o ≡ None → IsSome o → ⊥
not-none None none some = absurd (cc)
not-none (Some x) none some = absurd (cc)

-- what is rebuilt is of at least one and at most f leaves, with the digests that they need
pub chain-fits : (H : List ℕ → List ℕ) (f : ℕ) (shown : List Shown) (ds : List (List ℕ)) → IsSome (chain_rebuilt H f shown ds)
    → (1 ≤ length shown) × (length shown ≤ f) × (length ds ≡ chain_need f shown)
chain-fits H f shown ds some =
    let test : Bool = nat_le 1 (length shown) && nat_le (length shown) f && nat_eq (length ds) (chain_need f shown)
    in elim (cases_Bool test) [
      | inl meets ↦
          let outer : ((nat_le 1 (length shown) && nat_le (length shown) f) ≡ true) × (nat_eq (length ds) (chain_need f shown) ≡ true) =
          and_parts _ _ meets
          in let inner : (nat_le 1 (length shown) ≡ true) × (nat_le (length shown) f ≡ true) = and_parts _ _ outer.0
          in (leb-true 1 (length shown) inner.0, leb-true (length shown) f inner.1, eqb-true _ _ outer.1)
      | inr fails ↦ absurd (not-none (chain_rebuilt H f shown ds) (cond-false test _ _ fails) some)
    ]

-- b blocks take 5 steps for each of their places at most, their own strings included, and a block that follows has a
-- place
pub search-steps : (f b before blocks_done now : ℕ) (follows : Bool) → follows ≡ nat_lt (64 * b) f
    → blocks_done + 2 * b ≤ before + 5 * min f (64 * b) → now ≡ blocks_done + for_next follows → now + 2 * b ≤ before + 5 * f
search-steps f b before blocks_done now false same few is = omega arith
search-steps f b before blocks_done now true same few is =
    let more : 64 * b < f = ltb-true (64 * b) f (sym same) in omega arith
