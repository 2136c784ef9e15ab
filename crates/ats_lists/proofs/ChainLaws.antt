-- The laws of lists in blocks: how a list is cut, and what its own first leaves give.
use Rattle.std.proofs.Common.{◌≡◌, ℕ, zero, suc, ◌+◌, ◌-◌, ◌*◌, ◌/◌, ◌^◌, ◌<◌, ◌≤◌, List, [], ◌∷◌, ◌++◌, length, map, take, drop, replicate, Bool, true, false, refl, sym, ◌∙◌, ap, ap₂, arith, inl, inr, Option, Some, None, subst, All, IsSome, get_or, nat_lt, nat_eq, ◌%◌, if◌then◌else◌}
use Rattle.std.specs.List.{range_with_len}
use Rattle.std.proofs.Math.Nat.{mod-eq_of_lt}
use Rattle.std.proofs.lemmas.Bool.{cond-true, cond-false, cases_lt, cases_Bool, eq-eqb, ne_eqb, eqb-true, ltb-false, lt-ltb, le-ltb}
use Rattle.std.proofs.lemmas.List.{length-take, length-drop, length-append, length-map, take_all, take_at, drop-drop, get_or-take, get_or-drop, get_or_at}
use Rattle.std.proofs.lemmas.List.Elements.{All-append, All-map, All-nil, All-cons}
use Rattle.std.proofs.lemmas.List.FromFn.{length-range_with_len}
use Rattle.ats_tree.specs.Tree.{Tree, tree_of, mth}
use Rattle.ats_tree.specs.Shown.{Shown, positions_of, shown_at, places}
use Rattle.ats_tree.specs.Rebuild.{need}
use Rattle.ats_tree.specs.Elided.{shown_with, elided_of, elided_digests}
use Rattle.ats_tree.specs.Nodes.{NodeNumbers, by_path}
use Rattle.ats_tree.specs.Paths.{Path, path_of, number_of}
use Rattle.ats_tree.specs.Strings.{strings, string_at}
use Rattle.ats_tree.specs.Differences.{Hashed, moved}
use Rattle.ats_tree.proofs.Public.{length-places, part-shape, part-own, part-elided, part-shallow, elided-first, elided-first-own, front-need, place-of, string-none, node-ours, length-path_of, number_of-path_of}
use Rattle.ats_lists.specs.Blocks.{blocks_in, items_in, block}
use Rattle.ats_lists.specs.Chain.{link, no_block, chain_digest, chain_from, chain, chain_link, chain_string, chain_elided, IsAtBlock}
use Rattle.ats_lists.specs.ChainPrefix.{block_tree, block_need, block_root, has_next, chain_need, next_digest, shown_from, chain_rebuilt, tree_strings, chain_strings}
use Rattle.ats_lists.proofs.Fronts.{front-places, front-past}
use Rattle.ats_lists.proofs.BlockLemmas.{shown-front, full-block}
use Rattle.ats_lists.proofs.ChainBinding.{chain-end, own_at, in_block, node-own, link-own, length-block, shown_from-step, chain_from-step, strings_from}
use Rattle.ats_lists.proofs.ChainOutcomes.{chain-rebuilt}

-- ---- how a list is cut

pub chain-one : (H : List ℕ → List ℕ) (ds : List (List ℕ)) → 1 ≤ length ds → length ds ≤ 64
    → chain H ds ≡ H (3 ∷ mth H ds ++ replicate 32 0)
chain-one H ds some few =
    let one : 0 < blocks_in (length ds) = omega arith
    in let end : blocks_in (length ds) ≤ 0 + 1 = omega arith
    in chain_from-step H ds 0 one
    ∙ ap₂ (λ (root next : List ℕ). H (link root next)) (ap (mth H) (take_all 64 ds few)) (chain-end H ds (0 + 1) end)

-- block j + 1 of a list is block j after its first 64
later-block : (ds : List (List ℕ)) (j : ℕ) → block ds (j + 1) ≡ block (drop 64 ds) j
later-block ds j =
    let at : 64 + 64 * j ≡ 64 * (j + 1) = omega arith
    in ap (take 64) (ap (λ n. drop n ds) (sym at) ∙ sym (drop-drop (64 * j) 64 ds))

later-roots : (H : List ℕ → List ℕ) (ds : List (List ℕ)) (n j : ℕ)
    → map (λ i. mth H (block ds i)) (range_with_len (j + 1) n) ≡ map (λ i. mth H (block (drop 64 ds) i)) (range_with_len j n)
later-roots H ds zero j = refl
later-roots H ds (suc n) j =
    ap₂ (λ (root : List ℕ) (roots : List (List ℕ)). root ∷ roots) (ap (mth H) (later-block ds j)) (later-roots H ds n (j + 1))

pub chain-more : (H : List ℕ → List ℕ) (ds : List (List ℕ)) → 64 < length ds
    → chain H ds ≡ H (3 ∷ mth H (take 64 ds) ++ chain H (drop 64 ds))
chain-more H ds long =
    let some : 0 < blocks_in (length ds) = omega arith
    in let count : blocks_in (length ds) - (0 + 1) ≡ blocks_in (length (drop 64 ds)) - 0 = omega (arith, length-drop 64 ds)
    in let later : chain_from H ds (0 + 1) ≡ chain H (drop 64 ds) =
    ap (λ roots. chain_digest H roots no_block)
    (later-roots H ds (blocks_in (length ds) - (0 + 1)) 0
    ∙ ap (λ n. map (λ i. mth H (block (drop 64 ds) i)) (range_with_len 0 n)) count)
    in chain_from-step H ds 0 some ∙ ap (λ next. H (link (mth H (take 64 ds)) next)) later

-- ---- the first k leaves of a list

abbrev pub first_shown : List (List ℕ) → ℕ → List Shown
first_shown ds k = shown_with ds (range_with_len 0 k)

first-front : (ds : List (List ℕ)) (k : ℕ) → positions_of (first_shown ds k) ≡ range_with_len 0 k
first-front ds k = place-of ds (range_with_len 0 k)

first-length : (ds : List (List ℕ)) (k : ℕ) → length (first_shown ds k) ≡ k
first-length ds k = length-map (range_with_len 0 k) (λ p. (p, get_or ds p [])) ∙ length-range_with_len 0 k

-- the leaf at position i, if it is shown
shown_at-inside : (ds : List (List ℕ)) (a n i : ℕ) → a ≤ i → i < a + n
    → shown_at (shown_with ds (range_with_len a n)) i ≡ Some (get_or ds i [])
shown_at-inside ds a zero i low high = absurd (omega arith)
shown_at-inside ds a (suc n) i low high =
    elim (cases_lt a i) [
      | inl more ↦
          let other : a ≡ i → ⊥ = λ e. absurd (omega arith)
          in let low' : a + 1 ≤ i = omega arith
          in let high' : i < a + 1 + n = omega arith
          in cond-false _ _ _ (ne_eqb a i other) ∙ shown_at-inside ds (a + 1) n i low' high'
      | inr less ↦
          let here : a ≡ i = omega arith in cond-true _ _ _ (eq-eqb a i here) ∙ ap (λ p. Some (get_or ds p [])) here
    ]

places-alike : (from from' n : ℕ) (s s' : List Shown) → ((i : ℕ) → i < n → shown_at s (from + i) ≡ shown_at s' (from' + i))
    → places from n s ≡ places from' n s'
places-alike from from' zero s s' same = refl
places-alike from from' (suc n) s s' same =
    let here : shown_at s from ≡ shown_at s' from' =
    ap (shown_at s) (omega arith) ∙ same 0 (omega arith) ∙ ap (shown_at s') (omega arith)
    in ap₂ (λ (o : Option (List ℕ)) (os : List (Option (List ℕ))). o ∷ os) here
    (places-alike (from + 1) (from' + 1) n s s' (λ i less. ap (shown_at s) (omega arith) ∙ same (suc i) (omega arith) ∙ ap (shown_at s') (omega arith)))

-- the leaves of block j at their places in the list
block-places : (ds : List (List ℕ)) (j i : ℕ) → i < length (block ds j) → get_or (block ds j) i [] ≡ get_or ds (64 * j + i) []
block-places ds j i less =
    let low : i < 64 = omega (arith, length-take 64 (drop (64 * j) ds))
    in get_or-take 64 (drop (64 * j) ds) i [] low ∙ get_or-drop (64 * j) ds i []

-- the last block with a shown leaf, on its own
last-places : (ds : List (List ℕ)) (k j r : ℕ) → 64 * j + r ≡ k → k ≤ length ds → r ≤ 64
    → places (64 * j) (items_in (length ds) j) (first_shown ds k) ≡ places 0 (length (block ds j)) (first_shown (block ds j) r)
last-places ds k j r at within few =
    let size : items_in (length ds) j ≡ length (block ds j) = sym (length-block (length ds) j ds refl)
    in ap (λ n. places (64 * j) n (first_shown ds k)) size
    ∙ places-alike (64 * j) 0 (length (block ds j)) (first_shown ds k) (first_shown (block ds j) r) (λ i less.
    let plain : 0 + i ≡ i = omega arith
    in elim (cases_lt i r) [
      | inl shows ↦
          let low : 0 ≤ 64 * j + i = omega arith
          in let high : 64 * j + i < 0 + k = omega arith
          in let low' : 0 ≤ i = omega arith
          in let high' : i < 0 + r = omega arith
          in shown_at-inside ds 0 k (64 * j + i) low high
          ∙ ap Some (sym (block-places ds j i less))
          ∙ sym (ap (shown_at (first_shown (block ds j) r)) plain ∙ shown_at-inside (block ds j) 0 r i low' high')
      | inr hides ↦
          let past : 0 + k ≤ 64 * j + i = omega arith
          in let past' : 0 + r ≤ 0 + i = omega arith
          in front-past 0 k (64 * j + i) (first_shown ds k) (first-front ds k) past
          ∙ sym (front-past 0 r (0 + i) (first_shown (block ds j) r) (first-front (block ds j) r) past')
    ])

-- ---- what the first k leaves of a list need

-- the block before which k leaves end, and how many of them are in it
pub record IsLast (k m r : ℕ) : Type 0 where
  pub block : m ≡ blocks_in k - 1
  pub count : 64 * m + r ≡ k
  pub some : 1 ≤ r
  pub few : r ≤ 64

is_last : (k : ℕ) → 1 ≤ k → IsLast k (blocks_in k - 1) (k - 64 * (blocks_in k - 1))
is_last k some = record { block = refl; count = omega arith; some = omega arith; few = omega arith }

-- the digests that the last block needs
abbrev last_elided : (List ℕ → List ℕ) → List (List ℕ) → ℕ → List (List ℕ)
last_elided H ds k = elided_digests H (block ds (blocks_in k - 1)) (range_with_len 0 (k - 64 * (blocks_in k - 1)))

-- that of the block after it
abbrev after_last : (List ℕ → List ℕ) → List (List ℕ) → ℕ → List (List ℕ)
after_last H ds k = if nat_lt (64 * blocks_in k) (length ds) then chain_from H ds (blocks_in k) ∷ [] else []

-- the tree of block j, and the tree of the list's leaves there
abbrev first_tree : List (List ℕ) → ℕ → ℕ → Tree (Option (List ℕ))
first_tree ds k j = block_tree (length ds) (first_shown ds k) j

last-elided : (H : List ℕ → List ℕ) (ds : List (List ℕ)) (k : ℕ) → 1 ≤ k → k ≤ length ds
    → last_elided H ds k ≡ elided_of H (first_tree ds k (blocks_in k - 1)) (tree_of (block ds (blocks_in k - 1)))
last-elided H ds k some within =
    let m : ℕ = blocks_in k - 1
    in let r : ℕ = k - 64 * m
    in let last : IsLast k m r = is_last k some
    in ap (λ os. elided_of H (tree_of os) (tree_of (block ds m))) (sym (last-places ds k m r last.count within last.few))

last-count : (H : List ℕ → List ℕ) (ds : List (List ℕ)) (k : ℕ) → 1 ≤ k → k ≤ length ds
    → length (last_elided H ds k) ≡ need (first_tree ds k (blocks_in k - 1))
last-count H ds k some within =
    let m : ℕ = blocks_in k - 1
    in ap length (last-elided H ds k some within)
    ∙ part-elided H (64 * m) (items_in (length ds) m) (first_shown ds k) (block ds m) (length-block (length ds) m ds refl)

last-need : (ds : List (List ℕ)) (k : ℕ) → 1 ≤ k → k ≤ length ds → need (first_tree ds k (blocks_in k - 1)) ≤ 6
last-need ds k some within =
    let m : ℕ = blocks_in k - 1
    in let n : ℕ = items_in (length ds) m
    in let r : ℕ = k - 64 * m
    in let last : IsLast k m r = is_last k some
    in let short : length (places (64 * m) n (first_shown ds k)) ≤ 2 ^ 6 = omega (arith, length-places (64 * m) n (first_shown ds k))
    in front-need 6 r (places (64 * m) n (first_shown ds k)) last.some short (front-places k (64 * m) n r (first_shown ds k) (first-front ds k) refl)

after-count : (follows : Bool) (d : List ℕ) → length (if follows then d ∷ [] else []) ≡ (if follows then 1 else 0)
after-count false d = refl
after-count true d = refl

after-few : (follows : Bool) → (if follows then 1 else 0) ≤ 1
after-few false = omega arith
after-few true = omega arith

pub elided-few : (H : List ℕ → List ℕ) (ds : List (List ℕ)) (k : ℕ) → 1 ≤ k → k ≤ length ds → length (chain_elided H ds k) ≤ 7
elided-few H ds k some within =
    let follows : Bool = nat_lt (64 * blocks_in k) (length ds)
    in let size : length (after_last H ds k) ≡ (if follows then 1 else 0) = after-count follows (chain_from H ds (blocks_in k))
    in omega (
      arith,
      length-append (last_elided H ds k) (after_last H ds k),
      last-count H ds k some within,
      last-need ds k some within,
      size,
      after-few follows,
    )

no_digest : (es : List (List ℕ)) → length es ≡ 0 → es ≡ []
no_digest [] none = refl
no_digest (e ∷ es) none = absurd (omega arith)

-- each shown block has its digests first
elided-taken : (H : List ℕ → List ℕ) (ds : List (List ℕ)) (k j : ℕ) → 1 ≤ k → k ≤ length ds → j < blocks_in k
    → take (need (first_tree ds k j)) (chain_elided H ds k) ≡ elided_of H (first_tree ds k j) (tree_of (block ds j))
elided-taken H ds k j some within less =
    let shown : List Shown = first_shown ds k
    in let size : length shown ≡ k = first-length ds k
    in elim (cases_lt (j + 1) (blocks_in k)) [
      | inl more ↦
          let full : 64 * j + 64 ≤ length shown = omega arith
          in let none : need (first_tree ds k j) ≡ 0 = full-block (length ds) j shown (shown-front k shown (first-front ds k)) full
          in let count : length (elided_of H (first_tree ds k j) (tree_of (block ds j))) ≡ need (first_tree ds k j) =
          part-elided H (64 * j) (items_in (length ds) j) shown (block ds j) (length-block (length ds) j ds refl)
          in ap (λ n. take n (chain_elided H ds k)) none ∙ sym (no_digest _ (count ∙ none))
      | inr end ↦
          let last : blocks_in k - 1 ≡ j = omega arith
          in let IsFront : ℕ → Type 0 = λ i. take (need (first_tree ds k i)) (chain_elided H ds k) ≡ elided_of H (first_tree ds k i) (tree_of (block ds i))
          in subst IsFront last
          (take_at (last_elided H ds k) (after_last H ds k) (need (first_tree ds k (blocks_in k - 1))) (last-count H ds k some within)
          ∙ last-elided H ds k some within)
    ]

-- ---- what they rebuild

first-root : (H : List ℕ → List ℕ) (ds : List (List ℕ)) (k j : ℕ) → 1 ≤ k → k ≤ length ds → j < blocks_in k
    → block_root H (length ds) (first_shown ds k) (chain_elided H ds k) j ≡ mth H (block ds j)
first-root H ds k j some within less =
    elided-first H (first_tree ds k j) (tree_of (block ds j)) (chain_elided H ds k)
    (part-shape (64 * j) (items_in (length ds) j) (first_shown ds k) (block ds j) (length-block (length ds) j ds refl))
    (part-own ds (block ds j) (range_with_len 0 k) (64 * j) (items_in (length ds) j) (length-block (length ds) j ds refl) (block-places ds j))
    (elided-taken H ds k j some within less)

first-strings : (H : List ℕ → List ℕ) (ds : List (List ℕ)) (k j : ℕ) → 1 ≤ k → k ≤ length ds → j < blocks_in k
    → All (λ s. string_at H (tree_of (block ds j)) s.place ≡ Some s.text) (strings H (first_tree ds k j) (chain_elided H ds k))
first-strings H ds k j some within less =
    elided-first-own H (first_tree ds k j) (tree_of (block ds j)) (chain_elided H ds k)
    (part-shape (64 * j) (items_in (length ds) j) (first_shown ds k) (block ds j) (length-block (length ds) j ds refl))
    (part-own ds (block ds j) (range_with_len 0 k) (64 * j) (items_in (length ds) j) (length-block (length ds) j ds refl) (block-places ds j))
    (elided-taken H ds k j some within less)

-- how many digests the shown leaves need, seen from their number
first-need : (ds : List (List ℕ)) (k : ℕ) → block_need (length ds) (first_shown ds k) ≡ need (first_tree ds k (blocks_in k - 1))
first-need ds k = ap (λ n. need (first_tree ds k (blocks_in n - 1))) (first-length ds k)

first-has : (ds : List (List ℕ)) (k : ℕ) → has_next (length ds) (first_shown ds k) ≡ nat_lt (64 * blocks_in k) (length ds)
first-has ds k = ap (λ n. nat_lt (64 * blocks_in n) (length ds)) (first-length ds k)

first-next : (H : List ℕ → List ℕ) (ds : List (List ℕ)) (k : ℕ) → 1 ≤ k → k ≤ length ds
    → next_digest (length ds) (first_shown ds k) (chain_elided H ds k) ≡ chain_from H ds (blocks_in k)
first-next H ds k some within =
    let e : List (List ℕ) = last_elided H ds k
    in let after : List (List ℕ) = after_last H ds k
    in let has : has_next (length ds) (first_shown ds k) ≡ nat_lt (64 * blocks_in k) (length ds) = first-has ds k
    in elim (cases_Bool (nat_lt (64 * blocks_in k) (length ds))) [
      | inl follows ↦
          let one : after ≡ chain_from H ds (blocks_in k) ∷ [] = cond-true _ _ _ follows
          in let at : length e ≡ block_need (length ds) (first_shown ds k) = last-count H ds k some within ∙ sym (first-need ds k)
          in cond-true _ _ _ (has ∙ follows)
          ∙ ap (λ n. get_or (e ++ after) n []) (sym at)
          ∙ ap (λ es. get_or (e ++ es) (length e) []) one
          ∙ get_or_at e (chain_from H ds (blocks_in k)) [] [] (length e) refl
      | inr ends ↦
          let past : length ds ≤ 64 * blocks_in k = ltb-false (64 * blocks_in k) (length ds) ends
          in let end : blocks_in (length ds) ≤ blocks_in k = omega arith
          in cond-false _ _ _ (has ∙ ends) ∙ sym (chain-end H ds (blocks_in k) end)
    ]

first-from : (H : List ℕ → List ℕ) (ds : List (List ℕ)) (k : ℕ) → 1 ≤ k → k ≤ length ds → (n j : ℕ) → j + n ≡ blocks_in k
    → shown_from H (length ds) (first_shown ds k) (chain_elided H ds k) j ≡ chain_from H ds j
first-from H ds k some within zero j end =
    let shown : List Shown = first_shown ds k
    in let es : List (List ℕ) = chain_elided H ds k
    in let size : length shown ≡ k = first-length ds k
    in let none : blocks_in (length shown) - j ≡ 0 = omega (arith, ap blocks_in size)
    in let last : blocks_in k ≡ j = omega arith
    in ap (λ i. chain_digest H (map (block_root H (length ds) shown es) (range_with_len j i)) (next_digest (length ds) shown es)) none
    ∙ first-next H ds k some within
    ∙ ap (chain_from H ds) last
first-from H ds k some within (suc n) j end =
    let shown : List Shown = first_shown ds k
    in let es : List (List ℕ) = chain_elided H ds k
    in let size : length shown ≡ k = first-length ds k
    in let less : j < blocks_in k = omega arith
    in let less' : j < blocks_in (length shown) = omega (arith, ap blocks_in size)
    in let less'' : j < blocks_in (length ds) = omega arith
    in let end' : j + 1 + n ≡ blocks_in k = omega arith
    in shown_from-step H (length ds) shown es j less'
    ∙ ap₂ (λ (root next : List ℕ). H (link root next)) (first-root H ds k j some within less) (first-from H ds k some within n (j + 1) end')
    ∙ sym (chain_from-step H ds j less'')

pub first-rebuilds : (H : List ℕ → List ℕ) (ds : List (List ℕ)) (k : ℕ) → 1 ≤ k → k ≤ length ds
    → chain_rebuilt H (length ds) (first_shown ds k) (chain_elided H ds k) ≡ Some (chain H ds)
first-rebuilds H ds k some within =
    let shown : List Shown = first_shown ds k
    in let size : length shown ≡ k = first-length ds k
    in let some' : 1 ≤ length shown = omega arith
    in let within' : length shown ≤ length ds = omega arith
    in let count : 0 + blocks_in k ≡ blocks_in k = omega arith
    in let exact : length (chain_elided H ds k) ≡ chain_need (length ds) shown =
    length-append (last_elided H ds k) (after_last H ds k)
    ∙ ap₂ (λ (a b : ℕ). a + b) (last-count H ds k some within ∙ sym (first-need ds k))
    (after-count (nat_lt (64 * blocks_in k) (length ds)) (chain_from H ds (blocks_in k)) ∙ ap (λ b. if b then 1 else 0) (sym (first-has ds k)))
    in chain-rebuilt H (length ds) shown (chain_elided H ds k) some' within' exact
    ∙ ap Some (first-from H ds k some within (blocks_in k) 0 count)

first-own-from : (H : List ℕ → List ℕ) (ds : List (List ℕ)) (k : ℕ) → 1 ≤ k → k ≤ length ds → (n j : ℕ) → j + n ≡ blocks_in k
    → All (λ s. own_at H ds s.place ≡ Some s.text) (strings_from H (length ds) (first_shown ds k) (chain_elided H ds k) j n)
first-own-from H ds k some within zero j end = All-nil _
first-own-from H ds k some within (suc n) j end =
    let f : ℕ = length ds
    in let shown : List Shown = first_shown ds k
    in let es : List (List ℕ) = chain_elided H ds k
    in let less : j < blocks_in k = omega arith
    in let less' : j < blocks_in (length ds) = omega arith
    in let end' : j + 1 + n ≡ blocks_in k = omega arith
    in let Own : Hashed NodeNumbers → Type 0 = λ s. own_at H ds s.place ≡ Some s.text
    in let first : Hashed NodeNumbers = record {
      place = record { depth = 0; turns = 64 * j };
      text = link (block_root H f shown es j) (shown_from H f shown es (j + 1));
    }
    in let ss : List (Hashed Path) = strings H (first_tree ds k j) es
    in let few : items_in f j ≤ 2 ^ 6 = omega arith
    in let deep : All (λ s. length s.place ≤ 6) ss = part-shallow H 6 (64 * j) (items_in f j) shown es few
    in let own : All (λ s. string_at H (tree_of (block ds j)) s.place ≡ Some s.text) ss = first-strings H ds k j some within less
    in let here : own_at H ds (record { depth = 0; turns = 64 * j }) ≡ Some (link (block_root H f shown es j) (shown_from H f shown es (j + 1))) =
    link-own H ds j less'
    ∙ ap₂ (λ (root next : List ℕ). Some (link root next)) (sym (first-root H ds k j some within less)) (sym (first-from H ds k some within n (j + 1) end'))
    in All-cons Own first (tree_strings H f shown es j ++ strings_from H f shown es (j + 1) n) here
    (All-append Own (tree_strings H f shown es j) (strings_from H f shown es (j + 1) n)
    (All-map Own (moved (in_block j)) ss (λ i d less. node-own H ds j (get_or ss i d).place (deep i d less) ∙ own i d less))
    (first-own-from H ds k some within n (j + 1) end'))

pub first-own : (H : List ℕ → List ℕ) (ds : List (List ℕ)) (k : ℕ) → 1 ≤ k → k ≤ length ds
    → All (λ s. own_at H ds s.place ≡ Some s.text) (chain_strings H (length ds) (first_shown ds k) (chain_elided H ds k))
first-own H ds k some within =
    let size : blocks_in (length (first_shown ds k)) - 0 ≡ blocks_in k = ap (λ n. blocks_in n - 0) (first-length ds k) ∙ omega arith
    in let count : 0 + blocks_in k ≡ blocks_in k = omega arith
    in let Own : ℕ → Type 0 = λ n. All (λ s. own_at H ds s.place ≡ Some s.text) (strings_from H (length ds) (first_shown ds k) (chain_elided H ds k) 0 n)
    in subst Own (sym size) (first-own-from H ds k some within (blocks_in k) 0 count)

-- ---- where strings stand

pub not_some : (o : Option (List ℕ)) → o ≡ None → IsSome o → ⊥
not_some None none there = absurd (cc)
not_some (Some x) none there = absurd (cc)

-- a block with a string has a leaf
block-there : (H : List ℕ → List ℕ) (ds : List (List ℕ)) (j : ℕ) (path : Path) → IsSome (string_at H (tree_of (block ds j)) path) → j < blocks_in (length ds)
block-there H ds j path there =
    elim (cases_lt j (blocks_in (length ds))) [
      | inl less ↦ less
      | inr past ↦
          let none : length (block ds j) ≡ 0 = omega (arith, length-take 64 (drop (64 * j) ds), length-drop (64 * j) ds)
          in absurd (not_some _ (string-none H (block ds j) path none) there)
    ]

pub strings-only : (H : List ℕ → List ℕ) (ds : List (List ℕ)) (depth turns : ℕ) → IsSome (chain_string H ds depth turns)
    → (j : ℕ) × (j < blocks_in (length ds)) × IsAtBlock j depth turns
strings-only H ds zero turns there =
    let There : Option (List ℕ) → Type 0 = λ o. IsSome o
    in elim (cases_Bool (nat_eq (turns % 64) 0)) [
      | inl even ↦
          let there' : IsSome (chain_link H ds (turns / 64)) = subst There (cond-true _ _ _ even) there
          in let none : turns % 64 ≡ 0 = eqb-true (turns % 64) 0 even
          in elim (cases_lt (turns / 64) (blocks_in (length ds))) [
            | inl less ↦ (turns / 64, less, omega arith)
            | inr past ↦ absurd (not_some _ (cond-false _ _ _ (le-ltb (turns / 64) (blocks_in (length ds)) past)) there')
          ]
      | inr odd ↦ absurd (not_some _ (cond-false _ _ _ odd) there)
    ]
strings-only H ds (suc depth) turns there =
    let There : Option (List ℕ) → Type 0 = λ o. IsSome o
    in let path : Path = path_of depth (turns % 64)
    in let j : ℕ = turns / 64
    in elim (cases_lt (turns % 64) (2 ^ depth)) [
      | inl low ↦
          let there' : IsSome (string_at H (tree_of (block ds j)) path) = subst There (cond-true _ _ _ (lt-ltb (turns % 64) (2 ^ depth) low)) there
          in let few : length (block ds j) ≤ 2 ^ 6 = omega (arith, length-take 64 (drop (64 * j) ds))
          in let size : length path ≡ depth = length-path_of depth (turns % 64)
          in let shallow : length path ≤ 6 = node-ours H 6 (block ds j) (by_path path) few there'
          in let number : number_of path ≡ turns % 64 = number_of-path_of depth (turns % 64) ∙ mod-eq_of_lt low
          in (j, block-there H ds j path there', (path, size, omega arith, omega arith))
      | inr high ↦ absurd (not_some _ (cond-false _ _ _ (le-ltb (turns % 64) (2 ^ depth) high)) there)
    ]
