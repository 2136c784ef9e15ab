-- The digests of a list in blocks, as they stand in one run, and as they are seen.
use Rattle.std.proofs.Common.{◌≡◌, ℕ, zero, suc, ◌+◌, ◌-◌, ◌*◌, ◌/◌, ◌%◌, ◌^◌, ◌<◌, ◌≤◌, List, [], ◌∷◌, ◌++◌, length, map, take, drop, get_or, min, if◌then◌else◌, nat_lt, refl, sym, ◌∙◌, ap, ap₂, arith, inl, inr, Result, Ok, Err, OnErr, Some, None, Option, IsTrue, true, false, Bool, not, nat_eq}
use Rattle.std.specs.List.{range_with_len, All, slice_get}
use Rattle.std.proofs.lemmas.Bool.{cases_lt, cases_Bool, cond-true, cond-false, le-ltb, lt-ltb}
use Rattle.std.specs.Option.{is_none, is_some}
use Rattle.std.proofs.lemmas.List.{append-nil, drop-drop, drop-take, get_or-take, get_or-drop, take_all, take_at, drop_at, drop_all, length-take, length-drop}
use Rattle.std.proofs.lemmas.List.Elements.{All-cons}
use Rattle.std.proofs.lemmas.Slice.{drop-put_mid}
use borrow.Rule.Slice.PartMut.{put_mid, post_of}
use Rattle.std.proofs.lemmas.List.FromFn.{get_or-map-range_with_len, get_or-range_with_len, length-range_with_len}
use Rattle.ats_tree.specs.Kept.{kept_digests}
use Rattle.ats_tree.specs.Tree.{mth}
use Rattle.ats_tree.specs.Paths.{path_of}
use Rattle.ats_tree.proofs.Public.{length-kept, sized-kept, string-none}
use Rattle.ats_lists.specs.Blocks.{blocks_in, items_in, block, blocks_from}
use Rattle.ats_lists.specs.Chain.{link, chain_from, chain_link, chain_string}
use Rattle.ats_lists.specs.KeptChain.{ChainDigests, kept_chain}
use Rattle.ats_lists.specs.Inner.KeptChain.{digests_in, chain_in, IsChainRun}
use Rattle.ats_lists.proofs.ChainBinding.{chain_from-step}

-- functions with equal values over some numbers make equal lists
map-same : {X : Type 0} (f g : ℕ → X) (a n : ℕ) → ((j : ℕ) → a ≤ j → j < a + n → f j ≡ g j)
    → map f (range_with_len a n) ≡ map g (range_with_len a n)
map-same f g a zero same = refl
map-same f g a (suc n) same =
    ap₂ ◌∷◌ (same a (omega arith) (omega arith)) (map-same f g (a + 1) n (λ j low high. same j (omega arith) (omega arith)))

-- the digests that a block of a list has: its own, then those of its tree's nodes
abbrev pub block_digests : (List ℕ → List ℕ) → List (List ℕ) → ℕ → List (List ℕ)
block_digests H leaves j = chain_from H leaves j ∷ kept_digests H (block leaves j)

-- a run that has these for each block is seen as the digests of the list
pub seen : (H : List ℕ → List ℕ) (leaves run : List (List ℕ)) → length run ≡ 2 * length leaves
    → ((j : ℕ) → j < blocks_in (length leaves) → digests_in run j ≡ block_digests H leaves j)
    → chain_in run ≡ kept_chain H leaves
seen H leaves run size right =
    let count : length run / 2 ≡ length leaves = omega arith
    in let nodes : map (λ j. drop 1 (digests_in run j)) (blocks_from (length leaves) 0) ≡ map (λ j. kept_digests H (block leaves j)) (blocks_from (length leaves) 0) =
    map-same (λ j. drop 1 (digests_in run j)) (λ j. kept_digests H (block leaves j)) 0 (blocks_in (length leaves) - 0) (λ j low high. ap (drop 1) (right j (omega arith)))
    in let links : map (λ j. get_or (digests_in run j) 0 []) (blocks_from (length leaves) 0) ≡ map (chain_from H leaves) (blocks_from (length leaves) 0) =
    map-same (λ j. get_or (digests_in run j) 0 []) (chain_from H leaves) 0 (blocks_in (length leaves) - 0) (λ j low high. ap (λ (ds : List (List ℕ)). get_or ds 0 []) (right j (omega arith)))
    in ap (λ (n : ℕ). record { entries = n; nodes = map (λ j. drop 1 (digests_in run j)) (blocks_from n 0); links = map (λ j. get_or (digests_in run j) 0 []) (blocks_from n 0) }) count
    ∙ ap₂ (λ (ns : List (List (List ℕ))) (ls : List (List ℕ)). record { entries = length leaves; nodes = ns; links = ls }) nodes links

module _ (H : List ℕ → List ℕ) (leaves run : List (List ℕ)) (same : chain_in run ≡ kept_chain H leaves) where
  pub entries-seen : length run / 2 ≡ length leaves
  entries-seen = ap (λ (c : ChainDigests). c.entries) same

  -- the digests of the nodes of a block's tree
  pub nodes-seen : (j : ℕ) → j < blocks_in (length leaves) → drop 1 (digests_in run j) ≡ kept_digests H (block leaves j)
  nodes-seen j less =
      let count : length run / 2 ≡ length leaves = entries-seen
      in let here : j < blocks_in (length run / 2) - 0 = omega arith
      in let there : j < blocks_in (length leaves) - 0 = omega arith
      in sym (get_or-map-range_with_len (λ i. drop 1 (digests_in run i)) 0 (blocks_in (length run / 2) - 0) j j [] here (omega arith))
      ∙ ap (λ (c : ChainDigests). get_or c.nodes j []) same
      ∙ get_or-map-range_with_len (λ i. kept_digests H (block leaves i)) 0 (blocks_in (length leaves) - 0) j j [] there (omega arith)

  -- a block's own digest
  pub link-seen : (j : ℕ) → j < blocks_in (length leaves) → get_or (digests_in run j) 0 [] ≡ chain_from H leaves j
  link-seen j less =
      let count : length run / 2 ≡ length leaves = entries-seen
      in let here : j < blocks_in (length run / 2) - 0 = omega arith
      in let there : j < blocks_in (length leaves) - 0 = omega arith
      in sym (get_or-map-range_with_len (λ i. get_or (digests_in run i) 0 []) 0 (blocks_in (length run / 2) - 0) j j [] here (omega arith))
      ∙ ap (λ (c : ChainDigests). get_or c.links j []) same
      ∙ get_or-map-range_with_len (chain_from H leaves) 0 (blocks_in (length leaves) - 0) j j [] there (omega arith)

-- a block's own digest, where it stands
pub first-there : (run : List (List ℕ)) (j : ℕ) (d : List ℕ) → get_or (digests_in run j) 0 d ≡ get_or run (128 * j) d
first-there run j d =
    let less : 0 < 128 = omega arith
    in let at : 128 * j + 0 ≡ 128 * j = omega arith
    in get_or-take 128 (drop (128 * j) run) 0 d less ∙ get_or-drop (128 * j) run 0 d ∙ ap (λ i. get_or run i d) at

first-other : (xs : List (List ℕ)) (d e : List ℕ) → 0 < length xs → get_or xs 0 d ≡ get_or xs 0 e
first-other [] d e some = absurd (omega arith)
first-other (x ∷ xs) d e some = refl

-- the same of what is seen as a list's digests
pub first-seen : (H : List ℕ → List ℕ) (leaves run : List (List ℕ)) → chain_in run ≡ kept_chain H leaves → (j : ℕ) (d : List ℕ)
    → length run % 2 ≡ 0 → 128 * j < length run → get_or run (128 * j) d ≡ chain_from H leaves j
first-seen H leaves run same j d even inside =
    let count : length run / 2 ≡ length leaves = entries-seen H leaves run same
    in let less : j < blocks_in (length leaves) = omega arith
    in let some : 0 < length (digests_in run j) = omega (arith, length-take 128 (drop (128 * j) run), length-drop (128 * j) run)
    in sym (first-there run j d) ∙ first-other (digests_in run j) d [] some ∙ link-seen H leaves run same j less

-- the digest that a link to a block needs
pub next-seen : (H : List ℕ → List ℕ) (leaves run : List (List ℕ)) → chain_in run ≡ kept_chain H leaves → (j : ℕ) (own d : List ℕ)
    → length run % 2 ≡ 0 → 128 * j < length run → own ≡ get_or run (128 * j) d
    → (if nat_lt (64 * j) (length leaves) then chain_from H leaves j ∷ [] else []) ≡ own ∷ []
next-seen H leaves run same j own d even inside at =
    let count : length run / 2 ≡ length leaves = entries-seen H leaves run same
    in let less : 64 * j < length leaves = omega (arith, even)
    in cond-true _ _ _ (lt-ltb (64 * j) (length leaves) less)
    ∙ ap (λ (x : List ℕ). x ∷ []) (sym (at ∙ first-seen H leaves run same j d even inside))

-- the digests of the nodes of a block's tree, as a part of the run
pub nodes-there : (run : List (List ℕ)) (j end : ℕ) → end ≡ min (length run) (128 * j + 128) → 128 * j < length run
    → take (end - (128 * j + 1)) (drop (128 * j + 1) run) ≡ drop 1 (digests_in run j)
nodes-there run j end is inside =
    elim (cases_lt (length run) (128 * j + 128)) [
      | inl last ↦
          let few : length (drop (128 * j + 1) run) ≤ end - (128 * j + 1) = omega (arith, length-drop (128 * j + 1) run)
          in let few' : length (drop (128 * j + 1) run) ≤ 127 = omega (arith, length-drop (128 * j + 1) run)
          in take_all (end - (128 * j + 1)) (drop (128 * j + 1) run) few ∙ sym (take_all 127 (drop (128 * j + 1) run) few') ∙ after
      | inr whole ↦
          let all : end - (128 * j + 1) ≡ 127 = omega arith in ap (λ m. take m (drop (128 * j + 1) run)) all ∙ after
    ]
  where
    after : take 127 (drop (128 * j + 1) run) ≡ drop 1 (digests_in run j)
    after = ap (take 127) (sym (drop-drop 1 (128 * j) run)) ∙ sym (drop-take 1 127 (drop (128 * j) run))

-- ---- the first numbers

pub take-range : (a n k : ℕ) → k ≤ n → take k (range_with_len a n) ≡ range_with_len a k
take-range a n zero few = refl
take-range a zero (suc k) few = absurd (omega arith)
take-range a (suc n) (suc k) few = ap (λ (rest : List ℕ). a ∷ rest) (take-range (a + 1) n k (omega arith))

-- of the positions of a block's leaves the first
pub first-range : (all : List ℕ) (n : ℕ) → all ≡ range_with_len 0 64 → n ≤ 64 → take n all ≡ range_with_len 0 n
first-range all n is few = ap (take n) is ∙ take-range 0 64 n few

pub range-nodes : (n nodes : ℕ) → 2 * n ≤ nodes + 1 → All (λ p. 2 * p + 1 ≤ nodes) (range_with_len 0 n)
range-nodes n nodes within k d inside =
    omega (arith, get_or-range_with_len 0 n k d (omega (arith, inside, length-range_with_len 0 n)), inside, length-range_with_len 0 n, within)

-- ---- digests that are left

-- none is left exactly if there is no first one
pub none-left : (ds : List (List ℕ)) (first : Option (List ℕ)) → first ≡ slice_get ds 0
    → (IsTrue (is_none first) → ds ≡ []) × (ds ≡ [] → IsTrue (is_none first))
none-left [] first is = (λ holds. refl, λ same. ap is_none is)
none-left (d ∷ ds) first is = (λ holds. let some : true ≡ false = sym holds ∙ ap is_none is in absurd (cc), λ same. absurd (cc))

-- what `is_none` answers
pub none-told : {X : Type 0} (answer : Bool) (o : Option X) → not answer ≡ is_some o → answer ≡ is_none o
none-told true None is = refl
none-told true (Some x) is = absurd (cc)
none-told false None is = absurd (cc)
none-told false (Some x) is = refl

-- only this digest is left
pub one-left : (ds : List (List ℕ)) (theirs : List ℕ) → Some theirs ≡ slice_get ds 0 → drop 1 ds ≡ [] → ds ≡ theirs ∷ []
one-left [] theirs is last = absurd (cc)
one-left (d ∷ ds) theirs is last = let same : theirs ≡ d = cc in ap₂ (λ (x : List ℕ) (xs : List (List ℕ)). x ∷ xs) (sym same) last

-- and then it is the first one
pub left-one : (ds : List (List ℕ)) (theirs own : List ℕ) → Some theirs ≡ slice_get ds 0 → ds ≡ own ∷ [] → (theirs ≡ own) × (drop 1 ds ≡ [])
left-one [] theirs own is same = absurd (cc)
left-one (d ∷ ds) theirs own is same = let first : d ≡ own = cc in let mine : theirs ≡ d = cc in (mine ∙ first, ap (drop 1) same)

-- ---- what is appended

pub on-err : {A E : Type 0} (r : Result A E) {P : Type 0} → P → OnErr r P
on-err (Ok x) p = tt
on-err (Err e) p = p

pub front-more : (a b c : List (List ℕ)) → b ≡ a ++ c → take (length a) b ≡ a
front-more a b c is = ap (take (length a)) is ∙ take_at a c (length a) refl

-- ---- one block's digests are written where they stand

-- the leaves of a block
pub block-leaves : (leaves : List (List ℕ)) (j n : ℕ) → n ≡ items_in (length leaves) j → take n (drop (64 * j) leaves) ≡ block leaves j
block-leaves leaves j n count =
    elim (cases_lt (length leaves) (64 * j + 64)) [
      | inl end ↦
          let few : length (drop (64 * j) leaves) ≤ n = omega (arith, length-drop (64 * j) leaves)
          in let few' : length (drop (64 * j) leaves) ≤ 64 = omega (arith, length-drop (64 * j) leaves)
          in take_all n (drop (64 * j) leaves) few ∙ sym (take_all 64 (drop (64 * j) leaves) few')
      | inr whole ↦
          let all : n ≡ 64 = omega arith in ap (λ m. take m (drop (64 * j) leaves)) all
    ]

-- a block's own digest is made of its root and the next one
pub own-digest : (H : List ℕ → List ℕ) (leaves : List (List ℕ)) (j n : ℕ) (next digest : List ℕ) → j < blocks_in (length leaves)
    → n ≡ items_in (length leaves) j → next ≡ chain_from H leaves (j + 1)
    → digest ≡ H (link (mth H (take n (drop (64 * j) leaves))) next) → digest ≡ chain_from H leaves j
own-digest H leaves j n next digest less count linked is =
    is
    ∙ ap₂ (λ (part : List (List ℕ)) (d : List ℕ). H (link (mth H part) d)) (block-leaves leaves j n count) linked
    ∙ sym (chain_from-step H leaves j less)

length-block : (leaves : List (List ℕ)) (j : ℕ) → length (block leaves j) ≡ items_in (length leaves) j
length-block leaves j = omega (arith, length-take 64 (drop (64 * j) leaves), length-drop (64 * j) leaves)

length-digests : (H : List ℕ → List ℕ) (leaves : List (List ℕ)) (j : ℕ) → j < blocks_in (length leaves)
    → length (block_digests H leaves j) ≡ 2 * items_in (length leaves) j
length-digests H leaves j less =
    let some : 1 ≤ length (block leaves j) = omega (arith, length-block leaves j)
    in omega (arith, length-block leaves j, length-kept H (block leaves j) some)

-- once these stand where block j has its digests, all blocks from j on have theirs
pub written : (H : List ℕ → List ℕ) (leaves run own : List (List ℕ)) (j a k : ℕ) → j < blocks_in (length leaves)
    → length run ≡ 2 * length leaves → a ≡ 128 * j → k ≡ 2 * items_in (length leaves) j → own ≡ block_digests H leaves j
    → ((i : ℕ) → j + 1 ≤ i → i < blocks_in (length leaves) → digests_in run i ≡ block_digests H leaves i)
    → (i : ℕ) → j ≤ i → i < blocks_in (length leaves) → digests_in (put_mid a k run own) i ≡ block_digests H leaves i
written H leaves run own j a k less size start count is later i from inside =
    let fill : length own ≡ k = omega (arith, ap length is, length-digests H leaves j less)
    in let before : a ≤ length run = omega arith
    in elim (cases_lt j i) [
      | inl more ↦
          let past : a + k ≤ 128 * i = omega arith
          in let next : j + 1 ≤ i = omega arith
          in ap (take 128) (drop-put_mid a k run own (128 * i) past before fill) ∙ later i next inside
      | inr here ↦
          let same : i ≡ j = omega arith
          in let front : length (take a run) ≡ 128 * j = omega (arith, length-take a run)
          in ap (digests_in (put_mid a k run own)) same
          ∙ ap (take 128) (drop_at (take a run) (own ++ post_of a k run) (128 * j) front)
          ∙ own-first fill
          ∙ is
          ∙ ap (block_digests H leaves) (sym same)
    ]
  where
    own-first : length own ≡ k → take 128 (own ++ post_of a k run) ≡ own
    own-first fill =
        elim (cases_lt k 128) [
          | inl last ↦
              let end : length (drop a run) ≤ k = omega (arith, length-drop a run)
              in let few : length own ≤ 128 = omega arith
              in ap (λ (rest : List (List ℕ)). take 128 (own ++ rest)) (drop_all k (drop a run) end)
              ∙ ap (take 128) (append-nil own)
              ∙ take_all 128 own few
          | inr whole ↦
              let full : length own ≡ 128 = omega arith in take_at own (post_of a k run) 128 full
        ]

-- ---- the whole run

pub placed : (count : ℕ) (old now : List (List ℕ)) → count ≡ length old → length now ≡ length old
    → take count (now ++ drop (length now) old) ≡ now
placed count old now counts size = take_at now (drop (length now) old) count (omega arith)

sized-block : (H : List ℕ → List ℕ) → ((m : List ℕ) → length (H m) ≡ 32) → (leaves : List (List ℕ)) (j : ℕ)
    → j < blocks_in (length leaves) → All (λ d. length d ≡ 32) (block_digests H leaves j)
sized-block H sized leaves j less =
    All-cons (λ d. length d ≡ 32) (chain_from H leaves j) (kept_digests H (block leaves j))
    (ap length (chain_from-step H leaves j less) ∙ sized _) (sized-kept H sized (block leaves j))

pub is-run : (H : List ℕ → List ℕ) → ((m : List ℕ) → length (H m) ≡ 32) → (leaves run : List (List ℕ)) → 1 ≤ length leaves
    → length leaves ≤ 65536 → length run ≡ 2 * length leaves
    → ((j : ℕ) → j < blocks_in (length leaves) → digests_in run j ≡ block_digests H leaves j) → IsChainRun run
is-run H sized leaves run some few size right = record { sized = each; some = omega arith; few = omega arith; even = omega arith }
  where
    each : All (λ d. length d ≡ 32) run
    each k d less =
        let whole : k ≡ 128 * (k / 128) + k % 128 = omega arith
        in let inside : k / 128 < blocks_in (length leaves) = omega arith
        in let low : k % 128 < 128 = omega arith
        in let here : get_or run k d ≡ get_or (block_digests H leaves (k / 128)) (k % 128) d =
        ap (λ (i : ℕ). get_or run i d) whole
        ∙ sym (get_or-drop (128 * (k / 128)) run (k % 128) d)
        ∙ sym (get_or-take 128 (drop (128 * (k / 128)) run) (k % 128) d low)
        ∙ ap (λ (ds : List (List ℕ)). get_or ds (k % 128) d) (right (k / 128) inside)
        in let within : k % 128 < length (block_digests H leaves (k / 128)) =
        omega (arith, length-digests H leaves (k / 128) inside)
        in ap length here ∙ sized-block H sized leaves (k / 128) inside (k % 128) d within

-- ---- the strings at two numbers

-- none past the last block
pub string-past : (H : List ℕ → List ℕ) (leaves : List (List ℕ)) (depth turns : ℕ) → length leaves ≤ 64 * (turns / 64)
    → chain_string H leaves depth turns ≡ None
string-past H leaves zero turns past =
    let none : chain_link H leaves (turns / 64) ≡ None = cond-false _ _ _ (le-ltb (turns / 64) (blocks_in (length leaves)) (omega arith))
    in elim (cases_Bool (nat_eq (turns % 64) 0)) [
      | inl is ↦ cond-true _ _ _ is ∙ none
      | inr not ↦ cond-false _ _ _ not
    ]
string-past H leaves (suc depth) turns past =
    let empty : length (block leaves (turns / 64)) ≡ 0 = omega (arith, length-block leaves (turns / 64))
    in elim (cases_Bool (nat_lt (turns % 64) (2 ^ depth))) [
      | inl is ↦ cond-true _ _ _ is ∙ string-none H (block leaves (turns / 64)) (path_of depth (turns % 64)) empty
      | inr not ↦ cond-false _ _ _ not
    ]
