-- The first collision of strings one after another, and that of a part of a tree from those of its two parts.
use Rattle.std.proofs.Common.{◌≡◌, ◌≢◌, ℕ, suc, ◌+◌, ◌-◌, ◌*◌, ◌^◌, ◌<◌, ◌≤◌, List, [], ◌∷◌, ◌++◌, length, take, drop, map, Bool, true, false, not, ◌||◌, ◌&&◌, cond, refl, sym, ◌∙◌, ap, ap₂, arith, inl, inr, ◌⊎◌, Option, Some, None, subst, All, append_assoc}
use Rattle.std.specs.Option.{option_map, option_or, IsSome}
use Rattle.std.specs.Str.{bytes_eq}
use Rattle.std.proofs.Math.Nat.{two-pow-succ, mod-eq_of_lt}
use Rattle.std.proofs.Math.Pow.{pow_mono}
use Rattle.std.proofs.lemmas.Bool.{cond-true, cond-false, cases_lt, cases_Bool, or_left}
use Rattle.std.proofs.lemmas.List.{length-append, length-drop, take-take, drop-take, append-nil, map-append}
use Rattle.std.proofs.lemmas.List.Elements.{All-head, All-tail}
use Rattle.std.proofs.lemmas.Slice.Eq.{bytes_eq-Decides}
use Rattle.ats_tree.specs.Tree.{Tree, empty, leaf, node, tree_of, IsPowerOfTwo}
use Rattle.ats_tree.specs.Shown.{Shown, places, first_position, first_leaf}
use Rattle.ats_tree.specs.Part.{RisesFrom, shown_from, IsPart}
use Rattle.ats_tree.specs.Rebuild.{is_bare, need, digest_with, rebuilt}
use Rattle.ats_tree.specs.Paths.{Path, path_of, number_of}
use Rattle.ats_tree.specs.Nodes.{Node, by_path}
use Rattle.ats_tree.specs.Differences.{Hashed, moved, Difference, collision_or, first_collision}
use Rattle.ats_tree.specs.Strings.{below, strings}
use Rattle.ats_tree.specs.Clashes.{difference_of}
use Rattle.ats_tree.specs.Inner.Clashes.{under, part_strings, IsPlaced}
use Rattle.ats_tree.specs.declared.clashing.Clash.{Clash}
use Rattle.ats_tree.proofs.Bound.{IsWhole, is_whole}
use Rattle.ats_tree.proofs.NodeLemmas.{length-path_of, number_of-path_of, same_path}
use Rattle.ats_tree.proofs.Parts.{IsCut, need-cut, digest_with-take, leaf-tree}
use Rattle.ats_tree.proofs.ShownPlaces.{places-none}
use Rattle.ats_tree.proofs.Trees.{bare-of}

-- ---- the first collision of strings one after another

pub collision_or-or : {P : Type 0} (H : List ℕ → List ℕ) (o : Option (List ℕ)) (s : Hashed P) (a b : Option (Difference P))
    → collision_or H o s (option_or a b) ≡ option_or (collision_or H o s a) b
collision_or-or H None s a b = refl
collision_or-or H (Some own) s a b =
    elim (cases_Bool (bytes_eq own s.text || not (bytes_eq (H own) (H s.text)))) [
      | inl same ↦ cond-true _ _ _ same ∙ ap (λ c. option_or c b) (sym (cond-true _ _ _ same))
      | inr other ↦ cond-false _ _ _ other ∙ ap (λ c. option_or c b) (sym (cond-false _ _ _ other))
    ]

-- two runs of strings joined
pub collision-append : {P : Type 0} (H : List ℕ → List ℕ) (ours : P → Option (List ℕ)) (a b : List (Hashed P))
    → first_collision H ours (a ++ b) ≡ option_or (first_collision H ours a) (first_collision H ours b)
collision-append H ours [] b = refl
collision-append H ours (s ∷ a) b =
    ap (collision_or H (ours s.place) s) (collision-append H ours a b)
    ∙ collision_or-or H (ours s.place) s (first_collision H ours a) (first_collision H ours b)

-- two sources of our strings with the same string at each place
pub collision-alike : {P : Type 0} (H : List ℕ → List ℕ) (ours others : P → Option (List ℕ)) (ss : List (Hashed P))
    → All (λ s. ours s.place ≡ others s.place) ss → first_collision H ours ss ≡ first_collision H others ss
collision-alike H ours others [] same = refl
collision-alike {P} H ours others (s ∷ rest) same =
    let Same : Hashed P → Type 0 = λ t. ours t.place ≡ others t.place
    in rw (All-head Same s rest same, collision-alike H ours others rest (All-tail Same s rest same)) refl

collision_or-own : {P : Type 0} (H : List ℕ → List ℕ) (o : Option (List ℕ)) (s : Hashed P) (later : Option (Difference P)) (c : Difference P)
    → collision_or H o s later ≡ Some c → ((o ≡ Some c.ours) × (s.place ≡ c.place)) ⊎ (later ≡ Some c)
collision_or-own H None s later c is = inr is
collision_or-own {P} H (Some own) s later c is =
    elim (cases_Bool (bytes_eq own s.text || not (bytes_eq (H own) (H s.text)))) [
      | inl same ↦ inr (sym (cond-true _ _ _ same) ∙ is)
      | inr other ↦ inl (here (sym (cond-false _ _ _ other) ∙ is))
    ]
  where
    here : Some (let d : Difference P = record { place = s.place; ours = own; theirs = s.text } in d) ≡ Some c → (Some own ≡ Some c.ours) × (s.place ≡ c.place)
    here e = (cc, cc)

-- a collision is with our string at its place
pub collision-own : {P : Type 0} (H : List ℕ → List ℕ) (ours : P → Option (List ℕ)) (ss : List (Hashed P)) (c : Difference P)
    → first_collision H ours ss ≡ Some c → ours c.place ≡ Some c.ours
collision-own H ours [] c is = absurd (cc)
collision-own H ours (s ∷ rest) c is =
    elim (collision_or-own H (ours s.place) s (first_collision H ours rest) c is) [
      | inl here ↦ ap ours (sym here.1) ∙ here.0
      | inr later ↦ collision-own H ours rest c later
    ]

-- the same difference, its place seen from elsewhere
abbrev pub moved_collision : {P Q : Type 0} → (P → Q) → Difference P → Difference Q
moved_collision f c = record { place = f c.place; ours = c.ours; theirs = c.theirs }

collision_or-moved : {P Q : Type 0} (H : List ℕ → List ℕ) (f : P → Q) (o : Option (List ℕ)) (s : Hashed P) (later : Option (Difference P))
    → collision_or H o (moved f s) (option_map (moved_collision f) later) ≡ option_map (moved_collision f) (collision_or H o s later)
collision_or-moved H f None s later = refl
collision_or-moved H f (Some own) s later =
    elim (cases_Bool (bytes_eq own s.text || not (bytes_eq (H own) (H s.text)))) [
      | inl same ↦ cond-true _ _ _ same ∙ ap (option_map (moved_collision f)) (sym (cond-true _ _ _ same))
      | inr other ↦ cond-false _ _ _ other ∙ ap (option_map (moved_collision f)) (sym (cond-false _ _ _ other))
    ]

-- a run of strings that is moved, as into one of several trees
pub collision-moved : {P Q : Type 0} (H : List ℕ → List ℕ) (f : P → Q) (ours : Q → Option (List ℕ)) (ss : List (Hashed P))
    → first_collision H ours (map (moved f) ss) ≡ option_map (moved_collision f) (first_collision H (λ p. ours (f p)) ss)
collision-moved H f ours [] = refl
collision-moved H f ours (s ∷ ss) =
    ap (collision_or H (ours (f s.place)) (moved f s)) (collision-moved H f ours ss)
    ∙ collision_or-moved H f (ours (f s.place)) s (first_collision H (λ p. ours (f p)) ss)

-- the clash that is returned of two
pub first_of_two : {S : Type 0} → (bytes : S → List ℕ) (a b : Option (Clash S))
    → option_map (difference_of bytes) (option_or a b) ≡ option_or (option_map (difference_of bytes) a) (option_map (difference_of bytes) b)
first_of_two bytes None b = refl
first_of_two bytes (Some c) b = refl

-- ---- the node of a part, and those of its parts

number_of-further : (path : Path) (turn : Bool) → number_of (path ++ turn ∷ []) ≡ 2 * number_of path + cond turn 1 0
number_of-further [] false = refl
number_of-further [] true = refl
number_of-further (false ∷ path) turn = omega (arith, number_of-further path turn)
number_of-further (true ∷ path) turn =
    let size : length (path ++ turn ∷ []) ≡ suc (length path) = omega (arith, length-append path (turn ∷ []))
    in let twice : 2 ^ length (path ++ turn ∷ []) ≡ 2 ^ length path + 2 ^ length path = ap (λ n. 2 ^ n) size ∙ two-pow-succ (length path)
    in omega (arith, number_of-further path turn, twice)

-- one turn more
path-further : (depth turns turned : ℕ) (turn : Bool) → turns < 2 ^ depth → turned ≡ 2 * turns + cond turn 1 0 → turned < 2 ^ (depth + 1)
    → path_of (depth + 1) turned ≡ path_of depth turns ++ turn ∷ []
path-further depth turns turned turn inside is less =
    let low : number_of (path_of depth turns) ≡ turns = number_of-path_of depth turns ∙ mod-eq_of_lt inside
    in let low' : number_of (path_of (depth + 1) turned) ≡ turned = number_of-path_of (depth + 1) turned ∙ mod-eq_of_lt less
    in let further = number_of-further (path_of depth turns) turn
    in let size : length (path_of (depth + 1) turned) ≡ length (path_of depth turns ++ turn ∷ []) =
    omega (arith, length-path_of (depth + 1) turned, length-path_of depth turns, length-append (path_of depth turns) (turn ∷ []))
    in same_path _ _ size (omega (arith, low, low', further, is))

twice_more : (depth : ℕ) → 2 ^ (depth + 1) ≡ 2 * 2 ^ depth
twice_more depth =
    let more : depth + 1 ≡ suc depth = omega arith
    in let twice : 2 ^ (depth + 1) ≡ 2 ^ depth + 2 ^ depth = ap (λ n. 2 ^ n) more ∙ two-pow-succ depth
    in omega (arith, twice)

pub path-left : (depth turns : ℕ) → turns < 2 ^ depth → path_of (depth + 1) (2 * turns) ≡ path_of depth turns ++ false ∷ []
path-left depth turns inside = path-further depth turns (2 * turns) false inside (omega arith) (omega (arith, twice_more depth))

pub path-right : (depth turns : ℕ) → turns < 2 ^ depth → path_of (depth + 1) (2 * turns + 1) ≡ path_of depth turns ++ true ∷ []
path-right depth turns inside = path-further depth turns (2 * turns + 1) true inside refl (omega (arith, twice_more depth))

-- the parts are one turn deeper, and half as large
record IsDeeper (n k depth : ℕ) : Type 0 where
  deep : depth + 1 ≤ 32
  left : k ≤ 2 ^ (32 - (depth + 1))
  right : n - k ≤ 2 ^ (32 - (depth + 1))

deeper : (n k depth turns : ℕ) → IsPlaced n depth turns → IsPowerOfTwo k → k < n → n ≤ 2 * k → IsDeeper n k depth
deeper n k depth turns placed (j, power) below largest =
    let some : 1 ≤ k = omega arith
    in elim (cases_lt depth 32) [
      | inr past ↦
          let none : 32 - depth ≡ 0 = omega arith
          in let few : n ≤ 2 ^ 0 = subst (λ (h : ℕ). n ≤ 2 ^ h) none placed.few
          in absurd (omega (arith, few, some, below))
      | inl inside ↦
          let is : 32 - depth ≡ suc (32 - (depth + 1)) = omega arith
          in let few : n ≤ 2 ^ suc (32 - (depth + 1)) = subst (λ (h : ℕ). n ≤ 2 ^ h) is placed.few
          in elim (cases_lt j (suc (32 - (depth + 1)))) [
            | inr high ↦ absurd (omega (arith, pow_mono high, power, few, below))
            | inl low ↦
                let less : j ≤ 32 - (depth + 1) = omega arith
                in let half : k ≤ 2 ^ (32 - (depth + 1)) = omega (arith, pow_mono less, power)
                in record { deep = omega arith; left = half; right = omega (arith, half, largest) }
          ]
    ]

pub left-placed : (n k depth turns : ℕ) → IsPlaced n depth turns → IsPowerOfTwo k → k < n → n ≤ 2 * k → IsPlaced k (depth + 1) (2 * turns)
left-placed n k depth turns placed power below largest =
    let d = deeper n k depth turns placed power below largest
    in record { deep = d.deep; few = d.left; inside = omega (arith, placed.inside, twice_more depth) }

pub right-placed : (n k depth turns : ℕ) → IsPlaced n depth turns → IsPowerOfTwo k → k < n → n ≤ 2 * k → IsPlaced (n - k) (depth + 1) (2 * turns + 1)
right-placed n k depth turns placed power below largest =
    let d = deeper n k depth turns placed power below largest
    in record { deep = d.deep; few = d.right; inside = omega (arith, placed.inside, twice_more depth) }

-- the numbers of the parts' nodes have 32 bits
pub turns-fit : (n k depth turns : ℕ) → IsPlaced n depth turns → IsPowerOfTwo k → k < n → n ≤ 2 * k → 2 * turns + 1 < 2 ^ 32
turns-fit n k depth turns placed power below largest =
    let d = deeper n k depth turns placed power below largest
    in let most : 2 ^ (depth + 1) ≤ 2 ^ 32 = pow_mono d.deep
    in omega (arith, placed.inside, twice_more depth, most)

-- ---- the strings of a part

below-part : (path : Path) (turn : Bool) (ss : List (Hashed Path))
    → map (moved (under path)) (map (below turn) ss) ≡ map (moved (under (path ++ turn ∷ []))) ss
below-part path turn [] = refl
below-part path turn (s ∷ ss) =
    ap₂ (λ (node : Node) (rest : List (Hashed Node)). let one : Hashed Node = record { place = node; text = s.text } in one ∷ rest)
    (ap by_path (sym (append_assoc path (turn ∷ []) s.place))) (below-part path turn ss)

-- a tree has no string past the digests that it needs
pub strings-take : (H : List ℕ → List ℕ) (t : Tree (Option (List ℕ))) (m : ℕ) (ds : List (List ℕ)) → need t ≤ m
    → strings H t (take m ds) ≡ strings H t ds
strings-take H empty m ds enough = refl
strings-take H (leaf None) m ds enough = refl
strings-take H (leaf (Some x)) m ds enough = refl
strings-take H (node l r) m ds enough =
    elim (cases_Bool (is_bare l && is_bare r)) [
      | inl bare ↦ cond-true _ _ _ bare ∙ sym (cond-true _ _ _ bare)
      | inr shows ↦
          let both : need (node l r) ≡ need l + need r = cond-false _ _ _ shows
          in let left : need l ≤ m = omega arith
          in let right : need r ≤ m - need l = omega arith
          in let split : need l + (m - need l) ≡ m = omega arith
          in let e : drop (need l) (take m ds) ≡ take (m - need l) (drop (need l) ds) =
          ap (λ k. drop (need l) (take k ds)) (sym split) ∙ drop-take (need l) (m - need l) ds
          in cond-false _ _ _ shows
          ∙ rw (
            take-take (need l) m ds left,
            e,
            digest_with-take H r (m - need l) (drop (need l) ds) right,
            strings-take H r (m - need l) (drop (need l) ds) right,
          ) refl
          ∙ sym (cond-false _ _ _ shows)
    ]

-- the string at the node of a part
abbrev pub here_at : Path → List ℕ → Hashed Node
here_at path text = record { place = by_path path; text = text }

module _ (H : List ℕ → List ℕ) (path : Path) (from k n : ℕ) (shown : List Shown) (ds : List (List ℕ)) where
  abbrev tl : Tree (Option (List ℕ))
  tl = tree_of (places from k shown)

  abbrev tr : Tree (Option (List ℕ))
  tr = tree_of (places (from + k) (n - k) (shown_from (from + k) shown))

  -- those of a part that is cut in two
  part-node : IsCut from k n shown → part_strings H path (tree_of (places from n shown)) ds
      ≡ here_at path (1 ∷ digest_with H tl ds ++ digest_with H tr (drop (need tl) ds))
      ∷ (part_strings H (path ++ false ∷ []) tl ds ++ part_strings H (path ++ true ∷ []) tr (drop (need tl) ds))
  part-node c =
      let enough : need tl ≤ need tl = omega arith
      in let left = strings-take H tl (need tl) ds enough
      in let digest = digest_with-take H tl (need tl) ds enough
      in ap (λ t. part_strings H path t ds) c.tree
      ∙ ap (map (moved (under path))) (cond-false _ _ _ c.shows)
      ∙ ap₂ (λ (one : Hashed Node) (rest : List (Hashed Node)). one ∷ rest)
      (ap₂ here_at (append-nil path) (ap (λ l. 1 ∷ l ++ digest_with H tr (drop (need tl) ds)) digest))
      (map-append (moved (under path)) (map (below false) (strings H tl (take (need tl) ds))) (map (below true) (strings H tr (drop (need tl) ds)))
      ∙ ap₂ (λ (a b : List (Hashed Node)). a ++ b)
      (below-part path false (strings H tl (take (need tl) ds)) ∙ ap (map (moved (under (path ++ false ∷ [])))) left)
      (below-part path true (strings H tr (drop (need tl) ds))))

-- ---- the first collision of a part

pub clash-node : (H : List ℕ → List ℕ) (ours : Node → Option (List ℕ)) (path to_left to_right : Path) (from k n : ℕ) (shown shown₁ shown₂ : List Shown)
    (ds ds₁ ds₂ : List (List ℕ)) (l r : List ℕ) (answer left right : Option (Difference Node))
    → IsCut from k n shown → IsPart H from k shown ds l shown₁ ds₁ → IsPart H (from + k) (n - k) shown₁ ds₁ r shown₂ ds₂
    → to_left ≡ path ++ false ∷ [] → to_right ≡ path ++ true ∷ []
    → left ≡ first_collision H ours (part_strings H to_left (tree_of (places from k shown)) ds)
    → right ≡ first_collision H ours (part_strings H to_right (tree_of (places (from + k) (n - k) shown₁)) ds₁)
    → answer ≡ collision_or H (ours (by_path path)) (here_at path (1 ∷ l ++ r)) (option_or left right)
    → answer ≡ first_collision H ours (part_strings H path (tree_of (places from n shown)) ds)
clash-node H ours path to_left to_right from k n shown shown₁ shown₂ ds ds₁ ds₂ l r answer left right c p q is_left is_right in_left in_right is =
    let tl : Tree (Option (List ℕ)) = tree_of (places from k shown)
    in let tr : Tree (Option (List ℕ)) = tree_of (places (from + k) (n - k) (shown_from (from + k) shown))
    in let after : List (List ℕ) = drop (need tl) ds
    in let second : tree_of (places (from + k) (n - k) shown₁) ≡ tr = ap (λ s. tree_of (places (from + k) (n - k) s)) p.leaves_left
    in let digest : r ≡ digest_with H tr after = q.value ∙ ap₂ (digest_with H) second p.digests_left
    in let a : left ≡ first_collision H ours (part_strings H (path ++ false ∷ []) tl ds) =
    in_left ∙ ap (λ w. first_collision H ours (part_strings H w tl ds)) is_left
    in let b : right ≡ first_collision H ours (part_strings H (path ++ true ∷ []) tr after) =
    in_right ∙ ap (λ w. first_collision H ours (part_strings H w (tree_of (places (from + k) (n - k) shown₁)) ds₁)) is_right
    ∙ ap₂ (λ t es. first_collision H ours (part_strings H (path ++ true ∷ []) t es)) second p.digests_left
    in is
    ∙ ap₂ (λ text later. collision_or H (ours (by_path path)) (here_at path text) later)
    (ap₂ (λ x y. 1 ∷ x ++ y) p.value digest)
    (ap₂ option_or a b ∙ sym (collision-append H ours (part_strings H (path ++ false ∷ []) tl ds) (part_strings H (path ++ true ∷ []) tr after)))
    ∙ sym (ap (first_collision H ours) (part-node H path from k n shown ds c))

pub clash-leaf : (H : List ℕ → List ℕ) (ours : Node → Option (List ℕ)) (path : Path) (from n at : ℕ) (shown : List Shown) (ds : List (List ℕ))
    (answer : Option (Difference Node)) → n ≡ 1 → RisesFrom from shown → first_position shown ≡ Some at → at < from + n
    → answer ≡ collision_or H (ours (by_path path)) (here_at path (0 ∷ first_leaf shown)) None
    → answer ≡ first_collision H ours (part_strings H path (tree_of (places from n shown)) ds)
clash-leaf H ours path from n at shown ds answer one rises first high is =
    is
    ∙ ap (λ w. collision_or H (ours (by_path w)) (here_at w (0 ∷ first_leaf shown)) None) (sym (append-nil path))
    ∙ ap (λ t. first_collision H ours (part_strings H path t ds)) (sym (leaf-tree from n at shown one rises first high))

bare-strings : (H : List ℕ → List ℕ) (t : Tree (Option (List ℕ))) (ds : List (List ℕ)) → is_bare t ≡ true → strings H t ds ≡ []
bare-strings H empty ds bare = refl
bare-strings H (leaf None) ds bare = refl
bare-strings H (leaf (Some x)) ds bare = absurd (cc)
bare-strings H (node l r) ds bare = cond-true _ _ _ bare

pub clash-bare : (H : List ℕ → List ℕ) (ours : Node → Option (List ℕ)) (path : Path) (from n : ℕ) (shown : List Shown) (ds : List (List ℕ))
    → RisesFrom (from + n) shown → None ≡ first_collision H ours (part_strings H path (tree_of (places from n shown)) ds)
clash-bare H ours path from n shown ds rises =
    let bare : is_bare (tree_of (places from n shown)) ≡ true = bare-of (places from n shown) ∙ places-none from n shown rises
    in sym (ap (λ ss. first_collision H ours (map (moved (under path)) ss)) (bare-strings H (tree_of (places from n shown)) ds bare))

-- ---- what the recursion requires

pub first-fits : (Fits : List ℕ → Type 0) (shown : List Shown) (at : ℕ) → first_position shown ≡ Some at → All (λ (s : Shown). Fits s.1) shown → Fits (first_leaf shown)
first-fits Fits [] at first fit = absurd (cc)
first-fits Fits (s ∷ rest) at first fit = All-head (λ (s : Shown). Fits s.1) s rest fit

-- the right part has the digests that it needs
pub right-enough : (H : List ℕ → List ℕ) (from k n : ℕ) (shown shown₁ : List Shown) (ds ds₁ : List (List ℕ)) (l : List ℕ)
    → IsCut from k n shown → IsPart H from k shown ds l shown₁ ds₁ → need (tree_of (places from n shown)) ≤ length ds
    → need (tree_of (places (from + k) (n - k) shown₁)) ≤ length ds₁
right-enough H from k n shown shown₁ ds ds₁ l c p enough =
    rw (p.leaves_left, p.digests_left)
    (omega (arith, need-cut from k n shown c, enough, length-drop (need (tree_of (places from k shown))) ds))

some-whole : (H : List ℕ → List ℕ) (n : ℕ) (shown : List Shown) (ds : List (List ℕ)) (o : Option (List ℕ)) → rebuilt H n shown ds ≡ o → IsSome o
    → (x : List ℕ) × IsWhole H n shown ds x
some-whole H n shown ds None is some = absurd (cc)
some-whole H n shown ds (Some x) is some = (x, is_whole H n shown ds x is)

pub whole : (H : List ℕ → List ℕ) (n : ℕ) (shown : List Shown) (ds : List (List ℕ)) → IsSome (rebuilt H n shown ds) → (x : List ℕ) × IsWhole H n shown ds x
whole H n shown ds some = some-whole H n shown ds (rebuilt H n shown ds) refl some

-- ---- one string

-- a string that differs from ours and has its digest is a collision, and no other string is
pub collides-is : {P : Type 0} (H : List ℕ → List ℕ) (own : List ℕ) (s : Hashed P) (later : Option (Difference P)) → own ≢ s.text → H own ≡ H s.text
    → Some (let c : Difference P = record { place = s.place; ours = own; theirs = s.text } in c) ≡ collision_or H (Some own) s later
collides-is H own s later other same =
    sym (cond-false _ _ _ (or_both (differs own s.text other) (ap not ((bytes_eq-Decides (H own) (H s.text)).1 same))))
  where
    or_both : {a b : Bool} → a ≡ false → b ≡ false → (a || b) ≡ false
    or_both e f = rw (e, f) refl

    differs : (a b : List ℕ) → a ≢ b → bytes_eq a b ≡ false
    differs a b apart = elim (cases_Bool (bytes_eq a b)) [
      | inl same ↦ absurd (apart ((bytes_eq-Decides a b).0 same))
      | inr other ↦ other
    ]

pub collides-not : {P : Type 0} (H : List ℕ → List ℕ) (own : List ℕ) (s : Hashed P) (later : Option (Difference P))
    → ((own ≢ s.text) × (H own ≡ H s.text) → ⊥) → later ≡ collision_or H (Some own) s later
collides-not H own s later none =
    elim (cases_Bool (bytes_eq own s.text || not (bytes_eq (H own) (H s.text)))) [
      | inl meets ↦ sym (cond-true _ _ _ meets)
      | inr fails ↦ absurd (none (
        (λ same. true_false (sym (or_left _ _ ((bytes_eq-Decides own s.text).1 same)) ∙ fails)),
        (bytes_eq-Decides (H own) (H s.text)).0 (not_not _ (or_second _ _ fails)),
      ))
    ]
  where
    true_false : true ≡ false → ⊥
    true_false e = absurd (cc)

    or_second : (a b : Bool) → (a || b) ≡ false → b ≡ false
    or_second true b e = absurd (cc)
    or_second false b e = e

    not_not : (b : Bool) → not b ≡ false → b ≡ true
    not_not true e = refl
    not_not false e = absurd (cc)
