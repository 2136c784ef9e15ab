-- The first strings that differ in the ranges whose digests form both roots.
use Rattle.std.proofs.Common.{◌≡◌, ◌∙◌, ℕ, ◌<◌, List, [], ◌∷◌, ◌++◌, length, get_or, true, false, Option, Some, None, refl, sym, ap, ap₂, arith}
use Rattle.std.specs.List.{flat_map}
use Rattle.std.specs.Option.{option_map}
use Rattle.std.proofs.lemmas.Grind.{flat_map-append}
use Rattle.std.proofs.lemmas.List.{append-nil, get_or_default}
use Rattle.ats_tree.specs.Paths.{Path}
use Rattle.ats_tree.specs.Strings.{string_at}
use Rattle.ats_tree.specs.Tree.{Tree, leaf, node, digest_of}
use Rattle.ats_tree.proofs.Public.{part-leaf}
use Rattle.ats_growth_check.specs.Strings.{Range, beside, all_strings, ranges, range_pairs, second_of, part_of}
use Rattle.ats_growth_check.proofs.Public.{Shares}
use Rattle.ats_growth_proof.specs.Inner.Compared.{IsJoined, IsRange}
use Rattle.ats_growth_proof.specs.Inner.FirstDifference.{Two, first_unlike, unlike_or, or_two, strings_of}
use Rattle.ats_growth_proof.specs.declared.joining.Side.{Side}
use Rattle.ats_growth_proof.proofs.FirstDifferences.{unlike-first, unlike-moved, unlike-append, unlike-both, unlike-none}

-- ---- the pairs of ranges

-- one range
pub unlike-range : (H : List ℕ → List ℕ) (t u : Tree (List ℕ))
    → first_unlike second_of (range_pairs H (record { old = t; new = u })) ≡ first_unlike (string_at H u) (all_strings H t)
unlike-range H t u = unlike-moved (beside H 5 u) second_of (all_strings H t)

module _ (H : List ℕ → List ℕ) where
  abbrev pub in_ranges : List Range → Option Two
  in_ranges rs = first_unlike second_of (flat_map (range_pairs H) rs)

  pub unlike-alone : (t u : Tree (List ℕ)) → in_ranges (record { old = t; new = u } ∷ []) ≡ first_unlike (string_at H u) (all_strings H t)
  unlike-alone t u =
      let one : Range = record { old = t; new = u }
      in ap (first_unlike second_of) (append-nil (range_pairs H one)) ∙ unlike-range H t u

  pub unlike-more : (rs : List Range) (t u : Tree (List ℕ))
      → in_ranges (rs ++ record { old = t; new = u } ∷ []) ≡ or_two (in_ranges rs) (first_unlike (string_at H u) (all_strings H t))
  unlike-more rs t u =
      let one : Range = record { old = t; new = u }
      in ap (first_unlike second_of) (flat_map-append (range_pairs H) rs (one ∷ []))
      ∙ unlike-append second_of (flat_map (range_pairs H) rs) (flat_map (range_pairs H) (one ∷ []))
      ∙ ap (or_two (in_ranges rs)) (unlike-alone t u)

  -- texts of which none is withdrawn differ in no range
  pub none-shared : (path : Path) (t u : Tree (List ℕ)) → Shares path t u → in_ranges (ranges path t u) ≡ None
  none-shared [] t u same =
      unlike-alone t u ∙ ap (λ (v : Tree (List ℕ)). first_unlike (string_at H u) (all_strings H v)) same ∙ unlike-none H u
  none-shared (false ∷ path) t (node l r) same = none-shared path t l same
  none-shared (true ∷ path) (node a b) (node l r) same =
      unlike-more (ranges path b r) a l
      ∙ ap (λ (first : Option Two). or_two first (first_unlike (string_at H l) (all_strings H a))) (none-shared path b r same.1)
      ∙ ap (λ (v : Tree (List ℕ)). first_unlike (string_at H l) (all_strings H v)) same.0 ∙ unlike-none H l
  none-shared (turn ∷ path) t u same = absurd same

  -- ---- one range from its parts

  -- a document
  pub range-document : (t u : Tree (List ℕ)) (first second : List ℕ) (s : Side) → t ≡ leaf first → u ≡ leaf second → s.theirs ≡ H (0 ∷ first) → s.own ≡ H (0 ∷ second)
      → option_map strings_of s.unlike ≡ unlike_or (0 ∷ first) (0 ∷ second) None → IsRange H t u s
  range-document t u first second s old new theirs own unlike = record {
    theirs = theirs ∙ sym (ap (digest_of H) old);
    own = own ∙ sym (ap (digest_of H) new);
    unlike = unlike ∙ sym (unlike-first (string_at H (leaf second)) (record { place = []; text = 0 ∷ first }) [] (0 ∷ second) refl)
        ∙ sym (ap₂ (λ (v w : Tree (List ℕ)). first_unlike (string_at H w) (all_strings H v)) old new);
  }

  -- a node
  pub range-node : (t u a b l r : Tree (List ℕ)) (left right s : Side) (below : Option Two) → t ≡ node a b → u ≡ node l r → IsRange H a l left → IsRange H b r right
      → below ≡ or_two (option_map strings_of left.unlike) (option_map strings_of right.unlike)
      → IsJoined H (1 ∷ left.theirs ++ right.theirs) (1 ∷ left.own ++ right.own) below s → IsRange H t u s
  range-node t u a b l r left right s below old new is also first joined =
      let theirs : 1 ∷ left.theirs ++ right.theirs ≡ 1 ∷ digest_of H a ++ digest_of H b = ap₂ (λ (x y : List ℕ). 1 ∷ x ++ y) is.theirs also.theirs
      in let own : 1 ∷ left.own ++ right.own ≡ 1 ∷ digest_of H l ++ digest_of H r = ap₂ (λ (x y : List ℕ). 1 ∷ x ++ y) is.own also.own
      in let later : below ≡ or_two (first_unlike (string_at H l) (all_strings H a)) (first_unlike (string_at H r) (all_strings H b)) = first ∙ ap₂ or_two is.unlike also.unlike
      in record {
        theirs = joined.theirs ∙ ap H theirs ∙ sym (ap (digest_of H) old);
        own = joined.own ∙ ap H own ∙ sym (ap (digest_of H) new);
        unlike = joined.unlike ∙ (λ i. unlike_or (theirs i) (own i) (later i))
            ∙ sym (unlike-both H l r (1 ∷ digest_of H a ++ digest_of H b) (all_strings H a) (all_strings H b))
            ∙ sym (ap₂ (λ (v w : Tree (List ℕ)). first_unlike (string_at H w) (all_strings H v)) old new);
      }

-- ---- all ranges, from those of a part

module _ (H : List ℕ → List ℕ) where
  pub ranges-end : (path : Path) (t s u : Tree (List ℕ)) (found : Option Two) → path ≡ [] → s ≡ t → found ≡ first_unlike (string_at H u) (all_strings H t)
      → found ≡ in_ranges H (ranges path s u)
  ranges-end path t s u found end same is =
      is ∙ sym (unlike-alone H t u) ∙ sym (ap₂ (λ (p : Path) (v : Tree (List ℕ)). in_ranges H (ranges p v u)) end same)

  pub ranges-left : (path inner : Path) (t u l r : Tree (List ℕ)) (found : Option Two) → path ≡ false ∷ inner → u ≡ node l r → found ≡ in_ranges H (ranges inner t l)
      → found ≡ in_ranges H (ranges path t u)
  ranges-left path inner t u l r found turn cut is = is ∙ sym (ap₂ (λ (p : Path) (v : Tree (List ℕ)). in_ranges H (ranges p t v)) turn cut)

  module _ (path inner : Path) (t u a b l r : Tree (List ℕ)) (found : Option Two) (turn : path ≡ true ∷ inner) (old : t ≡ node a b) (new : u ≡ node l r)
      (is : found ≡ in_ranges H (ranges inner b r)) where
    whole : in_ranges H (ranges path t u) ≡ or_two found (first_unlike (string_at H l) (all_strings H a))
    whole =
        (λ i. in_ranges H (ranges (turn i) (old i) (new i))) ∙ unlike-more H (ranges inner b r) a l
        ∙ ap (λ (o : Option Two). or_two o (first_unlike (string_at H l) (all_strings H a))) (sym is)

    pub ranges-some : (two : Two) → found ≡ Some two → Some two ≡ in_ranges H (ranges path t u)
    ranges-some two some = sym (whole ∙ ap (λ (o : Option Two). or_two o (first_unlike (string_at H l) (all_strings H a))) some)

    pub ranges-none : (last : Option Two) → found ≡ None → last ≡ first_unlike (string_at H l) (all_strings H a) → last ≡ in_ranges H (ranges path t u)
    ranges-none last none is' = is' ∙ sym (whole ∙ ap (λ (o : Option Two). or_two o (first_unlike (string_at H l) (all_strings H a))) none)

-- ---- the trees of ranges

-- one document, whose text was read
pub part-one : (texts : List (List ℕ)) (doc : ℕ) (lent text : List ℕ) → doc < length texts → text ≡ lent → lent ≡ get_or texts doc lent → part_of doc 1 texts ≡ leaf text
part-one texts doc lent text inside is read =
    part-leaf doc 1 texts refl (omega (arith, inside)) ∙ ap (λ (x : List ℕ). leaf x) (sym (is ∙ read ∙ get_or_default texts doc lent [] inside))
