-- What the comparison of a growth with two archives finds at the end of the turns, and after one more turn.
use Rattle.std.proofs.Common.{◌≡◌, ◌∙◌, ℕ, ◌+◌, List, [], ◌∷◌, ◌++◌, take, drop, reverse, Bool, true, false, Option, Some, refl, sym, ap, ap₂, subst, slice_get}
use Rattle.std.specs.Option.{option_map}
use Rattle.ats_tree.specs.Paths.{Path}
use Rattle.ats_tree.specs.Strings.{string_at}
use Rattle.ats_tree.specs.Tree.{Tree, node, digest_of}
use Rattle.ats_growth_check.specs.Pair.{roots}
use Rattle.ats_growth_check.specs.Inner.Paired.{ArePaired}
use Rattle.ats_growth_check.specs.Shape.{need}
use Rattle.ats_growth_check.specs.Strings.{old_strings, new_strings}
use Rattle.ats_growth_check.proofs.Public.{one-more, paired-left, paired-right}
use Rattle.ats_growth_proof.specs.Inner.Compared.{taken, IsEnd, IsJoined, AreCompared}
use Rattle.ats_growth_proof.specs.Inner.FirstDifference.{Two, first_unlike, unlike_or, strings_of}
use Rattle.ats_growth_proof.specs.declared.joining.Compared.{Compared}
use Rattle.ats_growth_proof.specs.declared.joining.Side.{Side}
use Rattle.ats_growth_proof.proofs.FirstDifferences.{unlike-left, unlike-right}

module _ (H : List ℕ → List ℕ) (root : List ℕ) where
  pub compared-end : (whole : Path) (known : Bool) (ds rest : List (List ℕ)) (digest : List ℕ) (t u : Tree (List ℕ)) (a b : Side) → whole ≡ []
      → ArePaired H root [] known ds digest digest rest → IsEnd H digest t a → IsEnd H digest u b
      → AreCompared H root whole known ds t u (record { old = a; new = b }) rest
  compared-end whole known ds rest digest t u a b end pair old new =
      subst (λ (path : Path). AreCompared H root path known ds t u (record { old = a; new = b }) rest) (sym end) (record {
        theirs = subst (λ (x : List ℕ). ArePaired H root [] known ds x b.theirs rest) (sym old.theirs)
            (subst (λ (x : List ℕ). ArePaired H root [] known ds digest x rest) (sym new.theirs) pair);
        old_own = old.own;
        new_own = new.own;
        old_unlike = ap (option_map strings_of) old.unlike;
        new_unlike = ap (option_map strings_of) new.unlike;
      })

  -- the digests that are taken after one more turn
  one-taken : (turn : Bool) (path : Path) (known inner : Bool) (ds rest : List (List ℕ)) (y : List ℕ) → rest ≡ drop (need path inner) ds → slice_get rest 0 ≡ Some y
      → reverse (take (1 + need path inner) ds) ≡ y ∷ taken path inner ds
  one-taken turn path known inner ds rest y is first = one-more (need path inner) ds y (subst (λ (l : List (List ℕ)). slice_get l 0 ≡ Some y) is first)

  -- one side of a node, whose strings are these
  side-unlike : (text own theirs ours : List ℕ) (below found : Option Two) (later : Option Two) → found ≡ unlike_or theirs ours below → theirs ≡ text → ours ≡ own → below ≡ later
      → found ≡ unlike_or text own later
  side-unlike text own theirs ours below found later is a b c =
      is ∙ (λ i. unlike_or (a i) (b i) (c i))

  pub compared-left : (whole path : Path) (known : Bool) (ds inner rest : List (List ℕ)) (y own : List ℕ) (t u l r : Tree (List ℕ)) (c : Compared) (s : Side)
      → whole ≡ false ∷ path → u ≡ node l r → own ≡ digest_of H r → AreCompared H root path known ds t l c inner → slice_get inner 0 ≡ Some y → rest ≡ drop 1 inner
      → IsJoined H (1 ∷ c.new.theirs ++ y) (1 ∷ c.new.own ++ own) (option_map strings_of c.new.unlike) s
      → AreCompared H root whole known ds t u (record { old = c.old; new = s }) rest
  compared-left whole path known ds inner rest y own t u l r c s turn cut beside is first left new =
      let one : reverse (take (1 + need path known) ds) ≡ y ∷ taken path known ds = one-taken false path known known ds inner y is.theirs.rest first
      in let there : Compared = record { old = c.old; new = s }
      in let ours : 1 ∷ c.new.own ++ own ≡ 1 ∷ digest_of H l ++ digest_of H r = ap₂ (λ (a b : List ℕ). 1 ∷ a ++ b) is.new_own beside
      in let text : 1 ∷ c.new.theirs ++ y ≡ 1 ∷ (roots H root path known (taken path known ds)).new ++ y = ap (λ (a : List ℕ). 1 ∷ a ++ y) is.theirs.new_root
      in subst (λ (w : Path). AreCompared H root w known ds t u there rest) (sym turn)
      (subst (λ (v : Tree (List ℕ)). AreCompared H root (false ∷ path) known ds t v there rest) (sym cut) (record {
        theirs = subst (λ (x : List ℕ). ArePaired H root (false ∷ path) known ds c.old.theirs x rest) (sym new.theirs)
            (paired-left H root (false ∷ path) path known ds inner rest c.old.theirs c.new.theirs y refl is.theirs first left);
        old_own = is.old_own;
        new_own = new.own ∙ ap H ours;
        old_unlike = is.old_unlike ∙ sym (ap (λ (digests : List (List ℕ)). first_unlike (string_at H t) (old_strings H root (false ∷ path) known digests)) one);
        new_unlike = side-unlike (1 ∷ (roots H root path known (taken path known ds)).new ++ y) (1 ∷ digest_of H l ++ digest_of H r) (1 ∷ c.new.theirs ++ y) (1 ∷ c.new.own ++ own)
            (option_map strings_of c.new.unlike) (option_map strings_of s.unlike) (first_unlike (string_at H l) (new_strings H root path known (taken path known ds))) new.unlike text ours is.new_unlike
            ∙ sym (unlike-left H l r (1 ∷ (roots H root path known (taken path known ds)).new ++ y) (new_strings H root path known (taken path known ds)))
            ∙ sym (ap (λ (digests : List (List ℕ)). first_unlike (string_at H (node l r)) (new_strings H root (false ∷ path) known digests)) one);
      }))

  pub compared-right : (whole path : Path) (known : Bool) (ds inner rest : List (List ℕ)) (y old_left new_left : List ℕ) (t u a b l r : Tree (List ℕ)) (c : Compared) (o s : Side)
      → whole ≡ true ∷ path → t ≡ node a b → u ≡ node l r → old_left ≡ digest_of H a → new_left ≡ digest_of H l
      → AreCompared H root path false ds b r c inner → slice_get inner 0 ≡ Some y → rest ≡ drop 1 inner
      → IsJoined H (1 ∷ y ++ c.old.theirs) (1 ∷ old_left ++ c.old.own) (option_map strings_of c.old.unlike) o
      → IsJoined H (1 ∷ y ++ c.new.theirs) (1 ∷ new_left ++ c.new.own) (option_map strings_of c.new.unlike) s
      → AreCompared H root whole known ds t u (record { old = o; new = s }) rest
  compared-right whole path known ds inner rest y old_left new_left t u a b l r c o s turn old_cut new_cut old_beside new_beside is first left old new =
      let one : reverse (take (1 + need path false) ds) ≡ y ∷ taken path false ds = one-taken true path known false ds inner y is.theirs.rest first
      in let there : Compared = record { old = o; new = s }
      in let back : List (List ℕ) = taken path false ds
      in let old_ours : 1 ∷ old_left ++ c.old.own ≡ 1 ∷ digest_of H a ++ digest_of H b = ap₂ (λ (x z : List ℕ). 1 ∷ x ++ z) old_beside is.old_own
      in let new_ours : 1 ∷ new_left ++ c.new.own ≡ 1 ∷ digest_of H l ++ digest_of H r = ap₂ (λ (x z : List ℕ). 1 ∷ x ++ z) new_beside is.new_own
      in let old_text : 1 ∷ y ++ c.old.theirs ≡ 1 ∷ y ++ (roots H root path false back).old = ap (λ (x : List ℕ). 1 ∷ y ++ x) is.theirs.old_root
      in let new_text : 1 ∷ y ++ c.new.theirs ≡ 1 ∷ y ++ (roots H root path false back).new = ap (λ (x : List ℕ). 1 ∷ y ++ x) is.theirs.new_root
      in subst (λ (w : Path). AreCompared H root w known ds t u there rest) (sym turn)
      (subst (λ (v : Tree (List ℕ)). AreCompared H root (true ∷ path) known ds v u there rest) (sym old_cut)
      (subst (λ (v : Tree (List ℕ)). AreCompared H root (true ∷ path) known ds (node a b) v there rest) (sym new_cut) (record {
        theirs = subst (λ (x : List ℕ). ArePaired H root (true ∷ path) known ds x s.theirs rest) (sym old.theirs)
            (subst (λ (x : List ℕ). ArePaired H root (true ∷ path) known ds (H (1 ∷ y ++ c.old.theirs)) x rest) (sym new.theirs)
            (paired-right H root (true ∷ path) path known ds inner rest c.old.theirs c.new.theirs y refl is.theirs first left));
        old_own = old.own ∙ ap H old_ours;
        new_own = new.own ∙ ap H new_ours;
        old_unlike = side-unlike (1 ∷ y ++ (roots H root path false back).old) (1 ∷ digest_of H a ++ digest_of H b) (1 ∷ y ++ c.old.theirs) (1 ∷ old_left ++ c.old.own)
            (option_map strings_of c.old.unlike) (option_map strings_of o.unlike) (first_unlike (string_at H b) (old_strings H root path false back)) old.unlike old_text old_ours is.old_unlike
            ∙ sym (unlike-right H a b (1 ∷ y ++ (roots H root path false back).old) (old_strings H root path false back))
            ∙ sym (ap (λ (digests : List (List ℕ)). first_unlike (string_at H (node a b)) (old_strings H root (true ∷ path) known digests)) one);
        new_unlike = side-unlike (1 ∷ y ++ (roots H root path false back).new) (1 ∷ digest_of H l ++ digest_of H r) (1 ∷ y ++ c.new.theirs) (1 ∷ new_left ++ c.new.own)
            (option_map strings_of c.new.unlike) (option_map strings_of s.unlike) (first_unlike (string_at H r) (new_strings H root path false back)) new.unlike new_text new_ours is.new_unlike
            ∙ sym (unlike-right H l r (1 ∷ y ++ (roots H root path false back).new) (new_strings H root path false back))
            ∙ sym (ap (λ (digests : List (List ℕ)). first_unlike (string_at H (node l r)) (new_strings H root (true ∷ path) known digests)) one);
      })))
