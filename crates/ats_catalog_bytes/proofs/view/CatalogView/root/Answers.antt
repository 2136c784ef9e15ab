use Rattle.std.proofs.Common.{◌≡◌, ◌<◌, ◌∙◌, ℕ, List, [], length, slice_index_or, sym, ap, arith}
use Rattle.std.proofs.lemmas.List.{get_or-map}
use Rattle.ats_catalog_bytes.specs.Seen.{shards_left}
use Rattle.ats_catalog_bytes.specs.Value.{Framed, frame_at}
use Rattle.ats_catalog_bytes.proofs.Joined.{roots-kept, shards-counted}
use Rattle.ats_catalog_bytes.proofs.view.CatalogView.root.Goals as goal

pub bounds-self-inside-i : goal.bounds-self-inside-i
bounds-self-inside-i c =
    let all = c.self.inside.all in
    omega (arith, c.requires, ap length c.self.view_is, shards-counted all.roots.now all.proofs.now)

pub returns : goal.returns
returns c =
    let all = c.self.inside.all in
    let i : ℕ = c.args.i in
    let inside : i < length (shards_left all) = omega (arith, c.requires, ap length c.self.view_is) in
    let here : (frame_at (shards_left all) i).root ≡ (frame_at c.args.self.now i).root =
    ap (λ (shards : List Framed). (frame_at shards i).root) c.self.view_is in
    sym (ap (λ (roots : List (List ℕ)). slice_index_or roots i []) (roots-kept all.roots.now all.proofs.now))
    ∙ get_or-map (λ (one : Framed). one.root) (shards_left all) i (record { root = []; bytes = [] }) [] inside ∙ here
