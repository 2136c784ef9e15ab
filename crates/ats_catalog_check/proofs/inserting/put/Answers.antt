use Rattle.std.proofs.Common.{◌≡◌, ◌≤◌, ◌+◌, ◌∙◌, ℕ, List, length, take, drop, sym, ap, arith}
use Rattle.std.proofs.lemmas.List.{length-take-le, take-append-le, take-take}
use Rattle.ats_catalog_check.specs.declared.row.CatalogRow.{CatalogRow}
use Rattle.ats_catalog_check.specs.Inner.Places.{put_in}
use Rattle.ats_catalog_check.proofs.inserting.put.Goals as goal

pub returns-clause-rows : goal.returns-clause-rows
returns-clause-rows c =
    let items : List CatalogRow = c.rows.inside.items.items in
    let all : List CatalogRow = c.put_in.new.items in
    let view : c.args.rows.now.rows ≡ take c.rows.inside.len items = cc in
    let room : c.args.rows.now.room ≡ length items = cc in
    let within : c.rows.inside.len ≤ length items = omega arith in
    let long : length c.args.rows.now.rows ≡ c.rows.inside.len =
    ap (λ (l : List CatalogRow). length l) view ∙ length-take-le c.rows.inside.len items within in
    let len : c.len-len.result ≡ c.rows.inside.len = c.len-len.ensures ∙ long in
    let value : c.deref_mut.result.now ≡ items = c.deref_mut.ensures.value in
    let size : length all ≡ length items = c.put_in.ensures.room ∙ ap (λ (l : List CatalogRow). length l) value in
    let whole : length items ≡ c.rows.inside.items.len = sym c.rows.inside.items.ok.0 in
    take-take (c.rows.inside.len + 1) c.rows.inside.items.len _ (omega (arith, whole, room, long))
    ∙ take-append-le (c.rows.inside.len + 1) all (drop (length all) items) (omega (arith, size, room, long))
    ∙ ap (λ (n : ℕ). take (n + 1) all) (sym len) ∙ c.put_in.ensures.rows
    ∙ ap (λ (l : List CatalogRow). put_in c.args.row (take c.len-len.result l) c.args.place) value
    ∙ ap (λ (n : ℕ). put_in c.args.row (take n items) c.args.place) len ∙ ap (λ (l : List CatalogRow). put_in c.args.row l c.args.place) (sym view)
