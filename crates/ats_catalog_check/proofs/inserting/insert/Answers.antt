use Rattle.std.proofs.Common.{◌≡◌, ◌<◌, ◌∙◌, length, ap, refl, arith}
use Rattle.ats_catalog_check.specs.Merge.{AreFalling}
use Rattle.ats_catalog_check.specs.Inner.Places.{put_in}
use Rattle.ats_catalog_check.proofs.Falls.{falling_at, none_more, not_between, one_place}
use Rattle.ats_catalog_check.proofs.inserting.insert.Goals.{then-len-top-via-then-len-top, then-len-top-via-else-len-top+then-not-is_between}
use Rattle.ats_catalog_check.proofs.inserting.insert.Goals as goal

pub returns-then-len-top-clause-put : goal.returns-then-len-top-clause-put
returns-then-len-top-clause-put c place is =
    let refuted : AreFalling c.args.top (put_in c.args.row c.args.rows.now.rows place) → ⊥ = λ falling. elim c.then-len-top.branch [
      | then-len-top-via-then-len-top w ↦ none_more c.args.top c.args.row c.args.rows.now.rows place is.inside (omega (arith, w.if-len-top.true, c.len.ensures)) falling
      | then-len-top-via-else-len-top+then-not-is_between w ↦
          not_between c.args.top c.args.row c.args.rows.now.rows place c.place-place.result is c.place-place.ensures.place
          (λ between. let yes = w.is_between.ensures.1 between in let no = w.if-not-is_between.true in cc) falling
    ] in
    ((λ no. absurd (cc), λ falling. absurd (refuted falling)), λ same. absurd (cc))

pub returns-clause-put : goal.returns-clause-put
returns-clause-put c place is =
    let at : c.place-place.result ≡ place = one_place c.args.row c.args.rows.now.rows c.place-place.result place c.place-place.ensures.place is in
    let few : length c.args.rows.now.rows < c.args.top = omega (arith, c.if-len-top.false, c.len.ensures, c.requires.falling.most) in (
      (
        λ yes. falling_at c.args.top c.args.row c.args.rows.now.rows c.place-place.result place at is.inside few c.requires.falling
            (c.is_between.ensures.0 c.if-not-is_between.false),
        λ falling. refl,
      ),
      λ same. c.put.ensures.rows ∙ ap (put_in c.args.row c.args.rows.now.rows) at,
    )
