use Rattle.std.proofs.Common.{◌∙◌, Some, sym, ap}
use Rattle.std.specs.Option.{option_map}
use Rattle.ats_growth_proof.specs.Inner.Found.{difference_in}
use Rattle.ats_growth_proof.proofs.Finding.{own-header, past-headers, collision_is_difference}
use Rattle.ats_growth_proof.proofs.auditing.first_collision.Goals as goal

pub returns-in_ok-strings_at-in-Some-texts_found : goal.returns-in_ok-strings_at-in-Some-texts_found
returns-in_ok-strings_at-in-Some-texts_found g c =
    let H = g.H.HashKind.hash in
    let a = c.args in
    let p = a.proof.now in
    let old = own-header H 1 a.old.now _ p.old_format _ p.old c.in_ok-found.field-0 c.old-old_format.ensures.format c.old-old_format.ensures.header c.in_default.is c.in_ok-found.ensures in
    let new = own-header H 2 a.new.now _ p.new_format _ p.new c.in_ok-found-2.field-0 c.new_archive-new_format.ensures.format c.new_archive-new_format.ensures.header c.in_default-2.is c.in_ok-found-2.ensures in
    ap Some c.in_ok-strings_at-in-Some-texts_found.ensures ∙ sym (ap (option_map difference_in) c.in-Some-texts_found.is) ∙ c.texts_found.ensures
    ∙ past-headers H a.old.now a.new.now p old new
    ∙ collision_is_difference H a.old.now a.new.now p g.H.HashKind.sized c.collection-older.ensures.texts c.collection-newer.ensures.texts c.facts.ensures c.requires

pub returns-in-None : goal.returns-in-None
returns-in-None g c =
    let H = g.H.HashKind.hash in
    let a = c.args in
    let p = a.proof.now in
    let old = own-header H 1 a.old.now _ p.old_format _ p.old c.in_ok-found.field-0 c.old-old_format.ensures.format c.old-old_format.ensures.header c.in_default.is c.in_ok-found.ensures in
    let new = own-header H 2 a.new.now _ p.new_format _ p.new c.in_ok-found-2.field-0 c.new_archive-new_format.ensures.format c.new_archive-new_format.ensures.header c.in_default-2.is c.in_ok-found-2.ensures in
    sym (ap (option_map difference_in) c.in-None.is) ∙ c.texts_found.ensures
    ∙ past-headers H a.old.now a.new.now p old new
    ∙ collision_is_difference H a.old.now a.new.now p g.H.HashKind.sized c.collection-older.ensures.texts c.collection-newer.ensures.texts c.facts.ensures c.requires
