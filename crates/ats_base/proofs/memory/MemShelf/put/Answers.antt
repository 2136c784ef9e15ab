use Rattle.std.proofs.Common.{◌≡◌, ◌∙◌, ap, Some, None}
use Rattle.std.specs.Prelude.{position}
use Rattle.std.specs.Str.{bytes_eq}
use Rattle.ats_base.specs.Memory.{told_files}
use Rattle.ats_base.proofs.Files.{told-set, told-push}
use Rattle.ats_base.proofs.memory.MemShelf.put.Goals as goal

pub returns-in-Some-clause-ok : goal.returns-in-Some-clause-ok
returns-in-Some-clause-ok c =
    let files = c.self.inside.files.items in
    let there : position (λ f. bytes_eq f.0 c.args.name.now) files ≡ Some c.in-Some.at = cc in
    let old = c.index_mut.result.now in
    let is = c.set.ensures ∙ ap (λ bytes. (old.0, bytes)) c.in_ok-bytes.ensures in
    rw (← c.self.view_is) (told-set files c.args.name.now c.args.bytes.now c.in-Some.at old c.set.new.self there c.index_mut.ensures.value is)

pub returns-in_ok-push-in-None-clause-ok : goal.returns-in_ok-push-in-None-clause-ok
returns-in_ok-push-in-None-clause-ok c =
    let files = c.self.inside.files.items in
    let nowhere : position (λ f. bytes_eq f.0 c.args.name.now) files ≡ None = cc in
    let is = c.in_ok-file-in-None.ensures ∙ ap (λ bytes. (c.args.name.now, bytes)) c.in_ok-bytes.ensures in
    let added = told-push files c.args.name.now c.args.bytes.now c.in_ok-file-in-None.file nowhere is in
    rw (← c.self.view_is) (ap told_files c.in_ok-push-in-None.ensures.items ∙ added)
