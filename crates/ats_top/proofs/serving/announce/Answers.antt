use Rattle.std.proofs.Common.{◌∙◌}
use Rattle.ats_top.proofs.Sessions.{took_as}
use Rattle.ats_top.proofs.serving.announce.Goals as goal

pub returns-in-Ok-write_all-clause-told : goal.returns-in-Ok-write_all-clause-told
returns-in-Ok-write_all-clause-told g c =
    took_as (g.K.Sink.told c.args.out.now) (g.K.Sink.told c.write_all.new.sink) _ _ (c.as_bytes.ensures.value ∙ c.in-Ok.ensures)
    c.in-Ok-write_all.ensures.all c.in-Ok-write_all.ensures.cause.same
