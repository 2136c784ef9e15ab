use Rattle.std.proofs.Common.{◌∙◌, length, arith}
use Rattle.ats_proof.proofs.Public.{spelled_4}
use Rattle.ats_catalog_proof.proofs.Spelling.{put_written}
use Rattle.ats_catalog_proof.proofs.writer.CatalogWriter.put.Goals as goal

pub returns-clause-ok : goal.returns-clause-ok
returns-clause-ok c bytes start =
    put_written c.records_are_joined.ensures c.args.self.now c.append.new.self c.append-2.new.self c.to_be_bytes.result c.args.proof.now bytes
    (c.to_be_bytes.ensures ∙ spelled_4 (length c.args.proof.now) (omega (arith, c.requires.short))) c.in_ok-append.ensures.ok c.in_ok-append-2.ensures.ok start
