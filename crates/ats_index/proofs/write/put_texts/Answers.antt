use Rattle.std.proofs.Common.{◌≡◌, ◌++◌, [], ◌∷◌, length, subst}
use Rattle.std.specs.Int.{to_be_bytes, w32}
use Rattle.std.specs.Prelude.{codes}
use Rattle.ats_lists.specs.FormatNumber.{number_of_format}
use Rattle.ats_index.specs.Spelling.{front_bytes}
use Rattle.ats_index.proofs.Writing.{front_put}
use Rattle.ats_index.proofs.write.put_texts.Goals as goal

pub loop-doc-init : goal.loop-doc-init
loop-doc-init g c about front is =
    let put : ((front ++ codes "ATSI") ++ number_of_format c.args.format ∷ []) ++ to_be_bytes w32 c.documents-documents.result ≡ front ++ (front_bytes c.args.format (length c.args.collection.now) ++ []) =
    rw c.documents-documents.ensures.value (front_put front c.args.format (length c.args.collection.now)) in
    let second : g.W.Takes.has c.put-2.new.self about ((front ++ codes "ATSI") ++ number_of_format c.args.format ∷ []) =
    subst (λ v. g.W.Takes.has c.put-2.new.self about ((front ++ codes "ATSI") ++ v ∷ [])) c.number.ensures
    (c.in_ok-put-2.ensures about (front ++ codes "ATSI") (c.in_ok-put.ensures about front is)) in
    subst (g.W.Takes.has c.put_u32.new.to about) put
    (c.in_ok-put_u32.ensures about ((front ++ codes "ATSI") ++ number_of_format c.args.format ∷ []) second)
