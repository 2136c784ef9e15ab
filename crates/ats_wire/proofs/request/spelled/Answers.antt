use Rattle.std.proofs.Common.{subst, ◌≡◌, ◌<◌, ◌-◌, ◌∙◌, ℕ, List, get_or, length, drop, ap, sym, subst, arith}
use Rattle.std.specs.Str.{IsUtf8}
use Rattle.byteorder.specs.Endian.{big_number}
use Rattle.ats_wire.specs.Requests.{request_body, algorithm_byte}
use Rattle.ats_wire.proofs.Spelled.{is_spelled, to_end}
use Rattle.ats_wire.proofs.request.spelled.Goals as goal

pub returns-in-Ok-clause-some : goal.returns-in-Ok-clause-some
returns-in-Ok-clause-some c =
    let body : List ℕ = c.args.body.now in
    let algorithm = c.in_ok-algorithm.algorithm in
    let rows = c.read_u16-rows.result in
    let query : c.in-Ok.query.now ≡ drop 6 body = c.in-Ok.ensures.cases.0 ∙ to_end 6 body in
    let small : (i : ℕ) → get_or body i 0 < 256 = λ i. let h = c.type_inv.body i in omega (arith, h) in
    let version : get_or body 0 0 ≡ 1 = c.if-body-ne-VERSION.false in
    let which : get_or body 1 0 ≡ algorithm_byte algorithm = c.in_ok-algorithm.ensures.some in
    let is_rows : rows ≡ big_number 2 (drop 2 body) = c.read_u16-rows.ensures ∙ ap (big_number 2) (to_end 2 body) in
    let is_long : c.read_u16-length.result ≡ big_number 2 (drop 4 body) = c.read_u16-length.ensures ∙ ap (big_number 2) (to_end 4 body) in
    let fits : c.read_u16-length.result ≡ length body - 6 = c.if-length-body.false in
    record {
      is = is_spelled body algorithm rows c.read_u16-length.result c.requires.least small version which is_rows is_long fits
          ∙ ap (request_body algorithm rows) (sym query);
      small = omega (arith, c.read_u16-rows.type_inv);
      text = subst IsUtf8 (sym c.in-Ok.ensures.cases.0) c.in-Ok.ensures.cases.1;
    }
