use Rattle.std.proofs.Common.{◌≡◌, ◌+◌, ◌++◌, ◌∷◌, ◌∙◌, length, take, take_all, ap, ap₂, sym, arith}
use Rattle.ats_dict.specs.Header.{header_bytes}
use Rattle.ats_dict.proofs.HeaderLemmas.{one_more}
use Rattle.ats_dict.proofs.header.Header.bytes.Goals as goal

pub returns : goal.returns
unfolding header_bytes
returns c =
    let x = c.to_be_bytes.result in
    let y = c.to_be_bytes-2.result in
    let h = c.args.self.now in
    let four : length x ≡ 4 = ap length c.to_be_bytes.ensures in
    let four_more : length y ≡ 4 = ap length c.to_be_bytes-2.ensures in
    let first : take 5 c.put.new.bytes ≡ 1 ∷ x = ap (λ n. take n c.put.new.bytes) (sym (ap (λ n. 1 + n) four)) ∙ c.put.ensures in
    let second = one_more c.put.new.bytes c.put-2.new.bytes y (1 ∷ x) 5 9 c.put-2.ensures first (omega arith) in
    let third = one_more c.put-2.new.bytes c.put-3.new.bytes h.dict_root (1 ∷ x ++ y) 9 41 c.put-3.ensures second (omega arith) in
    let fourth = one_more c.put-3.new.bytes c.put-4.new.bytes h.docs_root (1 ∷ x ++ y ++ h.dict_root) 41 73 c.put-4.ensures third (omega arith) in
    let fifth = one_more c.put-4.new.bytes c.put-5.new.bytes h.texts_root (1 ∷ x ++ y ++ h.dict_root ++ h.docs_root) 73 105 c.put-5.ensures fourth (omega arith) in
    sym (take_all 105 c.put-5.new.bytes (omega arith)) ∙ fifth
    ∙ ap₂ (λ u v. 1 ∷ u ++ v ++ h.dict_root ++ h.docs_root ++ h.texts_root) c.to_be_bytes.ensures c.to_be_bytes-2.ensures
