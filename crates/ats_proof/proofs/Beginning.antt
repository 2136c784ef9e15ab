-- Where parts of one size end.
use Rattle.std.proofs.Common.{◌≡◌, ◌∙◌, ℕ, ◌+◌, ◌*◌, List, drop, sym, ap, ap₂}
use Rattle.ats_proof.specs.Reading.{terms_in, slots_place, met_place, met_in, docs_place, doc_digests_place}
use Rattle.ats_proof.proofs.Taking.{total_fixed}

pub met_begins : (bytes : List ℕ) (slots terms : ℕ) → slots ≡ slots_place bytes → terms ≡ terms_in bytes → slots + terms * 3 ≡ met_place bytes
met_begins bytes slots terms at count =
    ap₂ (λ (k n : ℕ). k + n * 3) at count ∙ ap (λ (n : ℕ). slots_place bytes + n) (sym (total_fixed 3 (λ b. b) (terms_in bytes) (drop (slots_place bytes) bytes)))

pub doc_digests_begin : (bytes : List ℕ) (docs met : ℕ) → docs ≡ docs_place bytes → met ≡ met_in bytes → docs + met * 36 ≡ doc_digests_place bytes
doc_digests_begin bytes docs met at count =
    ap₂ (λ (k n : ℕ). k + n * 36) at count ∙ ap (λ (n : ℕ). docs_place bytes + n) (sym (total_fixed 36 (λ b. b) (met_in bytes) (drop (docs_place bytes) bytes)))
