-- Numbers that are read at the front of bytes.
use Rattle.std.proofs.Common.{◌≡◌, ◌∙◌, ℕ, zero, suc, ◌+◌, ◌*◌, ◌^◌, ◌≤◌, List, [], ◌∷◌, length, refl, sym, ap₂, arith}
use Rattle.std.proofs.lemmas.List.{length-take-le}
use Rattle.byteorder.specs.Endian.{big_from, big_number}
use Rattle.byteorder.specs.Numbers.{big_from-cons}
use Rattle.ats_proof.specs.Parts.{number_in}
pub use Rattle.ats_proof.specs.Parts.{AreBytes}
pub use Rattle.ats_grammar.proofs.Public.{length-spelled, number-spelled, spelled-number}

-- the number that is read at the front
pub number_read : (n : ℕ) (bytes : List ℕ) → n ≤ length bytes → big_number n bytes ≡ number_in n bytes
number_read zero bytes space = refl
number_read (suc n) [] space = absurd (omega (arith, space))
number_read (suc n) (b ∷ bs) space =
    let rest : big_from 1 n (b ∷ bs) ≡ number_in n bs = big_from-cons 0 n b bs ∙ number_read n bs (omega (arith, space)) in
    ap₂ (λ (k r : ℕ). b * 256 ^ k + r) (sym (length-take-le n bs (omega (arith, space)))) rest
