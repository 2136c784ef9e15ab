-- Numbers and their bytes.
use Rattle.std.proofs.Common.{◌≡◌, ◌∙◌, ℕ, zero, suc, ◌+◌, ◌*◌, ◌/◌, ◌%◌, ◌^◌, ◌<◌, ◌≤◌, List, [], ◌∷◌, length, refl, sym, ap, ap₂, subst, arith}
use Rattle.std.proofs.Math.Nat.{mod-lt, mul-le-mul_right, pow-succ'}
use Rattle.std.proofs.lemmas.Nat.{div-add-mod', div-mul-add, mod-mul-add}
use Rattle.ats_grammar.specs.Table.{number, spelled, AreBytes}

pub length-spelled : (k n : ℕ) → length (spelled k n) ≡ k
length-spelled zero n = refl
length-spelled (suc k) n = ap suc (length-spelled k (n % 256 ^ k))

power_some : (k : ℕ) → 0 < 256 ^ k
power_some zero = omega arith
power_some (suc k) = let h = power_some k in omega (arith, h)

small_number : (k n : ℕ) → n < 256 ^ k → number (spelled k n) ≡ n
small_number zero n few = omega (arith, few)
small_number (suc k) n few =
    let rest : number (spelled k (n % 256 ^ k)) ≡ n % 256 ^ k = small_number k (n % 256 ^ k) (mod-lt n (power_some k)) in
    ap₂ (λ (a b : ℕ). n / 256 ^ k * 256 ^ a + b) (length-spelled k (n % 256 ^ k)) rest ∙ div-add-mod' n (256 ^ k)

-- the bytes of a number give it back, even if it is too large
pub number-spelled : (k n : ℕ) → number (spelled (suc k) n) ≡ n
number-spelled k n =
    let rest : number (spelled k (n % 256 ^ k)) ≡ n % 256 ^ k = small_number k (n % 256 ^ k) (mod-lt n (power_some k)) in
    ap₂ (λ (a b : ℕ). n / 256 ^ k * 256 ^ a + b) (length-spelled k (n % 256 ^ k)) rest ∙ div-add-mod' n (256 ^ k)

number-below : (bytes : List ℕ) → AreBytes bytes → number bytes < 256 ^ length bytes
number-below [] small = omega arith
number-below (b ∷ bs) small =
    let rest = number-below bs (λ i. small (suc i)) in
    let most : b * 256 ^ length bs ≤ 255 * 256 ^ length bs = mul-le-mul_right (256 ^ length bs) (omega (arith, small 0)) in
    let step : b * 256 ^ length bs + number bs < 256 * 256 ^ length bs = omega (arith, rest, most) in
    subst (λ (n : ℕ). b * 256 ^ length bs + number bs < n) (sym (pow-succ' 256 (length bs))) step

-- bytes are those of their number
pub spelled-number : (k : ℕ) (bytes : List ℕ) → length bytes ≡ k → AreBytes bytes → spelled k (number bytes) ≡ bytes
spelled-number zero [] same small = refl
spelled-number zero (b ∷ bs) same small = absurd (omega (arith, same))
spelled-number (suc k) [] same small = absurd (omega (arith, same))
spelled-number (suc k) (b ∷ bs) same small =
    let size : length bs ≡ k = omega (arith, same) in
    let below : number bs < 256 ^ k = subst (λ (n : ℕ). number bs < 256 ^ n) size (number-below bs (λ i. small (suc i))) in
    let whole : number (b ∷ bs) ≡ b * 256 ^ k + number bs = ap (λ (n : ℕ). b * 256 ^ n + number bs) size in
    ap₂ (λ (x : ℕ) (xs : List ℕ). x ∷ xs) (ap (λ (n : ℕ). n / 256 ^ k) whole ∙ div-mul-add b (256 ^ k) (number bs) below)
    (ap (λ (n : ℕ). spelled k (n % 256 ^ k)) whole ∙ ap (spelled k) (mod-mul-add b (256 ^ k) (number bs) below) ∙ spelled-number k bs size (λ i. small (suc i)))
