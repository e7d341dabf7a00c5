-- The bytes of two numbers with a comma between them. Assumes nothing.
use Rattle.std.proofs.Common.{◌≡◌, ℕ, ◌^◌, ◌<◌, List, decimal, sym, ◌∙◌, subst, arith}
use Rattle.lines.specs.Forms.{comma, decimal_pair}
use Rattle.lines.specs.Parts.{Lacks, SplitsAt, WritesNumber, WritesPair}
use Rattle.lines.proofs.Splits.{same_split, not_lacked}
use Rattle.lines.proofs.Numbers.{decimal_lacks, same_number}

lacks_comma : (n : ℕ) → n < 2 ^ 16 → Lacks (decimal n) comma
lacks_comma n h = decimal_lacks n comma h (λ l u. omega arith)

pub no_pair : (s : List ℕ) → Lacks s comma → (m n : ℕ) → WritesPair s m n → ⊥
no_pair s p m n w = not_lacked comma (decimal m) (decimal n) (subst (λ t. Lacks t comma) w.text p)

pub pair_parts : (s f r : List ℕ) → SplitsAt s comma f r → (m n : ℕ) → WritesPair s m n → WritesNumber f m × WritesNumber r n
pair_parts s f r p m n w =
    let e = same_split comma f (decimal m) r (decimal n) p.first (lacks_comma m w.fits_m) (sym p.whole ∙ w.text) in
    (record { fits = w.fits_m; text = e.0 }, record { fits = w.fits_n; text = e.1 })

pub same_pair : (m n x y : ℕ) → m < 2 ^ 16 → n < 2 ^ 16 → x < 2 ^ 16 → y < 2 ^ 16 → decimal_pair m n ≡ decimal_pair x y → (m ≡ x) × (n ≡ y)
same_pair m n x y a b c d e =
    let p = same_split comma (decimal m) (decimal x) (decimal n) (decimal y) (lacks_comma m a) (lacks_comma x c) e in
    (same_number m x a c p.0, same_number n y b d p.1)
