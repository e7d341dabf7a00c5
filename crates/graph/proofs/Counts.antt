-- How many pairs a test passes, and how that changes with one pair more or one vertex more. Assumes nothing.
use Rattle.std.proofs.Common.{◌≡◌, ℕ, zero, suc, ◌+◌, ◌*◌, ◌<◌, ◌≤◌, Bool, false, cond, ◌&&◌, ◌||◌, eqb, refl, ap, add-one, suc-mul, arith}
use Rattle.std.proofs.lemmas.Bool.Decides.{nat_tests}
use Rattle.graph.specs.Model.{sum_below, pairs}

sum_suc : (f : ℕ → ℕ) (n : ℕ) → sum_below f (n + 1) ≡ f n + sum_below f n
unfolding sum_below
sum_suc f n = ap (sum_below f) (add-one n)

sum_same : (f g : ℕ → ℕ) (n : ℕ) → ((k : ℕ) → k < n → g k ≡ f k) → sum_below g n ≡ sum_below f n
unfolding sum_below
sum_same f g zero h = refl
sum_same f g (suc n) h = omega (arith, h n, sum_same f g n (λ k l. h k (omega arith)))

pub sum_max : (f : ℕ → ℕ) (n m : ℕ) → ((k : ℕ) → k < n → f k ≤ m) → sum_below f n ≤ n * m
unfolding sum_below
sum_max f zero m h = omega arith
sum_max f (suc n) m h = omega (arith, h n, sum_max f n m (λ k l. h k (omega arith)), suc-mul n m)

-- noughts add up to nought
pub sum_zero : (f : ℕ → ℕ) (n : ℕ) → ((k : ℕ) → k < n → f k ≡ 0) → sum_below f n ≡ 0
sum_zero f n h = omega (arith, sum_max f n 0 (λ k l. omega (arith, h k l)))

-- at one place a one more, elsewhere the same
pub sum_one : (f g : ℕ → ℕ) (n a : ℕ) → a < n → g a ≡ f a + 1 → ((k : ℕ) → (k ≡ a → ⊥) → g k ≡ f k) → sum_below g n ≡ sum_below f n + 1
unfolding sum_below
sum_one f g zero a l e h = omega arith
sum_one f g (suc n) a l e h = grind (arith, sum_same f g n, sum_one f g n a, h)

pub pairs_same : (p q : ℕ → ℕ → Bool) (n : ℕ) → ((a b : ℕ) → q a b ≡ p a b) → pairs q n ≡ pairs p n
unfolding pairs
pairs_same p q n h = sum_same _ _ n (λ a _. sum_same _ _ n (λ b _. grind (arith, h a b)))

-- where the test passes no pair there is none
pub pairs_none : (p : ℕ → ℕ → Bool) (n : ℕ) → ((a b : ℕ) → p a b ≡ false) → pairs p n ≡ 0
unfolding pairs
pairs_none p n h = sum_zero _ n (λ a _. sum_zero _ n (λ b _. grind (arith, h a b)))

-- one pair more
pub pairs_join : (p q : ℕ → ℕ → Bool) (n u v : ℕ) → u < n → v < n → p u v ≡ false →
    ((a b : ℕ) → q a b ≡ (p a b || (eqb a u && eqb b v))) → pairs q n ≡ pairs p n + 1
unfolding pairs
pairs_join p q n u v lu lv off h =
    sum_one _ _ n u lu (sum_one (λ b. cond (p u b) 1 0) (λ b. cond (q u b) 1 0) n v lv (grind (arith, nat_tests, h u v)) (λ b ne. grind (arith, nat_tests, h u b)))
    (λ a ne. sum_same _ _ n (λ b _. grind (arith, nat_tests, h a b)))

-- one vertex more, with no pair
pub pairs_more : (p : ℕ → ℕ → Bool) (n : ℕ) → ((a : ℕ) → p n a ≡ false) → ((a : ℕ) → p a n ≡ false) → pairs p (n + 1) ≡ pairs p n
unfolding pairs
pairs_more p n row col =
    let bit : ℕ → ℕ → ℕ = λ a b. cond (p a b) 1 0 in
    let top = sum_max (bit n) (n + 1) 0 (λ b _. grind (arith, row b)) in
    let rest = sum_same (λ a. sum_below (bit a) n) (λ a. sum_below (bit a) (n + 1)) n (λ a _. grind (arith, sum_suc (bit a) n, col a)) in
    omega (arith, sum_suc (λ a. sum_below (bit a) (n + 1)) n, top, rest)
