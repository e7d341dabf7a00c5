-- One bit more in a row of a square of bits. Assumes nothing.
use Rattle.std.proofs.Common.{◌≡◌, ℕ, zero, suc, ◌+◌, ◌*◌, ◌/◌, ◌%◌, ◌^◌, ◌<◌, ◌≤◌, Bool, true, false, cond, ◌&&◌, ◌||◌, eqb, bit_or, List, length, get_or, set, replicate, refl, arith, ◌⊎◌, inl, inr, ⊎_elim, sym, ◌∙◌}
use Rattle.std.specs.Int.{w64, bit_at}
use Rattle.std.proofs.lemmas.Bool.{and_parts, eqb-true, or_cases}
use Rattle.std.proofs.lemmas.Bool.Decides.{nat_tests}
use Rattle.std.proofs.lemmas.Grind.{common_steps}
use Rattle.std.proofs.lemmas.Nat.Bits.{bit_at-zero, bit_at_or, bit_at-pow_same, bit_at-pow_other, bit_at_set_same, bit_at_set_other}
use Rattle.graph.specs.Model.{sum_below, pairs}
use Rattle.graph.specs.Square.{flagged, at, Tails, Heads, Apart}
use Rattle.graph.proofs.Counts.{sum_max, sum_one, pairs_join}

-- 2 ^ v has the bit v alone
pub pow_flag : (v w : ℕ) → 2 ^ v / 2 ^ w % 2 ≡ cond (eqb w v) 1 0
pow_flag v w = grind (arith, nat_tests, bit_at-pow_same v, bit_at-pow_other v w)

-- a bit with another
pub low_or : (p : ℕ) (b : Bool) → p < 2 → eqb (bit_or p (cond b 1 0)) 1 ≡ (eqb p 1 || b)
low_or zero true l = refl
low_or zero false l = refl
low_or (suc zero) true l = refl
low_or (suc zero) false l = refl
low_or (suc (suc p)) b l = absurd (omega arith)

-- one bit more in a number
pub flagged_or : (a v w : ℕ) → flagged (bit_or a (2 ^ v)) w ≡ (flagged a w || eqb w v)
flagged_or a v w = grind (arith, nat_tests, bit_at_or a (2 ^ v) w, bit_at-pow_same v, bit_at-pow_other v w)

-- nought has no bit
pub flagged_zero : (v : ℕ) → flagged 0 v ≡ false
flagged_zero v = grind (arith, nat_tests, bit_at-zero v)

-- a square of noughts
pub zeros_at : (n u v : ℕ) → at (replicate n 0) u v ≡ false
zeros_at n u v = grind (arith, common_steps, bit_at-zero v)

-- one bit more
pub at_set : (rows : List ℕ) (u v : ℕ) → u < length rows → v < 64 → (a b : ℕ) →
    at (set rows u (bit_or (get_or rows u 0) ((1 * 2 ^ v) % 2 ^ 64))) a b ≡ (at rows a b || (eqb a u && eqb b v))
at_set rows u v lu lv a b = grind (arith, common_steps, bit_at_set_same w64 (get_or rows u 0) v lv, bit_at_set_other w64 (get_or rows u 0) v lv b)

-- the same of 2 ^ v itself, at any place v
pub at_set_power : (rows : List ℕ) (u v w : ℕ) → u < length rows → w ≡ 2 ^ v → (a b : ℕ) →
    at (set rows u (bit_or (get_or rows u 0) w)) a b ≡ (at rows a b || (eqb a u && eqb b v))
at_set_power rows u v w lu is a b =
    let n = get_or rows u 0 in
    let same : bit_at (bit_or n w) v ≡ 1 = rw is (omega (arith, bit_at_or n (2 ^ v) v, bit_at-pow_same v)) in
    let other : (b ≡ v → ⊥) → bit_at (bit_or n w) b ≡ bit_at n b = λ apart. rw is (omega (arith, bit_at_or n (2 ^ v) b, bit_at-pow_other v b apart)) in
    grind (arith, common_steps, same, other)

-- so what is asked of a square stays, where the bit is that of a pair of different vertices
module _ (rows : List ℕ) (u v w : ℕ) (lu : u < length rows) (is : w ≡ 2 ^ v) where
  pub was : (a b : ℕ) → at (set rows u (bit_or (get_or rows u 0) w)) a b ≡ true → (at rows a b ≡ true) ⊎ ((a ≡ u) × (b ≡ v))
  was a b h = ⊎_elim inl (λ k. let p = and_parts (eqb a u) (eqb b v) k in inr (eqb-true a u p.0, eqb-true b v p.1))
      (or_cases (at rows a b) (eqb a u && eqb b v) (sym (at_set_power rows u v w lu is a b) ∙ h))

  module _ (n : ℕ) (un : u < n) (vn : v < n) (ne : u ≡ v → ⊥) where
    pub tails_set : Tails n rows → Tails n (set rows u (bit_or (get_or rows u 0) w))
    tails_set t a b h = ⊎_elim (λ k. t a b k) (λ k. omega (arith, k.0)) (was a b h)

    pub heads_set : Heads n rows → Heads n (set rows u (bit_or (get_or rows u 0) w))
    heads_set t a b h = ⊎_elim (λ k. t a b k) (λ k. omega (arith, k.1)) (was a b h)

    pub apart_set : Apart rows → Apart (set rows u (bit_or (get_or rows u 0) w))
    apart_set t a b h e = ⊎_elim (λ k. t a b k e) (λ k. ne (sym k.0 ∙ e ∙ k.1)) (was a b h)

-- of numbers that are at most 1 the sum is at most how many there are
pub sum_full : (f : ℕ → ℕ) (n : ℕ) → ((k : ℕ) → f k ≤ 1) → sum_below f n ≤ n
sum_full f n h = omega (arith, sum_max f n 1 (λ k _. h k))

-- 64 vertices have at most 4032 arcs
sum_gap : (f : ℕ → ℕ) (n a : ℕ) → ((k : ℕ) → f k ≤ 1) → f a ≡ 0 → a < n → sum_below f n + 1 ≤ n
sum_gap f n a h z l =
    let g : ℕ → ℕ = λ k. cond (eqb k a) 1 (f k) in
    grind (arith, nat_tests, sum_one f g n a, sum_max g n 1, h)

bit_le_one : (b : Bool) → cond b 1 0 ≤ 1
bit_le_one b = grind arith

full : (p : ℕ → ℕ → Bool) (n : ℕ) → n ≤ 64 → ((a : ℕ) → p a a ≡ false) → pairs p n ≤ 4032
unfolding pairs
full p n l h =
    let row : ℕ → ℕ → ℕ = λ a b. cond (p a b) 1 0 in
    let gap = λ (a : ℕ) (la : a < n). sum_gap (row a) n a (λ b. bit_le_one (p a b)) (grind (arith, h a)) la in
    omega (arith, sum_max (λ a. sum_below (row a) n) n 63 (λ a la. omega (arith, gap a la)))

-- where a pair of different vertices is no arc, there is room for it
pub absent_room : (p : ℕ → ℕ → Bool) (n u v : ℕ) → n ≤ 64 → u < n → v < n → (u ≡ v → ⊥) → p u v ≡ false →
    ((a b : ℕ) → p a b ≡ true → a ≡ b → ⊥) → pairs p n < 4032
absent_room p n u v l lu lv ne off apart =
    let q : ℕ → ℕ → Bool = λ a b. p a b || (eqb a u && eqb b v) in
    omega (arith, pairs_join p q n u v lu lv off (λ a b. refl), full q n l (λ a. grind (arith, nat_tests, apart a a)))
