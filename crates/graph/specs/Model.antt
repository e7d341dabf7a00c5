-- What a directed graph is, whatever type holds it. Assumes nothing.
use Rattle.std.specs.Prelude.{◌≡◌, ℕ, zero, suc, ◌+◌, ◌<◌, ◌≤◌, Bool, true, false, cond, Some, None, Option, ◌≢◌}

-- the vertices are the numbers below `order`; `arc u v` says whether u→v is an arc
pub record Model : Type 0 where
  pub order : ℕ
  pub arc : ℕ → ℕ → Bool

-- an arc joins two different vertices, and there are at most 512 vertices
pub record Proper (g : Model) : Type 0 where
  pub small : g.order ≤ 512
  pub within : (u v : ℕ) → g.arc u v ≡ true → (u < g.order) × (v < g.order)
  pub apart : (u v : ℕ) → g.arc u v ≡ true → u ≢ v

-- no vertex, and so no arc
pub record Empty (g : Model) : Type 0 where
  pub order : g.order ≡ 0
  pub arcs : (u v : ℕ) → g.arc u v ≡ false

-- each arc read the other way
abbrev pub reversed : Model → Model
reversed g = record { order = g.order; arc = λ u v. g.arc v u }

-- r is the lowest successor of u that is not below `from`, or None where u has none
abbrev pub NextSuccessor : Model → ℕ → ℕ → Option ℕ → Type 0
NextSuccessor g u from (Some v) =
    (from ≤ v) × (v < g.order) × (g.arc u v ≡ true) × ((k : ℕ) → from ≤ k → k < v → g.arc u k ≡ false)
NextSuccessor g u from None = (k : ℕ) → from ≤ k → g.arc u k ≡ false

-- the sum of f over the numbers below n
unfoldable pub sum_below : (ℕ → ℕ) → ℕ → ℕ
sum_below f zero = 0
sum_below f (suc n) = f n + sum_below f n

-- how many ordered pairs of numbers below n pass the test
unfoldable pub pairs : (ℕ → ℕ → Bool) → ℕ → ℕ
pairs p n = sum_below (λ u. sum_below (λ v. cond (p u v) 1 0) n) n

-- the number of arcs
abbrev pub size : Model → ℕ
size g = pairs g.arc g.order
