-- Rows of bits that are the arcs of a graph. Assumes nothing.
use Rattle.std.specs.Prelude.{◌≡◌, ℕ, ◌/◌, ◌%◌, ◌^◌, ◌<◌, ◌≤◌, Bool, true, false, List, Some, None, Option, ◌==◌, ◌≢◌, slice_index}

-- bit k of n is set
abbrev pub flagged : ℕ → ℕ → Bool
flagged n k = n / 2 ^ k % 2 == 1

-- r is the lowest number from `from` up to just below `end` that passes, or None where none does
abbrev pub LowestPassing : (ℕ → Bool) → ℕ → ℕ → Option ℕ → Type 0
LowestPassing passes from end None = (k : ℕ) → from ≤ k → k < end → passes k ≡ false
LowestPassing passes from end (Some v) = (from ≤ v) × (v < end) × (passes v ≡ true) × ((k : ℕ) → from ≤ k → k < v → passes k ≡ false)

-- bit v of row u is set
abbrev pub at : List ℕ → ℕ → ℕ → Bool
at rows u v = flagged (slice_index rows u) v

-- only rows below n have bits
abbrev pub Tails : ℕ → List ℕ → Type 0
Tails n rows = (u v : ℕ) → at rows u v ≡ true → u < n

-- only bits below n are set
abbrev pub Heads : ℕ → List ℕ → Type 0
Heads n rows = (u v : ℕ) → at rows u v ≡ true → v < n

-- no row has its own bit
abbrev pub Apart : List ℕ → Type 0
Apart rows = (u v : ℕ) → at rows u v ≡ true → u ≢ v
