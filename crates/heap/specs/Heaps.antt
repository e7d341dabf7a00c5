-- A binary heap in the first places of a list, and what putting and taking leave. Assumes nothing.
use Rattle.std.specs.Prelude.{◌≡◌, ℕ, ◌+◌, ◌-◌, ◌/◌, ◌<◌, false, ◌⊎◌, List, [], ◌∷◌, ◌++◌, take, drop, slice_index_or}
use Rattle.std.specs.declared.cmp.Ordering.{Ordering}
use Rattle.std.specs.Ordering.{is_lt}
use Rattle.std.specs.List.Sorted.{IsPermutation}
use Rattle.std.specs.List.{AllByRecursion}

-- the place above k, where k is not the first: its children are at p * 2 + 1 and p * 2 + 2
abbrev pub parent : ℕ → ℕ
parent k = (k - 1) / 2

-- The facts below take the comparison of the keys, as `K.cmp`.
module _ {X : Type 0} (cmp : X → X → Ordering) where
  -- the key at p is not less than the one at k
  abbrev pub Over : List X → ℕ → ℕ → Type 0
  Over xs p k = (d : X) → is_lt (cmp (slice_index_or xs p d) (slice_index_or xs k d)) ≡ false

  -- among the first `end` places, no key is less than one of its children's
  abbrev pub Heaped : List X → ℕ → Type 0
  Heaped xs end = (k : ℕ) → 0 < k → k < end → Over xs (parent k) k

  -- the same but for the first key
  abbrev pub HeapedPast : List X → ℕ → Type 0
  HeapedPast xs end = (k : ℕ) → 0 < parent k → k < end → Over xs (parent k) k

  -- the key at c is less than no child's of j
  abbrev pub GreatestChild : List X → ℕ → ℕ → ℕ → Type 0
  GreatestChild xs j c end = (k : ℕ) → 0 < k → k < end → parent k ≡ j → Over xs c k

-- ys has the keys of xs in its first `end` places, in some order, and is xs from there on
pub record Rearranged {X : Type 0} (xs ys : List X) (end : ℕ) : Type 0 where
  pub keys : IsPermutation (take end xs) (take end ys)
  pub rest : drop end ys ≡ drop end xs

-- what `push` leaves: the keys of the first n places and x, in a heap; and all else as it was
pub record Pushed {X : Type 0} (cmp : X → X → Ordering) (xs ys : List X) (n : ℕ) (x : X) : Type 0 where
  pub keys : IsPermutation (take n xs ++ x ∷ []) (take (n + 1) ys)
  pub rest : drop (n + 1) ys ≡ drop (n + 1) xs
  pub heaped : Heaped cmp xs n → Heaped cmp ys (n + 1)

-- what `pop` leaves: the keys of the first n places but x, which is less than none of them, in a heap; and all past the n places as it was
pub record Popped {X : Type 0} (cmp : X → X → Ordering) (xs ys : List X) (n : ℕ) (x : X) : Type 0 where
  pub keys : IsPermutation (take n xs) (take (n - 1) ys ++ x ∷ [])
  pub rest : drop n ys ≡ drop n xs
  pub heaped : Heaped cmp xs n → Heaped cmp ys (n - 1)
  pub greatest : Heaped cmp xs n → AllByRecursion (λ y. is_lt (cmp x y) ≡ false) (take n xs)

-- there is no key to take: the heap is empty, or the slice has not so many places
abbrev pub NoHeap : ℕ → ℕ → Type 0
NoHeap places len = (len ≡ 0) ⊎ (places < len)
