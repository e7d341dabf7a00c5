-- A heap as its edges, one from each place but the first to its parent: what an exchange along an edge does to each of them,
-- and so how a key rises or sinks; and what `push` and `pop` leave.
use Rattle.std.proofs.Common.{◌≡◌, ℕ, zero, suc, ◌+◌, ◌-◌, ◌*◌, ◌<◌, ◌≤◌, Bool, true, false, cond, List, [], ◌∷◌, ◌++◌, length, get_or, take, drop, set, sym, refl, ap, ◌∙◌, subst, ⊎_elim, arith, length-take, get_or-set_other, get_or-take, drop-drop}
use Rattle.std.proofs.Math.Seq.{take-set-lt}
use Rattle.std.specs.declared.cmp.Ordering.{Ordering}
use Rattle.std.specs.declared.cmp.Ordering.TheVariants.{Less, Equal}
use Rattle.std.specs.Ordering.{is_lt}
use Rattle.std.specs.Cmp.{IsTotalOrder}
use Rattle.std.specs.List.Sorted.{IsPermutation}
use Rattle.std.specs.List.{AllByRecursion, swap as exchanged}
use Rattle.std.proofs.lemmas.Bool.{cases_eq, cases_Bool}
use Rattle.std.proofs.lemmas.List.{take_more, take_more_set, drop-set-lt}
use Rattle.std.proofs.lemmas.List.Edits.{Swapped, swapped_from_swap, length-swap}
use Rattle.std.proofs.lemmas.List.MinMax.{ranks_by}
use Rattle.std.proofs.lemmas.List.Sorted.{IsPermutation-refl, IsPermutation-trans, IsPermutation-swap, IsPermutation-append_left}
use Rattle.std.proofs.ByRecursion.{All-from_get_or}
use Rattle.heap.specs.Heaps.{parent, Over, Heaped, HeapedPast, GreatestChild, Rearranged, Pushed, Popped}

module _ {X : Type 0} (cmp : X → X → Ordering) where
  -- of the keys `at`, the one at p is not less than the one at k
  abbrev Edge : (ℕ → X) → ℕ → ℕ → Type 0
  Edge at p k = is_lt (cmp (at p) (at k)) ≡ false

  -- a heap but for the edges of the places k with end_of k ≡ j; and the key above j is over those below it
  pub record Loose (end_of : ℕ → ℕ) (at : ℕ → X) (j end : ℕ) : Type 0 where
    pub edges : (k : ℕ) → 0 < k → k < end → (end_of k ≡ j → ⊥) → Edge at (parent k) k
    pub across : (k : ℕ) → 0 < j → k < end → parent k ≡ j → Edge at (parent j) k

  -- loose above j, while the key at j rises
  abbrev pub Rising : (ℕ → X) → ℕ → ℕ → Type 0
  Rising = Loose (λ k. k)

  -- loose below j, while the key at j sinks
  abbrev pub Sinking : (ℕ → X) → ℕ → ℕ → Type 0
  Sinking = Loose parent

  -- where a heap begins to be sifted
  pub rising_from : (xs : List X) (last : ℕ) → Heaped cmp xs last → (d : X) → Rising (λ m. get_or xs m d) last (last + 1)
  rising_from xs last h d = record { edges = λ k z b n. h k z (omega arith) d; across = λ k z b e. absurd (omega arith) }

  pub sinking_from : (xs : List X) (end : ℕ) → HeapedPast cmp xs end → (d : X) → Sinking (λ m. get_or xs m d) 0 end
  sinking_from xs end h d = record { edges = λ k z b n. h k (omega arith) b d; across = λ k z b e. absurd (omega arith) }

  -- what an order is asked for: of two keys one is not less, and `not less` goes on from key to key
  pub turned : IsTotalOrder cmp → (x y : X) → is_lt (cmp x y) ≡ true → is_lt (cmp y x) ≡ false
  turned o = (ranks_by o (λ x. x)).one_way

  pub chained : IsTotalOrder cmp → (x y z : X) → is_lt (cmp x y) ≡ false → is_lt (cmp y z) ≡ false → is_lt (cmp x z) ≡ false
  chained o = (ranks_by o (λ x. x)).chain

  module _ (oneway : (x y : X) → is_lt (cmp x y) ≡ true → is_lt (cmp y x) ≡ false)
      (chain : (x y z : X) → is_lt (cmp x y) ≡ false → is_lt (cmp y z) ≡ false → is_lt (cmp x z) ≡ false) where
    -- An exchange of the keys at j and at p, above it, where the one at p is less.
    module _ (at now : ℕ → X) (p j end : ℕ) (is : p ≡ parent j) (below : 0 < j) (within : j < end)
        (swap : Swapped at now p j) (wrong : is_lt (cmp (at p) (at j)) ≡ true) where
      pub rises : Rising at j end → Rising now p end
      rises h = record {
        edges = λ k z b n.
            let flat = oneway _ _ wrong in
            let upper = swap.0 in
            let lower = swap.1 in
            let same = swap.2 k in
            let same_above = swap.2 (parent k) in
            let edge = h.edges k z b in
            let across = h.across k below b in
            let link = chain (at j) (at p) (at k) flat in
            grind (arith, cases_eq k j, cases_eq (parent k) p, cases_eq (parent k) j);
        across = λ k z b e.
            let lower = swap.1 in
            let same = swap.2 k in
            let same_top = swap.2 (parent p) in
            let high = h.edges p z in
            let edge = h.edges k in
            let link = chain (at (parent p)) (at p) (at k) in
            grind (arith, cases_eq k j);
      }

      pub sinks : ((k : ℕ) → 0 < k → k < end → parent k ≡ p → Edge at j k) → Sinking at p end → Sinking now j end
      sinks greatest h = record {
        edges = λ k z b n.
            let flat = oneway _ _ wrong in
            let upper = swap.0 in
            let lower = swap.1 in
            let same = swap.2 k in
            let same_above = swap.2 (parent k) in
            let edge = h.edges k z b in
            let across = h.across j in
            let great = greatest k z b in
            grind (arith, cases_eq k j, cases_eq (parent k) p, cases_eq k p);
        across = λ k z b e.
            let upper = swap.0 in
            let same = swap.2 k in
            let edge = h.edges k in
            grind arith;
      }

    -- the first key is over all
    pub first_over : (at : ℕ → X) (end : ℕ) → ((k : ℕ) → 0 < k → k < end → Edge at (parent k) k) →
        (n k : ℕ) → k < n → k < end → Edge at 0 k
    first_over at end h zero k a b = absurd (omega arith)
    first_over at end h (suc n) k a b =
        let itself = oneway (at 0) (at 0) in
        let above = first_over at end h n (parent k) in
        let edge = h k in
        let link = chain (at 0) (at (parent k)) (at k) in
        grind (arith, cases_eq k 0, cases_Bool (is_lt (cmp (at 0) (at 0))))

-- § The edges of a list

-- Each test of two keys is `is_lt` of a comparison, so what holds of each comparison holds of each test.
pub any_test : {X : Type 0} (under : X → X → Bool) (x y : X) → is_lt (cond (under x y) Less Equal) ≡ under x y
any_test under x y = ⊎_elim (λ e. ap (λ b. is_lt (cond b Less Equal)) e ∙ sym e) (λ e. ap (λ b. is_lt (cond b Less Equal)) e ∙ sym e) (cases_Bool (under x y))

module _ {X : Type 0} where
  -- the key at m of ys is the one at n of xs
  abbrev pub Came : List X → ℕ → List X → ℕ → Type 0
  Came ys m xs n = (d : X) → get_or ys m d ≡ get_or xs n d

  -- ys is xs with the keys at i and j exchanged
  abbrev pub Exchange : List X → List X → ℕ → ℕ → Type 0
  Exchange xs ys i j = (d : X) → Swapped (λ m. get_or xs m d) (λ m. get_or ys m d) i j

  -- what the exchange of two places makes
  pub exchanges : (xs ys : List X) (i j : ℕ) → i < length xs → j < length xs → ys ≡ exchanged xs i j → Exchange xs ys i j
  exchanges xs ys i j a b is = λ d. swapped_from_swap xs ys i j d a b is

  -- an exchange along the edge of j
  pub swap : (xs ys : List X) (j end : ℕ) → 0 < j → j < end → end ≤ length xs → ys ≡ exchanged xs (parent j) j → Exchange xs ys (parent j) j
  swap xs ys j end below within le is = exchanges xs ys (parent j) j (omega arith) (omega arith) is

  module _ (xs ys : List X) (i j : ℕ) (swap : Exchange xs ys i j) where
    -- the key at i came from j
    pub from_second : (m : ℕ) → m ≡ i → Came ys m xs j
    from_second m e = λ d. ap (λ n. get_or ys n d) e ∙ (swap d).0

    -- and the one at j from i
    pub from_first : (m : ℕ) → m ≡ j → Came ys m xs i
    from_first m e = λ d. ap (λ n. get_or ys n d) e ∙ (swap d).1

    -- any other stays where it is
    pub stayed : (m : ℕ) → (m ≡ i → ⊥) → (m ≡ j → ⊥) → Came ys m xs m
    stayed m u v = λ d. (swap d).2 m u v

module _ {X : Type 0} (cmp : X → X → Ordering) where
  -- keys that came from q and l are as those were
  pub came : (xs ys : List X) (p q k l : ℕ) → Came ys p xs q → Came ys k xs l → Over cmp xs q l → Over cmp ys p k
  came xs ys p q k l e f h = λ d. (λ t. is_lt (cmp (e d t) (f d t))) ∙ h d

  -- with the loose edges in order too, a heap
  pub tightened : (f : ℕ → ℕ) (xs : List X) (j end : ℕ) → ((d : X) → Loose cmp f (λ m. get_or xs m d) j end) →
      ((k : ℕ) → 0 < k → k < end → f k ≡ j → Over cmp xs (parent k) k) → Heaped cmp xs end
  tightened f xs j end h loose k z b = ⊎_elim (loose k z b) (λ n d. (h d).edges k z b n) (cases_eq (f k) j)

  -- a key that is not less than the risen one stands above it
  pub risen : (xs : List X) (j end : ℕ) → Over cmp xs (parent j) j → ((d : X) → Rising cmp (λ m. get_or xs m d) j end) → Heaped cmp xs end
  risen xs j end t h = tightened (λ k. k) xs j end h (λ k z b e. subst (λ m. Over cmp xs (parent m) m) (sym e) t)

  -- each edge after an exchange along the edge of j
  pub each_edge : (xs ys : List X) (j : ℕ) → Exchange xs ys (parent j) j → 0 < j →
      (k : ℕ) → 0 < k →
      (k ≡ j → Over cmp xs j (parent j)) →
      ((k ≡ j → ⊥) → parent k ≡ parent j → Over cmp xs j k) →
      (parent k ≡ j → Over cmp xs (parent j) k) →
      (k ≡ parent j → Over cmp xs (parent k) j) →
      ((k ≡ j → ⊥) → (parent k ≡ parent j → ⊥) → (parent k ≡ j → ⊥) → Over cmp xs (parent k) k) →
      Over cmp ys (parent k) k
  each_edge xs ys j swap below k z itself beside beneath above elsewhere =
      let p = parent j in
      let q = parent k in
      let rose = from_second xs ys p j swap in
      let sank = from_first xs ys p j swap in
      let still = stayed xs ys p j swap in
      ⊎_elim
      (λ e. came xs ys q j k p (rose q (ap parent e)) (sank k e) (itself e))
      (λ n. ⊎_elim
      (λ e. came xs ys q j k k (rose q e) (still k (omega arith) n) (beside n e))
      (λ m. ⊎_elim
      (λ e. came xs ys q p k k (sank q e) (still k (omega arith) n) (beneath e))
      (λ l. ⊎_elim
      (λ e. came xs ys q q k j (still q m l) (rose k e) (above e))
      (λ i. came xs ys q q k k (still q m l) (still k i n) (elsewhere n m l))
      (cases_eq k p))
      (cases_eq q j))
      (cases_eq q p))
      (cases_eq k j)

  -- less than no child's: not less than the left one, nor than the right one if it is there
  pub over_both : (xs : List X) (j c end : ℕ) → Over cmp xs c (j * 2 + 1) → (j * 2 + 1 + 1 < end → Over cmp xs c (j * 2 + 1 + 1)) → GreatestChild cmp xs j c end
  over_both xs j c end left right k z b e =
      ⊎_elim
      (λ s. subst (Over cmp xs c) (sym s) left)
      (λ n. let s : j * 2 + 1 + 1 ≡ k = omega arith in subst (Over cmp xs c) s (right (omega arith)))
      (cases_eq k (j * 2 + 1))

  -- without its first key and its last
  pub headless_exchanged : (xs ys : List X) (last : ℕ) → Exchange xs ys 0 last → Heaped cmp xs (last + 1) → HeapedPast cmp ys last
  headless_exchanged xs ys last swap h = λ k z b.
      let still = stayed xs ys 0 last swap in
      came xs ys (parent k) (parent k) k k (still (parent k) (omega arith) (omega arith)) (still k (omega arith) (omega arith)) (h k (omega arith) (omega arith))

  -- Of an order it is only needed that of two keys one is not less, and that `not less` goes on from key to key.
  module _ (oneway : (x y : X) → is_lt (cmp x y) ≡ true → is_lt (cmp y x) ≡ false)
      (chain : (x y z : X) → is_lt (cmp x y) ≡ false → is_lt (cmp y z) ≡ false → is_lt (cmp x z) ≡ false) where
    -- each key is over itself
    pub over_itself : (xs : List X) (k : ℕ) → Over cmp xs k k
    over_itself xs k d = let x = get_or xs k d in ⊎_elim (oneway x x) (λ e. e) (cases_Bool (is_lt (cmp x x)))

    -- and over what is below one that it is over
    pub over_over : (xs : List X) (p q k : ℕ) → Over cmp xs p q → Over cmp xs q k → Over cmp xs p k
    over_over xs p q k a b = λ d. chain _ _ _ (a d) (b d)

    -- a key that is not less than the greatest child's stands above all children
    pub sunk : (xs : List X) (j c end : ℕ) → Over cmp xs j c → GreatestChild cmp xs j c end → ((d : X) → Sinking cmp (λ m. get_or xs m d) j end) → Heaped cmp xs end
    sunk xs j c end t g h = tightened parent xs j end h (λ k z b e. subst (λ p. Over cmp xs p k) (sym e) (over_over xs j c k t (g k z b e)))

    -- a key rises past its parent
    pub rises_along : (xs ys : List X) (j end : ℕ) → 0 < j → j < end → end ≤ length xs → ys ≡ exchanged xs (parent j) j →
        ((d : X) → is_lt (cmp (get_or xs (parent j) d) (get_or xs j d)) ≡ true) →
        ((d : X) → Rising cmp (λ m. get_or xs m d) j end) → (d : X) → Rising cmp (λ m. get_or ys m d) (parent j) end
    rises_along xs ys j end below within le is wrong h d =
        rises cmp oneway chain (λ m. get_or xs m d) (λ m. get_or ys m d) (parent j) j end refl below within (swap xs ys j end below within le is d) (wrong d) (h d)

    -- a key sinks past the greatest child's
    pub sinks_along : (xs ys : List X) (j end : ℕ) → 0 < j → j < end → end ≤ length xs → ys ≡ exchanged xs (parent j) j →
        ((d : X) → is_lt (cmp (get_or xs (parent j) d) (get_or xs j d)) ≡ true) → GreatestChild cmp xs (parent j) j end →
        ((d : X) → Sinking cmp (λ m. get_or xs m d) (parent j) end) → (d : X) → Sinking cmp (λ m. get_or ys m d) j end
    sinks_along xs ys j end below within le is wrong g h d =
        sinks cmp oneway chain (λ m. get_or xs m d) (λ m. get_or ys m d) (parent j) j end refl below within (swap xs ys j end below within le is d) (wrong d)
        (λ k z b e. g k z b e d) (h d)

    -- the first key of a heap is over all
    pub over_all : (xs : List X) (end : ℕ) → Heaped cmp xs end → (n k : ℕ) → k < n → k < end → Over cmp xs 0 k
    over_all xs end h n k a b d = first_over cmp oneway chain (λ m. get_or xs m d) end (λ k z b. h k z b d) n k a b

-- § The keys, in whatever order

pub rearranged_none : {X : Type 0} {xs : List X} {n : ℕ} → Rearranged xs xs n
rearranged_none = record { keys = IsPermutation-refl _; rest = refl }

swap_front : {X : Type 0} (xs : List X) (i j n : ℕ) → i < n → j < n → take n (exchanged xs i j) ≡ exchanged (take n xs) i j
swap_front xs i j zero a b = absurd (omega arith)
swap_front [] i j (suc n) a b = refl
swap_front (x ∷ l) i j (suc n) a b = grind (arith, take-set-lt, get_or-take)

swap_back : {X : Type 0} (xs : List X) (i j n : ℕ) → i < n → j < n → drop n (exchanged xs i j) ≡ drop n xs
swap_back [] i j n a b = refl
swap_back (x ∷ l) i j n a b = drop-set-lt n _ j _ b ∙ drop-set-lt n (x ∷ l) i _ a

-- one exchange more, of two of the first n keys
pub rearranged_more : {X : Type 0} {xs ys : List X} (zs : List X) (i j n : ℕ) → i < n → j < n → n ≤ length ys → zs ≡ exchanged ys i j →
    Rearranged xs ys n → Rearranged xs zs n
rearranged_more {X} {xs} {ys} zs i j n a b le is so_far =
    let front_length : length (take n ys) ≡ n = simp length-take (omega arith) in
    let front : take n zs ≡ exchanged (take n ys) i j = ap (take n) is ∙ swap_front ys i j n a b in record {
      keys = IsPermutation-trans _ _ _ so_far.keys (IsPermutation-swap (take n ys) (take n zs) i j (omega arith) (omega arith) front);
      rest = ap (drop n) is ∙ swap_back ys i j n a b ∙ so_far.rest;
    }

-- § What `push` leaves

-- x is put at n and sifted up among the keys before it
pub pushed : {X : Type 0} (cmp : X → X → Ordering) (xs ys : List X) (n : ℕ) (x : X) → n < length xs → Rearranged (set xs n x) ys (n + 1) →
    (Heaped cmp (set xs n x) n → Heaped cmp ys (n + 1)) → Pushed cmp xs ys n x
pushed cmp xs ys n x le s sifted =
    let kept : (m : ℕ) → m < n → Came (set xs n x) m xs m = λ m b d. get_or-set_other xs n m x d (omega arith) in record {
      keys = subst (λ l. IsPermutation l (take (n + 1) ys)) (take_more_set xs n x le) s.keys;
      rest = s.rest ∙ drop-set-lt (n + 1) xs n x (omega arith);
      heaped = λ h. sifted (λ k z b. came cmp xs (set xs n x) (parent k) (parent k) k k (kept (parent k) (omega arith)) (kept k b) (h k z b));
    }

-- § What `pop` leaves

-- zs is xs with the first and the last of its n keys exchanged, and ys is zs with the others sifted
module _ {X : Type 0} (cmp : X → X → Ordering)
    (oneway : (x y : X) → is_lt (cmp x y) ≡ true → is_lt (cmp y x) ≡ false)
    (chain : (x y z : X) → is_lt (cmp x y) ≡ false → is_lt (cmp y z) ≡ false → is_lt (cmp x z) ≡ false) (xs zs ys : List X) (n : ℕ) (x : X)
    (some : 0 < n) (le : n ≤ length xs) (is : zs ≡ exchanged xs 0 (n - 1)) (first : x ≡ get_or xs 0 x) (sifted : Rearranged zs ys (n - 1)) where
  exchange : Exchange xs zs 0 (n - 1)
  exchange = exchanges xs zs 0 (n - 1) (omega arith) (omega arith) is

  popped_rearranged : IsPermutation (take n xs) (take (n - 1) ys ++ x ∷ []) × (drop n ys ≡ drop n xs)
  popped_rearranged =
      let last : n - 1 + 1 ≡ n = omega arith in
      let once : Rearranged xs zs n = rearranged_more zs 0 (n - 1) n some (omega arith) le is rearranged_none in
      let same_length : length zs ≡ length xs = ap length is ∙ length-swap xs 0 (n - 1) in
      let at_end : get_or zs (n - 1) x ≡ x = (exchange x).1 ∙ sym first in
      let ends = rw (last, at_end) at (take_more zs (n - 1) x (omega arith)) in
      let moved = IsPermutation-append_left (x ∷ []) (take (n - 1) zs) (take (n - 1) ys) sifted.keys in
      let past_ys = drop-drop 1 (n - 1) ys in
      let past_zs = drop-drop 1 (n - 1) zs in (
        IsPermutation-trans _ _ _ once.keys (rw ends moved),
        grind (arith, sifted.rest, once.rest),
      )

  -- without its first key and its last
  headless : Heaped cmp xs n → HeapedPast cmp zs (n - 1)
  headless h = let last : n - 1 + 1 ≡ n = omega arith in headless_exchanged cmp xs zs (n - 1) exchange (rw last h)

  greatest : Heaped cmp xs n → AllByRecursion (λ y. is_lt (cmp x y) ≡ false) (take n xs)
  greatest h =
      let front_length : length (take n xs) ≡ n = simp length-take (omega arith) in
      All-from_get_or (λ y. is_lt (cmp x y) ≡ false) (take n xs) x (λ k b.
      let over = first_over cmp oneway chain (λ m. get_or xs m x) n (λ k z b. h k z b x) (k + 1) k in
      let there = get_or-take n xs k x in
      grind arith)

  pub popped : (HeapedPast cmp zs (n - 1) → Heaped cmp ys (n - 1)) → Popped cmp xs ys n x
  popped mends = record { keys = popped_rearranged.0; rest = popped_rearranged.1; heaped = λ h. mends (headless h); greatest = greatest }

-- the same where the last key stands at `last`
pub popped_last : {X : Type 0} (cmp : X → X → Ordering)
    (oneway : (x y : X) → is_lt (cmp x y) ≡ true → is_lt (cmp y x) ≡ false)
    (chain : (x y z : X) → is_lt (cmp x y) ≡ false → is_lt (cmp y z) ≡ false → is_lt (cmp x z) ≡ false)
    (xs zs ys : List X) (last : ℕ) (x : X) → last < length xs → zs ≡ exchanged xs 0 last → x ≡ get_or xs 0 x → Rearranged zs ys last →
    (HeapedPast cmp zs last → Heaped cmp ys last) → Popped cmp xs ys (last + 1) x
popped_last cmp oneway chain xs zs ys last x le is first sifted mends =
    let one : last + 1 - 1 ≡ last = omega arith in
    popped cmp oneway chain xs zs ys (last + 1) x (omega arith) (omega arith) (rw one is) first (rw one sifted) (rw one mends)
