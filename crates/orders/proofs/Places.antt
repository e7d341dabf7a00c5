-- Positions leave no gap. Assumes nothing.
use Rattle.std.proofs.Common.{◌≡◌, ℕ, zero, suc, ◌-◌, ◌<◌, ◌≤◌, ◌⊎◌, cond, ltb, sym, ap, ◌∙◌, subst, inl, inr, ⊎_elim, arith}
use Rattle.std.proofs.lemmas.Bool.{cases_eq, cases_lt}
use Rattle.orders.specs.Orders.{Positions}

-- the place without the place q
abbrev skip : ℕ → ℕ → ℕ
skip q x = cond (ltb x q) x (x - 1)

skip_below : (q n x : ℕ) → q < suc n → x < suc n → (x ≡ q → ⊥) → skip q x < n
skip_below q n x hq hx ne = grind (arith, cases_lt x q)

skip_same : (q x y : ℕ) → (x ≡ q → ⊥) → (y ≡ q → ⊥) → skip q x ≡ skip q y → x ≡ y
skip_same q x y nx ny e = grind (arith, cases_lt x q, cases_lt y q)

-- p is what f gives a number below m, or it is not
hit : (m p : ℕ) (f : ℕ → ℕ) → ((v : ℕ) × (v < m) × (f v ≡ p)) ⊎ ((v : ℕ) → v < m → f v ≡ p → ⊥)
hit zero p f = inr (λ v h e. omega arith)
hit (suc m) p f =
    ⊎_elim
    (λ e. inl (m, omega arith, e))
    (λ ne. ⊎_elim
    (λ x. let lt = x.1 in inl (x.0, omega arith, x.2))
    (λ none. inr (λ v h e. let rest = none v in grind (arith, cases_eq v m)))
    (hit m p f))
    (cases_eq (f m) p)

-- n + 1 numbers below n: two are the same
pub repeat : (n : ℕ) (f : ℕ → ℕ) → ((i : ℕ) → i ≤ n → f i < n) → (i : ℕ) × (j : ℕ) × (i < j) × (j ≤ n) × (f i ≡ f j)
repeat zero f below = let none = below 0 (omega arith) in absurd (omega arith)
repeat (suc n) f below =
    let q = f (suc n) in
    ⊎_elim
    (λ x. let lt = x.1 in (x.0, suc n, lt, omega arith, x.2))
    (λ new.
    let r = repeat n (λ i. skip q (f i)) (λ i le. skip_below q n (f i) (below (suc n) (omega arith)) (below i (omega arith)) (new i (omega arith))) in
    let lt = r.2 in
    let le = r.3 in
    (r.0, r.1, lt, omega arith, skip_same q (f r.0) (f r.1) (new r.0 (omega arith)) (new r.1 (omega arith)) r.4))
    (hit (suc n) q f)

-- m numbers below n, no two the same, are no more than n
pub pigeons : (m n : ℕ) (f : ℕ → ℕ) → ((i : ℕ) → i < m → f i < n) → ((i j : ℕ) → i < m → j < m → f i ≡ f j → i ≡ j) → m ≤ n
pigeons m n f below alone =
    ⊎_elim
    (λ more.
    let r = repeat n f (λ i le. below i (omega arith)) in
    let lt = r.2 in
    let le = r.3 in
    let same = alone r.0 r.1 (omega arith) (omega arith) r.4 in
    absurd (omega arith))
    (λ le. le)
    (cases_lt n m)

-- each place is that of a vertex
pub used : (n : ℕ) (place : ℕ → ℕ) → Positions n place → (p : ℕ) → p < n → (v : ℕ) × (v < n) × (place v ≡ p)
used zero place ps p h = absurd (omega arith)
used (suc n) place ps p h =
    ⊎_elim
    (λ x. x)
    (λ none.
    let r = repeat n (λ i. skip p (place i)) (λ i le. skip_below p n (place i) h (ps.within i (omega arith)) (none i (omega arith))) in
    let lt = r.2 in
    let le = r.3 in
    let same = ps.apart r.0 r.1 (omega arith) (omega arith) (skip_same p (place r.0) (place r.1) (none r.0 (omega arith)) (none r.1 (omega arith)) r.4) in
    absurd (omega arith))
    (hit (suc n) p place)

-- a table that gives each vertex at its place gives at each place the vertex there
pub found : (n : ℕ) (place holder : ℕ → ℕ) → Positions n place → ((v : ℕ) → v < n → holder (place v) ≡ v) →
    (p : ℕ) → p < n → (holder p < n) × (place (holder p) ≡ p)
found n place holder ps holds p h =
    let x = used n place ps p h in
    let e : holder p ≡ x.0 = ap holder (sym x.2) ∙ holds x.0 x.1 in
    (subst (λ v. v < n) (sym e) x.1, ap place e ∙ x.2)
