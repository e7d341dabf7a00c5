-- Where each vertex that is left has a predecessor that is left, there is a cycle. Assumes nothing.
use Rattle.std.proofs.Common.{◌≡◌, ℕ, zero, suc, ◌<◌, ◌≤◌, Bool, true, sym, subst, ⊎_elim, arith}
use Rattle.std.proofs.lemmas.Bool.{cases_eq}
use Rattle.graph.specs.Model.{Model, Proper}
use Rattle.graph.specs.Paths.{Path, stay, walk, Cycle}
use Rattle.orders.proofs.Places.{repeat}

module _ (g : Model) (proper : Proper g) (left : ℕ → Bool)
    (back : (v : ℕ) → v < g.order → left v ≡ true → (u : ℕ) × (g.arc u v ≡ true) × (left u ≡ true)) (v : ℕ) (inside : v < g.order) (free : left v ≡ true) where
  -- the vertex m arcs back from v
  abbrev walked : ℕ → (x : ℕ) × (x < g.order) × (left x ≡ true)
  walked zero = (v, inside, free)
  walked (suc m) = let x = walked m in let u = back x.0 x.1 x.2 in (u.0, (proper.within u.0 x.0 u.1).0, u.2)

  abbrev at : ℕ → ℕ
  at m = (walked m).0

  arc : (m : ℕ) → g.arc (at (suc m)) (at m) ≡ true
  arc m = let x = walked m in (back x.0 x.1 x.2).1

  path : (m i : ℕ) → i ≤ m → Path g (at m) (at i)
  path zero i le = subst (λ k. Path g v (at k)) {x = 0} {y = i} (omega arith) stay
  path (suc m) i le =
      ⊎_elim
      (λ e. subst (λ k. Path g (at (suc m)) (at k)) (sym e) stay)
      (λ ne. walk (arc m) (path m i (omega arith)))
      (cases_eq i (suc m))

  cycle : (m i : ℕ) → i < m → at i ≡ at m → Cycle g
  cycle zero i lt e = absurd (omega arith)
  cycle (suc m) i lt e = (at (suc m), at m, arc m, ∣ subst (Path g (at m)) e (path m i (omega arith)) ∣₁)

  pub stuck : Cycle g
  stuck = let r = repeat g.order at (λ i le. (walked i).1) in cycle r.1 r.0 r.2 r.4
