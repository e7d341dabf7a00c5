-- A trace is the only one, is short, and is there where there is a path. Assumes nothing.
use Rattle.std.proofs.Common.{◌≡◌, ℕ, zero, suc, ◌<◌, ◌≤◌, true, false, ◌⊎◌, List, [], ◌∷◌, length, sym, refl, ap, ◌∙◌, subst, inl, inr, ⊎_elim, arith}
use Rattle.std.proofs.lemmas.Bool.{cases_eq, cases_Bool, both_ways, false≢true, false_from_ne_true}
use Rattle.std.specs.List.{AllByRecursion}
use Rattle.graph.specs.Model.{Model, Proper}
use Rattle.graph.specs.Paths.{Path, stay, walk, Reaches, Cycle}
use Rattle.graph.proofs.Paths.{along_path, no_path}
use Rattle.search.specs.Under.{has}
use Rattle.search.specs.Trace.{Leads, Trace, arrives, goes, Rises}
use Rattle.search.proofs.Lists.{entry}
use Rattle.search.proofs.Distinct.{pigeonhole}
use Rattle.search.specs.Under.{Distinct}

pub leads_one : (g : Model) (t u v w : ℕ) → Leads g t u v → Leads g t u w → v ≡ w
leads_one g t u v w h k = grind (arith, h.lowest w, k.lowest v)

pub trace_one : (g : Model) (t : ℕ) {s : ℕ} {p q : List ℕ} → Trace g t s p → Trace g t s q → p ≡ q
trace_one g t (arrives e) (arrives f) = refl
trace_one g t (arrives e) (goes ne l r) = absurd (ne e)
trace_one g t (goes ne l r) (arrives e) = absurd (ne e)
trace_one g t (goes {u} {v} {rest} ne l r) (goes {v = w} {rest = other} nf k q) =
    ap (λ x. u ∷ x) (trace_one g t r (subst (λ x. Trace g t x other) (sym (leads_one g t u v w l k)) q))

trace_path : (g : Model) (t : ℕ) {s : ℕ} {p : List ℕ} → Trace g t s p → Path g s t
trace_path g t (arrives {u} e) = subst (λ x. Path g u x) e stay
trace_path g t (goes ne l r) = walk l.joined (trace_path g t r)

pub trace_reaches : (g : Model) (t : ℕ) {s : ℕ} {p : List ℕ} → Trace g t s p → Reaches g s t
trace_reaches g t r = ∣ trace_path g t r ∣₁

-- from each vertex of a trace on it is a trace
later : (g : Model) (t x : ℕ) {s : ℕ} {p : List ℕ} → Trace g t s p → has x p ≡ true → (q : List ℕ) × Trace g t x q × (length q ≤ length p)
later g t x (arrives {u} e) h = ⊎_elim (λ q. (x ∷ [], arrives (q ∙ e), omega arith)) (λ i. absurd (false≢true i)) (entry x u [] h)
later g t x (goes {u} {v} {rest} ne l r) h =
    ⊎_elim
    (λ q. (u ∷ rest, subst (λ y. Trace g t y (u ∷ rest)) (sym q) (goes ne l r), omega arith))
    (λ i. let z = later g t x r i in (z.0, z.1, omega (arith, z.2)))
    (entry x u rest h)

trace_distinct : (g : Model) (t : ℕ) {s : ℕ} {p : List ℕ} → Trace g t s p → Distinct p
trace_distinct g t (arrives e) = (refl, tt)
trace_distinct g t (goes {u} {v} {rest} ne l r) = (
  false_from_ne_true (has u rest) (λ i. let z = later g t u r i in omega (arith, z.2, ap length (trace_one g t (goes ne l r) z.1))),
  trace_distinct g t r,
)

pub trace_below : (g : Model) (t : ℕ) → Proper g → {s : ℕ} {p : List ℕ} → Trace g t s p → s < g.order → AllByRecursion (λ x. x < g.order) p
trace_below g t k (arrives e) b = (b, tt)
trace_below g t k (goes {u} {v} ne l r) b = (b, trace_below g t k r (k.within u v l.joined).1)

pub trace_short : (g : Model) (s t : ℕ) (p : List ℕ) → Proper g → s < g.order → Trace g t s p → length p ≤ g.order
trace_short g s t p k b r = pigeonhole g.order p (trace_distinct g t r) (trace_below g t k r b)

-- the vertices of a path
abbrev pub vertices : {g : Model} {a b : ℕ} → Path g a b → List ℕ
vertices (stay {u}) = u ∷ []
vertices (walk {u} e p) = u ∷ vertices p

-- how many arcs a path has: one fewer than vertices
abbrev pub arcs : {g : Model} {a b : ℕ} → Path g a b → ℕ
arcs stay = 0
arcs (walk e p) = suc (arcs p)

pub length_vertices : {g : Model} {a b : ℕ} (p : Path g a b) → length (vertices p) ≡ suc (arcs p)
length_vertices stay = refl
length_vertices (walk e p) = ap suc (length_vertices p)

-- a path with no arc joins no two different vertices
pub none : {g : Model} {x y : ℕ} (p : Path g x y) → (x ≡ y → ⊥) → arcs p ≤ 0 → ⊥
none stay f l = f refl
none (walk e p) f l = omega arith

-- a path comes to each of its vertices
comes : (g : Model) (x : ℕ) {a b : ℕ} (p : Path g a b) → has x (vertices p) ≡ true → Path g a x
comes g x (stay {u}) h = ⊎_elim (λ q. subst (Path g u) (sym q) stay) (λ i. absurd (false≢true i)) (entry x u [] h)
comes g x (walk {u} {v} e p) h = ⊎_elim (λ q. subst (Path g u) (sym q) stay) (λ i. walk e (comes g x p i)) (entry x u (vertices p) h)

path_distinct : (g : Model) → (Cycle g → ⊥) → {a b : ℕ} (p : Path g a b) → Distinct (vertices p)
path_distinct g n stay = (refl, tt)
path_distinct g n (walk {u} {v} e p) = (false_from_ne_true (has u (vertices p)) (λ i. n (u, v, e, ∣ comes g u p i ∣₁)), path_distinct g n p)

vertices_below : (g : Model) → Proper g → {a b : ℕ} (p : Path g a b) → a < g.order → AllByRecursion (λ x. x < g.order) (vertices p)
vertices_below g k stay b = (b, tt)
vertices_below g k (walk {u} {v} e p) b = (b, vertices_below g k p (k.within u v e).1)

-- without a cycle a path has less arcs than the graph has vertices
pub path_short : (g : Model) → Proper g → (Cycle g → ⊥) → {a b : ℕ} (p : Path g a b) → a < g.order → arcs p < g.order
path_short g k n p b = omega (arith, length_vertices p, pigeonhole g.order (vertices p) (path_distinct g n p) (vertices_below g k p b))

-- the lowest number below n with P, or none
lowest_below : (P : ℕ → Type 0) → ((v : ℕ) → P v ⊎ (P v → ⊥)) → (n : ℕ) →
    ((v : ℕ) × P v × ((k : ℕ) → k < v → P k → ⊥)) ⊎ ((v : ℕ) → v < n → P v → ⊥)
lowest_below P d zero = inr (λ v l p. omega arith)
lowest_below P d (suc n) =
    ⊎_elim inl
    (λ f. ⊎_elim
    (λ p. inl (n, p, f))
    (λ np. inr (λ v l p. ⊎_elim (λ (e : v ≡ n). np (subst P e p)) (λ (ne : v ≡ n → ⊥). f v (omega arith) p) (cases_eq v n)))
    (d n))
    (lowest_below P d n)

-- u has a trace to t
abbrev Traced : Model → ℕ → ℕ → Type 0
Traced g t u = (p : List ℕ) × Trace g t u p

-- an arc from u to v, and a trace from v to t
abbrev Onward : Model → ℕ → ℕ → ℕ → Type 0
Onward g t u v = (g.arc u v ≡ true) × Traced g t v

-- no path from u has more than k vertices
abbrev Bound : Model → ℕ → ℕ → Type 0
Bound g u k = (y : ℕ) (p : Path g u y) → length (vertices p) ≤ k

-- where each successor of u has a trace or no path, so has u
decide_from : (g : Model) → Proper g → (t u : ℕ) → (u ≡ t → ⊥) → ((v : ℕ) → g.arc u v ≡ true → Traced g t v ⊎ (Path g v t → ⊥)) →
    Traced g t u ⊎ (Path g u t → ⊥)
decide_from g k t u ne each =
    ⊎_elim
    (λ (v, (e, (p, r)), none).
    let lowest : (w : ℕ) → w < v → g.arc u w ≡ true → Reaches g w t → ⊥ = λ w l i q. ⊎_elim (λ z. none w l (i, z)) (λ f. no_path f q) (each w i) in
    inl (u ∷ p, goes ne (record { joined = e; reaches = trace_reaches g t r; lowest = lowest }) r))
    (λ f. inr (λ p. step p ne (λ v e r. ⊎_elim (λ q. f v (k.within u v e).1 (e, q)) (λ n. n r) (each v e))))
    (lowest_below (Onward g t u)
    (λ v. ⊎_elim
    (λ (e : g.arc u v ≡ true). ⊎_elim (λ q. inl (e, q)) (λ n. inr (λ i. n (trace_path g t i.1.1))) (each v e))
    (λ (e : g.arc u v ≡ false). inr (λ i. both_ways (g.arc u v) e i.0))
    (cases_Bool (g.arc u v)))
    g.order)
  where
    step : {x y : ℕ} → Path g x y → (x ≡ y → ⊥) → ((v : ℕ) → g.arc x v ≡ true → Path g v y → ⊥) → ⊥
    step stay f h = f refl
    step (walk {u} {v} e p) f h = h v e p

-- where paths are short, there is a trace or there is no path
decide : (g : Model) → Proper g → (t k u : ℕ) → Bound g u k → Traced g t u ⊎ (Path g u t → ⊥)
decide g proper t zero u b = absurd (omega (arith, b u stay))
decide g proper t (suc k) u b =
    ⊎_elim
    (λ e. inl (u ∷ [], arrives e))
    (λ ne. decide_from g proper t u ne (λ v e. decide g proper t k v (λ y p. omega (arith, b y (walk e p)))))
    (cases_eq u t)

pub trace_where_path_lem : (g : Model) → Proper g → (Cycle g → ⊥) → (s t : ℕ) → s < g.order → Reaches g s t → (p : List ℕ) × Trace g t s p
trace_where_path_lem g k n s t b r =
    -- without a cycle a path has at most as many vertices as the graph
    ⊎_elim (λ z. z) (λ f. absurd (no_path f r))
    (decide g k t g.order s (λ y p. pigeonhole g.order (vertices p) (path_distinct g n p) (vertices_below g k p b)))

rises_along : (g : Model) (place : ℕ → ℕ) → Rises g place → {a b : ℕ} → Path g a b → place a ≤ place b
rises_along g place h p =
    along_path g (λ u v. place u ≤ place v) (λ v. omega arith) (λ u v w a b. omega arith) (λ u v a. omega (arith, h u v a)) p

pub no_cycle_where_rising_lem : (g : Model) (place : ℕ → ℕ) → Rises g place → Cycle g → ⊥
no_cycle_where_rising_lem g place h (u, v, e, r) = no_path (λ p. omega (arith, h u v e, rises_along g place h p)) r
