-- Paths joined, read backwards, and what holds along them. Assumes nothing.
use Rattle.std.proofs.Common.{◌≡◌, ℕ, ◌<◌, true}
use Rattle.std.proofs.lemmas.Grind.{not_there}
use Rattle.graph.specs.Model.{Model, Proper, reversed}
use Rattle.graph.specs.Paths.{Path, stay, walk, Reaches}

pub join_paths : {g : Model} {u v w : ℕ} → Path g u v → Path g v w → Path g u w
join_paths stay q = q
join_paths (walk a p) q = walk a (join_paths p q)

pub reverse_path : {g : Model} {u v : ℕ} → Path g u v → Path (reversed g) v u
reverse_path stay = stay
reverse_path (walk a p) = join_paths (reverse_path p) (walk a stay)

-- a relation that holds over each arc, and is reflexive and transitive, holds along each path
pub along_path :
    (g : Model) (R : ℕ → ℕ → Type 0) → ((v : ℕ) → R v v) → ((u v w : ℕ) → R u v → R v w → R u w)
    → ((u v : ℕ) → g.arc u v ≡ true → R u v) → {s t : ℕ} → Path g s t → R s t
along_path g R self join over (stay {u}) = self u
along_path g R self join over (walk {u} {v} {w} a p) = join u v w (over u v a) (along_path g R self join over p)

-- a path from a vertex ends at a vertex
pub path_inside : (g : Model) → Proper g → {s t : ℕ} → Path g s t → s < g.order → t < g.order
path_inside g proper p = along_path g (λ u v. u < g.order → v < g.order) (λ v h. h) (λ u v w f k h. k (f h)) (λ u v a h. (proper.within u v a).1) p

-- where there is no path, s does not reach t
pub no_path : {g : Model} {s t : ℕ} → (Path g s t → ⊥) → Reaches g s t → ⊥
no_path f r = not_there r f
