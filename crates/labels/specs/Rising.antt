-- Numbers that rise along each arc, and proofs from the vertices of lower numbers to those of higher. Assumes nothing.
use Rattle.std.specs.Prelude.{◌≡◌, ℕ, zero, suc, ◌<◌, ◌≤◌, true, ◌⊎◌, refl}
use Rattle.std.proofs.Common.{inl, inr, arith}
use Rattle.graph.specs.Model.{Model}
use Rattle.graph.specs.Paths.{Path, stay, walk, Cycle}
use Rattle.graph.proofs.Paths.{along_path, no_path}

abbrev pub Rising : Model → (ℕ → ℕ) → Type 0
Rising g f = (v w : ℕ) → g.arc v w ≡ true → f v < f w

pub rising_le : (g : Model) (f : ℕ → ℕ) → Rising g f → {s t : ℕ} → Path g s t → f s ≤ f t
rising_le g f up p = along_path g (λ v w. f v ≤ f w) (λ v. omega arith) (λ u v w h k. omega arith) (λ v w a. let h = up v w a in omega arith) p

pub rising : (g : Model) (f : ℕ → ℕ) → Rising g f → {s t : ℕ} → Path g s t → (s ≡ t) ⊎ (f s < f t)
rising g f up stay = inl refl
rising g f up (walk {u} {v} {w} a p) = let h = up u v a in let k = rising_le g f up p in inr (omega arith)

pub no_cycle : (g : Model) (f : ℕ → ℕ) → Rising g f → Cycle g → ⊥
no_cycle g f up c = no_path (λ p. let h = up c.0 c.1 c.2 in let k = rising_le g f up p in omega arith) c.3

-- what holds of a vertex if it holds of all that are placed lower holds of each
module _ (g : Model) (place : ℕ → ℕ) (P : ℕ → Type 0) (step : (v : ℕ) → v < g.order → ((u : ℕ) → u < g.order → place u < place v → P u) → P v) where
  below_place : (k v : ℕ) → v < g.order → place v < k → P v
  below_place zero v hv h = absurd (let z : ⊥ = omega arith in z)
  below_place (suc k) v hv h = step v hv (λ u hu lt. below_place k u hu (omega arith))

  pub by_place : (v : ℕ) → v < g.order → P v
  by_place v hv = below_place (suc (place v)) v hv (omega arith)
