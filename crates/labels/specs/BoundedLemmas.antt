-- What tests over the numbers below a bound tell, and so what `meets` and `exceeds` tell of bits. Assumes nothing.
use Rattle.std.specs.Prelude.{◌≡◌, ℕ, ◌<◌, Bool, true, false, not, ◌&&◌, ◌≢◌, refl}
use Rattle.std.specs.Bool.{Decides}
use Rattle.std.proofs.lemmas.Bool.{false≢true}
use Rattle.std.proofs.lemmas.Bool.Decides.{Decides-and, Decides-not, Decides-below_and, Decides-below_or}
use Rattle.graph.specs.Square.{flagged}
use Rattle.labels.specs.Bounded.{some_below, all_below, ◌implies◌}
use Rattle.labels.specs.Judges.{meets, exceeds}

pub itself : (b : Bool) → Decides b (b ≡ true)
itself b = (λ t. t, λ t. t)

pub implies_tells : {P Q : Type 0} (a b : Bool) → Decides a P → Decides b Q → Decides (a implies b) (P → Q)
implies_tells true b d e = (λ t p. e.0 t, λ f. e.1 (f (d.0 refl)))
implies_tells false b d e = (λ t p. absurd (false≢true (d.1 p)), λ f. refl)

module _ (p : ℕ → Bool) (P : ℕ → Type 0) (each : (i : ℕ) → Decides (p i) (P i)) where
  pub all_tells : (n : ℕ) → Decides (all_below n p) ((i : ℕ) → i < n → P i)
  all_tells = Decides-below_and p P (λ n. all_below n p) each refl (λ n. refl)

  pub some_tells : (n : ℕ) → Decides (some_below n p) ((i : ℕ) × (i < n) × P i)
  some_tells = Decides-below_or p P (λ n. some_below n p) each refl (λ n. refl)

pub meets_tells : (m n : ℕ) → Decides (meets m n) ((i : ℕ) × (i < 16) × ((flagged m i ≡ true) × (flagged n i ≡ true)))
unfolding meets
meets_tells m n =
    some_tells (λ i. flagged m i && flagged n i) (λ i. (flagged m i ≡ true) × (flagged n i ≡ true))
    (λ i. Decides-and (flagged m i) (flagged n i) (itself (flagged m i)) (itself (flagged n i))) 16

pub exceeds_tells : (m n : ℕ) → Decides (exceeds m n) ((i : ℕ) × (i < 16) × ((flagged m i ≡ true) × (flagged n i ≢ true)))
unfolding exceeds
exceeds_tells m n =
    some_tells (λ i. flagged m i && not (flagged n i)) (λ i. (flagged m i ≡ true) × (flagged n i ≢ true))
    (λ i. Decides-and (flagged m i) (not (flagged n i)) (itself (flagged m i)) (Decides-not (flagged n i) (itself (flagged n i)))) 16
