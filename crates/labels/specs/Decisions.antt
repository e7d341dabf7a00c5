-- A decision step by step. Assumes nothing.
use Rattle.std.specs.Prelude.{◌≡◌, ℕ, Bool, true, false, Some, None, Option, IfSome, refl}
use Rattle.graph.specs.Model.{Model}
use Rattle.labels.specs.declared.decision.Verdict.{Verdict}
use Rattle.labels.specs.Judges.{first, says, on_ground}
use Rattle.labels.specs.Laws.{Claim, RightIfAny}

-- what a verdict claims, if there is one, is so
abbrev pub ClaimIfAny : Model → ℕ → ℕ → Option Verdict → Type 0
ClaimIfAny g s t o = IfSome o (Claim g s t)

-- what holds of the value of each, if there is one, holds of what the first says or else the second
pub holds_first : {A : Type 0} (P : A → Type 0) (o p : Option A) → IfSome o P → IfSome p P → IfSome (first o p) P
holds_first P None p c d = d
holds_first P (Some x) p c d = c

module _ (g : Model) (s t : ℕ) where
  pub claim_says : (b : Bool) (v : Verdict) → (b ≡ true → Claim g s t v) → ClaimIfAny g s t (says b v)
  claim_says true v f = f refl
  claim_says false v f = tt

  -- the next step knows that this one said nothing
  pub claim_next : (b : Bool) (v : Verdict) (o : Option Verdict) → (b ≡ true → Claim g s t v) → (b ≡ false → ClaimIfAny g s t o) → ClaimIfAny g s t (first (says b v) o)
  claim_next true v o f h = f refl
  claim_next false v o f h = h refl

  pub right_grounded : (k : ℕ) (o : Option Verdict) → ClaimIfAny g s t o → RightIfAny g s t (on_ground k o)
  right_grounded k None c = tt
  right_grounded k (Some v) c = record { claim = c }
