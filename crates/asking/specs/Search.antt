-- The search from a vertex, for any labels, those that break the rules too, and any test. Assumes nothing.
use Rattle.std.specs.Prelude.{◌≡◌, ℕ, true, false, List, [], ◌∷◌, ◌++◌, Some, None, Option}
use Rattle.graph.specs.Model.{Model}
use Rattle.labels.specs.declared.decision.Verdict.{Verdict}
use Rattle.labels.specs.declared.decision.Verdict.TheVariants.{Yes, No}
use Rattle.labels.specs.declared.decision.Decision.{Decision}
use Rattle.labels.specs.Labels.{Labels, label_at}
use Rattle.labels.specs.Judges.{Judge, same, or_else}
use Rattle.asking.specs.declared.oracle.Oracle.{Oracle}
use Rattle.search.specs.Under.{has}
use Rattle.search.specs.Successors.{successors_from}

-- what is said of each vertex v and the goal t: that v is t, or else what the test says
abbrev pub told : Judge → Labels → ℕ → ℕ → Option Decision
told judge labels t v = or_else same judge v t (labels v) (labels t)

-- what an oracle says of each vertex v and the goal t: that v is t, or else what its test says with its labels
abbrev pub oracle_says : {G T : Type 0} → (judges : T → Judge) → Oracle G T → ℕ → ℕ → Option Decision
oracle_says judges oracle = told (judges oracle.test.now) (label_at oracle.labels.now)

-- where the search stands: between two vertices, or at the successors that are left of the vertex opened last
pub data Place : Type 0 where
  between : Place
  at : List ℕ → Place

-- Runs g tells place waiting put opened v all: what is said of each vertex and the goal being `tells`, a search that stands
-- at this place, with these vertices waiting, the one put last first, these ever put and these opened, ends with the verdict v
-- and with the vertices `all` opened
pub data Runs (g : Model) (tells : ℕ → Option Decision) : Place → List ℕ → List ℕ → List ℕ → Verdict → List ℕ → Type 0 where
  -- with none waiting the answer is no
  ends : {put opened : List ℕ} → Runs g tells between [] put opened No opened
  -- the vertex put last is opened
  opens : {u : ℕ} {waiting put opened all : List ℕ} {v : Verdict} →
      Runs g tells (at (successors_from g u 0)) waiting put (opened ++ u ∷ []) v all →
      Runs g tells between (u ∷ waiting) put opened v all
  -- a successor of which yes is said ends the search
  finds : {w : ℕ} {d : Decision} {rest waiting put opened : List ℕ} →
      tells w ≡ Some d → d.verdict ≡ Yes →
      Runs g tells (at (w ∷ rest)) waiting put opened Yes opened
  -- a successor of which no is said is not put
  drops : {w : ℕ} {d : Decision} {rest waiting put opened all : List ℕ} {v : Verdict} →
      tells w ≡ Some d → d.verdict ≡ No →
      Runs g tells (at rest) waiting put opened v all →
      Runs g tells (at (w ∷ rest)) waiting put opened v all
  -- nor is one that was put before
  knows : {w : ℕ} {rest waiting put opened all : List ℕ} {v : Verdict} →
      tells w ≡ None → has w put ≡ true →
      Runs g tells (at rest) waiting put opened v all →
      Runs g tells (at (w ∷ rest)) waiting put opened v all
  -- another of which nothing is said is put
  puts : {w : ℕ} {rest waiting put opened all : List ℕ} {v : Verdict} →
      tells w ≡ None → has w put ≡ false →
      Runs g tells (at rest) (w ∷ waiting) (w ∷ put) opened v all →
      Runs g tells (at (w ∷ rest)) waiting put opened v all
  -- after its last successor a vertex is left
  leaves : {waiting put opened all : List ℕ} {v : Verdict} →
      Runs g tells between waiting put opened v all →
      Runs g tells (at []) waiting put opened v all
