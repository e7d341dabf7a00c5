use Rattle.std.proofs.Common.{◌+◌, ◌≤◌, get_or}
use Rattle.heap.specs.Heaps.{Heaped, Rearranged}
use Rattle.heap.proofs.Sifts.{Rising}
use Rattle.heap.proofs.sift_up.Given as goal

abbrev pub invariant-loop-child : goal.invariant-loop-child
invariant-loop-child g l = record {
  place : l.child ≤ l.last;
  rearranged : Rearranged l.initial.heap l.heap (l.last + 1);
  rising : Heaped g.K.Ord.cmp l.initial.heap l.last → (d : _) → Rising g.K.Ord.cmp (λ m. get_or l.heap m d) l.child (l.last + 1);
}

abbrev pub decreases-loop-child : goal.decreases-loop-child
decreases-loop-child g l = l.child
