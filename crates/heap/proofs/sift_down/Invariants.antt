use Rattle.std.proofs.Common.{◌-◌, get_or}
use Rattle.heap.specs.Heaps.{HeapedPast, Rearranged}
use Rattle.heap.proofs.Sifts.{Sinking}
use Rattle.heap.proofs.sift_down.Given as goal

abbrev pub invariant-loop-parent : goal.invariant-loop-parent
invariant-loop-parent g l = record {
  rearranged : Rearranged l.initial.heap l.heap l.end;
  sinking : HeapedPast g.K.Ord.cmp l.initial.heap l.end → (d : _) → Sinking g.K.Ord.cmp (λ m. get_or l.heap m d) l.parent l.end;
}

abbrev pub decreases-loop-parent : goal.decreases-loop-parent
decreases-loop-parent g l = l.end - l.parent
