-- The labels of the small graph meet the rules: the tests compute it. Assumes nothing.
use Rattle.std.proofs.Common.{◌≡◌, true, refl, arith}
use Rattle.graph.specs.Model.{Proper}
use Rattle.graph.specs.Table.{has}
use Rattle.graph.specs.Facts.{drawn_parts}
use Rattle.labels.specs.declared.rule.Rule.{Rule}
use Rattle.labels.specs.declared.rule.Rule.TheVariants.{Positions, Arcs, Sures, Fars, Levels, Components, SupportBits}
use Rattle.labels.specs.Bounded.{all_below}
use Rattle.labels.specs.Rules.{Holds}
use Rattle.labels.specs.Checks.{extreme, bit_exact, placed, rises, sure_forward, sure_backward, sure_allowed, far_extreme, levelled, joined, support_bits_exact, holds}
use Rattle.labels.specs.Example.{example, example_arcs, example_labels, example_supports, ExampleMeetsRules}
use Rattle.labels.specs.BoundedLemmas.{all_tells}
use Rattle.labels.proofs.Agree.{rules_compute_lem}

example_proper : Proper example
example_proper = record {
  small = omega arith;
  within = λ u v e. let d = drawn_parts example_arcs 6 u v e in (d.0, d.1);
  apart = λ u v e. (drawn_parts example_arcs 6 u v e).2;
}

each_computes : (k : Rule) → all_below 6 (λ v. holds k example example_labels example_supports v) ≡ true
unfolding has extreme bit_exact placed rises sure_forward sure_backward sure_allowed far_extreme levelled joined support_bits_exact
each_computes Positions = refl
each_computes Arcs = refl
each_computes Sures = refl
each_computes Fars = refl
each_computes Levels = refl
each_computes Components = refl
each_computes SupportBits = refl

pub example_meets_rules_lem : ExampleMeetsRules
example_meets_rules_lem = (
  example_proper,
  λ k. (all_tells (holds k example example_labels example_supports) (λ v. Holds k example example_labels example_supports v)
      (rules_compute_lem example example_proper example_labels example_supports k) 6).0 (each_computes k),
)
