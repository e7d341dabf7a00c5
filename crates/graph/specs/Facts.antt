-- The laws that each graph type owes to `Digraph`. Assumes nothing.
use Rattle.std.specs.Prelude.{◌≡◌, ℕ, ◌<◌, ◌≤◌, true, not, ◌&&◌, List, ◌==◌, ◌≢◌, nat_lt}
use Rattle.std.proofs.Common.{sym, arith}
use Rattle.std.proofs.lemmas.Bool.{and_parts, and_from, eqb-false, ne_eqb, ltb-true, lt-ltb, not-true, not_from_false}
use Rattle.graph.specs.Model.{Model, Proper, reversed}
use Rattle.graph.specs.Table.{has, drawn}
use Rattle.graph.specs.ListModel.{list_model, list_order, entries}
use Rattle.graph.specs.MatrixModel.{matrix_model}
use Rattle.graph.specs.declared.list.Arc.{Arc}
use Rattle.graph.specs.declared.list.ArcList.{ArcList}
use Rattle.graph.specs.declared.matrix.BitMatrix.{BitMatrix}

pub drawn_parts : (es : List Arc) (n u v : ℕ) → drawn es n u v ≡ true → (u < n) × (v < n) × (u ≢ v) × (has es u v ≡ true)
drawn_parts es n u v e =
    let p = and_parts (nat_lt u n && nat_lt v n) (not (u == v) && has es u v) e in
    let q = and_parts (nat_lt u n) (nat_lt v n) p.0 in
    let r = and_parts (not (u == v)) (has es u v) p.1 in
    (ltb-true u n q.0, ltb-true v n q.1, eqb-false u v (not-true (u == v) r.0), r.1)

pub drawn_from : (es : List Arc) (n u v : ℕ) → u < n → v < n → (u ≢ v) → has es u v ≡ true → drawn es n u v ≡ true
drawn_from es n u v a b c d =
    and_from (nat_lt u n && nat_lt v n) (not (u == v) && has es u v)
    (and_from (nat_lt u n) (nat_lt v n) (lt-ltb u n a) (lt-ltb v n b))
    (and_from (not (u == v)) (has es u v) (not_from_false (u == v) (ne_eqb u v c)) d)

pub list_bounded : (x : ArcList) → (list_model x).order ≤ 512
list_bounded x = omega arith

pub list_proper : (x : ArcList) → Proper (list_model x)
list_proper x = record {
  small = list_bounded x;
  within = λ u v e. let d = drawn_parts (entries x) (list_order x) u v e in (d.0, d.1);
  apart = λ u v e. (drawn_parts (entries x) (list_order x) u v e).2;
}

pub matrix_bounded : (x : BitMatrix) → (matrix_model x).order ≤ 64
matrix_bounded x = x.small

pub matrix_proper : (x : BitMatrix) → Proper (matrix_model x)
matrix_proper x = record {
  small = omega (arith, x.small);
  within = λ u v e. (x.tails u v e, x.heads u v e);
  apart = x.apart;
}

pub reversed_proper : (g : Model) → Proper g → Proper (reversed g)
reversed_proper g p = record {
  small = p.small;
  within = λ u v e. let w = p.within v u e in (w.1, w.0);
  apart = λ u v e z. p.apart v u e (sym z);
}
