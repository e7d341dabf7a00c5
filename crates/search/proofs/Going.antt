-- What holds as a trace is followed and written. Assumes nothing.
use Rattle.std.proofs.Common.{◌≡◌, ℕ, ◌+◌, ◌<◌, ◌≤◌, Bool, true, false, List, [], ◌∷◌, ◌++◌, length, get_or, take, drop, Some, None, Ok, sym, refl, ap, ◌∙◌, subst, append_assoc, length-append, arith}
use mathlib.Core.Logic.{∥∥₁_map}
use Rattle.std.proofs.lemmas.List.{take_at, drop_at, length-take-le}
use Rattle.std.proofs.lemmas.Bool.{both_ways}
use Rattle.std.proofs.lemmas.Bool.Decides.{nat_tests}
use Rattle.graph.specs.Model.{Model, Proper, reversed}
use Rattle.graph.specs.Paths.{Reaches, Cycle}
use Rattle.graph.proofs.Paths.{reverse_path}
use Rattle.search.specs.Refusals.{refusal_of_two}
use Rattle.search.specs.Under.{Marked}
use Rattle.search.specs.Trace.{LowestMarked, Leads, Trace, arrives, goes, TraceAnswer, ZeroUnlessReaches}
use Rattle.search.proofs.Traces.{leads_one, trace_below, trace_short, trace_reaches, trace_where_path_lem}

pub neither_refused : (n s t room : ℕ) → s < n → t < n → n ≤ room → refusal_of_two n s t room ≡ None
neither_refused n s t room b d r = grind (arith, nat_tests)

-- the marks of the vertices that reach t
module _ (m : Model) (t : ℕ) (marks : List Bool) (k : Marked (reversed m) t marks) where
  marked_reaches : (v : ℕ) → v < m.order → get_or marks v false ≡ true → Reaches m v t
  marked_reaches v b e = ∥∥₁_map ((k v b).0 e) reverse_path

  reaches_marked : (v : ℕ) → v < m.order → Reaches m v t → get_or marks v false ≡ true
  reaches_marked v b r = (k v b).1 (∥∥₁_map r reverse_path)

  pub leads_some : Proper m → (u v : ℕ) → LowestMarked m marks u (Some v) → Leads m t u v
  leads_some p u v n = record {
    joined = n.1;
    reaches = marked_reaches v n.0 n.2;
    lowest = λ w l a r. both_ways _ (n.3 w l a) (reaches_marked w (p.within u w a).1 r);
  }

  pub leads_none : Proper m → (u v : ℕ) → LowestMarked m marks u None → Leads m t u v → ⊥
  leads_none p u v n h = both_ways _ (n v h.joined) (reaches_marked v (p.within u v h.joined).1 h.reaches)

-- a trace that has not arrived goes on
goes_on : (m : Model) (t : ℕ) {u : ℕ} {p : List ℕ} → Trace m t u p → (u ≡ t → ⊥) →
    (v : ℕ) × (rest : List ℕ) × Leads m t u v × Trace m t v rest × (length p ≡ length rest + 1)
goes_on m t (arrives e) ne = absurd (ne e)
goes_on m t (goes {v = v} {rest = rest} nf l r) ne = (v, rest, l, r, omega arith)

some_length : (m : Model) (t : ℕ) {u : ℕ} {p : List ℕ} → Trace m t u p → 0 < length p
some_length m t (arrives e) = omega arith
some_length m t (goes ne l r) = omega arith

-- the steps from s have come to u, by way of the path
pub record Going (m : Model) (s t : ℕ) (path : List ℕ) (u : ℕ) : Type 0 where
  pub room : length path < m.order
  pub onward : (p : List ℕ) → Trace m t u p → Trace m t s (path ++ p)
  pub back : (q : List ℕ) → Trace m t s q → (p : List ℕ) × Trace m t u p × (length q ≡ length path + length p)

module _ (m : Model) (proper : Proper m) (s t : ℕ) where
  module _ (path : List ℕ) (u : ℕ) (h : Going m s t path u) where
    -- a trace from s goes by way of u, and on from there
    back_on : (u ≡ t → ⊥) → (q : List ℕ) → Trace m t s q → (v : ℕ) × (rest : List ℕ) × Leads m t u v × Trace m t v rest × (length q ≡ length path + length rest + 1)
    back_on ne q r =
        let z = h.back q r in
        let y = goes_on m t z.1 ne in
        (y.0, y.1, y.2, y.3, omega (arith, z.2, y.4))

    pub going : (v : ℕ) → (u ≡ t → ⊥) → Leads m t u v → length path + 1 < m.order → Going m s t (path ++ u ∷ []) v
    going v ne l b = record {
      room = omega (arith, length-append path (u ∷ []));
      onward = λ p r. rw append_assoc (h.onward (u ∷ p) (goes ne l r));
      back = λ q r.
          let y = back_on ne q r in
          (y.1, subst (λ x. Trace m t x y.1) (leads_one m t u y.0 v y.2 l) y.3, omega (arith, y.4, length-append path (u ∷ [])));
    }

    -- the steps go round
    pub too_long : s < m.order → (u ≡ t → ⊥) → m.order ≤ length path + 1 → (q : List ℕ) → Trace m t s q → ⊥
    too_long b ne l q r = let y = back_on ne q r in omega (arith, y.4, some_length m t y.3, trace_short m s t q proper b r)

    pub no_way : (u ≡ t → ⊥) → ((v : ℕ) → Leads m t u v → ⊥) → (q : List ℕ) → Trace m t s q → ⊥
    no_way ne f q r = let y = back_on ne q r in f y.0 y.2

    pub arrived : u ≡ t → Trace m t s (path ++ t ∷ [])
    arrived e = subst (λ x. Trace m t s (path ++ x ∷ [])) e (h.onward (u ∷ []) (arrives e))

-- what the contract of `trace` asks
module _ (m : Model) (proper : Proper m) (s t : ℕ) (before : List ℕ) (bs : s < m.order) (bt : t < m.order) (room : m.order ≤ length before) where
  pub nothing : ((q : List ℕ) → Trace m t s q → ⊥) →
      record { answer : TraceAnswer m s t before before (Ok 0); unreached : (Cycle m → ⊥) → ZeroUnlessReaches m s t (Ok 0) }
  nothing f = record {
    answer = (
      neither_refused m.order s t (length before) bs bt room,
      record { found = λ l. absurd (omega arith); none = λ _. f; few = omega arith; below = tt; rest = refl },
    );
    unreached = λ n. (λ _ r. let z = trace_where_path_lem m proper n s t bs r in f z.0 z.1, λ _. refl);
  }

  -- the path is copied to the start of the slice
  pub something : (path : List ℕ) {part after : List ℕ} {count : ℕ} → part ≡ path → count ≡ length part → after ≡ part ++ drop (length part) before →
      0 < length path → length path ≤ m.order → Trace m t s path →
      record { answer : TraceAnswer m s t before after (Ok count); unreached : (Cycle m → ⊥) → ZeroUnlessReaches m s t (Ok count) }
  something path {part} {after} {count} e is copy some few r =
      let long = ap length e in
      let front : take count after ≡ path = ap (take count) copy ∙ take_at part (drop (length part) before) count (sym is) ∙ e in
      let r' = subst (Trace m t s) (sym front) r in
      record {
        answer = (
          neither_refused m.order s t (length before) bs bt room,
          record {
            found = λ _. r';
            none = λ z. absurd (omega arith);
            few = omega arith;
            below = trace_below m t proper r' bs;
            rest = ap (drop count) copy ∙ drop_at part (drop (length part) before) count (sym is) ∙ ap (λ k. drop k before) (sym is);
          },
        );
        unreached = λ n. (λ z. absurd (omega arith), λ f. absurd (f (trace_reaches m t r)));
      }

  -- the same of any slice that has the path's front, and is as it was behind it
  pub something_in_front : (path after : List ℕ) (count : ℕ) → 0 < count → count ≤ m.order → Trace m t s (take count path) →
      take count after ≡ take count path → drop count after ≡ drop count before →
      record { answer : TraceAnswer m s t before after (Ok count); unreached : (Cycle m → ⊥) → ZeroUnlessReaches m s t (Ok count) }
  something_in_front path after count some few r same rest =
      let r' = subst (λ x. Trace m t s x) (sym same) r in
      record {
        answer = (
          neither_refused m.order s t (length before) bs bt room,
          record {
            found = λ _. r';
            none = λ e. absurd (omega arith);
            few = few;
            below = trace_below m t proper r' bs;
            rest = rest;
          },
        );
        unreached = λ n. (λ e. absurd (omega arith), λ f. absurd (f (trace_reaches m t r)));
      }

-- a copy to the start of a list
module _ (out path part : List ℕ) (count : ℕ) (e : part ≡ take count path) (l : count ≤ length path) where
  pub part_length : length part ≡ count
  part_length = ap length e ∙ length-take-le count path l

  pub copied : take count (part ++ drop count out) ≡ take count path
  copied = take_at part (drop count out) count part_length ∙ e

  pub left : drop count (part ++ drop count out) ≡ drop count out
  left = drop_at part (drop count out) count part_length
