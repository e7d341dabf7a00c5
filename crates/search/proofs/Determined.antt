-- The promises leave one answer and one content of the slice. Assumes nothing.
use Rattle.std.proofs.Common.{◌≡◌, ℕ, zero, suc, ◌≤◌, List, length, take, drop, Some, None, Ok, Err, Option, Result, sym, refl, ap, ◌∙◌, arith, take-append-drop, Bool, cond, leb, ltb}
use Rattle.search.specs.declared.Refusal.TheVariants.{NoVertex, ShortSlice}
use Rattle.std.proofs.lemmas.Bool.Decides.{nat_tests}
use Rattle.std.proofs.lemmas.List.{length-take-le}
use Rattle.search.specs.declared.Refusal.{Refusal}
use Rattle.graph.specs.Model.{Model}
use Rattle.graph.specs.Paths.{Reaches}
use Rattle.search.specs.Refusals.{refusal, refusal_of_two}
use Rattle.search.specs.Under.{Under, UnderAnswer}
use Rattle.search.specs.Trace.{TraceWritten, TraceAnswer}
use Rattle.search.proofs.Lists.{same_ascending, all_at}
use Rattle.search.proofs.Traces.{trace_one}

-- a call that is not refused has room, whatever the tests of its vertices are
pub enough_by_test : (b : Bool) (room n : ℕ) → cond b (Some NoVertex) (cond (ltb room n) (Some ShortSlice) None) ≡ None → n ≤ room
enough_by_test b room n e = grind (arith, nat_tests)

pub enough_by_tests : (a b : Bool) (room n : ℕ) → cond a (Some NoVertex) (cond b (Some NoVertex) (cond (ltb room n) (Some ShortSlice) None)) ≡ None → n ≤ room
enough_by_tests a b room n e = grind (arith, nat_tests)

enough : (n s room : ℕ) → refusal n s room ≡ None → n ≤ room
enough n s room e = enough_by_test (leb n s) room n e

enough_of_two : (n s t room : ℕ) → refusal_of_two n s t room ≡ None → n ≤ room
enough_of_two n s t room e = enough_by_tests (leb n s) (leb n t) room n e

-- two lists with one written part and one rest
pub same_written : (before after after' : List ℕ) (c d : ℕ) → c ≡ d → take c after ≡ take d after' →
    drop c after ≡ drop c before → drop d after' ≡ drop d before → after ≡ after'
same_written before after after' c d q e f h = cc (take-append-drop c after, take-append-drop d after')

same_count : (after after' : List ℕ) (c d : ℕ) → c ≤ length after → d ≤ length after' → take c after ≡ take d after' → c ≡ d
same_count after after' c d l k e = omega (arith, length-take-le c after l, length-take-le d after' k, ap length e)

pub one_list : (g : Model) (s : ℕ) (xs ys : List ℕ) → Under g s xs → Under g s ys → xs ≡ ys
one_list g s xs ys a b =
    same_ascending xs ys a.ascending b.ascending
    (λ v h. b.all v (all_at (Reaches g s) xs v a.only h))
    (λ v h. a.all v (all_at (Reaches g s) ys v b.only h))

pub clash : {A : Type 0} (o : Option Refusal) (e : Refusal) → o ≡ None → o ≡ Some e → A
clash o e p q = absurd (cc)

pub same_refusal : (o : Option Refusal) (e d : Refusal) → o ≡ Some e → o ≡ Some d → e ≡ d
same_refusal o e d p q = cc

pub one_under_answer_lem : (g : Model) (s : ℕ) (before after after' : List ℕ) (r r' : Result ℕ Refusal) → length after ≡ length before → length after' ≡ length before →
    UnderAnswer g s before after r → UnderAnswer g s before after' r' → (r ≡ r') × (after ≡ after')
one_under_answer_lem g s before after after' (Ok c) (Ok d) l k h i =
    let room = enough g.order s (length before) h.0 in
    let e = one_list g s (take c after) (take d after') h.1.lists i.1.lists in
    let q = same_count after after' c d (omega (arith, h.1.few)) (omega (arith, i.1.few)) e in
    (ap Ok q, same_written before after after' c d q e h.1.rest i.1.rest)
one_under_answer_lem g s before after after' (Ok c) (Err d) l k h i = clash _ d h.0 i.0
one_under_answer_lem g s before after after' (Err c) (Ok d) l k h i = clash _ c i.0 h.0
one_under_answer_lem g s before after after' (Err c) (Err d) l k h i = (ap Err (same_refusal _ c d h.0 i.0), h.1 ∙ sym i.1)

one_written : (g : Model) (s t : ℕ) (after after' before : List ℕ) (c d : ℕ) → TraceWritten g s t before after c → TraceWritten g s t before after' d →
    take c after ≡ take d after'
one_written g s t after after' before zero zero h i = refl
one_written g s t after after' before zero (suc d) h i = absurd (h.none refl (take (suc d) after') (i.found (omega arith)))
one_written g s t after after' before (suc c) zero h i = absurd (i.none refl (take (suc c) after) (h.found (omega arith)))
one_written g s t after after' before (suc c) (suc d) h i = trace_one g t (h.found (omega arith)) (i.found (omega arith))

pub one_trace_answer_lem : (g : Model) (s t : ℕ) (before after after' : List ℕ) (r r' : Result ℕ Refusal) → length after ≡ length before → length after' ≡ length before →
    TraceAnswer g s t before after r → TraceAnswer g s t before after' r' → (r ≡ r') × (after ≡ after')
one_trace_answer_lem g s t before after after' (Ok c) (Ok d) l k h i =
    let room = enough_of_two g.order s t (length before) h.0 in
    let e = one_written g s t after after' before c d h.1 i.1 in
    let q = same_count after after' c d (omega (arith, h.1.few)) (omega (arith, i.1.few)) e in
    (ap Ok q, same_written before after after' c d q e h.1.rest i.1.rest)
one_trace_answer_lem g s t before after after' (Ok c) (Err d) l k h i = clash _ d h.0 i.0
one_trace_answer_lem g s t before after after' (Err c) (Ok d) l k h i = clash _ c i.0 h.0
one_trace_answer_lem g s t before after after' (Err c) (Err d) l k h i = (ap Err (same_refusal _ c d h.0 i.0), h.1 ∙ sym i.1)
