-- How a run ends: what is printed stands at the front of the output. Assumes nothing.
use Rattle.std.proofs.Common.{◌≡◌, ℕ, ◌^◌, ◌<◌, ◌≤◌, List, [], ◌++◌, length, take, drop, Some, None, Ok, Err, Option, Result, sym, ap, ◌∙◌, subst, arith}
use Rattle.std.proofs.lemmas.List.{take-append-drop}
use Rattle.answers.specs.declared.output.Output.{Output}
use Rattle.answers.specs.declared.output.NoRoom.{NoRoom}
use Rattle.answers.specs.Appending.{whole, text_of, beyond, Grows, Appended}
use Rattle.answers.specs.Printed.{fault_line}
use Rattle.answers.proofs.Room.{fault_short}
use Rattle.collection.specs.declared.faults.FileFault.{FileFault}
use Rattle.collection.specs.Faults.{fault_number}
use Rattle.collection.specs.Runs.{printed, fault_of, Done, Outcome}
use Rattle.collection.specs.Parts.{InputDone}
use Rattle.collection.proofs.Lines.{grows_then}

-- all bytes of an output of which nothing was written, after the text
grown : (o p : Output) (before text : List ℕ) → o.used ≡ 0 → whole o ≡ before → Grows o text p →
    (whole p ≡ text ++ drop (length text) before) × (p.used ≡ length text)
grown o p before text z e g =
    let none : text_of o ≡ [] = ap (λ n. take n (whole o)) z in
    let all : beyond o ≡ before = ap (λ n. drop n (whole o)) z ∙ e in (
      cc (take-append-drop p.used (whole p)),
      omega (arith, g.used),
    )

-- what `run` promises
pub record Closed (input before after : List ℕ) (n : ℕ) (f : Option FileFault) : Type 0 where
  pub done : Done input before (record { written = n; fault = f }) after
  pub within : n ≤ length before

module _ (input before after : List ℕ) (n : ℕ) (o₀ o : Output) (r : Result (Unit {0}) FileFault)
    (size : length before ≡ 65536) (z : o₀.used ≡ 0) (e : whole o₀ ≡ before) (all : InputDone input o₀ r o) where
  -- a fault is printed last, since its line has room
  pub closed : (f : FileFault) (k : ℕ) (line : List ℕ) (q : Result (Unit {0}) NoRoom) (p : Output) → r ≡ Err f → k ≡ fault_number f.fault → k < 2 ^ 16 → f.line < 2 ^ 32 →
      line ≡ fault_line k f.line → Appended o line 0 q p → n ≡ p.used → after ≡ whole p → Done input before (record { written = n; fault = Some f }) after
  closed f k line (Err x) p ill num small-k small-l is full m a =
      absurd (omega (arith, full.0, all.2.spare, all.2.size, ap length is, fault_short k f.line small-k small-l))
  closed f k line (Ok x) p ill num small-k small-l is (room, grows) m a =
      let text : line ≡ fault_line (fault_number f.fault) f.line = is ∙ ap (λ j. fault_line j f.line) num in
      let g = grown o₀ p before _ z e (rw text at (grows_then o₀ all.0 o all.2.grows line p grows)) in
      record {
        other = λ ne. absurd (ne size);
        sized = λ _. (all.0, Err f, subst (Outcome input all.0) ill all.1, (λ i. record { written = (m ∙ g.1) i; fault = Some f }), a ∙ g.0);
      }

  -- the run ends so, if all that is printed is the text of p
  pub closes : (p : Output) → Grows o₀ (printed all.0 r) p → n ≡ p.used → after ≡ whole p → p.used ≤ 65536 → Closed input before after n (fault_of r)
  closes p grows m a small =
      let text = printed all.0 r in
      let g = grown o₀ p before text z e grows in
      let len = m ∙ g.1 in
      record {
        done = record {
          other = λ ne. absurd (ne size);
          sized = λ _. (all.0, r, all.1, (λ i. record { written = len i; fault = fault_of r }), a ∙ g.0);
        };
        within = omega arith;
      }

  -- no fault
  pub closed_well : r ≡ Ok tt → n ≡ o.used → after ≡ whole o → Closed input before after n None
  closed_well ok m a =
      subst (λ q. Closed input before after n (fault_of q)) ok
      (closes o (subst (λ q. Grows o₀ (printed all.0 q) o) (sym ok) all.2.grows) m a (omega (arith, all.2.spare)))

  -- a fault, whose line has room
  pub closed_ill : (f : FileFault) (k : ℕ) (line : List ℕ) (q : Result (Unit {0}) NoRoom) (p : Output) → r ≡ Err f → k ≡ fault_number f.fault → k < 2 ^ 16 → f.line < 2 ^ 32 →
      line ≡ fault_line k f.line → Appended o line 0 q p → n ≡ p.used → after ≡ whole p → Closed input before after n (Some f)
  closed_ill f k line (Err x) p ill num small-k small-l is full m a =
      absurd (omega (arith, full.0, all.2.spare, all.2.size, ap length is, fault_short k f.line small-k small-l))
  closed_ill f k line (Ok x) p ill num small-k small-l is (room, grows) m a =
      let text : line ≡ fault_line (fault_number f.fault) f.line = is ∙ ap (λ j. fault_line j f.line) num in
      subst (λ q. Closed input before after n (fault_of q)) ill
      (closes p
      (subst (λ q. Grows o₀ (printed all.0 q) p) (sym ill)
      (subst (λ t. Grows o₀ (all.0 ++ t) p) text (grows_then o₀ all.0 o all.2.grows line p grows)))
      m a (omega (arith, all.2.size)))
