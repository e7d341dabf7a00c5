-- One line of a file, and the reading that goes on from it. Assumes nothing.
use Rattle.std.proofs.Common.{◌≡◌, ℕ, ◌+◌, ◌<◌, ◌≤◌, List, [], ◌∷◌, ◌++◌, length, drop, Some, None, Ok, Err, Option, Result, sym, refl, ap, ◌∙◌, subst, arith}
use Rattle.std.proofs.lemmas.List.{append-nil, append_assoc, length-append, length-drop, drop-drop, take-append-drop}
use Rattle.graph.specs.Model.{Model}
use Rattle.lines.specs.declared.Line.{Line}
use Rattle.lines.specs.declared.NoForm.{NoForm}
use Rattle.lines.specs.Forms.{written}
use Rattle.lines.specs.Reading.{BeginsWith, Steps}
use Rattle.answers.specs.declared.output.Output.{Output}
use Rattle.answers.specs.Appending.{whole as bytes_of, text_of, beyond, Grows}
use Rattle.collection.specs.declared.faults.Fault.{Fault}
use Rattle.collection.specs.declared.faults.Fault.TheVariants.{Form, Order}
use Rattle.collection.specs.declared.machine.Place.TheVariants.{AmongQuestions}
use Rattle.collection.specs.declared.faults.FileFault.{FileFault}
use Rattle.collection.specs.declared.machine.Machine.{Machine}
use Rattle.collection.specs.Moves.{start}
use Rattle.collection.specs.Runs.{Stopped, Reads, whole, early, no_form, stopped, taken}
use Rattle.collection.specs.Parts.{LineDone, Printed, AllDone}

-- a line that is stopped, and what `take_line` then answers
pub stops : (most limit : ℕ) (m : Machine) (g : Model) (o : Output) (l : Line) (r : Result (Unit {0}) Fault) (m' : Machine) (g' : Model) (o' : Output) (y f : Fault) →
    r ≡ Err y → y ≡ f → Stopped most limit m g o.used l f → o'.used ≡ o.used → bytes_of o' ≡ bytes_of o → LineDone most limit m g o l r m' g' o'
stops most limit m g o l r m' g' o' y f e is s u w =
    subst (λ q. LineDone most limit m g o l q m' g' o') (sym (e ∙ ap (λ x. Err x) is)) (s, u, w)

-- an output and a text that fits behind it
module _ (o : Output) (xs : List ℕ) (p : Output) (g : Grows o xs p) where
  -- the output keeps its length
  pub grows_size : o.used + length xs ≤ length (bytes_of o) → length (bytes_of p) ≡ length (bytes_of o)
  grows_size fits =
      omega (
        arith,
        ap length (take-append-drop o.used (bytes_of o)),
        ap length (take-append-drop p.used (bytes_of p)),
        length-append (text_of o) (beyond o),
        length-append (text_of p) (beyond p),
        ap length g.text,
        length-append (text_of o) xs,
        ap length g.past,
        length-drop (length xs) (beyond o),
        length-drop o.used (bytes_of o),
      )

  -- one text after another
  pub grows_then : (ys : List ℕ) (q : Output) → Grows p ys q → Grows o (xs ++ ys) q
  grows_then ys q h = record {
    used = omega (arith, g.used, h.used, length-append xs ys);
    text = h.text ∙ ap (λ t. t ++ ys) g.text ∙ append_assoc (text_of o) xs ys;
    past = h.past ∙ ap (drop (length ys)) g.past ∙ drop-drop (length ys) (length xs) (beyond o) ∙ ap (λ k. drop k (beyond o)) (sym (length-append xs ys));
  }

-- nothing more
pub grows_none : (o : Output) → Grows o [] o
grows_none o = record { used = omega arith; text = sym (append-nil (text_of o)); past = refl }

-- a fault by its parts
file_fault : (y : FileFault) (f : Fault) (n : ℕ) → y.fault ≡ f → y.line ≡ n → y ≡ record { fault = f; line = n }
file_fault y f n p q = λ i. record { fault = p i; line = q i }

-- an output that stays
printed_same : (o₀ : Output) (text : List ℕ) (o o' : Output) → o'.used ≡ o.used → bytes_of o' ≡ bytes_of o → Printed o₀ text o → Printed o₀ text o'
printed_same o₀ text o o' u w p = record { grows = record { used = cc; text = cc; past = cc }; size = cc; spare = omega (arith, p.spare) }

-- the reading has come to the machine m and the graph g, before line n, with `left` unread and the text so far printed
pub record Reading (most limit : ℕ) (g₀ : Model) (input : List ℕ) (o₀ : Output) (m : Machine) (g : Model) (n : ℕ) (left : List ℕ) (o : Output) : Type 0 where
  pub text : List ℕ
  pub short : n + length left ≤ 16385
  pub few : m.arcs < n
  pub printed : Printed o₀ text o
  pub on : (more : List ℕ) (r : Result (Unit {0}) FileFault) → Reads most limit m g n o.used left more r → Reads most limit start g₀ 1 0 input (text ++ more) r

-- at the start, before the first line
pub reading_starts : (most limit : ℕ) (g₀ : Model) (input : List ℕ) (o₀ : Output) (m : Machine) → m ≡ start → (left : List ℕ) → left ≡ input →
    length input ≤ 16384 → o₀.used ≡ 0 → length (bytes_of o₀) ≡ 65536 → Reading most limit g₀ input o₀ m g₀ 1 left o₀
reading_starts most limit g₀ input o₀ m e left i short z size = record {
  text = [];
  short = omega (arith, ap length i);
  few = omega (arith, ap (λ x. x.arcs) e);
  printed = record { grows = grows_none o₀; size = size; spare = omega arith };
  on = λ more r run. rw (e, i, z) at run;
}

module _ {most limit : ℕ} {g₀ : Model} {input : List ℕ} {o₀ : Output} {m : Machine} {g : Model} {n : ℕ} {left : List ℕ} {o : Output}
    (h : Reading most limit g₀ input o₀ m g n left o) where
  -- a line more
  pub line_taken : (l : Line) (rest : List ℕ) (m' : Machine) (g' : Model) (o' : Output) (limit' : ℕ) (q : Result (Unit {0}) Fault) → limit' ≡ limit → q ≡ Ok tt →
      BeginsWith left l rest → LineDone most limit' m g o l q m' g' o' → m'.arcs ≤ m.arcs + 1 → Reading most limit g₀ input o₀ m' g' (n + 1) rest o'
  line_taken l rest m' g' o' limit' q e ok b done few = go (rw ok at done)
    where
      go : LineDone most limit' m g o l (Ok tt) m' g' o' → Reading most limit g₀ input o₀ m' g' (n + 1) rest o'
      go (text, t, grows) =
          let was = h.printed in
          let fits = t.fits in
          let used = grows.used in
          record {
            text = h.text ++ text;
            short = omega (arith, h.short, ap length b.text, length-append (written l) (10 ∷ rest));
            few = omega (arith, h.few);
            printed = record {
              grows = grows_then o₀ h.text o was.grows text o' grows;
              size = grows_size o text o' grows (omega (arith, was.size)) ∙ was.size;
              spare = omega arith;
            };
            on = λ more r run. rw append_assoc (h.on (text ++ more) r (taken b (rw e at t) (rw used at run)));
          }

  -- the end, with nothing more to print
  ends : (r : Result (Unit {0}) FileFault) → Reads most limit m g n o.used left [] r → AllDone most limit g₀ input o₀ r o
  ends r run = (h.text, rw append-nil at (h.on [] r run), h.printed)

  -- a line that is stopped: y is the fault with the line's number
  pub line_stopped : (l : Line) (rest : List ℕ) (m' : Machine) (g' : Model) (o' : Output) (limit' : ℕ) (q : Result (Unit {0}) Fault) (f : Fault)
      (r : Result (Unit {0}) FileFault) (y : FileFault) → limit' ≡ limit → q ≡ Err f → r ≡ Err y → y.fault ≡ f → y.line ≡ n →
      BeginsWith left l rest → LineDone most limit' m g o l q m' g' o' → AllDone most limit g₀ input o₀ r o'
  line_stopped l rest m' g' o' limit' q f r y e ill is fault line b done = go (rw ill at done)
    where
      go : LineDone most limit' m g o l (Err f) m' g' o' → AllDone most limit g₀ input o₀ r o'
      go (s, u, w) =
          let all = ends r (rw (is, file_fault y f n fault line) (stopped b (rw e at s))) in
          (all.0, all.1, printed_same o₀ all.0 o o' u w all.2)

  -- what is left has no permitted form
  pub form_fails : (rest : List ℕ) (q : Result (Option Line) NoForm) (x : NoForm) (r : Result (Unit {0}) FileFault) (y : FileFault) →
      Steps left q rest → q ≡ Err x → r ≡ Err y → y.fault ≡ Form → y.line ≡ n → AllDone most limit g₀ input o₀ r o
  form_fails rest q x r y steps ill is fault line = ends r (rw (is, file_fault y Form n fault line) (no_form (rw ill at steps).0))

  -- nothing is left, among the questions and before
  pub file_ends : left ≡ [] → m.place ≡ AmongQuestions → AllDone most limit g₀ input o₀ (Ok tt) o
  file_ends e p = ends (Ok tt) (rw e (whole p))

  pub file_stops : left ≡ [] → (m.place ≡ AmongQuestions → ⊥) → AllDone most limit g₀ input o₀ (Err (record { fault = Order; line = n })) o
  file_stops e p = ends (Err (record { fault = Order; line = n })) (rw e (early p))

-- what a step of the reader says at a line
pub begins : (s t : List ℕ) (r : Result (Option Line) NoForm) (o : Option Line) (l : Line) → Steps s r t → r ≡ Ok o → o ≡ Some l → BeginsWith s l t
begins s t r o l h p q = subst (λ x. Steps s x t) (p ∙ ap (λ x. Ok x) q) h

-- and at the end
pub ended : (s t : List ℕ) (r : Result (Option Line) NoForm) (o : Option Line) → Steps s r t → r ≡ Ok o → o ≡ None → s ≡ []
ended s t r o h p q = (subst (λ x. Steps s x t) (p ∙ ap (λ x. Ok x) q) h).0

-- a line and its line feed are some bytes
pub shorter : (s t : List ℕ) (l : Line) → BeginsWith s l t → length t < length s
shorter s t l b = omega (arith, ap length b.text, length-append (written l) (10 ∷ t))
