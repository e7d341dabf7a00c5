use Rattle.std.proofs.Common.{eqb, take, refl}
use Rattle.std.proofs.lemmas.Bool.{ne_eqb}
use Rattle.asking.proofs.Verdicts.{found_claim, verdict_right, first_right, first_goal}
use Rattle.collection.specs.Moves.{equality}
use Rattle.collection.proofs.Answering.{vertices}
use Rattle.collection.proofs.machine.ask_line.Goals as goal

pub returns : goal.returns
returns g c =
    let m = g.G.Digraph.model c.args.graph.now in
    let asked = c.in_ok-answer.ensures.asked in
    let both = vertices m.order c.args.s c.args.t 512 asked.0 in
    let a = c.in_ok-answer.answer in
    let all = take a.opened c.ask.new.opened in
    -- the search with no test but the equality answers right
    let claim = found_claim m (g.met.G.Digraph.proper c.args.graph.now) (equality c.args.t) c.args.s c.args.t
    (λ w _. first_right m w c.args.t _ (eqb w c.args.t) refl (λ ne. rw (ne_eqb w c.args.t ne) tt))
    (λ w. first_goal m w c.args.t _ (eqb w c.args.t) refl) _ a all both.0 refl asked.1.found in
    (both.0, both.1, (a, all, asked.1.found, verdict_right m c.args.s c.args.t a.verdict claim, c.ask-2.ensures))
