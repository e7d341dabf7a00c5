use Rattle.std.proofs.Common.{ap, ◌∙◌, rules, tests}
use Rattle.std.proofs.lemmas.Iterator.{YieldsList-from_slice}
use Rattle.std.proofs.lemmas.Iterator.Search.{any_from_yields_List}
use Rattle.std.specs.List.{list_any}
use Rattle.graph.specs.Table.{is_arc}
use Rattle.graph.specs.ListModel.{entries}
use Rattle.graph.proofs.Tables.{has_any}
use Rattle.graph.proofs.list.ArcList.has_entry.Goals as goal

pub returns : goal.returns
returns c =
    any_from_yields_List (is_arc c.args.u c.args.v) _ _ _ c.any.ensures.ran (YieldsList-from_slice c.entries.result.now cc) (λ x b q k. search (rules, tests))
    ∙ ap (list_any (is_arc c.args.u c.args.v)) c.entries.ensures ∙ has_any (entries c.args.self.now) c.args.u c.args.v
