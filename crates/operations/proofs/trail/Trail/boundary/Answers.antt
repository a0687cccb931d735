-- The chain yields the places of the decisions.
use Rattle.std.proofs.Common.{map, rules, tests, sym, ap, ◌∙◌}
use Rattle.std.proofs.lemmas.Iterator.{YieldsList-from_slice, YieldsList-from_map}
use Rattle.std.proofs.lemmas.Iterator.Consumers.{YieldsList-at, YieldsList-from_enumerate, YieldsList-from_filter, nth_from_yields_List}
use Rattle.std.proofs.lemmas.Iterator.Adapters.{option_map_id}
use Rattle.std.specs.List.{slice_get}
use Rattle.operations.specs.Entries.{decides}
use Rattle.operations.proofs.Undos.{boundary, decided_from}
use Rattle.operations.proofs.trail.Trail.boundary.Goals as goal

pub returns : goal.returns
returns c =
    let es = c.args.self.now.entries.items in
    let f = nth_from_yields_List c.nth.result c.nth.new.self _ c.nth.ensures.ran
    (YieldsList-from_map _ (λ q. q.0)
    (YieldsList-at c.map.ensures.source
    (YieldsList-from_filter _ (λ q. decides q.1.cause) (YieldsList-from_enumerate (YieldsList-from_slice es cc) cc) c.filter.ensures.closure (λ x r q k. search (rules, tests))))
    c.map.ensures.closure (λ x r q k. search rules)) in
    boundary c.args.decisions es c.nth.result (sym (option_map_id c.nth.result) ∙ f ∙ ap (slice_get (map (λ q. q.0) (decided_from 0 es))) c.from.ensures)
