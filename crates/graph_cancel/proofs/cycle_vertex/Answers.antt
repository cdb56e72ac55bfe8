-- The bitsets hold what each vertex reaches; the lowest vertex of the set on a cycle is the lowest that is on one.
use mathlib.Core.Path.{◌∙◌}
use Rattle.graph_cancel.proofs.Bitsets.{counted, vertex_found}
use Rattle.graph_cancel.proofs.cycle_vertex.Goals as goal

pub returns : goal.returns
returns c =
    let given = c.requires in
    let reach = c.reach in
    let bitsets = counted _ _ _ reach.new.bitsets _ _ given.0 reach.ensures in record {
      value = c.min.ensures ∙ vertex_found _ _ _ reach.new.bitsets _ _ _ given.1 bitsets c.on_cycles-on.ensures c.lowest.ensures;
      by_index = bitsets;
    }
