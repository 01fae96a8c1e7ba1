use Rattle.std.proofs.Common.{◌≡◌, map, drop}
use Rattle.sorted_list.specs.Lists.{held}
use Rattle.rules.specs.Drawing.{edge_from, drawn_into}
use Rattle.ledger.proofs.row.Row.draw.Given as goal

-- the edges of the locks that are left make of the list what those of all locks make of it
abbrev pub invariant-loop-i : goal.invariant-loop-i
invariant-loop-i l =
    let f = edge_from l.self l.t l.o in
    (drawn_into (held l.edges) (map f (drop l.i l.held))
    ≡ drawn_into (held l.initial.edges) (map f l.held))
    × (l.edges.places.ghost_name ≡ l.initial.edges.places.ghost_name)
