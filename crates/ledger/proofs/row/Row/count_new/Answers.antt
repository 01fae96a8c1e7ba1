use Rattle.std.proofs.Common.{◌≡◌, not, count_by, ◌∙◌, rules}
use Rattle.sorted_list.specs.Lists.{held, present}
use Rattle.rows.specs.Orders.{rank_edge}
use Rattle.rules.specs.Drawing.{edge_from}
use Rattle.ledger.proofs.Drawing.{new_counted}
use Rattle.ledger.proofs.row.Row.count_new.Goals as goal

pub returns : goal.returns
returns c =
    let f = edge_from c.args.self.now c.args.t c.args.o in
    let records = (held c.args.edges.now).records in
    let counted : c.count.result ≡ count_by (λ l. not (present rank_edge records (f l))) c.args.self.now.locks = search rules in
    counted ∙ new_counted f records c.args.self.now.locks
