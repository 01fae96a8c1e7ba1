use Rattle.std.proofs.Common.{rules}
use Rattle.rows.proofs.Deciding.{row_decides}
use Rattle.rows.proofs.row.CircleRow.is_circle.Goals as goal

pub returns-clause-decides : goal.returns-clause-decides
returns-clause-decides c = row_decides c.args.self.now c.is_some_and.result (search rules)
