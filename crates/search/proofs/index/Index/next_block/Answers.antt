use Rattle.std.proofs.Common.{get_or}
use Rattle.search.proofs.Blocks.{next_bit}
use Rattle.search.proofs.index.Index.next_block.Goals as goal

pub returns : goal.returns
returns c =
    next_bit (get_or c.args.self.now.blocks c.args.lock 0) c.args.block c.in_ok-later.later c.then_some.result
    (rw c.from.ensures at c.in_ok-later.ensures.1) c.then_some.ensures
