use Rattle.std.proofs.Common.{◌/◌, ◌<◌, length, arith}
use Rattle.order.proofs.Words.{insert_has}
use Rattle.order.proofs.bits.Bits.insert.Goals as goal

pub returns : goal.returns
returns c j =
    let h : c.args.k / 64 < length c.args.self.now.words = omega arith in
    rw c.from.ensures (insert_has c.args.self.now.words c.args.k j h)
