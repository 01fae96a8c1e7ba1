use Rattle.std.proofs.Common.{rules, ◌/◌, ◌%◌, get_or, arith}
use Rattle.std.proofs.lemmas.List.{get_or_past}
use lib.Bits.{bit_or}
use Rattle.order.proofs.Words.{or_bit}
use Rattle.order.proofs.Made.{made_at}
use Rattle.order.proofs.bits.Bits.merge.Goals as goal

pub returns : goal.returns
returns c j =
    let a = c.args.self.now.words in
    let b = c.args.other.now.words in
    let made = made_at (λ k. bit_or (get_or a k 0) (get_or b k 0)) (λ k r q m. (search rules, search rules)) c.from_fn.ensures.items
    (λ k l. rw (get_or_past a k 0 (omega arith), get_or_past b k 0 (omega arith))) in
    rw (made (j / 64)) (or_bit (get_or a (j / 64) 0) (get_or b (j / 64) 0) (j % 64))
