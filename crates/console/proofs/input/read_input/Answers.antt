use Rattle.console.proofs.Known.{taken}
use Rattle.console.proofs.input.read_input.Goals as goal

pub returns : goal.returns
returns g c = taken 60001 _ _ (rw (c.take.ensures.limit, c.take.ensures.inner, c.in_ok-file.ensures.items) at c.in_ok-read_to_end.ensures.bytes)
