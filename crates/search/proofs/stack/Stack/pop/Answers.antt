use Rattle.search.proofs.Stacking.{seen_rest}
use Rattle.search.proofs.stack.Stack.pop.Goals as goal

pub invariant_of-self : goal.invariant_of-self
invariant_of-self c = record { seen = seen_rest c.args.self.now c.pop.new.self.items c.pop.result c.pop.ensures.items }
