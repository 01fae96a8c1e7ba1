use Rattle.std.proofs.Common.{[], ◌∷◌, ◌++◌, sym, ap, ◌∙◌, subst}
use Rattle.search.specs.Levels.{Seen}
use Rattle.search.specs.Stacks.{stacked}
use Rattle.search.proofs.Stacking.{seen_next}
use Rattle.search.proofs.stack.Stack.push.Goals as goal

pub invariant_of-self : goal.invariant_of-self
invariant_of-self c =
    let s = c.args.self.now in
    record {
      seen = subst (Seen 0 0) (sym (c.push.ensures.items ∙ ap (λ l. stacked s ++ l ∷ []) c.next_level-level.ensures))
          (seen_next s c.args.place c.args.edge);
    }
