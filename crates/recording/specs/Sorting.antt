-- Records put in order.
-- Assumes nothing.
use Rattle.std.specs.Prelude.{List, length}
use Rattle.std.specs.declared.cmp.Ordering.{Ordering}
use Rattle.sorted_list.specs.Lists.{opened}
use Rattle.sorted_list.specs.Laws.{filled}

-- The records ascending, each once: what a list that has a place for each of them holds when they were added to it.
abbrev pub sorted : {X : Type 0} → (X → X → Ordering) → X → List X → List X
sorted rank vacant rs = (filled rank (opened vacant (length rs)) rs).records
