-- How the records of the tests stand to each other, and the blank ones.
-- Assumes nothing.
use Rattle.std.specs.Prelude.{[], ◌∷◌}
use Rattle.std.specs.declared.cmp.Ordering.{Ordering}
use Rattle.std.specs.Cmp.Lexicographic.{slice_cmp}
use Rattle.std.specs.Ordering.{ordering_then, nat_cmp}
use Rattle.sorted_list_tests.specs.declared.job.Job.{Job}
use Rattle.sorted_list_tests.specs.declared.job.Kind.TheVariants.{Read}
use Rattle.sorted_list_tests.specs.declared.pair.Pair.{Pair}

abbrev pub pair_rank : Pair → Pair → Ordering
pair_rank p q = ordering_then (nat_cmp p.left q.left) (nat_cmp p.right q.right)

abbrev pub no_pair : Pair
no_pair = record { left = 0; right = 0 }

abbrev pub job_rank : Job → Job → Ordering
job_rank p q = slice_cmp nat_cmp p.name q.name

abbrev pub no_job : Job
no_job = record { kind = Read; name = 0 ∷ 0 ∷ [] }
