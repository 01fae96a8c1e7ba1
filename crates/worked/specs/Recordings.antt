-- Recordings, as the bytes of their files.
-- Assumes nothing.
use Rattle.std.specs.Prelude.{ℕ, zero, suc, List, [], ◌∷◌, ◌++◌, codes}
use Rattle.rows.specs.declared.event.Event.{Event}
use Rattle.rows.specs.declared.event.Event.TheVariants.{Start}
use Rattle.feed.specs.Files.{file_of}

-- Thread 0 starts thread 1; then 0 nests locks 1 and 2, and 1 nests 2 and 1.
abbrev pub two_threads : List ℕ
two_threads = codes "s(T0,T1)\nl(T0,L1)\nl(T0,L2)\nu(T0,L2)\nu(T0,L1)\nl(T1,L2)\nl(T1,L1)\nu(T1,L1)\nu(T1,L2)\n"

-- The same, but the start comes behind the last release of thread 0.
abbrev pub start_after_release : List ℕ
start_after_release = codes "l(T0,L1)\nl(T0,L2)\nu(T0,L2)\nu(T0,L1)\ns(T0,T1)\nl(T1,L2)\nl(T1,L1)\nu(T1,L1)\nu(T1,L2)\n"

-- As `two_threads`, but each nest stands inside lock 0.
abbrev pub gate_lock : List ℕ
gate_lock =
    codes "s(T0,T1)\nl(T0,L0)\nl(T0,L1)\nl(T0,L2)\nu(T0,L2)\nu(T0,L1)\nu(T0,L0)\n"
    ++ codes "l(T1,L0)\nl(T1,L2)\nl(T1,L1)\nu(T1,L1)\nu(T1,L2)\nu(T1,L0)\n"

-- Thread 0 starts 1 and 2; then 0 nests locks 1 and 2, 1 nests 2 and 3, and 2 nests 3 and 1.
abbrev pub three_threads : List ℕ
three_threads =
    codes "s(T0,T1)\ns(T0,T2)\nl(T0,L1)\nl(T0,L2)\nu(T0,L2)\nu(T0,L1)\n"
    ++ (codes "l(T1,L2)\nl(T1,L3)\nu(T1,L3)\nu(T1,L2)\n" ++ codes "l(T2,L3)\nl(T2,L1)\nu(T2,L1)\nu(T2,L3)\n")

-- As `two_threads`; then thread 0 starts 2, and nests locks 1 and 2 once more.
abbrev pub nest_again : List ℕ
nest_again = two_threads ++ codes "s(T0,T2)\nl(T0,L1)\nl(T0,L2)\nu(T0,L2)\nu(T0,L1)\n"

-- Thread 0 starts 2, nests locks 1 and 2, and starts 1, which does nothing. Thread 2 joins 1, and then nests locks 2 and 1.
abbrev pub idle_joined_thread : List ℕ
idle_joined_thread =
    codes "s(T0,T2)\nl(T0,L1)\nl(T0,L2)\nu(T0,L2)\nu(T0,L1)\ns(T0,T1)\n"
    ++ codes "j(T2,T1)\nl(T2,L2)\nl(T2,L1)\nu(T2,L1)\nu(T2,L2)\n"

abbrev pub empty : List ℕ
empty = []

-- The starts by thread 0 of so many threads, from u on.
abbrev pub starts : ℕ → ℕ → List Event
starts zero u = []
starts (suc n) u = Start 0 u ∷ starts n (suc u)

-- Thread 0 starts the threads 1 to 63.
abbrev pub many_starts : List ℕ
many_starts = file_of (starts 63 1)

-- The same, and then it joins thread 1.
abbrev pub many_starts_joined : List ℕ
many_starts_joined = many_starts ++ codes "j(T0,T1)\n"

abbrev pub lock_63 : List ℕ
lock_63 = codes "l(T0,L63)\n"

abbrev pub lock_64 : List ℕ
lock_64 = codes "l(T0,L64)\n"

-- A line that ends early, and one with a needless zero.
abbrev pub cut_line : List ℕ
cut_line = codes "l(T0,L1"

abbrev pub leading_zero : List ℕ
leading_zero = codes "l(T00,L1)"
