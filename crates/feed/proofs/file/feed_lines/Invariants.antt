use Rattle.std.proofs.Common.{◌≡◌, ◌+◌, ◌≤◌, length}
use Rattle.feed.specs.Lines.{lines}
use Rattle.feed.proofs.Counting.{counted_from}
use Rattle.feed.proofs.file.feed_lines.Given as goal

abbrev pub invariant-loop-bytes : goal.invariant-loop-bytes
invariant-loop-bytes l =
    (counted_from l.line l.bytes-iterator ≡ counted_from 0 (lines l.file))
    × (l.line + length l.bytes-iterator ≤ length (lines l.file))
