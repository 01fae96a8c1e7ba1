use Rattle.std.proofs.Common.{replicate, sym, length-take-le, arith, of_calls}
use Rattle.std.specs.Fn.{FnOnceReturnsAtMut}
use Rattle.console.proofs.Known.{appends_nothing}
use Rattle.console.proofs.print.print_line.Goals as goal

pub returns-in_default : goal.returns-in_default
returns-in_default g c =
    let ran : FnOnceReturnsAtMut g.F.FnOnce c.args.put (replicate 1024 0) c.put.result c.put.new.arg2 = search of_calls in
    (c.put.result, c.put.new.arg2, ran, rw c.in_default.is (appends_nothing _))

pub slice_bounds-line-end : goal.slice_bounds-line-end
slice_bounds-line-end g c =
    let ran : FnOnceReturnsAtMut g.F.FnOnce c.args.put (replicate 1024 0) c.put.result c.put.new.arg2 = search of_calls in
    let within = rw c.in-Ok.is at (c.requires.within c.put.result c.put.new.arg2 ran) in
    omega arith

pub slice_bounds-write_all-end : goal.slice_bounds-write_all-end
slice_bounds-write_all-end g c =
    let ran : FnOnceReturnsAtMut g.F.FnOnce c.args.put (replicate 1024 0) c.put.result c.put.new.arg2 = search of_calls in
    let within = rw c.in-Ok.is at (c.requires.within c.put.result c.put.new.arg2 ran) in
    sym (length-take-le c.in-Ok.end c.put.new.arg2 (omega arith))

pub returns : goal.returns
returns g c =
    let ran : FnOnceReturnsAtMut g.F.FnOnce c.args.put (replicate 1024 0) c.put.result c.put.new.arg2 = search of_calls in
    (c.put.result, c.put.new.arg2, ran, rw c.in-Ok.is c.in_ok-write_all.ensures.bytes)
