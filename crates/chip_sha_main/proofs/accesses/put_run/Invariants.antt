use Rattle.std.proofs.Common.{◌≡◌, ◌+◌, ◌++◌, length, map, take, slice_index}
use Rattle.std.specs.List.{range_with_len}
use Rattle.chip_sha_main.proofs.Loops.{touch_of}
use Rattle.chip_sha_main.proofs.accesses.put_run.Given as goal

abbrev pub invariant-loop-i : goal.invariant-loop-i
invariant-loop-i l = record {
  long : length l.all ≡ 26;
  front : take (l.run.slot + l.i) l.all ≡ take l.run.slot l.fn.all ++ map (touch_of (slice_index l.rest) l.run l.count l.base) (range_with_len 0 l.i);
}
