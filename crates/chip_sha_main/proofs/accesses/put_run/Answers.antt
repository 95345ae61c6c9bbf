use Rattle.std.proofs.Common.{◌≡◌, ℕ, ◌+◌, ◌++◌, map, take, ap, subst, ◌∙◌, arith, slice_index, length-set}
use Rattle.std.specs.List.{range_with_len}
use Rattle.chip_sha_main.proofs.Loops.{touch_of, run_more, run_is}
use Rattle.chip_sha_main.proofs.accesses.put_run.Goals as goal

pub loop-i-preserved : goal.loop-i-preserved
loop-i-preserved c =
    let run = c.args.run.now in
    record {
      long = length-set c.loop-i.all (run.slot + c.loop-i.i) c.run_touch.result ∙ c.loop-i.invariant.long;
      front = run_more (slice_index c.args.rest.now) run c.args.count c.args.base c.loop-i.all c.args.all.now c.loop-i.i c.run_touch.result (omega (arith, c.loop-i.invariant.long, c.requires.slots, c.loop-i-test.true)) c.run_touch.ensures c.loop-i.invariant.front;
    }

pub returns-clause-front : goal.returns-clause-front
returns-clause-front c =
    let run = c.args.run.now in
    let end : c.loop-i.i ≡ run.words = omega (arith, c.loop-i.auto.i-end, c.loop-i-test.false) in
    let F = touch_of (slice_index c.args.rest.now) run c.args.count c.args.base in
    subst (λ (k : ℕ). take (run.slot + k) c.loop-i.all ≡ take run.slot c.args.all.now ++ map F (range_with_len 0 k)) end c.loop-i.invariant.front
    ∙ ap (λ ts. take run.slot c.args.all.now ++ ts) (run_is (slice_index c.args.rest.now) run c.args.count c.args.base)
