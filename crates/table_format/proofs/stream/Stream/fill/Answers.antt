use Rattle.std.proofs.Common.{◌≡◌, ◌-◌, ◌<◌, ◌≤◌, ◌++◌, length, take, refl, sym, ap, ◌∙◌, arith, rules, length-take}
use Rattle.std.proofs.lemmas.Result.{err_from_is_err_and}
use Rattle.std.proofs.lemmas.List.{take_all}
use Rattle.readings.specs.Readings.{raw}
use Rattle.table_format.specs.declared.reason.Reason.TheVariants.{Cut}
use Rattle.table_format.proofs.Texts.{part_put}
use Rattle.table_format.proofs.Draws.{draws_none, draws_both, draws_given, gave_raw, stops_raw, stopped, none_given, not_ready}
use Rattle.table_format.proofs.stream.Stream.fill.Goals as goal

pub pieces-init : goal.pieces-init
pieces-init g c = record {
  got = (draws_none c.args.self.now (g.H.Host.state c.args.host.now) c.requires.open, refl);
  within = omega arith;
}

pub returns-in_err-ready : goal.returns-in_err-ready
returns-in_err-ready g c =
    let p = err_from_is_err_and c.from_residual.result c.from_residual.ensures.1 in
    rw (p.1, p.2) (stopped (raw Cut (length c.args.into.now)) _ _ _ _ _ _ _ _ c.pieces.invariant.got.0 c.in_err-ready.ensures.draws c.in_err-ready.ensures.fault c.in_err-ready.ensures.refused)

pub returns-then-not-branch : goal.returns-then-not-branch
returns-then-not-branch g c =
    let got = c.pieces.invariant.got in
    let r = c.in_ok-ready.ensures in
    let d = draws_both got.0 r.draws in
    let few : length d.given < length c.args.into.now = omega (arith, d.place, got.0.place, r.none, ap length got.1, length-take c.pieces.filled c.pieces.into, c.pieces.invariant.within, c.pieces-test.true, c.pieces.auto.into) in
    let f = c.if-not-branch.true in
    let end = not_ready c.in_ok-ready.field-0 _ (g.H.Host.state c.ready.new.host) f r.ready in
    record {
      kept = d;
      fault = tt;
      ok = tt;
      refused = rw c.offset.ensures (stops_raw (length c.args.into.now) d end.0 end.1 few);
    }

pub pieces-preserved : goal.pieces-preserved
pieces-preserved g c =
    let got = c.pieces.invariant.got in
    let n = c.give.result in
    let r = c.in_ok-ready.ensures in
    let w = c.give.ensures in
    let room : length c.give.new.into ≡ length c.pieces.into - c.pieces.filled = search rules in
    let fits : n ≤ length c.give.new.into = omega (arith, w.some.0, room) in
    let put = part_put c.pieces.filled n c.pieces.into c.give.new.into c.pieces.invariant.within room fits in
    let d = draws_both got.0 (draws_both r.draws (draws_given (g.H.Host.state c.ready.new.host) n (take n c.give.new.into) r.draws.took.is_open w.given)) in
    record {
      got = (d, ap (λ k. k ++ (r.draws.given ++ take n c.give.new.into)) got.1 ∙ ap (λ k. take c.pieces.filled c.pieces.into ++ (k ++ take n c.give.new.into)) (none_given r.draws r.none) ∙ put.0);
      within = omega (arith, put.1, room, fits);
    }

pub returns : goal.returns
returns g c =
    let got = c.pieces.invariant.got in
    let all : got.0.given ≡ c.pieces.into = got.1 ∙ take_all c.pieces.filled c.pieces.into c.pieces-test.false in
    record {
      kept = got.0;
      fault = tt;
      ok = (got.0.given, sym all, gave_raw (length c.args.into.now) got.0 (ap length all ∙ c.pieces.auto.into));
      refused = tt;
    }
