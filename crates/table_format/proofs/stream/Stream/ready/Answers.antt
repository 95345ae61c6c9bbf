use Rattle.std.proofs.Common.{◌≡◌, ◌+◌, ◌<◌, [], length, take, refl, ap, arith, rules}
use Rattle.std.specs.Vec.{with_items}
use Rattle.std.proofs.lemmas.List.{with_items_is}
use Rattle.table_format.specs.Stream.{Held}
use Rattle.table_format.proofs.Draws.{draws_none, draws_piece, draws_same, draws_refused, is_ready}
use Rattle.table_format.proofs.stream.Stream.ready.Goals as goal

pub returns-then-not-is_empty : goal.returns-then-not-is_empty
returns-then-not-is_empty g c = record {
  draws = draws_none c.args.self.now (g.H.Host.state c.args.host.now) c.requires.open;
  none = refl;
  ready = λ empty. let t = c.is_empty.ensures.1 empty in let f = c.if-not-is_empty.true in absurd (cc);
  fault = tt;
  refused = tt;
}

pub returns-in-Ok : goal.returns-in-Ok
returns-in-Ok g c =
    let i = c.self.inside in
    let at : i.start + i.at ≡ c.args.self.now.at = ap (λ (h : Held). h.at) c.self.view_is in
    let place : (i.start + i.at) + 0 ≡ c.args.self.now.at = omega (arith, at) in
    let none : c.args.self.now.ahead ≡ [] = c.is_empty.ensures.0 c.if-not-is_empty.false in
    let same : length c.read.new.into ≡ length i.piece.items = search rules in
    let size : length c.read.new.into ≡ i.piece.len = search rules in
    let room : 0 < length c.read.new.into = omega (arith, c.self.invariant.2, same) in
    let whole : (with_items i.piece c.read.new.into).items ≡ c.read.new.into = with_items_is i.piece c.read.new.into size in
    let held = ap (take c.in-Ok.count) whole in
    record {
      draws = draws_piece {a = c.args.self.now} {s = g.H.Host.state c.args.host.now} {t = g.H.Host.state c.read.new.self} c.in-Ok.count c.read.new.into c.requires.open none c.in-Ok.ensures held place;
      none = place;
      ready = is_ready _ (g.H.Host.state c.read.new.self) c.in-Ok.count c.read.new.into held c.in-Ok.ensures.bound (λ zero. c.in-Ok.ensures.end zero room);
      fault = tt;
      refused = tt;
    }

pub returns-then-is_none : goal.returns-then-is_none
returns-then-is_none g c =
    let i = c.self.inside in
    let at : i.start + i.at ≡ c.args.self.now.at = ap (λ (h : Held). h.at) c.self.view_is in
    let place : (i.start + i.at) + 0 ≡ c.args.self.now.at = omega (arith, at) in
    let none : c.args.self.now.ahead ≡ [] = c.is_empty.ensures.0 c.if-not-is_empty.false in
    record { draws = draws_same (g.H.Host.state c.args.host.now) c.requires.open none place; none = place; ready = tt; fault = tt; refused = tt }

pub returns-in-Err-OutOfMemory : goal.returns-in-Err-OutOfMemory
returns-in-Err-OutOfMemory g c =
    let i = c.self.inside in
    let at : i.start + i.at ≡ c.args.self.now.at = ap (λ (h : Held). h.at) c.self.view_is in
    let place : (i.start + i.at) + 0 ≡ c.args.self.now.at = omega (arith, at) in
    let none : c.args.self.now.ahead ≡ [] = c.is_empty.ensures.0 c.if-not-is_empty.false in
    record { draws = draws_refused _ _ c.requires.open none place c.in-Err-OutOfMemory.ensures; none = place; ready = tt; fault = tt; refused = tt }
