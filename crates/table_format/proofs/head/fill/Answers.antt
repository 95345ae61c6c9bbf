use Rattle.std.proofs.Common.{◌≡◌, ◌-◌, length, take, ap, subst, ◌∙◌, arith, rules, length-take}
use Rattle.std.proofs.lemmas.List.{take_all}
use Rattle.vm_host.specs.declared.Slot.TheVariants.{Second}
use Rattle.vm_host.specs.ReadUpTo.{Took}
use Rattle.vm_host.proofs.Reading.{took_piece}
use Rattle.table_format.proofs.Texts.{part_put}
use Rattle.table_format.proofs.Drawn.{takes_stops, takes_cut, takes_all}
use Rattle.table_format.proofs.head.fill.Goals as goal

pub returns-in_err-count : goal.returns-in_err-count
returns-in_err-count g c = takes_stops c.args.offset (length c.args.into.now) _ c.from_residual.result c.from_residual.ensures.1 c.pieces.invariant.took c.in_err-count.ensures

pub returns-then-count-eq0 : goal.returns-then-count-eq0
returns-then-count-eq0 g c =
    let i = c.pieces.invariant in
    let room : length c.read_piece.new.into ≡ length c.pieces.into - c.pieces.filled = search rules in
    takes_cut c.args.offset (length c.args.into.now) _ i.took c.in_ok-count.ensures c.if-count-eq0.true (omega (arith, room, c.pieces-test.true)) (omega (arith, length-take c.pieces.filled c.pieces.into, c.pieces-test.true, i.long, i.within))
    (omega (arith, length-take c.pieces.filled c.pieces.into, i.within))

pub pieces-preserved : goal.pieces-preserved
pieces-preserved g c =
    let i = c.pieces.invariant in
    let room : length c.read_piece.new.into ≡ length c.pieces.into - c.pieces.filled = search rules in
    let read = c.in_ok-count.ensures.ok in
    let put = part_put c.pieces.filled c.in_ok-count.count c.pieces.into c.read_piece.new.into i.within room read.bound in
    record {
      took = subst (Took Second _ _) put.0 (took_piece Second _ _ _ _ _ _ i.took read);
      within = omega (arith, put.1, room, read.bound);
      long = put.1 ∙ i.long;
    }

pub returns : goal.returns
returns g c =
    let i = c.pieces.invariant in
    let all : take c.pieces.filled c.pieces.into ≡ c.pieces.into = take_all c.pieces.filled c.pieces.into c.pieces-test.false in
    takes_all c.args.offset (length c.args.into.now) i.took all (ap length all ∙ i.long)
