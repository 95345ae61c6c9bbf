use Rattle.std.proofs.Common.{arith}
use Rattle.vm_isa.specs.Slots.{slots_of}
use Rattle.air_core.specs.PathLaws.{time_fits}
use Rattle.gadget_time.proofs.chip.FormChipChip.fill.Goals as goal

pub fill-requires-clause-time_low : goal.fill-requires-clause-time_low
fill-requires-clause-time_low g c =
    let done = c.args.done.now in
    let fits = time_fits g.row.HI done.time (slots_of done.instr.op) c.args.self.now.range.1 c.requires.fillable.ends in
    omega (arith, fits)

pub fill-requires-clause-place : goal.fill-requires-clause-place
fill-requires-clause-place g c = (g.met.T.TableForm.laws.fills g.row.HI c.args.done.now c.args.self.now.range.1 c.requires.fillable c.requires.taken).below
