use Rattle.chip_sha_main.specs.Main.{main_row, main_touches}
use Rattle.chip_sha_main.proofs.form.ShaMainFormTableForm.accesses.Goals as goal

pub emit_touches-requires-clause-room : goal.emit_touches-requires-clause-room
unfolding main_row main_touches
emit_touches-requires-clause-room g c = rw (c.touches.ensures, c.flag_sum.ensures) c.requires.room

pub returns-clause-err : goal.returns-clause-err
unfolding main_row main_touches
returns-clause-err g c = rw (c.touches.ensures, c.flag_sum.ensures) at c.emit_touches.ensures.err
