use Rattle.std.proofs.Common.{arith}
use Rattle.std.proofs.lemmas.Grind.{common_steps}
use Rattle.elf_image.specs.Loaded.{text_of}
use Rattle.rv_run.proofs.CodeLemmas.{decoded_more}
use Rattle.rv_run.proofs.code.Code.new.Goals as goal

pub loop-place-preserved : goal.loop-place-preserved
loop-place-preserved c =
    let more = decoded_more (text_of c.args.image.now) c.loop-place.place c.loop-place.lines.items c.loop-place.invariant (omega arith) in
    grind (arith, common_steps, more, c.decoded_at.ensures)
