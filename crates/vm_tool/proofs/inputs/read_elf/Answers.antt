use Rattle.std.proofs.Common.{◌∙◌, sym}
use Rattle.vm_tool.proofs.Files.{image_halts}
use Rattle.vm_tool.proofs.inputs.read_elf.Goals as goal

pub returns : goal.returns
returns g c =
    let file = c.in_ok-bytes.ensures in
    let same = c.deref.ensures.value ∙ sym file.2.0 in
    rw (c.image_halt.ensures) (image_halts _ file.0 _ _ c.in-Err.error file.1 file.2.1 (rw same at c.in-Err.ensures.refused))
