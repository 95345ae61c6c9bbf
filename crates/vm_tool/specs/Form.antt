-- A form as the command that it is.
use Rattle.vm_tool.specs.declared.command.Form.{Form}
use Rattle.vm_tool.specs.declared.command.Form.TheVariants.{Run, Transpile, Check, Prove, Sample}
use Rattle.vm_tool.specs.Command.{Command, run, transpile, check, prove, sample}

abbrev pub command_of : Form → Command
command_of (Run elf hints steps) = run elf.now hints.now steps
command_of (Transpile elf) = transpile elf.now
command_of (Check elf tables) = check elf.now tables.now
command_of (Prove elf hints out per_segment) = prove elf.now hints.now out.now per_segment
command_of (Sample number out) = sample number out.now
