use Rattle.gadget_time.specs.lemmas.FormSound.{form_no_hint}
use Rattle.adapter_mem.specs.Memory.{memory_form}
use Rattle.chip_io.specs.Reveal.{reveal_table}
use Rattle.adapter_mem.proofs.MemoryIsForm.{memory_table_form}
use Rattle.chip_io.specs.lemmas.Reveal.{reveal_laws, reveal_no_hints}
use Rattle.chip_io.proofs.reveal.RevealCoreMemoryCore.hint.Goals as goal

pub returns : goal.returns
returns c = form_no_hint (memory_form reveal_table) c.args.hi (memory_table_form reveal_table reveal_laws) reveal_no_hints c.args.row.now
