use Rattle.gadget_time.specs.lemmas.FormSound.{form_no_hint}
use Rattle.adapter_mem.specs.Memory.{memory_form}
use Rattle.chip_load.specs.Load.{load_table}
use Rattle.adapter_mem.proofs.MemoryIsForm.{memory_table_form}
use Rattle.chip_load.specs.lemmas.Load.{load_laws, load_no_hints}
use Rattle.chip_load.proofs.load.LoadCoreMemoryCore.hint.Goals as goal

pub returns : goal.returns
returns c = form_no_hint (memory_form load_table) c.args.hi (memory_table_form load_table load_laws) load_no_hints c.args.row.now
