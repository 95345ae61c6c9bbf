use Rattle.gadget_time.specs.lemmas.FormSound.{form_no_hint}
use Rattle.adapter_mem.specs.Memory.{memory_form}
use Rattle.chip_store.specs.Store.{store_table}
use Rattle.adapter_mem.proofs.MemoryIsForm.{memory_table_form}
use Rattle.chip_store.specs.lemmas.Store.{store_laws, store_no_hints}
use Rattle.chip_store.proofs.store.StoreCoreMemoryCore.hint.Goals as goal

pub returns : goal.returns
returns c = form_no_hint (memory_form store_table) c.args.hi (memory_table_form store_table store_laws) store_no_hints c.args.row.now
