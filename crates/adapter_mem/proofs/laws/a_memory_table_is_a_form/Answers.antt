use Rattle.adapter_mem.proofs.MemoryIsForm.{memory_table_form}
use Rattle.adapter_mem.proofs.laws.a_memory_table_is_a_form.Goals as goal

pub returns : goal.returns
returns c = memory_table_form
