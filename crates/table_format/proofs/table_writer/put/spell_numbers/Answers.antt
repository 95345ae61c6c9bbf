use Rattle.std.proofs.Common.{refl}
use Rattle.table_format.proofs.Spelled.{spelled_more}
use Rattle.table_format.proofs.table_writer.put.spell_numbers.Goals as goal

pub values-preserved : goal.values-preserved
values-preserved c = spelled_more c.args.numbers.now c.values.place _ _ c.args.text.now c.values.text c.write_u32.new.buf c.values-test.true refl c.requires c.values.invariant c.write_u32.ensures
