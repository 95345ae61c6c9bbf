use Rattle.std.proofs.Common.{subst}
use Rattle.table_format.specs.Texts.{entry_text, counted_text}
use Rattle.table_format.specs.Writing.{Puts}
use Rattle.vm_trace.specs.declared.count.CountEntry.{CountEntry}
use Rattle.std.proofs.Common.{List}
use Rattle.table_format.proofs.table_writer.parts.put_list.Goals as goal

pub returns : goal.returns
returns g c = subst (λ (es : List CountEntry). Puts (counted_text entry_text es) c.args.waiting.now.items c.put_entries.new.waiting.items (g.H.Host.state c.args.host.now) (g.H.Host.state c.put_entries.new.host) c.put_entries.result) c.counts.ensures c.put_entries.ensures
