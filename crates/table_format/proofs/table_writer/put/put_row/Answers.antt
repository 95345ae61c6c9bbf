use Rattle.std.proofs.Common.{rules, ◌++◌, ap, ◌∙◌, arith}
use Rattle.std.specs.List.{flat_map}
use Rattle.std.proofs.lemmas.List.{append-nil}
use Rattle.table_format.proofs.Putting.{puts_as, puts_both, puts_waiting}
use Rattle.table_format.proofs.Spelled.{numbers_long, put_behind}
use Rattle.table_format.specs.Texts.{number_text}
use Rattle.table_format.proofs.table_writer.put.put_row.Goals as goal

pub returns : goal.returns
returns g c =
    let text = flat_map number_text c.args.row.now in
    let waits = put_behind c.resize.new.self.len c.len-start.result c.args.waiting.now.items c.resize.new.self.items c.deref_mut.result.now c.spell_row.new.text (search rules) (search rules) (search rules) (search rules) (search rules) ∙ ap (λ xs. c.args.waiting.now.items ++ xs) c.spell_row.ensures in
    puts_as (append-nil text) (puts_both (puts_waiting text (g.H.Host.state c.args.host.now) waits) c.settle.ensures)
