use Rattle.std.proofs.Common.{◌++◌}
use Rattle.std.specs.List.{flat_map}
use Rattle.table_format.proofs.Putting.{puts_both, puts_error}
use Rattle.table_format.specs.Texts.{page_text, raw_text, counted_text}
use Rattle.table_format.specs.Writing.{bounds_text, code_text, table_text, lists_text}
use Rattle.table_format.proofs.table_writer.writing.put_segment.Goals as goal

pub returns-in_err-put_flag : goal.returns-in_err-put_flag
returns-in_err-put_flag g c = puts_error (bounds_text c.args.connector.now c.args.start.now c.args.end.now ++ (flat_map code_text c.args.tables.now.tables ++ (flat_map table_text c.args.tables.now.tables ++ (lists_text c.args.tables.now ++ (counted_text page_text c.args.pages.now ++ (counted_text raw_text c.args.siblings.now)))))) _ c.from_residual.result c.from_residual.ensures.1 c.in_err-put_flag.ensures

pub returns-in_err-put_bounds : goal.returns-in_err-put_bounds
returns-in_err-put_bounds g c = puts_both c.in_ok-put_flag.ensures (puts_error (flat_map code_text c.args.tables.now.tables ++ (flat_map table_text c.args.tables.now.tables ++ (lists_text c.args.tables.now ++ (counted_text page_text c.args.pages.now ++ (counted_text raw_text c.args.siblings.now))))) _ c.from_residual-in_err-put_bounds.result c.from_residual-in_err-put_bounds.ensures.1 c.in_err-put_bounds.ensures)

pub returns-in_err-put_codes : goal.returns-in_err-put_codes
returns-in_err-put_codes g c = puts_both c.in_ok-put_flag.ensures (puts_both c.in_ok-put_bounds.ensures (puts_error (flat_map table_text c.args.tables.now.tables ++ (lists_text c.args.tables.now ++ (counted_text page_text c.args.pages.now ++ (counted_text raw_text c.args.siblings.now)))) _ c.from_residual-in_err-put_codes.result c.from_residual-in_err-put_codes.ensures.1 c.in_err-put_codes.ensures))

pub returns-in_err-put_tables : goal.returns-in_err-put_tables
returns-in_err-put_tables g c = puts_both c.in_ok-put_flag.ensures (puts_both c.in_ok-put_bounds.ensures (puts_both c.in_ok-put_codes.ensures (puts_error (lists_text c.args.tables.now ++ (counted_text page_text c.args.pages.now ++ (counted_text raw_text c.args.siblings.now))) _ c.from_residual-in_err-put_tables.result c.from_residual-in_err-put_tables.ensures.1 c.in_err-put_tables.ensures)))

pub returns-in_err-put_counts : goal.returns-in_err-put_counts
returns-in_err-put_counts g c = puts_both c.in_ok-put_flag.ensures (puts_both c.in_ok-put_bounds.ensures (puts_both c.in_ok-put_codes.ensures (puts_both c.in_ok-put_tables.ensures (puts_error (counted_text page_text c.args.pages.now ++ (counted_text raw_text c.args.siblings.now)) _ c.from_residual-in_err-put_counts.result c.from_residual-in_err-put_counts.ensures.1 c.in_err-put_counts.ensures))))

pub returns-in_err-put_pages : goal.returns-in_err-put_pages
returns-in_err-put_pages g c = puts_both c.in_ok-put_flag.ensures (puts_both c.in_ok-put_bounds.ensures (puts_both c.in_ok-put_codes.ensures (puts_both c.in_ok-put_tables.ensures (puts_both c.in_ok-put_counts.ensures (puts_error (counted_text raw_text c.args.siblings.now) _ c.from_residual-in_err-put_pages.result c.from_residual-in_err-put_pages.ensures.1 c.in_err-put_pages.ensures)))))

pub returns : goal.returns
returns g c = puts_both c.in_ok-put_flag.ensures (puts_both c.in_ok-put_bounds.ensures (puts_both c.in_ok-put_codes.ensures (puts_both c.in_ok-put_tables.ensures (puts_both c.in_ok-put_counts.ensures (puts_both c.in_ok-put_pages.ensures c.put_siblings.ensures)))))
