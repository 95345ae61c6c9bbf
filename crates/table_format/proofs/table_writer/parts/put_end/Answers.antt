use Rattle.std.proofs.Common.{◌++◌}
use Rattle.std.specs.List.{flat_map}
use Rattle.table_format.proofs.Putting.{puts_both, puts_error}
use Rattle.table_format.specs.Texts.{byte_text, raw_text}
use Rattle.table_format.proofs.table_writer.parts.put_end.Goals as goal

pub returns-in_err-put_flag : goal.returns-in_err-put_flag
returns-in_err-put_flag g c = puts_error (byte_text c.args.claim.now.code ++ (c.args.claim.now.public ++ (flat_map raw_text c.args.claim.now.path))) _ c.from_residual.result c.from_residual.ensures.1 c.in_err-put_flag.ensures

pub returns-in_err-put_byte : goal.returns-in_err-put_byte
returns-in_err-put_byte g c = puts_both c.in_ok-put_flag.ensures (puts_error (c.args.claim.now.public ++ (flat_map raw_text c.args.claim.now.path)) _ c.from_residual-in_err-put_byte.result c.from_residual-in_err-put_byte.ensures.1 c.in_err-put_byte.ensures)

pub returns-in_err-put : goal.returns-in_err-put
returns-in_err-put g c = puts_both c.in_ok-put_flag.ensures (puts_both c.in_ok-put_byte.ensures (puts_error (flat_map raw_text c.args.claim.now.path) _ c.from_residual-in_err-put.result c.from_residual-in_err-put.ensures.1 c.in_err-put.ensures))

pub returns : goal.returns
returns g c = puts_both c.in_ok-put_flag.ensures (puts_both c.in_ok-put_byte.ensures (puts_both c.in_ok-put.ensures c.put_digests.ensures))
