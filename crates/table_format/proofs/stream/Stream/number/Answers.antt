use Rattle.std.specs.Int.{w32, from_le_bytes}
use Rattle.table_format.proofs.Drawn.{drew_given, drew_seen, drew_answers}
use Rattle.table_format.proofs.stream.Stream.number.Goals as goal

pub returns-in-Some : goal.returns-in-Some
returns-in-Some g c =
    let h = c.in-Some.ensures in
    drew_answers {v = from_le_bytes w32 h.0} c.in-Some.number (drew_seen (from_le_bytes w32) (drew_given (g.H.Host.state c.args.host.now) 4 h.0 c.requires.open h.2)) h.1
