use Rattle.std.proofs.Common.{refl}
use Rattle.table_format.specs.Order.{touched_of}
use Rattle.table_format.proofs.Drawn.{drew_is, drew_seen, drew_both, drew_answers, halts_of, halts_first, halts_then, seen_halts, halts_answers}
use Rattle.table_format.proofs.stream.Stream.page.Goals as goal

pub returns-in_err-old : goal.returns-in_err-old
returns-in_err-old g c = halts_answers c.from_residual-in_err-old.result c.from_residual-in_err-old.ensures.1 (seen_halts touched_of (halts_then _ (drew_is c.in_ok-label.ensures) (halts_first _ (halts_of c.in_err-old.ensures))))

pub returns-in_err-new : goal.returns-in_err-new
returns-in_err-new g c =
    halts_answers c.from_residual-in_err-new.result c.from_residual-in_err-new.ensures.1 (seen_halts touched_of (halts_then _ (drew_is c.in_ok-label.ensures) (halts_then _ (drew_is c.in_ok-old.ensures) (halts_first _ (halts_of c.in_err-new.ensures)))))

pub returns-in_err-times : goal.returns-in_err-times
returns-in_err-times g c =
    halts_answers c.from_residual-in_err-times.result c.from_residual-in_err-times.ensures.1
    (seen_halts touched_of (halts_then _ (drew_is c.in_ok-label.ensures) (halts_then _ (drew_is c.in_ok-old.ensures) (halts_then _ (drew_is c.in_ok-new.ensures) (halts_of c.in_err-times.ensures)))))

pub returns : goal.returns
returns g c = drew_answers _ (drew_seen touched_of (drew_both _ (drew_is c.in_ok-label.ensures) (drew_both _ (drew_is c.in_ok-old.ensures) (drew_both _ (drew_is c.in_ok-new.ensures) (drew_is c.in_ok-times.ensures))))) refl
