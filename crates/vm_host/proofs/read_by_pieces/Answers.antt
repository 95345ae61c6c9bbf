use Rattle.std.proofs.Common.{ℕ, arith, length-take, length-append}
use Rattle.vm_host.proofs.Reading.{took_piece, took_no_more, answers_memory, answers_refused, answers_too_long, answers_whole}
use Rattle.vm_host.proofs.read_by_pieces.Goals as goal

pub returns-in_err-count : goal.returns-in_err-count
returns-in_err-count g c =
    answers_refused _ _ _ _ _ _ _ _ _ _ c.pieces.invariant.took c.pieces.invariant.short c.in_err-count.ensures c.from_residual.ensures.1

pub returns-then-count-eq0 : goal.returns-then-count-eq0
returns-then-count-eq0 g c =
    let took = took_no_more _ _ _ _ _ _ _ c.pieces.invariant.took c.in_ok-count.ensures c.if-count-eq0.true in
    answers_whole _ _ _ _ _ _ took (omega arith) (c.in_ok-count.ensures.end c.if-count-eq0.true (omega (arith, length-take {A = ℕ})))

pub returns-in_err-extend_from_slice : goal.returns-in_err-extend_from_slice
returns-in_err-extend_from_slice g c =
    let took = took_piece _ _ _ _ _ _ _ c.pieces.invariant.took c.in_ok-count.ensures in
    answers_memory _ _ _ _ _ _ _ took (omega (arith, length-append {A = ℕ}, length-take {A = ℕ})) c.from_residual-in_err-extend_from_slice.ensures.1

pub returns : goal.returns
returns g c = answers_too_long _ _ _ _ _ _ c.pieces.invariant.took (omega arith)
