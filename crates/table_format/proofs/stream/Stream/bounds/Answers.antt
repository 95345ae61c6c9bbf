use Rattle.table_format.proofs.Drawn.{drew_is, drew_both, drew_answers, halts_of, halts_first, halts_then, halts_answers}
use Rattle.table_format.proofs.stream.Stream.bounds.Goals as goal

pub returns-in_err-pc_end : goal.returns-in_err-pc_end
returns-in_err-pc_end g c = halts_answers c.from_residual-in_err-pc_end.result c.from_residual-in_err-pc_end.ensures.1 (halts_then _ (drew_is c.in_ok-pc_start.ensures) (halts_first _ (halts_of c.in_err-pc_end.ensures)))

pub returns-in_err-end_time : goal.returns-in_err-end_time
returns-in_err-end_time g c = halts_answers c.from_residual-in_err-end_time.result c.from_residual-in_err-end_time.ensures.1 (halts_then _ (drew_is c.in_ok-pc_start.ensures) (halts_then _ (drew_is c.in_ok-pc_end.ensures) (halts_first _ (halts_of c.in_err-end_time.ensures))))

pub returns-in_err-ends : goal.returns-in_err-ends
returns-in_err-ends g c = halts_answers c.from_residual-in_err-ends.result c.from_residual-in_err-ends.ensures.1 (halts_then _ (drew_is c.in_ok-pc_start.ensures) (halts_then _ (drew_is c.in_ok-pc_end.ensures) (halts_then _ (drew_is c.in_ok-end_time.ensures) (halts_first _ (halts_of c.in_err-ends.ensures)))))

pub returns-in_err-start : goal.returns-in_err-start
returns-in_err-start g c = halts_answers c.from_residual-in_err-start.result c.from_residual-in_err-start.ensures.1 (halts_then _ (drew_is c.in_ok-pc_start.ensures) (halts_then _ (drew_is c.in_ok-pc_end.ensures) (halts_then _ (drew_is c.in_ok-end_time.ensures) (halts_then _ (drew_is c.in_ok-ends.ensures) (halts_first _ (halts_of c.in_err-start.ensures))))))

pub returns-in_err-end : goal.returns-in_err-end
returns-in_err-end g c = halts_answers c.from_residual-in_err-end.result c.from_residual-in_err-end.ensures.1 (halts_then _ (drew_is c.in_ok-pc_start.ensures) (halts_then _ (drew_is c.in_ok-pc_end.ensures) (halts_then _ (drew_is c.in_ok-end_time.ensures) (halts_then _ (drew_is c.in_ok-ends.ensures) (halts_then _ (drew_is c.in_ok-start.ensures) (halts_of c.in_err-end.ensures))))))

pub returns : goal.returns
returns g c = drew_answers _ (drew_both _ (drew_is c.in_ok-pc_start.ensures) (drew_both _ (drew_is c.in_ok-pc_end.ensures) (drew_both _ (drew_is c.in_ok-end_time.ensures) (drew_both _ (drew_is c.in_ok-ends.ensures) (drew_both _ (drew_is c.in_ok-start.ensures) (drew_is c.in_ok-end.ensures)))))) (cc)
