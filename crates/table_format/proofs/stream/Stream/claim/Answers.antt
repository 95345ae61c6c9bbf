use Rattle.std.proofs.Common.{refl}
use Rattle.table_format.proofs.Drawn.{drew_is, drew_both, drew_answers, halts_of, halts_first, halts_then, halts_answers}
use Rattle.table_format.proofs.stream.Stream.claim.Goals as goal

pub returns-in_err-public : goal.returns-in_err-public
returns-in_err-public g c = halts_answers c.from_residual-in_err-public.result c.from_residual-in_err-public.ensures.1 (halts_then _ (drew_is c.in_ok-code.ensures) (halts_first _ (halts_of c.in_err-public.ensures)))

pub returns-in_err-path : goal.returns-in_err-path
returns-in_err-path g c =
    halts_answers c.from_residual-in_err-path.result c.from_residual-in_err-path.ensures.1 (halts_then _ (drew_is c.in_ok-code.ensures) (halts_then _ (drew_is c.in_ok-public.ensures) (halts_of c.in_err-path.ensures)))

pub returns : goal.returns
returns g c = drew_answers _ (drew_both _ (drew_is c.in_ok-code.ensures) (drew_both _ (drew_is c.in_ok-public.ensures) (drew_is c.in_ok-path.ensures))) refl
