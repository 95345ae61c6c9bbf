use Rattle.std.proofs.Common.{sym, ◌∙◌}
use Rattle.vm_word.proofs.ArithmeticLemmas.{signed_shift}
use Rattle.vm_word.proofs.arithmetic.shift_right_signed.Goals as goal

pub returns-then-is_negative : goal.returns-then-is_negative
returns-then-is_negative c = signed_shift _ _ c.requires (sym c.is_negative.ensures ∙ c.if-is_negative.true)
