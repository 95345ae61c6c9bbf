use Rattle.std.proofs.Common.{◌≡◌, ℕ, ◌<◌, slice_index, refl, arith, ◌∙◌, subst}
use Rattle.std.proofs.lemmas.Grind.{get_or_default_zero}
use Rattle.vm_word.specs.Digits.{number_of_digits}
use Rattle.gadget_bits.proofs.Known.{word_more, small_more, more_fits, whole_fits, word_made, none_made}
use Rattle.gadget_bits.proofs.bits.word_of.Goals as goal

pub loop-i-init : goal.loop-i-init
unfolding number_of_digits
loop-i-init c = record { is = refl; small = λ k low. absurd (omega arith) }

pub returns-then-bit-gt1 : goal.returns-then-bit-gt1
returns-then-bit-gt1 c =
    none_made c.args.bits.now c.loop-i.i c.value-bit.result (c.value-bit.ensures.number ∙ c.index-bits-i.is ∙ get_or_default_zero c.args.bits.now c.loop-i.i c.index-bits-i.result (omega (arith, c.requires, c.loop-i-test.true))) c.if-bit-gt1.true

pub overflow_add-word : goal.overflow_add-word
overflow_add-word c =
    let fits = more_fits c.args.bits.now c.loop-i.i c.loop-i.word c.value-bit.result c.loop-i-test.true (omega (arith, c.if-bit-gt1.false)) c.loop-i.invariant.is c.loop-i.invariant.small in
    record { fits = fits }

pub loop-i-preserved : goal.loop-i-preserved
loop-i-preserved c =
    let is = c.value-bit.ensures.number ∙ c.index-bits-i.is ∙ get_or_default_zero c.args.bits.now c.loop-i.i c.index-bits-i.result (omega (arith, c.requires, c.loop-i-test.true)) in
    let small : c.value-bit.result < 2 = omega (arith, c.if-bit-gt1.false) in
    record {
      is = word_more c.args.bits.now c.loop-i.i c.loop-i.word c.value-bit.result c.loop-i-test.true is small c.loop-i.invariant.is;
      small = small_more c.args.bits.now c.loop-i.i c.value-bit.result is small c.loop-i.invariant.small;
    }

pub overflow_cast-result : goal.overflow_cast-result
overflow_cast-result c =
    let fits = whole_fits c.args.bits.now c.loop-i.i c.loop-i.word (omega (arith, c.loop-i.auto.i-end)) c.loop-i.invariant.is c.loop-i.invariant.small in
    record { fits = fits }

pub returns : goal.returns
returns c =
    let end : c.loop-i.i ≡ 32 = omega (arith, c.loop-i.auto.i-end, c.loop-i-test.false) in
    word_made c.args.bits.now c.loop-i.word c.requires (subst (λ (n : ℕ). c.loop-i.word ≡ number_of_digits 2 (λ k. slice_index c.args.bits.now k) n) end c.loop-i.invariant.is)
    (λ k low. c.loop-i.invariant.small k (omega (arith, end, low)))
