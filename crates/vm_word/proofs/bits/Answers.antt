use Rattle.std.proofs.Common.{◌≡◌, ℕ, arith, length, false, nat_eq}
use Rattle.std.proofs.lemmas.List.FromFn.{fill_by_all}
use Rattle.std.specs.Int.{bit_at}
use Rattle.vm_word.specs.Word.{bits_of}
use Rattle.vm_word.proofs.bits.Goals as goal

pub returns : goal.returns
unfolding bits_of
returns c =
    let long : length c.loop-place.bit-items ≡ 32 = omega arith in
    fill_by_all (λ (i : ℕ). nat_eq (bit_at c.args.word i) 1) c.loop-place.bit-items 32 false long
    (λ k lt. c.loop-place.invariant k (omega arith))
