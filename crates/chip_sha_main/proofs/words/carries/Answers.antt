use Rattle.std.proofs.Common.{◌≡◌, ℕ, ◌+◌, ◌*◌, List, ◌++◌, flat_map, length, take, refl, sym, ap, subst, ◌∙◌, arith, slice_index}
use Rattle.std.specs.List.{range_with_len}
use Rattle.std.proofs.Math.Seq.{take-length}
use Rattle.vm_field.specs.Limbs.{limbs_at, limbs_by}
use Rattle.air_core.specs.Ring.{field}
use Rattle.gadget_bits.specs.Bits.{halves_at}
use Rattle.chip_sha_main.specs.Main.{carry_bits, sum_bits}
use Rattle.chip_sha_main.proofs.Loops.{flat_more}
use Rattle.chip_sha_main.proofs.words.carries.Goals as goal

length-carries : (x : _) (f : _) (y : _) → length (carry_bits field x f y) ≡ 2
unfolding carry_bits
length-carries x f y = refl

pub loop-i-preserved : goal.loop-i-preserved
unfolding limbs_at
loop-i-preserved c =
    let rest = slice_index c.args.rest.now in
    let i = c.loop-i.i in
    let F : ℕ → List ℕ = λ i. carry_bits field (limbs_by rest (74 + 4 * i)) (halves_at rest (138 + 2 * i)) (limbs_by rest (106 + 4 * i)) in
    let old = c.read-old.ensures in
    let working = c.read-working.ensures in
    let new = c.read-new.ensures in
    let is : c.carry_bits.result ≡ F i = c.carry_bits.ensures ∙ (λ k. carry_bits field (old k) (working k) (new k)) in
    let place : 2 * (i + 1) ≡ 2 * i + length c.carry_bits.result = omega (arith, ap length is, length-carries (limbs_by rest (74 + 4 * i)) (halves_at rest (138 + 2 * i)) (limbs_by rest (106 + 4 * i))) in
    record {
      long = c.put.ensures.long ∙ c.loop-i.invariant.long;
      front = ap (λ (k : ℕ). take k c.put.new.columns) place ∙ c.put.ensures.so_far ∙ (λ k. c.loop-i.invariant.front k ++ is k) ∙ sym (flat_more F 0 i i (omega arith));
    }

pub returns : goal.returns
unfolding sum_bits
returns c =
    let end : c.loop-i.i ≡ 8 = omega (arith, c.loop-i.auto.i-end, c.loop-i-test.false) in
    let whole : take 16 c.loop-i.all ≡ c.loop-i.all = ap (λ (k : ℕ). take k c.loop-i.all) (sym c.loop-i.invariant.long) ∙ take-length c.loop-i.all in
    let rest = slice_index c.args.rest.now in
    let F : ℕ → List ℕ = λ i. carry_bits field (limbs_by rest (74 + 4 * i)) (halves_at rest (138 + 2 * i)) (limbs_by rest (106 + 4 * i)) in
    sym whole ∙ subst (λ (k : ℕ). take (2 * k) c.loop-i.all ≡ flat_map F (range_with_len 0 k)) end c.loop-i.invariant.front
