-- The constraints of the form with immediates and without, and its columns behind the flags, part behind part.
use Rattle.std.proofs.Common.{◌≡◌, ℕ, ◌+◌, Bool, true, false, cond, List, [], ◌++◌, length, refl, arith, length-append}
use Rattle.air_core.specs.First.{first_from, or_else}
use Rattle.air_core.specs.Ring.{field}
use Rattle.air_core.proofs.FirstLemmas.{first_from-part}
use Rattle.adapter_regs.specs.declared.regs.Regs.{Regs}
use Rattle.adapter_regs.specs.Regs.{immediate_constraints}

length-immediate : (r : Regs ℕ) → length (immediate_constraints field r) ≡ 4
unfolding immediate_constraints
length-immediate r = refl

pub count_with : (b : Bool) (r : Regs ℕ) (own : List ℕ) (n : ℕ) → b ≡ true → length own ≡ n → length (cond b (immediate_constraints field r) [] ++ own) ≡ 4 + n
count_with true r own n e h = omega (arith, length-append (immediate_constraints field r) own, length-immediate r, h)
count_with false r own n e h = absurd (cc)

pub count_without : (b : Bool) (r : Regs ℕ) (own : List ℕ) (n : ℕ) → b ≡ false → length own ≡ n → length (cond b (immediate_constraints field r) [] ++ own) ≡ n
count_without true r own n e h = absurd (cc)
count_without false r own n e h = h

pub first_with : (b : Bool) (from : ℕ) (r : Regs ℕ) (own : List ℕ) → b ≡ true
    → first_from from (cond b (immediate_constraints field r) [] ++ own) ≡ or_else (first_from from (immediate_constraints field r)) (first_from (from + 4) own)
first_with true from r own e = first_from-part from (from + 4) (immediate_constraints field r) own (omega (arith, length-immediate r))
first_with false from r own e = absurd (cc)
