-- An access of a register or of a block in a row that is filled from a record.
use Rattle.std.proofs.Common.{◌≡◌, ℕ, ◌+◌, ◌*◌, ◌^◌, ◌≤◌, ◌<◌, List, refl, sym, ap, subst, ◌∙◌, arith, pow_mono}
use Rattle.vm_field.specs.Field.{field_mul}
use Rattle.vm_field.specs.declared.limbs.Limbs.{Limbs}
use Rattle.vm_field.specs.Limbs.{list_of, limbs_from}
use Rattle.vm_field.proofs.LimbLemmas.{list_of-from}
use Rattle.vm_isa.specs.declared.access.TimedAccess.{TimedAccess}
use Rattle.vm_isa.specs.Words.{IsBytes, IsWord}
use Rattle.vm_isa.specs.Means.{Placed, placed, placed_at}
use Rattle.vm_isa.proofs.RegisterForm.{writes}
use Rattle.air_core.specs.Ring.{field}
use Rattle.air_core.specs.Sheet.{AllBelow}
use Rattle.gadget_time.specs.Told.{gap_filled, MadeBy}
use Rattle.gadget_time.specs.lemmas.Filled.{gap_below}
use Rattle.gadget_time.specs.Access.{register_touch, gap_cells, gap_of}

-- an access of a record in a row of this time
pub record Found (hi time : ℕ) (slot number : ℕ) (a : TimedAccess) (new : List ℕ) : Type 0 where
  pub at_time : a.time ≡ time + slot
  pub space : a.access.space ≡ 1
  pub pointer : a.access.pointer ≡ 4 * number
  pub new_is : a.access.new ≡ new
  pub before : a.before < a.time
  pub ends : a.time < 2 ^ (16 + hi)
  pub low : a.time ≤ 2 ^ 29

pub found : (hi time slot number : ℕ) (a : TimedAccess) (new : List ℕ) → placed a ≡ placed_at time (writes slot number a.access.old new) → hi ≤ 13 → time + slot < 2 ^ (16 + hi) → a.before < a.time
    → Found hi time slot number a new
found hi time slot number a new e top ends before =
    let up : 16 + hi ≤ 29 = omega arith in
    let most : 2 ^ (16 + hi) ≤ 2 ^ 29 = pow_mono up in
    let t : a.time ≡ time + slot = ap (λ (x : Placed). x.time) e in
    record {
      at_time = t;
      space = ap (λ (x : Placed). x.space) e;
      pointer = ap (λ (x : Placed). x.pointer) e;
      new_is = ap (λ (x : Placed). x.new) e;
      before = before;
      ends = omega arith;
      low = omega arith;
    }

pub made_by : (hi time slot number count : ℕ) (a : TimedAccess) (old new : Limbs ℕ) (written : List ℕ) → count ≡ 1 → number < 32 → list_of old ≡ a.access.old → list_of new ≡ written → Found hi time slot number a written
    → MadeBy hi time (register_touch field count slot number old new (gap_filled a.time a.before)) a
made_by hi time slot number count a old new written one small o w f =
    let p = f.pointer in
    record {
      count = one;
      at_time = f.at_time;
      space = sym f.space;
      pointer = omega arith;
      old = o;
      new = w ∙ sym f.new_is;
      gap = refl;
      before = f.before;
      ends = f.ends;
    }

pub bytes_of : (xs : List ℕ) → IsWord xs → IsBytes (list_of (limbs_from xs))
bytes_of xs h = subst IsBytes (sym (list_of-from xs h.four)) h.bytes

-- what a table is given of it
pub record FilledAccess (hi time slot number count : ℕ) (a : TimedAccess) (new : Limbs ℕ) : Type 0 where
  pub made : MadeBy hi time (register_touch field count slot number (limbs_from a.access.old) new (gap_of a)) a
  pub old_is : list_of (limbs_from a.access.old) ≡ a.access.old
  pub old : IsBytes (list_of (limbs_from a.access.old))
  pub gap : AllBelow (gap_cells (gap_of a))

pub filled_access : (hi time slot number count : ℕ) (a : TimedAccess) (new : Limbs ℕ) (written : List ℕ) → placed a ≡ placed_at time (writes slot number a.access.old written) → list_of new ≡ written → hi ≤ 13
    → time + slot < 2 ^ (16 + hi) → number < 32 → count ≡ 1 → IsWord a.access.old → a.before < a.time → FilledAccess hi time slot number count a new
filled_access hi time slot number count a new written e is top ends small one word before =
    let f = found hi time slot number a written e top ends before in
    let back = list_of-from a.access.old word.four in
    record {
      made = made_by hi time slot number count a (limbs_from a.access.old) new written one small back is f;
      old_is = back;
      old = bytes_of a.access.old word;
      gap = gap_below a.time a.before f.low;
    }

-- the pointer of a register
pub pointer : (x y : ℕ) → x ≡ y → y < 32 → field_mul 4 x ≡ 4 * y
pointer x y e h = omega arith
