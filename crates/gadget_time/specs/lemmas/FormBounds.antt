-- The laws Fits, Buses and Quiet of every form.
use Rattle.std.proofs.Common.{◌≡◌, ℕ, ◌+◌, ◌≤◌, true, List, length, replicate, take, drop, refl, arith, lit≤, slice_index}
use Rattle.std.proofs.lemmas.Bool.Decides.{nat_tests}
use Rattle.vm_isa.specs.Slots.{slots_of}
use Rattle.air_core.specs.declared.event.Event.{Event}
use Rattle.air_core.specs.Ring.{field}
use Rattle.air_core.specs.Sheet.{OwnsSome, AllZero}
use Rattle.air_core.specs.Laws.{Fits, Owned, Buses, MayBus, Quiet, is_lookup}
use Rattle.air_core.specs.ListLemmas.{all_append, all_weaker}
use Rattle.air_core.specs.FlagLaws.{sum_none}
use Rattle.air_core.specs.lemmas.OneHot.{flags_zero, is_owned, of_owned}
use Rattle.air_core.specs.lemmas.Cells.{cells_zero, cells_of_zeros, index_zeros}
use Rattle.gadget_time.specs.Form.{Form, columns, columns_by, no_columns, told_by, form_sheet, form_constraints, owns_of}
use Rattle.gadget_time.specs.FormLaws.{FormLaws, IsOther}
use Rattle.gadget_time.specs.lemmas.ToldLaws.{told_uses, told_length}
use Rattle.gadget_time.specs.lemmas.FormSound.{silent}

lookup_low : (bus : ℕ) → is_lookup bus ≡ true → 3 ≤ bus → bus ≤ 5
lookup_low bus h off = grind (arith, nat_tests)

module _ (f : Form) (hi : ℕ) (laws : FormLaws f) where
  owned : (op : ℕ) → owns_of f op ≡ true → Owned (form_sheet f hi) op
  owned op h = record { slots = of_owned (λ k. slots_of k ≡ f.slots) f.opcodes op laws.bounds.slots h; some = laws.bounds.slots_some; few = laws.bounds.slots_few; takes = h; row = refl }

  pub form_fits : 8 ≤ hi → hi ≤ 13 → Fits (form_sheet f hi)
  form_fits low high = record {
    bits_low = omega (arith, low);
    bits_high = omega (arith, high);
    width = omega (arith, laws.bounds.few_flags, laws.bounds.narrow);
    rows = lit≤ tt;
    owned = λ op h. owned op h;
  }

  may : (e : Event) → IsOther f.alone e → MayBus (form_sheet f hi) e
  may e o = record { lookup = λ h. o.lookup (lookup_low e.bus h o.off); machine = λ h. absurd (omega (arith, o.off)); private = λ h. o.private h }

  owns_some : OwnsSome (form_sheet f hi)
  owns_some = (slice_index f.opcodes 0, is_owned f.opcodes 0 (omega (arith, laws.bounds.some)))

  pub form_buses : Buses (form_sheet f hi)
  form_buses = record {
    uses = λ row. told_uses (form_sheet f hi) owns_some hi (told_by f (columns f row)) (all_weaker (IsOther f.alone) (MayBus (form_sheet f hi)) may (f.parts.others (columns f row)) (laws.bounds.others (columns f row)));
    few = λ row. omega (arith, told_length hi (told_by f (columns f row)), laws.bounds.few (columns f row));
  }

  zero_columns : columns f (replicate (2 + length f.opcodes + f.width) 0) ≡ no_columns f
  unfolding columns_by
  zero_columns = rw (index_zeros (2 + length f.opcodes + f.width) 0, index_zeros (2 + length f.opcodes + f.width) 1, cells_of_zeros (2 + length f.opcodes + f.width) 2 (length f.opcodes), cells_of_zeros (2 + length f.opcodes + f.width) (2 + length f.opcodes) f.width) refl

  zeros_row : AllZero (form_constraints field f.parts (no_columns f))
  unfolding form_constraints
  zeros_row = all_append (λ x. x ≡ 0) _ _ (flags_zero (length f.opcodes)) (all_append (λ x. x ≡ 0) _ _ laws.bounds.zeros laws.bounds.zero_touches)

  no_flags : (row : List ℕ) → AllZero (take (length f.opcodes) (drop 2 row)) → AllZero (columns f row).flags
  unfolding columns_by
  no_flags row h = cells_zero row 2 (length f.opcodes) h

  pub form_quiet : Quiet (form_sheet f hi)
  form_quiet = record {
    holds = rw zero_columns zeros_row;
    silent = λ row h. let none = no_flags row h in silent f hi laws (columns f row) (sum_none (columns f row).flags none) none;
  }
