-- Accesses of registers and of blocks: their columns over any ring, and those of a record.
use Rattle.std.specs.Prelude.{ℕ, ◌+◌, List, [], ◌∷◌, slice_get, unwrap_or}
use Rattle.vm_field.specs.declared.limbs.Limbs.{Limbs}
use Rattle.vm_isa.specs.declared.access.TimedAccess.{TimedAccess}
use Rattle.vm_isa.specs.Spaces.{REGISTERS}
use Rattle.air_core.specs.Ring.{Ring}
use Rattle.gadget_time.specs.declared.touch.Touch.{Touch}
use Rattle.gadget_time.specs.declared.touch.Gap.{Gap}
use Rattle.gadget_time.specs.Told.{gap_filled}

abbrev pub gap_by : {A : Type 0} → (ℕ → A) → ℕ → Gap A
gap_by column at = record { before = column at; lo = column (at + 1); hi = column (at + 2) }

-- an access of a block of a space
abbrev pub block_touch : {A E : Type 0} → Ring A E → A → ℕ → ℕ → A → Limbs A → Limbs A → Gap A → Touch A
block_touch o count slot space pointer old new gap = record { count = count; slot = o.number slot; space = o.number space; pointer = pointer; old = old; new = new; gap = gap }

-- and of a register
abbrev pub register_touch : {A E : Type 0} → Ring A E → A → ℕ → A → Limbs A → Limbs A → Gap A → Touch A
register_touch o count slot number old new gap = block_touch o count slot REGISTERS (o.times (o.number 4) number) old new gap

-- The accesses of a record, and one of zeros where there is none.

abbrev pub no_access : TimedAccess
no_access = record { access = record { space = 0; pointer = 0; old = 0 ∷ 0 ∷ 0 ∷ 0 ∷ []; new = 0 ∷ 0 ∷ 0 ∷ 0 ∷ [] }; time = 0; before = 0 }

abbrev pub access_at : List TimedAccess → ℕ → TimedAccess
access_at accesses place = unwrap_or (slice_get accesses place) no_access

-- the columns of its time
abbrev pub gap_of : TimedAccess → Gap ℕ
gap_of a = gap_filled a.time a.before

abbrev pub gap_cells : Gap ℕ → List ℕ
gap_cells g = g.before ∷ g.lo ∷ g.hi ∷ []
