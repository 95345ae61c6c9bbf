-- What a row of an instruction table says: its path, its accesses, and other events.
use Rattle.std.specs.Prelude.{◌≡◌, ℕ, ◌+◌, ◌-◌, ◌/◌, ◌%◌, ◌^◌, ◌<◌, cond, nat_eq, List, [], ◌∷◌, ◌++◌, flat_map, Option, Some, None}
use Rattle.vm_field.specs.Field.{modulus}
use Rattle.vm_isa.specs.declared.access.TimedAccess.{TimedAccess}
use Rattle.air_core.specs.declared.bus.TheConstants.{MEMORY, RANGE}
use Rattle.air_core.specs.declared.event.Side.TheVariants.{Send, Receive}
use Rattle.air_core.specs.Ring.{Ring}
use Rattle.air_core.specs.Path.{path_lines}
use Rattle.air_core.specs.Step.{Touched}
use Rattle.vm_field.specs.Limbs.{list_of}
use Rattle.gadget_time.specs.declared.touch.Touch.{Touch}
use Rattle.gadget_time.specs.declared.touch.Gap.{Gap}

-- count * (time - before - 1 - lo - 65536 * hi)
unfoldable pub time_constraint : {A E : Type 0} → Ring A E → A → A → A → A → A → A
time_constraint o count time before lo hi = o.times count (o.minus (o.minus (o.minus (o.minus time before) (o.number 1)) lo) (o.times (o.number 65536) hi))

-- of an access of the row of this time
unfoldable pub touch_constraint : {A E : Type 0} → Ring A E → A → Touch A → A
touch_constraint o time a = time_constraint o a.count (o.plus time a.slot) a.gap.before a.gap.lo a.gap.hi

-- the four events of an access: the old word leaves the memory bus, the new one comes, and what lies
-- between is in range
unfoldable pub touch_lines : {A E : Type 0} → Ring A E → ℕ → A → Touch A → List E
touch_lines o hi time a =
    o.event MEMORY Receive a.count (a.space ∷ a.pointer ∷ a.old.x0 ∷ a.old.x1 ∷ a.old.x2 ∷ a.old.x3 ∷ a.gap.before ∷ [])
    ∷ o.event MEMORY Send a.count (a.space ∷ a.pointer ∷ a.new.x0 ∷ a.new.x1 ∷ a.new.x2 ∷ a.new.x3 ∷ o.plus time a.slot ∷ [])
    ∷ o.event RANGE Send a.count (a.gap.lo ∷ o.number 16 ∷ [])
    ∷ o.event RANGE Send a.count (a.gap.hi ∷ o.number hi ∷ [])
    ∷ []

-- the columns of an access at a time, after another
unfoldable pub gap_filled : ℕ → ℕ → Gap ℕ
gap_filled time before = record { before = before % modulus; lo = (time - before - 1) % 65536; hi = (time - before - 1) / 65536 }

-- all that a row says
pub record Told (A E : Type 0) : Type 0 where
  pub valid : A
  pub pc : A
  pub time : A
  pub next : A
  pub slots : ℕ
  pub numbers : List A
  pub touches : List (Touch A)
  pub others : List E

abbrev pub touches_lines : {A E : Type 0} → Ring A E → ℕ → A → List (Touch A) → List E
touches_lines o hi time touches = flat_map (touch_lines o hi time) touches

-- the path, the program row and the accesses
abbrev pub told_front : {A E : Type 0} → Ring A E → ℕ → Told A E → List E
told_front o hi d = path_lines o d.valid d.pc d.time d.next d.slots d.numbers ++ touches_lines o hi d.time d.touches

-- and the other events
abbrev pub told_lines : {A E : Type 0} → Ring A E → ℕ → Told A E → List E
told_lines o hi d = told_front o hi d ++ d.others

-- the accesses that a row makes: those of count 0 are none
abbrev pub touched : Touch ℕ → Touched
touched a = record { slot = a.slot; space = a.space; pointer = a.pointer; old = list_of a.old; new = list_of a.new; before = a.gap.before }

abbrev pub if_touched : Touch ℕ → List Touched
if_touched a = cond (nat_eq a.count 0) [] (touched a ∷ [])

abbrev pub touched_of : List (Touch ℕ) → List Touched
touched_of touches = flat_map if_touched touches

-- Rows that were filled.

-- the columns of an access are those of an access of a record, in a row of this time
pub record MadeBy (hi time : ℕ) (t : Touch ℕ) (a : TimedAccess) : Type 0 where
  pub count : t.count ≡ 1
  pub at_time : a.time ≡ time + t.slot
  pub space : t.space ≡ a.access.space
  pub pointer : t.pointer ≡ a.access.pointer
  pub old : list_of t.old ≡ a.access.old
  pub new : list_of t.new ≡ a.access.new
  pub gap : t.gap ≡ gap_filled a.time a.before
  pub before : a.before < a.time
  pub ends : a.time < 2 ^ (16 + hi)

-- or there is none
abbrev pub MadeByOne : ℕ → ℕ → Touch ℕ → Option TimedAccess → Type 0
MadeByOne hi time t None = t.count ≡ 0
MadeByOne hi time t (Some a) = MadeBy hi time t a

abbrev pub MadeByAll : ℕ → ℕ → List (Touch ℕ) → List (Option TimedAccess) → Type 0
MadeByAll hi time [] [] = Unit {0}
MadeByAll hi time (t ∷ ts) (o ∷ os) = MadeByOne hi time t o × MadeByAll hi time ts os
MadeByAll hi time _ _ = ⊥

-- those that there are
abbrev pub made : List (Option TimedAccess) → List TimedAccess
made [] = []
made (None ∷ os) = made os
made (Some a ∷ os) = a ∷ made os
