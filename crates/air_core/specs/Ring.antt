-- What a sheet is written by: operations on values, and events of them. Over field elements a sheet is what
-- runs and what is proved; over expressions (Formal) it is what can be exported.
use Rattle.std.specs.Prelude.{ℕ, zero, suc, List, [], ◌∷◌, get_or}
use Rattle.vm_field.specs.Field.{field_add, field_sub, field_mul}
use Rattle.air_core.specs.declared.event.Event.{Event}
use Rattle.air_core.specs.declared.event.Side.{Side}
use Rattle.air_core.specs.Sheet.{event}

pub record Ring (A E : Type 0) : Type 0 where
  pub number : ℕ → A
  pub plus : A → A → A
  pub minus : A → A → A
  pub times : A → A → A
  -- bus, side, count and tuple
  pub event : ℕ → Side → A → List A → E

-- field elements, and events as they are handed over
abbrev pub field : Ring ℕ Event
field = record { number = λ n. n; plus = field_add; minus = field_sub; times = field_mul; event = event }

-- so many columns from a place on, by what stands at a place
abbrev pub cells : {A : Type 0} → (ℕ → A) → ℕ → ℕ → List A
cells at i zero = []
cells at i (suc n) = at i ∷ cells at (suc i) n

-- the column at a place of a list
abbrev pub cell : {A E : Type 0} → Ring A E → List A → ℕ → A
cell o xs i = get_or xs i (o.number 0)
