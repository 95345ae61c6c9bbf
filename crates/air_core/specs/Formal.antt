-- Expressions over the columns of a row, interactions of them, and their values on a row.
use Rattle.std.specs.Prelude.{ℕ, List, map, slice_index}
use Rattle.vm_field.specs.Field.{field_add, field_sub, field_mul}
use Rattle.air_core.specs.declared.event.Event.{Event}
use Rattle.air_core.specs.declared.event.Side.{Side}
use Rattle.air_core.specs.Ring.{Ring}
use Rattle.air_core.specs.Sheet.{event}

pub data Expression : Type 0 where
  column : ℕ → Expression
  constant : ℕ → Expression
  sum : Expression → Expression → Expression
  difference : Expression → Expression → Expression
  product : Expression → Expression → Expression

pub record Interaction : Type 0 where
  pub bus : ℕ
  pub side : Side
  pub count : Expression
  pub tuple : List Expression

abbrev pub formal : Ring Expression Interaction
formal = record {
  number = constant;
  plus = sum;
  minus = difference;
  times = product;
  event = λ bus side count tuple. record { bus = bus; side = side; count = count; tuple = tuple };
}

abbrev pub value : List ℕ → Expression → ℕ
value row (column n) = slice_index row n
value row (constant n) = n
value row (sum a b) = field_add (value row a) (value row b)
value row (difference a b) = field_sub (value row a) (value row b)
value row (product a b) = field_mul (value row a) (value row b)

abbrev pub event_at : List ℕ → Interaction → Event
event_at row i = event i.bus i.side (value row i.count) (map (value row) i.tuple)
