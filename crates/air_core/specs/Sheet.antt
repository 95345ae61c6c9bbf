-- What a table is: its sheet. What its rows say.
use Rattle.std.specs.Prelude.{◌≡◌, ℕ, ◌<◌, Bool, true, nat_eq, if◌then◌else◌, List, [], ◌∷◌, flat_map, length}
use Rattle.std.specs.List.{AllByRecursion}
use Rattle.vm_field.specs.Field.{modulus}
use Rattle.vm_isa.specs.declared.record.StepRecord.{StepRecord}
use Rattle.air_core.specs.declared.event.Event.{Event}
use Rattle.air_core.specs.declared.event.Side.{Side}
use Rattle.air_core.specs.declared.event.Side.TheVariants.{Send, Receive}

pub record Sheet : Type 0 where
  -- columns
  pub width : ℕ
  -- by how much the time of a valid row goes on
  pub slots : ℕ
  -- how many rows one record fills
  pub rows : ℕ
  -- times are at most 2 to this
  pub time_bits : ℕ
  -- the flags: the first one's column, and how many there are
  pub first_flag : ℕ
  pub flags : ℕ
  -- the opcodes of its valid rows
  pub owns : ℕ → Bool
  -- the opcodes of the records that fill its rows: those that it owns, and maybe some of another table
  pub takes : ℕ → Bool
  -- its rows mean something without the rows of another table
  pub alone : Bool
  -- the values of the constraints on a row
  pub constraints : List ℕ → List ℕ
  -- the events of a row in order, those of count 0 too
  pub lines : List ℕ → List Event
  -- the row that a record fills at a place
  pub filled : StepRecord → ℕ → List ℕ

abbrev pub OwnsSome : Sheet → Type 0
OwnsSome sheet = (op : ℕ) × (sheet.owns op ≡ true)

abbrev pub event : ℕ → Side → ℕ → List ℕ → Event
event bus side count tuple = record { bus = bus; side = side; tuple = tuple; count = count }

abbrev pub sent : ℕ → ℕ → List ℕ → Event
sent bus count tuple = event bus Send count tuple

abbrev pub received : ℕ → ℕ → List ℕ → Event
received bus count tuple = event bus Receive count tuple

-- the event, unless its count is 0
abbrev pub if_counted : Event → List Event
if_counted e = if nat_eq e.count 0 then [] else e ∷ []

-- the events whose count is not 0. (By `filter` a list of n lines would unfold to 2^n.)
abbrev pub counted : List Event → List Event
counted events = flat_map if_counted events

-- what a row says
abbrev pub row_events : Sheet → List ℕ → List Event
row_events sheet row = counted (sheet.lines row)

abbrev pub AllZero : List ℕ → Type 0
AllZero xs = AllByRecursion (λ x. x ≡ 0) xs

-- every constraint is 0 on the row
abbrev pub RowHolds : Sheet → List ℕ → Type 0
RowHolds sheet row = AllZero (sheet.constraints row)

abbrev pub AllBelow : List ℕ → Type 0
AllBelow xs = AllByRecursion (λ x. x < modulus) xs

-- a row of the table's width, of field elements
pub record IsRow (sheet : Sheet) (row : List ℕ) : Type 0 where
  pub wide : length row ≡ sheet.width
  pub below : AllBelow row
