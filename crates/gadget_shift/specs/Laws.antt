-- What the columns of a shift say, and that those that are filled say it.
use Rattle.std.specs.Prelude.{◌≡◌, ◌≢◌, ℕ, ◌+◌, ◌-◌, ◌*◌, ◌/◌, ◌%◌, ◌^◌, ◌<◌, ◌≤◌, Bool, true, false, List, ◌++◌, length}
use Rattle.std.specs.List.{AllByRecursion}
use Rattle.vm_field.specs.declared.limbs.Limbs.{Limbs}
use Rattle.vm_field.specs.Limbs.{list_of}
use Rattle.vm_word.specs.Arithmetic.{shifted_left}
use Rattle.vm_word.specs.Word.{word_of_limbs, limbs_of}
use Rattle.vm_isa.specs.Words.{IsBytes}
use Rattle.air_core.specs.declared.event.Event.{Event}
use Rattle.air_core.specs.Flags.{one_hot}
use Rattle.air_core.specs.Lookups.{GoodEvent}
use Rattle.air_core.specs.Ring.{field}
use Rattle.air_core.specs.Sheet.{AllZero, AllBelow}
use Rattle.gadget_shift.specs.Shift.{ShiftColumns, shift_columns, amount_constraints, shift_lookups, left_constraints, right_constraints, shift_filled}

abbrev pub word : Limbs ℕ → ℕ
word w = word_of_limbs (list_of w)

abbrev pub AreGood : List Event → Type 0
AreGood = AllByRecursion (λ e. e.count ≢ 0 → GoodEvent e)

-- a word shifted to the right, where bits g come in: without a sign g is 0
abbrev pub shifted_in : ℕ → ℕ → ℕ → ℕ
shifted_in g x by = x / 2 ^ by + g * (2 ^ 32 - 2 ^ (32 - by))

-- one flag of each kind is set, they make the five lowest bits of c, and the carries are below T
pub record IsShift (c : ℕ) (s : ShiftColumns ℕ) : Type 0 where
  pub i : ℕ
  pub l : ℕ
  pub i_low : i < 8
  pub l_low : l < 4
  pub bits : s.bits ≡ one_hot 8 i
  pub limbs : list_of s.limbs ≡ one_hot 4 l
  pub amount : c % 32 ≡ 8 * l + i
  pub carries : AllByRecursion (λ k. k < 2 ^ i) (list_of s.carries)

pub record IsLookedUp (c : ℕ) (s : ShiftColumns ℕ) (new : Limbs ℕ) : Type 0 where
  pub shift : IsShift c s
  pub bytes : IsBytes (list_of new)

-- constraints that are 0 and good lookups of a valid row make the amount
abbrev pub AmountsAreLookedUp : Type 0
AmountsAreLookedUp = (c : ℕ) (own : List ℕ) (new : Limbs ℕ) → c < 256 → AllBelow own → AllZero (amount_constraints field 1 (shift_columns field own))
    → AreGood (shift_lookups field 1 c (shift_columns field own) new) → IsLookedUp c (shift_columns field own) new

-- and under a gate of 1 the new word is the shifted one
abbrev pub LeftShiftsAreMeant : Type 0
LeftShiftsAreMeant = (c : ℕ) (s : ShiftColumns ℕ) (b a : Limbs ℕ) → IsShift c s → IsBytes (list_of b) → IsBytes (list_of a)
    → AllZero (left_constraints field 1 s b a) → word a ≡ shifted_left (word b) (c % 32)

abbrev pub RightShiftsAreMeant : Type 0
RightShiftsAreMeant = (g c : ℕ) (s : ShiftColumns ℕ) (b a : Limbs ℕ) → g ≤ 1 → IsShift c s → IsBytes (list_of b) → IsBytes (list_of a)
    → AllZero (right_constraints field 1 g s b a) → word a ≡ shifted_in g (word b) (c % 32)

-- what a filled row meets: under a gate of 0 nothing is asked of a word
pub record ShiftMeets (left : Bool) (c : ℕ) (s : ShiftColumns ℕ) (b a : Limbs ℕ) : Type 0 where
  pub zero : AllZero (amount_constraints field 1 s)
  pub small : AllByRecursion (λ e. e.count ≤ 1) (shift_lookups field 1 c s a)
  pub good : AreGood (shift_lookups field 1 c s a)
  pub left_off : AllZero (left_constraints field 0 s b a)
  pub right_off : (g : ℕ) → AllZero (right_constraints field 0 g s b a)
  pub to_left : (gate : ℕ) → left ≡ true → list_of a ≡ limbs_of (shifted_left (word b) (c % 32)) → AllZero (left_constraints field gate s b a)
  pub to_right : (gate g : ℕ) → left ≡ false → g ≤ 1 → list_of a ≡ limbs_of (shifted_in g (word b) (c % 32)) → AllZero (right_constraints field gate g s b a)

pub record FilledShift (left : Bool) (c : ℕ) (b a : Limbs ℕ) : Type 0 where
  pub long : length (shift_filled left c b) ≡ 16
  pub below : AllBelow (shift_filled left c b)
  pub meets : (rest : List ℕ) → ShiftMeets left c (shift_columns field (shift_filled left c b ++ rest)) b a

-- sixteen columns are filled, and meet them
abbrev pub FilledShiftsHold : Type 0
FilledShiftsHold = (left : Bool) (c : ℕ) (b a : Limbs ℕ) → c < 256 → IsBytes (list_of b) → IsBytes (list_of a) → FilledShift left c b a
