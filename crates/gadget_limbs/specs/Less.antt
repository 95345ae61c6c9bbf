-- LT: whether a number by its limbs is below another, as numbers or as signed ones. At most one limb is marked, the
-- highest at which they differ.
use Rattle.std.specs.Prelude.{ℕ, ◌+◌, ◌-◌, ◌*◌, ◌%◌, nat_eq, nat_lt, if◌then◌else◌, List, [], ◌∷◌, ◌++◌, map, take, slice_index}
use Rattle.std.specs.Int.{from_bool}
use Rattle.vm_field.specs.Field.{field_sub}
use Rattle.air_core.specs.First.{bit}
use Rattle.air_core.specs.Ring.{Ring, cells}
use Rattle.gadget_limbs.specs.Number.{number_of}

-- the limbs of a number: the top one apart from those below it
pub record Digits (A : Type 0) : Type 0 where
  pub low : List A
  pub top : A

-- by its limbs, the lowest first, of which so many stand below the top
abbrev pub digits_by : ℕ → List ℕ → Digits ℕ
digits_by below limbs = record { low = take below limbs; top = slice_index limbs below }

pub record LessColumns (A : Type 0) : Type 0 where
  -- the top limbs, a negative number's less 256
  pub left_top : A
  pub right_top : A
  -- a mark for each limb, and by how much those of the marked limb differ, less 1
  pub marks : List A
  pub distance : A
  -- whether the left number is below the right one
  pub less : A

-- those of n limbs, from a place on
abbrev pub less_columns : {A : Type 0} → ℕ → ℕ → (ℕ → A) → LessColumns A
less_columns n at column = record {
  left_top = column at;
  right_top = column (at + 1);
  marks = cells column (at + 2) n;
  distance = column (at + 2 + n);
  less = column (at + 3 + n);
}

-- in their order
abbrev pub less_cells : {A : Type 0} → LessColumns A → List A
less_cells c = c.left_top ∷ c.right_top ∷ (c.marks ++ (c.distance ∷ c.less ∷ []))

unfoldable pub marks_sum : {A E : Type 0} → Ring A E → List A → A
marks_sum o [] = o.number 0
marks_sum o (m ∷ ms) = o.plus m (marks_sum o ms)

-- (1 - the marks from here up) * difference
unfoldable pub equal_above : {A E : Type 0} → Ring A E → List A → List A → List A
equal_above o (m ∷ ms) (d ∷ ds) = o.times (o.minus (o.number 1) (marks_sum o (m ∷ ms))) d ∷ equal_above o ms ds
equal_above o _ _ = []

-- mark * (distance + 1 - (2 * less - 1) * difference)
unfoldable pub marked_differs : {A E : Type 0} → Ring A E → A → A → List A → List A → List A
marked_differs o distance less (m ∷ ms) (d ∷ ds) =
    o.times m (o.minus (o.plus distance (o.number 1)) (o.times (o.minus (o.times (o.number 2) less) (o.number 1)) d)) ∷ marked_differs o distance less ms ds
marked_differs o distance less _ _ = []

-- (x - top) * (256 - x + top)
unfoldable pub top_constraint : {A E : Type 0} → Ring A E → A → A → A
top_constraint o x top = o.times (o.minus x top) (o.plus (o.minus (o.number 256) x) top)

-- y - x
unfoldable pub differences : {A E : Type 0} → Ring A E → List A → List A → List A
differences o (x ∷ xs) (y ∷ ys) = o.minus y x ∷ differences o xs ys
differences o _ _ = []

unfoldable pub less_constraints : {A E : Type 0} → Ring A E → Digits A → Digits A → LessColumns A → List A
less_constraints o x y c =
    let sum = marks_sum o c.marks in
    let ds = differences o x.low y.low ++ (o.minus c.right_top c.left_top ∷ []) in
    top_constraint o x.top c.left_top ∷ top_constraint o y.top c.right_top
    ∷ (map (bit o) c.marks ++ (bit o sum ∷ bit o c.less ∷ o.times c.less (o.minus (o.number 1) sum)
    ∷ (equal_above o c.marks ds ++ marked_differs o c.distance c.less c.marks ds)))

-- what is looked up with 8 bits, where signed is 1 for signed numbers
unfoldable pub less_ranges : {A E : Type 0} → Ring A E → A → LessColumns A → List A
less_ranges o signed c =
    o.plus c.left_top (o.times (o.number 128) signed) ∷ o.plus c.right_top (o.times (o.number 128) signed) ∷ c.distance ∷ []

-- ---- what the columns are

-- the limbs of the number by which signed numbers are ordered: the sign bit is turned
abbrev pub ordered_limbs : ℕ → Digits ℕ → List ℕ
ordered_limbs signed x = x.low ++ ((x.top + 128 * signed) % 256 ∷ [])

abbrev pub ordered : ℕ → Digits ℕ → ℕ
ordered signed x = number_of (ordered_limbs signed x)

-- how many limbs are marked
abbrev pub count : List ℕ → ℕ
count [] = 0
count (m ∷ ms) = m + count ms

unfoldable pub mark : ℕ → ℕ → ℕ → ℕ
mark above x y = if nat_eq above 0 then (if nat_eq x y then 0 else 1) else 0

unfoldable pub apart : ℕ → ℕ → ℕ
apart x y = if nat_lt x y then y - x - 1 else x - y - 1

-- the highest limb at which two numbers differ is marked
unfoldable pub marks_of : List ℕ → List ℕ → List ℕ
marks_of (x ∷ xs) (y ∷ ys) = let ms = marks_of xs ys in mark (count ms) x y ∷ ms
marks_of _ _ = []

-- and by how much they differ there, less 1
unfoldable pub distance_of : List ℕ → List ℕ → ℕ
distance_of (x ∷ xs) (y ∷ ys) = if nat_eq (count (marks_of xs ys)) 0 then apart x y else distance_of xs ys
distance_of _ _ = 0

-- and whether the left one is below the right one there
unfoldable pub below_of : List ℕ → List ℕ → ℕ
below_of (x ∷ xs) (y ∷ ys) = if nat_eq (count (marks_of xs ys)) 0 then from_bool (nat_lt x y) else below_of xs ys
below_of _ _ = 0

unfoldable pub less_filled : ℕ → Digits ℕ → Digits ℕ → LessColumns ℕ
less_filled signed x y = record {
  left_top = field_sub ((x.top + 128 * signed) % 256) (128 * signed);
  right_top = field_sub ((y.top + 128 * signed) % 256) (128 * signed);
  marks = marks_of (ordered_limbs signed x) (ordered_limbs signed y);
  distance = distance_of (ordered_limbs signed x) (ordered_limbs signed y);
  less = below_of (ordered_limbs signed x) (ordered_limbs signed y);
}
