-- The sheet of a SHA block: pc, t, a flag, the columns of the step, and the times of 26 accesses; 267 columns,
-- 44 constraints, 143 events. What the block makes of the state is not said here but by 64 rows of rounds.
use Rattle.std.specs.Prelude.{◌≡◌, ℕ, ◌+◌, ◌*◌, List, [], ◌∷◌, ◌++◌, flat_map, length, map}
use Rattle.std.specs.List.{range_with_len}
use Rattle.vm_field.specs.declared.limbs.Limbs.{Limbs}
use Rattle.vm_field.specs.Limbs.{limbs_by, list_of}
use Rattle.vm_isa.specs.Spaces.{MEMORY}
use Rattle.air_core.specs.declared.bus.TheConstants.{FIRST_PRIVATE}
use Rattle.air_core.specs.declared.event.Side.TheVariants.{Send, Receive}
use Rattle.air_core.specs.First.{bit}
use Rattle.air_core.specs.Ring.{Ring, cell}
use Rattle.gadget_limbs.specs.Ranges.{range_lines}
use Rattle.gadget_time.specs.declared.touch.Touch.{Touch}
use Rattle.gadget_time.specs.declared.touch.Gap.{Gap}
use Rattle.gadget_time.specs.Form.{Columns, Parts, valid_of}
use Rattle.gadget_bits.specs.declared.halves.Halves.{Halves}
use Rattle.gadget_bits.specs.Bits.{halves_at}
use Rattle.gadget_bits.specs.Stage.{stage_tuple}
use Rattle.gadget_bits.specs.Sum.{half_carry}
use Rattle.gadget_time.specs.Access.{gap_by, register_touch}

-- a step: the words of the two registers, the block, the state before and after, the working variables behind the
-- last round, and the words of the schedule that would come next; the times of the accesses
pub record MainRow (A : Type 0) : Type 0 where
  pub pc : A
  pub time : A
  pub flag : A
  pub rd : A
  pub rs1 : A
  pub base : Limbs A
  pub block : Limbs A
  pub message : List (Limbs A)
  pub old : List (Limbs A)
  pub new : List (Limbs A)
  pub working : List (Halves A)
  pub rest : List (Halves A)
  pub first : Gap A
  pub second : Gap A
  pub reads : List (Gap A)
  pub writes : List (Gap A)

-- words, halves and times one after another, from a column on
abbrev pub words_by : {A : Type 0} → (ℕ → A) → ℕ → ℕ → List (Limbs A)
words_by column at n = map (λ i. limbs_by column (at + 4 * i)) (range_with_len 0 n)

abbrev pub halves_by : {A : Type 0} → (ℕ → A) → ℕ → ℕ → List (Halves A)
halves_by column at n = map (λ i. halves_at column (at + 2 * i)) (range_with_len 0 n)

abbrev pub gaps_by : {A : Type 0} → (ℕ → A) → ℕ → ℕ → List (Gap A)
gaps_by column at n = map (λ i. gap_by column (at + 3 * i)) (range_with_len 0 n)

-- the columns of a row, by those behind the flag
unfoldable pub main_row : {A : Type 0} → A → A → A → (ℕ → A) → MainRow A
main_row pc time flag column = record {
  pc = pc;
  time = time;
  flag = flag;
  rd = column 0;
  rs1 = column 1;
  base = limbs_by column 2;
  block = limbs_by column 6;
  message = words_by column 10 16;
  old = words_by column 74 8;
  new = words_by column 106 8;
  working = halves_by column 138 8;
  rest = halves_by column 154 16;
  first = gap_by column 186;
  second = gap_by column 189;
  reads = gaps_by column 192 16;
  writes = gaps_by column 240 8;
}

abbrev pub main_of : {A E : Type 0} → Ring A E → Columns A → MainRow A
main_of o c = main_row c.pc c.time (valid_of o c) (cell o c.rest)

-- as many columns as the words and times are
pub record Long (r : MainRow ℕ) : Type 0 where
  pub message : length r.message ≡ 16
  pub old : length r.old ≡ 8
  pub new : length r.new ≡ 8
  pub working : length r.working ≡ 8
  pub rest : length r.rest ≡ 16
  pub reads : length r.reads ≡ 16
  pub writes : length r.writes ≡ 8

-- Words as field elements.

unfoldable pub word_field : {A E : Type 0} → Ring A E → Limbs A → A
word_field o w = o.plus (o.plus (o.plus w.x0 (o.times (o.number 256) w.x1)) (o.times (o.number 65536) w.x2)) (o.times (o.number 16777216) w.x3)

-- the halves of a word whose lowest limb is x0
unfoldable pub word_halves : {A E : Type 0} → Ring A E → Limbs A → Halves A
word_halves o w = record { lo = o.plus w.x0 (o.times (o.number 256) w.x1); hi = o.plus w.x2 (o.times (o.number 256) w.x3) }

-- the halves of a word of the block, whose highest limb is x0
unfoldable pub block_halves : {A E : Type 0} → Ring A E → Limbs A → Halves A
block_halves o w = record { lo = o.plus w.x3 (o.times (o.number 256) w.x2); hi = o.plus w.x1 (o.times (o.number 256) w.x0) }

-- Accesses.

-- words one after another, from a base and an offset on
unfoldable pub run_touches : {A E : Type 0} → Ring A E → A → (slot : ℕ) → A → (offset : ℕ) → List (Limbs A) → List (Limbs A) → List (Gap A) → List (Touch A)
run_touches o count slot base offset (x ∷ xs) (y ∷ ys) (g ∷ gs) =
    record { count = count; slot = o.number slot; space = o.number MEMORY; pointer = o.plus base (o.number offset); old = x; new = y; gap = g }
    ∷ run_touches o count (slot + 1) base (offset + 4) xs ys gs
run_touches o count slot base offset _ _ _ = []

-- the words of two registers, sixteen words of the block, and eight of the state, which are written
unfoldable pub main_touches : {A E : Type 0} → Ring A E → MainRow A → List (Touch A)
main_touches o r =
    register_touch o r.flag 0 r.rd r.base r.base r.first
    ∷ register_touch o r.flag 1 r.rs1 r.block r.block r.second
    ∷ (run_touches o r.flag 2 (word_field o r.block) 0 r.message r.message r.reads
    ++ run_touches o r.flag 18 (word_field o r.base) 0 r.old r.new r.writes)

-- The sums of the last state and the working variables.

-- both carries of one sum are 0 or 1
unfoldable pub carry_bits : {A E : Type 0} → Ring A E → Limbs A → Halves A → Limbs A → List A
carry_bits o x f y =
    let low = half_carry o (o.plus (word_halves o x).lo f.lo) (word_halves o y).lo in
    let high = half_carry o (o.plus (o.plus (word_halves o x).hi f.hi) low) (word_halves o y).hi in
    bit o low ∷ bit o high ∷ []

unfoldable pub sum_bits : {A E : Type 0} → Ring A E → List (Limbs A) → List (Halves A) → List (Limbs A) → List A
sum_bits o (x ∷ xs) (f ∷ fs) (y ∷ ys) = carry_bits o x f y ++ sum_bits o xs fs ys
sum_bits o _ _ _ = []

-- Events.

-- pointers are low, and the new state is bytes
unfoldable pub main_ranges : {A E : Type 0} → Ring A E → MainRow A → List E
main_ranges o r = range_lines o r.flag (o.number 5) (r.base.x3 ∷ r.block.x3 ∷ []) ++ range_lines o r.flag (o.number 8) (flat_map list_of r.new)

-- the stage before the first round, and the one behind the last
unfoldable pub start_words : {A E : Type 0} → Ring A E → MainRow A → List (Halves A)
start_words o r = map (word_halves o) r.old ++ map (block_halves o) r.message

unfoldable pub end_words : {A : Type 0} → MainRow A → List (Halves A)
end_words r = r.working ++ r.rest

unfoldable pub chain_lines : {A E : Type 0} → Ring A E → MainRow A → List E
chain_lines o r =
    o.event FIRST_PRIVATE Send r.flag (stage_tuple r.time (o.number 0) (start_words o r))
    ∷ o.event FIRST_PRIVATE Receive r.flag (stage_tuple r.time (o.number 64) (end_words r))
    ∷ []

-- the numbers of the program row behind pc and opcode
unfoldable pub main_numbers : {A E : Type 0} → Ring A E → MainRow A → List A
main_numbers o r =
    let zero = o.number 0 in
    r.rd ∷ r.rs1 ∷ zero ∷ zero ∷ zero ∷ zero ∷ zero ∷ zero ∷ zero ∷ zero ∷ []

abbrev pub main_parts : {A E : Type 0} → Ring A E → Parts A E
main_parts o = record {
  next = λ c. o.plus c.pc (o.number 4);
  numbers = λ c. main_numbers o (main_of o c);
  touches = λ c. main_touches o (main_of o c);
  others = λ c. main_ranges o (main_of o c) ++ chain_lines o (main_of o c);
  constraints = λ c. sum_bits o (main_of o c).old (main_of o c).working (main_of o c).new;
}
