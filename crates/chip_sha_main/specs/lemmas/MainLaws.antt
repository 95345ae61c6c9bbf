-- The laws of the form.
use Rattle.std.proofs.Common.{◌≡◌, ◌≢◌, ℕ, zero, suc, ◌+◌, ◌*◌, ◌≤◌, Bool, true, false, ◌||◌, nat_eq, List, [], ◌∷◌, ◌++◌, flat_map, length, map, slice_index, refl, sym, ap, subst, ◌∙◌, arith, lit<, lit≤, length-append}
use Rattle.std.specs.List.{AllByRecursion}
use Rattle.std.proofs.lemmas.Bool.{eqb-true}
use Rattle.vm_field.specs.declared.limbs.Limbs.{Limbs}
use Rattle.vm_field.specs.Limbs.{list_of}
use Rattle.vm_isa.specs.declared.record.StepRecord.{StepRecord}
use Rattle.vm_isa.specs.declared.access.TimedAccess.{TimedAccess}
use Rattle.vm_isa.specs.Instr.{numbers_of}
use Rattle.vm_isa.specs.Means.{Fillable}
use Rattle.air_core.specs.declared.event.Event.{Event}
use Rattle.air_core.specs.declared.event.Side.TheVariants.{Send}
use Rattle.air_core.specs.First.{bit}
use Rattle.air_core.specs.Flags.{sum_from}
use Rattle.air_core.specs.FlagLaws.{sum_none}
use Rattle.air_core.specs.ListLemmas.{all_append, by_zero_test, zero_test}
use Rattle.air_core.specs.Lookups.{GoodEvent}
use Rattle.air_core.specs.Ring.{field}
use Rattle.air_core.specs.Sheet.{AllZero, AllBelow, event}
use Rattle.gadget_limbs.specs.Ranges.{range_lines}
use Rattle.gadget_limbs.proofs.RangeLaws.{ranges_count, ranges_silent}
use Rattle.gadget_limbs.proofs.RangesSplit.{length-ranges}
use Rattle.gadget_time.specs.declared.touch.Gap.{Gap}
use Rattle.gadget_time.specs.Form.{Columns, filled_columns, no_columns, owns_of}
use Rattle.gadget_time.specs.FormLaws.{FormBounds, FormHolds, FormLaws, InstructionAt, IsAt, IsOther, NoHints, Tells, TellsDone}
use Rattle.gadget_time.specs.Told.{MadeByAll, time_constraint, touch_constraint}
use Rattle.gadget_bits.specs.Bits.{halves_at}
use Rattle.gadget_bits.specs.Sum.{half_carry}
use Rattle.gadget_bits.proofs.RecordWords.{accesses_26}
use Rattle.chip_sha_main.specs.Main.{MainRow, Long, main_of, main_row, main_touches, main_numbers, main_ranges, chain_lines, run_touches, word_field, word_halves, carry_bits, sum_bits}
use Rattle.chip_sha_main.specs.Sheet.{main_form, main_filled, cells_of_main, last_of}
use Rattle.chip_sha_main.specs.lemmas.Back.{main_back, main_wide}
use Rattle.chip_sha_main.specs.lemmas.Below.{cells_below}
use Rattle.chip_sha_main.specs.lemmas.Filled.{made_all, numbers, sums_zero, others_good}
use Rattle.chip_sha_main.specs.lemmas.Made.{somes, made_somes}
use Rattle.chip_sha_main.specs.lemmas.Record.{the_shape, first, second, reads, writes_list, sums, rest, R, row_long, filling, columns_are}
use Rattle.chip_sha_main.specs.lemmas.Steps.{main_accesses, counts_none, counts_small, slots_low, are_touched, rising, new_bytes, main_ranges_good}

-- a row with its flag, and without
pub flag_one : (c : Columns ℕ) → c.flags ≡ 1 ∷ [] → (main_of field c).flag ≡ 1
unfolding main_row
flag_one c e = ap (λ (fs : List ℕ). sum_from field 0 fs) e

pub flag_none : (c : Columns ℕ) → AllZero c.flags → (main_of field c).flag ≡ 0
unfolding main_row
flag_none c none = sum_none c.flags none

pub long : (c : Columns ℕ) → Long (main_of field c)
unfolding main_row
long c = record { message = refl; old = refl; new = refl; working = refl; rest = refl; reads = refl; writes = refl }

pub set_flag : (k : ℕ) (c : Columns ℕ) → IsAt main_form k c → c.flags ≡ 1 ∷ []
set_flag zero c at = at.flags
set_flag (suc k) c at = absurd (omega (arith, at.below))

-- what holds of every lookup of numbers
range_all : (P : Event → Type 0) (count bits : ℕ) (xs : List ℕ) → ((x : ℕ) → P (event 4 Send count (x ∷ bits ∷ []))) → AllByRecursion P (range_lines field count bits xs)
range_all P count bits [] h = tt
range_all P count bits (x ∷ xs) h = (h x, range_all P count bits xs h)

-- Bounds.

others : (r : MainRow ℕ) → AllByRecursion (IsOther false) (main_ranges field r ++ chain_lines field r)
unfolding main_ranges chain_lines
others r =
    all_append (IsOther false) (range_lines field r.flag 5 (r.base.x3 ∷ r.block.x3 ∷ []) ++ range_lines field r.flag 8 (flat_map list_of r.new)) (chain_lines field r)
    (all_append (IsOther false) (range_lines field r.flag 5 (r.base.x3 ∷ r.block.x3 ∷ [])) (range_lines field r.flag 8 (flat_map list_of r.new))
    (range_all (IsOther false) r.flag 5 (r.base.x3 ∷ r.block.x3 ∷ []) (λ x. record { off = lit≤ tt; lookup = λ h. refl; private = λ h. refl }))
    (range_all (IsOther false) r.flag 8 (flat_map list_of r.new) (λ x. record { off = lit≤ tt; lookup = λ h. refl; private = λ h. refl })))
    (record { off = lit≤ tt; lookup = λ h. absurd (omega arith); private = λ h. refl }, (record { off = lit≤ tt; lookup = λ h. absurd (omega arith); private = λ h. refl }, tt))

run_few : (count slot base offset : ℕ) (xs ys : List (Limbs ℕ)) (gs : List (Gap ℕ)) → length (run_touches field count slot base offset xs ys gs) ≤ length xs
unfolding run_touches
run_few count slot base offset [] ys gs = omega arith
run_few count slot base offset (x ∷ xs) [] gs = omega arith
run_few count slot base offset (x ∷ xs) (y ∷ ys) [] = omega arith
run_few count slot base offset (x ∷ xs) (y ∷ ys) (g ∷ gs) = omega (arith, run_few count (slot + 1) base (offset + 4) xs ys gs)

pub touches_few : (r : MainRow ℕ) → Long r → length (main_touches field r) ≤ 26
unfolding main_touches
touches_few r l =
    let message = run_touches field r.flag 2 (word_field field r.block) 0 r.message r.message r.reads in
    let state = run_touches field r.flag 18 (word_field field r.base) 0 r.old r.new r.writes in
    omega (arith, length-append message state, run_few r.flag 2 (word_field field r.block) 0 r.message r.message r.reads, run_few r.flag 18 (word_field field r.base) 0 r.old r.new r.writes, l.message, l.old)

length-limbs : (ws : List (Limbs ℕ)) → length (flat_map list_of ws) ≡ 4 * length ws
unfolding list_of
length-limbs [] = refl
length-limbs (w ∷ ws) = omega (arith, length-limbs ws)

pub others_few : (r : MainRow ℕ) → Long r → length (main_ranges field r ++ chain_lines field r) ≡ 36
unfolding main_ranges chain_lines
others_few r l =
    let tops = range_lines field r.flag 5 (r.base.x3 ∷ r.block.x3 ∷ []) in
    let limbs = range_lines field r.flag 8 (flat_map list_of r.new) in
    omega (arith, length-append (tops ++ limbs) (chain_lines field r), length-append tops limbs, length-ranges r.flag 8 (flat_map list_of r.new), length-limbs r.new, l.new)

pub length-main_ranges : (valid : ℕ) (column : ℕ → ℕ) → length (main_ranges field (main_row 0 0 valid column)) ≡ 34
unfolding main_ranges main_row list_of
length-main_ranges valid column = refl

ranges_none : (r : MainRow ℕ) → r.flag ≡ 0 → AllByRecursion (λ e. e.count ≡ 0) (main_ranges field r ++ chain_lines field r)
unfolding main_ranges chain_lines
ranges_none r none =
    all_append (λ (e : Event). e.count ≡ 0) (range_lines field r.flag 5 (r.base.x3 ∷ r.block.x3 ∷ []) ++ range_lines field r.flag 8 (flat_map list_of r.new)) (chain_lines field r)
    (all_append (λ (e : Event). e.count ≡ 0) (range_lines field r.flag 5 (r.base.x3 ∷ r.block.x3 ∷ [])) (range_lines field r.flag 8 (flat_map list_of r.new))
    (ranges_silent r.flag 5 (r.base.x3 ∷ r.block.x3 ∷ []) none) (ranges_silent r.flag 8 (flat_map list_of r.new) none))
    (none, (none, tt))

ranges_small : (r : MainRow ℕ) → r.flag ≤ 1 → AllByRecursion (λ e. e.count ≤ 1) (main_ranges field r ++ chain_lines field r)
unfolding main_ranges chain_lines
ranges_small r one =
    all_append (λ (e : Event). e.count ≤ 1) (range_lines field r.flag 5 (r.base.x3 ∷ r.block.x3 ∷ []) ++ range_lines field r.flag 8 (flat_map list_of r.new)) (chain_lines field r)
    (all_append (λ (e : Event). e.count ≤ 1) (range_lines field r.flag 5 (r.base.x3 ∷ r.block.x3 ∷ [])) (range_lines field r.flag 8 (flat_map list_of r.new))
    (ranges_count r.flag 1 5 (r.base.x3 ∷ r.block.x3 ∷ []) one) (ranges_count r.flag 1 8 (flat_map list_of r.new) one))
    (one, (one, tt))

zero_sums : zero_test (main_form.parts.constraints (no_columns main_form)) ≡ true
unfolding main_row sum_bits carry_bits word_halves half_carry halves_at bit zero_test
zero_sums = refl

zero_times : zero_test (map (touch_constraint field 0) (main_form.parts.touches (no_columns main_form))) ≡ true
unfolding main_row main_touches run_touches word_field touch_constraint time_constraint zero_test
zero_times = refl

pub main_bounds : FormBounds main_form
main_bounds = record {
  some = lit≤ tt;
  few_flags = lit≤ tt;
  opcodes_below = (lit< tt, tt);
  slots_some = lit≤ tt;
  slots_few = lit≤ tt;
  slots = (refl, tt);
  narrow = lit≤ tt;
  few = λ c. omega (arith, touches_few (main_of field c) (long c), others_few (main_of field c) (long c));
  others = λ c. others (main_of field c);
  zeros = by_zero_test (main_form.parts.constraints (no_columns main_form)) zero_sums;
  zero_touches = by_zero_test (map (touch_constraint field 0) (main_form.parts.touches (no_columns main_form))) zero_times;
  silent_touches = λ c none. counts_none (main_of field c) (flag_none c none);
  silent_others = λ c none. ranges_none (main_of field c) (flag_none c none);
}

-- A valid row tells a step.

abbrev pub main_tells : (k : ℕ) (c : Columns ℕ) → IsAt main_form k c → FormHolds main_form c → InstructionAt main_form k c → Tells main_form c
main_tells k c at holds i =
    let r = main_of field c in
    let one = flag_one c (set_flag k c at) in
    record {
      accesses = main_accesses r;
      counts = counts_small r one;
      slots = slots_low r (long c);
      are = are_touched r one;
      rising = rising r (long c);
      new_bytes = new_bytes r (main_ranges_good r (omega (arith, one)) holds.good).new;
    }

-- The columns of a record tell it.

or_none : (b : Bool) → (b || false) ≡ true → b ≡ true
or_none true h = refl
or_none false h = absurd (cc)

pub op_is : (op : ℕ) → owns_of main_form op ≡ true → op ≡ 40
op_is op h = eqb-true op 40 (or_none (nat_eq op 40) h)

module _ (hi : ℕ) (top : hi ≤ 13) (done : StepRecord) (f : Fillable (16 + hi) done) (op : done.instr.op ≡ 40) where
  abbrev Q : MainRow ℕ
  Q = R hi top done f op

  filled_is : main_filled done ≡ cells_of_main Q
  filled_is = rw (accesses_26 hi done f op) (ap cells_of_main (columns_are hi top done f op))

  -- the row of the columns of a record, read back
  pub row_is : main_of field (filled_columns main_form done) ≡ Q
  unfolding main_row
  row_is =
      ap (λ (xs : List ℕ). main_row done.instr.pc done.time 1 (slice_index xs)) filled_is
      ∙ main_back Q (row_long hi top done f op)

  pub tells_done : TellsDone main_form hi done
  tells_done =
      let i = done.instr in
      let a = first hi top done f op in
      let b = second hi top done f op in
      let rs = reads hi top done f op in
      let ws = writes_list hi top done f op in
      let ss = sums hi top done f op in
      let more = rest hi top done f op in
      let last = last_of done in
      let g = filling hi top done f op in
      let is = row_is in
      record {
        below = lit< tt;
        opcode = sym op;
        rest_long = ap (λ (xs : List ℕ). length xs) filled_is ∙ main_wide Q (row_long hi top done f op);
        rest_below = subst AllBelow (sym filled_is) (cells_below hi top done f op);
        holds = record {
          zero = subst (λ (m : MainRow ℕ). AllZero (sum_bits field m.old m.working m.new)) (sym is) (sums_zero hi i done.time a b rs ws ss last more g);
          good = subst (λ (m : MainRow ℕ). AllByRecursion (λ (e : Event). e.count ≢ 0 → GoodEvent e) (main_ranges field m ++ chain_lines field m)) (sym is) (others_good hi i done.time a b rs ws ss last more g);
        };
        others_small = subst (λ (m : MainRow ℕ). AllByRecursion (λ (e : Event). e.count ≤ 1) (main_ranges field m ++ chain_lines field m)) (sym is) (ranges_small Q (lit≤ tt));
        next = omega (arith, f.in_range.low, (the_shape hi top done f op).next);
        numbers = subst (λ (m : MainRow ℕ). i.pc ∷ i.op ∷ main_numbers field m ≡ numbers_of i) (sym is) (numbers hi i done.time a b rs ws ss last more g);
        sources = somes done.accesses;
        made_by = subst (λ (m : MainRow ℕ). MadeByAll hi done.time (main_touches field m) (somes done.accesses)) (sym is)
            (subst (λ (xs : List TimedAccess). MadeByAll hi done.time (main_touches field Q) (somes xs)) (sym (the_shape hi top done f op).parts.are) (made_all hi i done.time a b rs ws ss last more g));
        accesses = made_somes done.accesses;
      }

pub stands_alone : false ≡ true → ⊥
stands_alone h = cc

abbrev pub main_laws : FormLaws main_form
main_laws = record {
  bounds = main_bounds;
  tells = main_tells;
  means = λ alone k c at holds i bytes. absurd (stands_alone alone);
  fills = λ hi done top f owned. tells_done hi top done f (op_is done.instr.op owned);
}

pub main_no_hints : NoHints main_form
main_no_hints = ((refl, refl), tt)
