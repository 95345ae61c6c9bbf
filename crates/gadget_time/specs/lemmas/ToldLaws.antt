-- What a row of an instruction table says on the buses of the machine.
use Rattle.std.proofs.Common.{◌≡◌, ◌≢◌, ℕ, ◌+◌, ◌*◌, ◌^◌, ◌≤◌, ◌<◌, false, nat_eq, List, [], ◌∷◌, ◌++◌, length, map, flat_map, refl, sym, ap, subst, ◌∙◌, ⊎_elim, arith, append-nil, length-append, lit<, pow_mono, pow-add, slice_index}
use Rattle.std.specs.List.{AllByRecursion}
use Rattle.std.proofs.lemmas.Bool.{cases_eq, ne_eqb}
use Rattle.std.proofs.lemmas.Grind.{flat_map-append}
use Rattle.vm_field.specs.Field.{field_add, field_sub, field_mul}
use Rattle.vm_field.proofs.Constraints.{gated}
use Rattle.vm_isa.specs.Instr.{IsInstruction}
use Rattle.air_core.specs.declared.event.Event.{Event}
use Rattle.air_core.specs.Sheet.{Sheet, OwnsSome, AllZero, counted, sent, received}
use Rattle.air_core.specs.Path.{path_lines}
use Rattle.air_core.specs.Lookups.{Good, GoodEvent}
use Rattle.air_core.specs.Step.{Touched, on_bus, touched_events, FourEach, Rising, IsStep}
use Rattle.air_core.specs.Hint.{is_program, NoHint}
use Rattle.air_core.specs.Laws.{MayBus}
use Rattle.air_core.specs.ListLemmas.{all_left, all_right, all_append, all_weaker, all_counted, all_counted_back, counted-append, on_bus-append, on_bus_none, counted_none, counted_length}
use Rattle.air_core.specs.PathLaws.{path_quiet, path_on, path_program}
use Rattle.air_core.proofs.LookupLemmas.{range_good}
use Rattle.air_core.proofs.HintLemmas.{NoProgram, path_no_program, no_hint}
use Rattle.vm_field.specs.Limbs.{list_of}
use Rattle.gadget_time.specs.declared.touch.Touch.{Touch}
use Rattle.gadget_time.specs.Told.{Told, told_lines, told_front, touch_lines, touches_lines, touch_constraint, time_constraint, touched, touched_of, if_touched}
use Rattle.gadget_time.specs.Laws.{CountsSmall, OffMachine, TellsStep, LaterThan, AllApart}
use Rattle.air_core.specs.Ring.{field}
use Rattle.air_core.specs.declared.bus.TheConstants.{MEMORY, EXECUTION, PROGRAM}

-- One access.

touch_quiet : (hi time : ℕ) (a : Touch ℕ) → a.count ≡ 0 → AllByRecursion (λ e. e.count ≡ 0) (touch_lines field hi time a)
unfolding touch_lines
touch_quiet hi time a h = (h, (h, (h, (h, tt))))

touch_memory : (hi time : ℕ) (a : Touch ℕ) → a.count ≤ 1 → on_bus MEMORY (counted (touch_lines field hi time a)) ≡ flat_map (touched_events time) (if_touched a)
unfolding touch_lines list_of
touch_memory hi time a h =
    ⊎_elim
    (λ (one : a.count ≡ 1). rw one refl)
    (λ (other : a.count ≡ 1 → ⊥). let zero : a.count ≡ 0 = omega arith in rw zero refl)
    (cases_eq a.count 1)

touch_path : (hi time : ℕ) (a : Touch ℕ) → AllByRecursion (λ e. e.bus ≢ 0) (touch_lines field hi time a)
unfolding touch_lines
touch_path hi time a = (omega arith, (omega arith, (omega arith, (omega arith, tt))))

touch_program : (hi time : ℕ) (a : Touch ℕ) → AllByRecursion (λ e. e.bus ≢ 1) (touch_lines field hi time a)
unfolding touch_lines
touch_program hi time a = (omega arith, (omega arith, (omega arith, (omega arith, tt))))

-- All accesses.

touches_quiet : (hi time : ℕ) (touches : List (Touch ℕ)) → AllByRecursion (λ a. a.count ≡ 0) touches → AllByRecursion (λ e. e.count ≡ 0) (touches_lines field hi time touches)
touches_quiet hi time [] h = tt
touches_quiet hi time (a ∷ more) h =
    all_append (λ e. e.count ≡ 0) (touch_lines field hi time a) (touches_lines field hi time more) (touch_quiet hi time a h.0) (touches_quiet hi time more h.1)

touches_memory : (hi time : ℕ) (touches : List (Touch ℕ)) → CountsSmall touches → on_bus MEMORY (counted (touches_lines field hi time touches)) ≡ flat_map (touched_events time) (touched_of touches)
touches_memory hi time [] h = refl
touches_memory hi time (a ∷ more) h =
    ap (on_bus 2) (counted-append (touch_lines field hi time a) (touches_lines field hi time more))
    ∙ on_bus-append 2 (counted (touch_lines field hi time a)) (counted (touches_lines field hi time more))
    ∙ ap (λ xs. xs ++ on_bus MEMORY (counted (touches_lines field hi time more))) (touch_memory hi time a h.0)
    ∙ ap (λ xs. flat_map (touched_events time) (if_touched a) ++ xs) (touches_memory hi time more h.1)
    ∙ sym (flat_map-append (touched_events time) (if_touched a) (touched_of more))

touches_path : (hi time : ℕ) (touches : List (Touch ℕ)) → AllByRecursion (λ e. e.bus ≢ 0) (touches_lines field hi time touches)
touches_path hi time [] = tt
touches_path hi time (a ∷ more) = all_append (λ e. e.bus ≢ 0) (touch_lines field hi time a) (touches_lines field hi time more) (touch_path hi time a) (touches_path hi time more)

touches_program : (hi time : ℕ) (touches : List (Touch ℕ)) → AllByRecursion (λ e. e.bus ≢ 1) (touches_lines field hi time touches)
touches_program hi time [] = tt
touches_program hi time (a ∷ more) = all_append (λ e. e.bus ≢ 1) (touch_lines field hi time a) (touches_lines field hi time more) (touch_program hi time a) (touches_program hi time more)

-- The whole row.

-- a row whose counts are all 0 says nothing
pub told_silent : (hi : ℕ) (d : Told ℕ Event) → d.valid ≡ 0 → AllByRecursion (λ a. a.count ≡ 0) d.touches → AllByRecursion (λ e. e.count ≡ 0) d.others → counted (told_lines field hi d) ≡ []
told_silent hi d v t o =
    counted_none (told_lines field hi d)
    (all_append (λ e. e.count ≡ 0) (told_front field hi d) d.others
    (all_append (λ e. e.count ≡ 0) (path_lines field d.valid d.pc d.time d.next d.slots d.numbers) (touches_lines field hi d.time d.touches)
    (path_quiet d.valid d.pc d.time d.next d.slots d.numbers v) (touches_quiet hi d.time d.touches t)) o)

-- the events of a row on one bus, by its parts
on_parts : (bus hi : ℕ) (d : Told ℕ Event) → on_bus bus (counted (told_lines field hi d))
    ≡ (on_bus bus (counted (path_lines field d.valid d.pc d.time d.next d.slots d.numbers)) ++ on_bus bus (counted (touches_lines field hi d.time d.touches))) ++ on_bus bus (counted d.others)
on_parts bus hi d =
    let p = path_lines field d.valid d.pc d.time d.next d.slots d.numbers in
    let t = touches_lines field hi d.time d.touches in
    ap (on_bus bus) (counted-append (p ++ t) d.others)
    ∙ on_bus-append bus (counted (p ++ t)) (counted d.others)
    ∙ ap (λ xs. xs ++ on_bus bus (counted d.others)) (ap (on_bus bus) (counted-append p t) ∙ on_bus-append bus (counted p) (counted t))

join_parts : (a b c x : List Event) → a ≡ x → b ≡ [] → c ≡ [] → (a ++ b) ++ c ≡ x
join_parts a b c x e f g = rw (e, f, g) (append-nil (x ++ []) ∙ append-nil x)

others_off : (bus : ℕ) (others : List Event) → bus < 3 → OffMachine others → on_bus bus (counted others) ≡ []
others_off bus others low off =
    on_bus_none bus (counted others)
    (all_counted (λ e. e.bus ≢ bus) others (all_weaker (λ e. 3 ≤ e.bus) (λ e. e.bus ≢ bus) (λ e h. omega arith) others off))

-- a valid row's events on the buses of the machine
pub record Says (d : Told ℕ Event) (events : List Event) : Type 0 where
  pub path : on_bus EXECUTION events ≡ received EXECUTION 1 (d.pc ∷ d.time ∷ []) ∷ sent EXECUTION 1 (d.next ∷ field_add d.time d.slots ∷ []) ∷ []
  pub program : on_bus PROGRAM events ≡ sent PROGRAM 1 d.numbers ∷ []
  pub memory : on_bus MEMORY events ≡ flat_map (touched_events d.time) (touched_of d.touches)

pub told_says : (hi : ℕ) (d : Told ℕ Event) → d.valid ≡ 1 → CountsSmall d.touches → OffMachine d.others → Says d (counted (told_lines field hi d))
told_says hi d v small off =
    let on = path_on d.valid d.pc d.time d.next d.slots d.numbers v in
    let touches = touches_lines field hi d.time d.touches in
    record {
      path = on_parts 0 hi d
          ∙ join_parts _ _ _ _ on.path (on_bus_none 0 (counted touches) (all_counted (λ e. e.bus ≢ 0) touches (touches_path hi d.time d.touches))) (others_off 0 d.others (lit< tt) off);
      program = on_parts 1 hi d
          ∙ join_parts _ _ _ _ on.program (on_bus_none 1 (counted touches) (all_counted (λ e. e.bus ≢ 1) touches (touches_program hi d.time d.touches))) (others_off 1 d.others (lit< tt) off);
      memory = on_parts 2 hi d
          ∙ (rw (on.memory, others_off 2 d.others (lit< tt) off) (append-nil _ ∙ touches_memory hi d.time d.touches small));
    }

-- A good row's program tuple, lookups and others.

pub good_others : (hi : ℕ) (d : Told ℕ Event) → Good (counted (told_lines field hi d)) → AllByRecursion (λ e. e.count ≢ 0 → GoodEvent e) d.others
good_others hi d good =
    all_right (λ e. e.count ≢ 0 → GoodEvent e) (told_front field hi d) d.others (all_counted_back GoodEvent (told_lines field hi d) good)

good_touches : (hi : ℕ) (d : Told ℕ Event) → Good (counted (told_lines field hi d)) → AllByRecursion (λ e. e.count ≢ 0 → GoodEvent e) (touches_lines field hi d.time d.touches)
good_touches hi d good =
    all_right (λ e. e.count ≢ 0 → GoodEvent e) (path_lines field d.valid d.pc d.time d.next d.slots d.numbers) (touches_lines field hi d.time d.touches)
    (all_left (λ e. e.count ≢ 0 → GoodEvent e) (told_front field hi d) d.others (all_counted_back GoodEvent (told_lines field hi d) good))

-- a valid row's program tuple is an instruction's
pub good_program : (hi : ℕ) (d : Told ℕ Event) → d.valid ≡ 1 → Good (counted (told_lines field hi d)) → IsInstruction d.numbers
good_program hi d v good =
    path_program d.valid d.pc d.time d.next d.slots d.numbers v
    (all_left (λ e. e.count ≢ 0 → GoodEvent e) (path_lines field d.valid d.pc d.time d.next d.slots d.numbers) (touches_lines field hi d.time d.touches)
    (all_left (λ e. e.count ≢ 0 → GoodEvent e) (told_front field hi d) d.others (all_counted_back GoodEvent (told_lines field hi d) good)))

-- An old time before the new one.

-- over plain numbers: h is 2^hi
old_time_before : (time old lo hi h : ℕ) → h ≤ 8192 → time ≤ 65536 * h → old ≤ 65536 * h → lo < 65536 → hi < h → time_constraint field 1 time old lo hi ≡ 0 → old < time
unfolding time_constraint
old_time_before time old lo hi h top t o l u zero =
    let inner = field_sub (field_sub (field_sub (field_sub time old) 1) lo) (field_mul 65536 hi) in
    let inner_zero : inner ≡ 0 = gated 1 inner refl (omega arith) zero in
    omega arith

touch_ranges : (hi time : ℕ) (a : Touch ℕ) → a.count ≡ 1 → AllByRecursion (λ e. e.count ≢ 0 → GoodEvent e) (touch_lines field hi time a) → (a.gap.lo < 2 ^ 16) × (a.gap.hi < 2 ^ hi)
unfolding touch_lines
touch_ranges hi time a one h =
    (range_good a.gap.lo 16 ((h.1.1.0 (omega arith)).range refl), range_good a.gap.hi hi ((h.1.1.1.0 (omega arith)).range refl))

touch_earlier : (hi time slots : ℕ) (a : Touch ℕ) → hi ≤ 13 → a.count ≡ 1 → AllByRecursion (λ e. e.count ≢ 0 → GoodEvent e) (touch_lines field hi time a) → touch_constraint field time a ≡ 0
    → time + slots ≤ 2 ^ (16 + hi) → a.slot < slots → a.gap.before ≤ 2 ^ (16 + hi) → a.gap.before < time + a.slot
unfolding touch_constraint
touch_earlier hi time slots a top one good zero ends slot old =
    let ranges = touch_ranges hi time a one good in
    let split : 2 ^ (16 + hi) ≡ 65536 * 2 ^ hi = pow-add 2 16 hi in
    let most : 2 ^ hi ≤ 2 ^ 13 = pow_mono top in
    let at_time : field_add time a.slot ≡ time + a.slot = omega arith in
    let at_one : (time_constraint field) 1 (time + a.slot) a.gap.before a.gap.lo a.gap.hi ≡ 0 = rw (one, at_time) at zero in
    old_time_before (time + a.slot) a.gap.before a.gap.lo a.gap.hi (2 ^ hi) (omega arith) (omega arith) (omega arith) (omega (arith, ranges.0)) ranges.1 at_one

abbrev Earlier : ℕ → ℕ → Touched → Type 0
Earlier bits time a = a.before ≤ 2 ^ bits → a.before < time + a.slot

touches_earlier : (hi time slots : ℕ) (touches : List (Touch ℕ)) → hi ≤ 13 → CountsSmall touches → AllByRecursion (λ e. e.count ≢ 0 → GoodEvent e) (touches_lines field hi time touches)
    → AllZero (map (touch_constraint field time) touches) → time + slots ≤ 2 ^ (16 + hi) → AllByRecursion (λ a. a.slot < slots) touches → AllByRecursion (Earlier (16 + hi) time) (touched_of touches)
touches_earlier hi time slots [] top small good zero ends slot = tt
touches_earlier hi time slots (a ∷ more) top small good zero ends slot =
    let good_here = all_left (λ e. e.count ≢ 0 → GoodEvent e) (touch_lines field hi time a) (touches_lines field hi time more) good in
    let good_more = all_right (λ e. e.count ≢ 0 → GoodEvent e) (touch_lines field hi time a) (touches_lines field hi time more) good in
    all_append (Earlier (16 + hi) time) (if_touched a) (touched_of more)
    (⊎_elim
    (λ (one : a.count ≡ 1).
    let only : if_touched a ≡ touched a ∷ [] = rw one refl in
    subst (AllByRecursion (Earlier (16 + hi) time)) (sym only) (λ old. touch_earlier hi time slots a top one good_here zero.0 ends slot.0 old, tt))
    (λ (other : a.count ≡ 1 → ⊥).
    let none : a.count ≡ 0 = omega (arith, small.0) in
    let nothing : if_touched a ≡ [] = rw none refl in
    subst (AllByRecursion (Earlier (16 + hi) time)) (sym nothing) tt)
    (cases_eq a.count 1))
    (touches_earlier hi time slots more top small.1 good_more zero.1 ends slot.1)

-- both words of an access are four numbers
touch_words : (a : Touch ℕ) → AllByRecursion FourEach (if_touched a)
unfolding list_of
touch_words a =
    ⊎_elim
    (λ (none : a.count ≡ 0).
    let nothing : if_touched a ≡ [] = rw none refl in
    subst (AllByRecursion FourEach) (sym nothing) tt)
    (λ (some : a.count ≡ 0 → ⊥).
    let only : if_touched a ≡ touched a ∷ [] = rw (ne_eqb a.count 0 some) refl in
    subst (AllByRecursion FourEach) (sym only) (record { old = refl; new = refl }, tt))
    (cases_eq a.count 0)

touches_words : (touches : List (Touch ℕ)) → AllByRecursion FourEach (touched_of touches)
touches_words [] = tt
touches_words (a ∷ more) = all_append FourEach (if_touched a) (touched_of more) (touch_words a) (touches_words more)

-- a valid row that holds, with good lookups, is a step in time
pub told_step : (hi : ℕ) (d : Told ℕ Event) (accesses : List Touched) (i : IsInstruction d.numbers) → hi ≤ 13 → TellsStep hi d accesses → d.pc ≡ i.instr.pc
    → IsStep d.slots (16 + hi) i.instr d.time d.next accesses (counted (told_lines field hi d))
told_step hi d accesses i top t pc =
    let says = told_says hi d t.valid t.counts t.off in
    record {
      in_range = i.in_range;
      time_below = t.time_below;
      spoken = record {
        path = says.path ∙ ap (λ (x : ℕ). received EXECUTION 1 (x ∷ d.time ∷ []) ∷ sent EXECUTION 1 (d.next ∷ field_add d.time d.slots ∷ []) ∷ []) pc;
        program = says.program ∙ ap (λ (xs : List ℕ). sent PROGRAM 1 xs ∷ []) i.are;
        memory = says.memory ∙ ap (λ (xs : List Touched). flat_map (touched_events d.time) xs) t.are;
      };
      words = subst (AllByRecursion FourEach) t.are (touches_words d.touches);
      rising = t.rising;
      earlier = λ ends. subst (AllByRecursion (Earlier (16 + hi) d.time)) t.are (touches_earlier hi d.time d.slots d.touches top t.counts (good_touches hi d t.good) t.times ends t.slots);
      new_bytes = t.new_bytes;
    }

-- A row whose opcode takes no word of the host's is no hint.

off_hint : (op : ℕ) (e : Event) → e.bus ≢ 1 → is_program op e ≡ false
off_hint op e h = rw (ne_eqb e.bus 1 h) refl

events_off_hint : (op : ℕ) (events : List Event) → AllByRecursion (λ e. e.bus ≢ 1) events → NoProgram op events
events_off_hint op [] h = tt
events_off_hint op (e ∷ es) h = (off_hint op e h.0, events_off_hint op es h.1)

no_program : (op hi : ℕ) (d : Told ℕ Event) → nat_eq (slice_index d.numbers 1) op ≡ false → OffMachine d.others → NoProgram op (told_lines field hi d)
no_program op hi d is off =
    let P : Event → Type 0 = λ e. is_program op e ≡ false in
    all_append P (told_front field hi d) d.others
    (all_append P (path_lines field d.valid d.pc d.time d.next d.slots d.numbers) (touches_lines field hi d.time d.touches)
    (path_no_program op d.valid d.pc d.time d.next d.slots d.numbers is) (events_off_hint op (touches_lines field hi d.time d.touches) (touches_program hi d.time d.touches)))
    (events_off_hint op d.others (all_weaker (λ e. 3 ≤ e.bus) (λ e. e.bus ≢ 1) (λ e h. omega arith) d.others off))

pub told_no_hint : (hi : ℕ) (d : Told ℕ Event) → nat_eq (slice_index d.numbers 1) 37 ≡ false → nat_eq (slice_index d.numbers 1) 42 ≡ false → OffMachine d.others → NoHint (counted (told_lines field hi d))
told_no_hint hi d hint next off = no_hint (told_lines field hi d) (no_program 37 hi d hint off) (no_program 42 hi d next off)

-- The events are on the buses that a table may use.

module _ (sheet : Sheet) (owns : OwnsSome sheet) where
  touch_uses : (hi time : ℕ) (a : Touch ℕ) → AllByRecursion (MayBus sheet) (touch_lines field hi time a)
  unfolding touch_lines
  touch_uses hi time a = (
    record { lookup = λ h. absurd (cc); machine = λ h. owns; private = λ h. absurd (omega arith) },
    (
      record { lookup = λ h. refl; machine = λ h. owns; private = λ h. absurd (omega arith) },
      (
        record { lookup = λ h. refl; machine = λ h. owns; private = λ h. absurd (omega arith) },
        (record { lookup = λ h. refl; machine = λ h. owns; private = λ h. absurd (omega arith) }, tt),
      ),
    ),
  )

  touches_uses : (hi time : ℕ) (touches : List (Touch ℕ)) → AllByRecursion (MayBus sheet) (touches_lines field hi time touches)
  touches_uses hi time [] = tt
  touches_uses hi time (a ∷ more) = all_append (MayBus sheet) (touch_lines field hi time a) (touches_lines field hi time more) (touch_uses hi time a) (touches_uses hi time more)

  path_uses : (valid pc time next slots : ℕ) (numbers : List ℕ) → AllByRecursion (MayBus sheet) (path_lines field valid pc time next slots numbers)
  unfolding path_lines
  path_uses valid pc time next slots numbers = (
    record { lookup = λ h. absurd (cc); machine = λ h. owns; private = λ h. absurd (omega arith) },
    (
      record { lookup = λ h. refl; machine = λ h. owns; private = λ h. absurd (omega arith) },
      (record { lookup = λ h. refl; machine = λ h. owns; private = λ h. absurd (omega arith) }, tt),
    ),
  )

  pub told_uses : (hi : ℕ) (d : Told ℕ Event) → AllByRecursion (MayBus sheet) d.others → AllByRecursion (MayBus sheet) (counted (told_lines field hi d))
  told_uses hi d others =
      all_counted (MayBus sheet) (told_lines field hi d)
      (all_append (MayBus sheet) (told_front field hi d) d.others
      (all_append (MayBus sheet) (path_lines field d.valid d.pc d.time d.next d.slots d.numbers) (touches_lines field hi d.time d.touches)
      (path_uses d.valid d.pc d.time d.next d.slots d.numbers) (touches_uses hi d.time d.touches)) others)

-- a send on a lookup bus is on a bus that any table may use
pub may_look : (sheet : Sheet) (bus count : ℕ) (tuple : List ℕ) → 3 ≤ bus → bus < 6 → MayBus sheet (sent bus count tuple)
may_look sheet bus count tuple low high = record { lookup = λ h. refl; machine = λ h. absurd (omega arith); private = λ h. absurd (omega arith) }

touch_length : (hi time : ℕ) (a : Touch ℕ) → length (touch_lines field hi time a) ≡ 4
unfolding touch_lines
touch_length hi time a = refl

pub touches_length : (hi time : ℕ) (touches : List (Touch ℕ)) → length (touches_lines field hi time touches) ≡ 4 * length touches
touches_length hi time [] = refl
touches_length hi time (a ∷ more) =
    omega (arith, length-append (touch_lines field hi time a) (touches_lines field hi time more), touch_length hi time a, touches_length hi time more)

pub path_length : (valid pc time next slots : ℕ) (numbers : List ℕ) → length (path_lines field valid pc time next slots numbers) ≡ 3
unfolding path_lines
path_length valid pc time next slots numbers = refl

pub told_length : (hi : ℕ) (d : Told ℕ Event) → length (counted (told_lines field hi d)) ≤ 3 + 4 * length d.touches + length d.others
told_length hi d =
    let path = path_lines field d.valid d.pc d.time d.next d.slots d.numbers in
    let touches = touches_lines field hi d.time d.touches in
    omega (arith, counted_length (told_lines field hi d), length-append (told_front field hi d) d.others, length-append path touches, path_length d.valid d.pc d.time d.next d.slots d.numbers, touches_length hi d.time d.touches)

-- The accesses of a step are at different times, modulo p too.

later : (time slot from slots : ℕ) (accesses : List Touched) → slot < from → slots ≤ 64 → Rising from slots accesses → LaterThan time slot accesses
later time slot from slots [] low few r = tt
later time slot from slots (a ∷ more) low few r =
    let first : from ≤ a.slot = r.0 in
    let second : a.slot < slots = r.1 in
    (omega arith, later time slot (a.slot + 1) slots more (omega arith) few r.2)

pub times_apart : (time from slots : ℕ) (accesses : List Touched) → slots ≤ 64 → Rising from slots accesses → AllApart time accesses
times_apart time from slots [] few r = tt
times_apart time from slots (a ∷ more) few r = (later time a.slot (a.slot + 1) slots more (omega arith) few r.2, times_apart time (a.slot + 1) slots more few r.2)
