-- What a row says whose accesses were filled from a record.
use Rattle.std.proofs.Common.{◌≡◌, ◌≢◌, ℕ, ◌+◌, ◌-◌, ◌*◌, ◌/◌, ◌%◌, ◌^◌, ◌≤◌, ◌<◌, List, [], ◌∷◌, ◌++◌, map, flat_map, Option, Some, None, refl, ap, ◌∙◌, arith, lit≤, pow_mono, pow-add}
use Rattle.std.specs.List.{AllByRecursion}
use Rattle.vm_field.specs.Field.{modulus, field_add, field_sub, field_mul}
use Rattle.vm_field.proofs.Constraints.{gate_off}
use Rattle.vm_isa.specs.declared.access.TimedAccess.{TimedAccess}
use Rattle.vm_isa.specs.declared.record.StepRecord.{StepRecord}
use Rattle.vm_isa.specs.Instr.{IsInstruction}
use Rattle.vm_isa.specs.Slots.{slots_of}
use Rattle.air_core.specs.declared.event.Event.{Event}
use Rattle.air_core.specs.Sheet.{AllZero, AllBelow, counted, sent, received}
use Rattle.air_core.specs.Path.{path_lines}
use Rattle.air_core.specs.Lookups.{Good, GoodEvent}
use Rattle.air_core.specs.Step.{touched_events}
use Rattle.air_core.specs.Laws.{record_events}
use Rattle.air_core.specs.ListLemmas.{all_append, all_weaker, all_counted_some}
use Rattle.air_core.specs.PathLaws.{good_free, path_good, path_counts, time_fits}
use Rattle.air_core.proofs.LookupLemmas.{good_range}
use Rattle.vm_field.specs.Limbs.{list_of}
use Rattle.gadget_time.specs.declared.touch.Gap.{Gap}
use Rattle.gadget_time.specs.declared.touch.Touch.{Touch}
use Rattle.gadget_time.specs.Told.{Told, told_lines, told_front, touch_lines, touches_lines, touch_constraint, time_constraint, gap_filled, touched, touched_of, MadeBy, MadeByAll, made}
use Rattle.gadget_time.specs.Laws.{CountsSmall, TellsRecord, SaysRecord}
use Rattle.gadget_time.specs.lemmas.ToldLaws.{told_says}
use Rattle.air_core.specs.Ring.{field}
use Rattle.air_core.specs.declared.bus.TheConstants.{EXECUTION, PROGRAM}

-- One access.

-- the columns of what lies between
record GapIs (g : Gap ℕ) (time before : ℕ) : Type 0 where
  before_is : g.before ≡ before % modulus
  lo_is : g.lo ≡ (time - before - 1) % 65536
  hi_is : g.hi ≡ (time - before - 1) / 65536

gap_is : (g : Gap ℕ) (time before : ℕ) → g ≡ gap_filled time before → GapIs g time before
unfolding gap_filled
gap_is g time before e = record { before_is = ap (λ (x : Gap ℕ). x.before) e; lo_is = ap (λ (x : Gap ℕ). x.lo) e; hi_is = ap (λ (x : Gap ℕ). x.hi) e }

-- over plain numbers
gap_holds : (now time before pt lo hi : ℕ) → before < time → time ≤ 2 ^ 29 → now ≡ time → pt ≡ before % modulus → lo ≡ (time - before - 1) % 65536 → hi ≡ (time - before - 1) / 65536
    → field_sub (field_sub (field_sub (field_sub now pt) 1) lo) (field_mul 65536 hi) ≡ 0
gap_holds now time before pt lo hi order low same p l h = omega arith

gap_high : (hi time before : ℕ) → time < 2 ^ (16 + hi) → (time - before - 1) / 65536 < 2 ^ hi
gap_high hi time before low =
    let split : 2 ^ (16 + hi) ≡ 65536 * 2 ^ hi = pow-add 2 16 hi in
    omega arith

-- what an access of a record has in a row
record Made (hi time : ℕ) (t : Touch ℕ) (a : TimedAccess) : Type 0 where
  zero : (touch_constraint field) time t ≡ 0
  lo : t.gap.lo < 2 ^ 16
  hi_fits : t.gap.hi < 2 ^ hi
  events : touched_events time (touched t) ≡ record_events a

said : (time slot space pointer before : ℕ) (old new : List ℕ) (a : TimedAccess) → space ≡ a.access.space → pointer ≡ a.access.pointer → old ≡ a.access.old → new ≡ a.access.new
    → before ≡ a.before → field_add time slot ≡ a.time
    → touched_events time (record { slot = slot; space = space; pointer = pointer; old = old; new = new; before = before }) ≡ record_events a
said time slot space pointer before old new a s p o n b t = rw (s, p, o, n, b, t) refl

made_one : (hi time : ℕ) (t : Touch ℕ) (a : TimedAccess) → hi ≤ 13 → MadeBy hi time t a → Made hi time t a
unfolding touch_constraint time_constraint
made_one hi time t a top m =
    let up : 16 + hi ≤ 29 = omega arith in
    let most : 2 ^ (16 + hi) ≤ 2 ^ 29 = pow_mono up in
    let ends : a.time < 2 ^ (16 + hi) = m.ends in
    let order : a.before < a.time = m.before in
    let at : a.time ≡ time + t.slot = m.at_time in
    let g = gap_is t.gap a.time a.before m.gap in
    let before_is : t.gap.before ≡ a.before = omega (arith, g.before_is) in
    let now : field_add time t.slot ≡ a.time = omega arith in
    let inner = gap_holds (field_add time t.slot) a.time a.before t.gap.before t.gap.lo t.gap.hi order (omega arith) now g.before_is g.lo_is g.hi_is in
    record {
      zero = rw inner (omega arith);
      lo = omega (arith, g.lo_is);
      hi_fits = omega (arith, g.hi_is, gap_high hi a.time a.before ends);
      events = said time t.slot t.space t.pointer t.gap.before (list_of t.old) (list_of t.new) a m.space m.pointer m.old m.new before_is now;
    }

none_zero : (time : ℕ) (t : Touch ℕ) → t.count ≡ 0 → touch_constraint field time t ≡ 0
unfolding touch_constraint time_constraint
none_zero time t none = gate_off t.count (field_sub (field_sub (field_sub (field_sub (field_add time t.slot) t.gap.before) 1) t.gap.lo) (field_mul 65536 t.gap.hi)) none

-- All accesses.

pub made_zero : (hi time : ℕ) (ts : List (Touch ℕ)) (os : List (Option TimedAccess)) → hi ≤ 13 → MadeByAll hi time ts os → AllZero (map (touch_constraint field time) ts)
made_zero hi time [] [] top m = tt
made_zero hi time (t ∷ ts) (None ∷ os) top m = (none_zero time t m.0, made_zero hi time ts os top m.1)
made_zero hi time (t ∷ ts) (Some a ∷ os) top m = ((made_one hi time t a top m.0).zero, made_zero hi time ts os top m.1)
made_zero hi time [] (o ∷ os) top m = absurd m
made_zero hi time (t ∷ ts) [] top m = absurd m

pub made_small : (hi time : ℕ) (ts : List (Touch ℕ)) (os : List (Option TimedAccess)) → MadeByAll hi time ts os → CountsSmall ts
made_small hi time [] [] m = tt
made_small hi time (t ∷ ts) (None ∷ os) m = (omega (arith, m.0), made_small hi time ts os m.1)
made_small hi time (t ∷ ts) (Some a ∷ os) m = (omega (arith, m.0.count), made_small hi time ts os m.1)
made_small hi time [] (o ∷ os) m = absurd m
made_small hi time (t ∷ ts) [] m = absurd m

pub made_memory : (hi time : ℕ) (ts : List (Touch ℕ)) (os : List (Option TimedAccess)) → hi ≤ 13 → MadeByAll hi time ts os → flat_map (touched_events time) (touched_of ts) ≡ flat_map record_events (made os)
made_memory hi time [] [] top m = refl
made_memory hi time (t ∷ ts) (None ∷ os) top m = rw m.0 (made_memory hi time ts os top m.1)
made_memory hi time (t ∷ ts) (Some a ∷ os) top m = rw m.0.count (
    ap (λ (xs : List Event). xs ++ flat_map (touched_events time) (touched_of ts)) (made_one hi time t a top m.0).events
    ∙ ap (λ (xs : List Event). record_events a ++ xs) (made_memory hi time ts os top m.1))
made_memory hi time [] (o ∷ os) top m = absurd m
made_memory hi time (t ∷ ts) [] top m = absurd m

touch_none : (hi time : ℕ) (t : Touch ℕ) → t.count ≡ 0 → AllByRecursion (λ e. e.count ≢ 0 → GoodEvent e) (touch_lines field hi time t)
unfolding touch_lines
touch_none hi time t none = (λ n. absurd (n none), (λ n. absurd (n none), (λ n. absurd (n none), (λ n. absurd (n none), tt))))

touch_good : (hi time : ℕ) (t : Touch ℕ) → hi ≤ 13 → t.gap.lo < 2 ^ 16 → t.gap.hi < 2 ^ hi → AllByRecursion (λ e. e.count ≢ 0 → GoodEvent e) (touch_lines field hi time t)
unfolding touch_lines
touch_good hi time t top lo high = (
  λ n. good_free _ (omega arith) (omega arith) (omega arith) (omega arith),
  (
    λ n. good_free _ (omega arith) (omega arith) (omega arith) (omega arith),
    (
      λ n. good_range _ refl (record { v = t.gap.lo; n = 16; width = lit≤ tt; below = lo; is = refl }),
      (λ n. good_range _ refl (record { v = t.gap.hi; n = hi; width = omega arith; below = high; is = refl }), tt),
    ),
  ),
)

pub made_good : (hi time : ℕ) (ts : List (Touch ℕ)) (os : List (Option TimedAccess)) → hi ≤ 13 → MadeByAll hi time ts os → AllByRecursion (λ e. e.count ≢ 0 → GoodEvent e) (touches_lines field hi time ts)
made_good hi time [] [] top m = tt
made_good hi time (t ∷ ts) (None ∷ os) top m =
    all_append (λ e. e.count ≢ 0 → GoodEvent e) (touch_lines field hi time t) (touches_lines field hi time ts) (touch_none hi time t m.0) (made_good hi time ts os top m.1)
made_good hi time (t ∷ ts) (Some a ∷ os) top m =
    let one = made_one hi time t a top m.0 in
    all_append (λ e. e.count ≢ 0 → GoodEvent e) (touch_lines field hi time t) (touches_lines field hi time ts) (touch_good hi time t top one.lo one.hi_fits) (made_good hi time ts os top m.1)
made_good hi time [] (o ∷ os) top m = absurd m
made_good hi time (t ∷ ts) [] top m = absurd m

-- The whole row.

touch_small : (hi time : ℕ) (t : Touch ℕ) → t.count ≤ 1 → AllByRecursion (λ e. e.count ≤ 1) (touch_lines field hi time t)
unfolding touch_lines
touch_small hi time t h = (h, (h, (h, (h, tt))))

touches_small : (hi time : ℕ) (ts : List (Touch ℕ)) → CountsSmall ts → AllByRecursion (λ e. e.count ≤ 1) (touches_lines field hi time ts)
touches_small hi time [] h = tt
touches_small hi time (t ∷ ts) h =
    all_append (λ e. e.count ≤ 1) (touch_lines field hi time t) (touches_lines field hi time ts) (touch_small hi time t h.0) (touches_small hi time ts h.1)

one_or_none : (n : ℕ) → n ≤ 1 → n ≢ 0 → n ≡ 1
one_or_none n h some = omega arith

told_counts : (hi : ℕ) (d : Told ℕ Event) → d.valid ≡ 1 → CountsSmall d.touches → AllByRecursion (λ e. e.count ≤ 1) d.others → AllByRecursion (λ e. e.count ≡ 1) (counted (told_lines field hi d))
told_counts hi d v small others =
    let path = path_lines field d.valid d.pc d.time d.next d.slots d.numbers in
    let path_small = all_weaker (λ e. e.count ≡ 1) (λ e. e.count ≤ 1) (λ e h. omega arith) path (path_counts d.valid d.pc d.time d.next d.slots d.numbers v) in
    let all = all_append (λ e. e.count ≤ 1) (told_front field hi d) d.others
    (all_append (λ e. e.count ≤ 1) path (touches_lines field hi d.time d.touches) path_small (touches_small hi d.time d.touches small)) others in
    all_counted_some (λ e. e.count ≡ 1) (told_lines field hi d) (all_weaker (λ e. e.count ≤ 1) (λ e. e.count ≢ 0 → e.count ≡ 1) (λ e h some. one_or_none e.count h some) (told_lines field hi d) all)

told_good : (hi : ℕ) (d : Told ℕ Event) → IsInstruction d.numbers → AllByRecursion (λ e. e.count ≢ 0 → GoodEvent e) (touches_lines field hi d.time d.touches)
    → AllByRecursion (λ e. e.count ≢ 0 → GoodEvent e) d.others → Good (counted (told_lines field hi d))
told_good hi d is touches others =
    all_counted_some GoodEvent (told_lines field hi d)
    (all_append (λ e. e.count ≢ 0 → GoodEvent e) (told_front field hi d) d.others
    (all_append (λ e. e.count ≢ 0 → GoodEvent e) (path_lines field d.valid d.pc d.time d.next d.slots d.numbers) (touches_lines field hi d.time d.touches)
    (path_good d.valid d.pc d.time d.next d.slots d.numbers is) touches) others)

ends_at : (now time slots n : ℕ) → now ≡ time → slots ≡ n → time + n ≤ 2 ^ 29 → field_add now slots ≡ time + n
ends_at now time slots n t s low = omega arith

path_as : (a b c d e f g h : ℕ) → a ≡ e → b ≡ f → c ≡ g → d ≡ h → received EXECUTION 1 (a ∷ b ∷ []) ∷ sent EXECUTION 1 (c ∷ d ∷ []) ∷ [] ≡ received EXECUTION 1 (e ∷ f ∷ []) ∷ sent EXECUTION 1 (g ∷ h ∷ []) ∷ []
path_as a b c d e f g h p q r s = rw (p, q, r, s) refl

-- a row whose accesses were filled from a record meets their constraints, and says the record
pub told_record : (hi : ℕ) (done : StepRecord) (d : Told ℕ Event) (sources : List (Option TimedAccess)) → hi ≤ 13 → TellsRecord hi done d sources → SaysRecord hi done d
told_record hi done d sources top t =
    let small = made_small hi d.time d.touches sources t.made_by in
    let says = told_says hi d t.valid small t.off in
    let ends = ends_at d.time done.time d.slots (slots_of done.instr.op) t.time t.slots (time_fits hi done.time (slots_of done.instr.op) top t.ends) in
    record {
      times = made_zero hi d.time d.touches sources top t.made_by;
      good = told_good hi d (record { instr = done.instr; in_range = t.in_range; are = t.numbers }) (made_good hi d.time d.touches sources top t.made_by) t.others_good;
      counts = told_counts hi d t.valid small t.others_small;
      recorded = record {
        path = says.path ∙ path_as d.pc d.time d.next (field_add d.time d.slots) done.instr.pc done.time done.next (done.time + slots_of done.instr.op) t.pc t.time t.next ends;
        program = says.program ∙ ap (λ (xs : List ℕ). sent PROGRAM 1 xs ∷ []) t.numbers;
        memory = says.memory ∙ made_memory hi d.time d.touches sources top t.made_by ∙ ap (flat_map record_events) t.accesses;
      };
    }

-- the columns of what lies between are elements
pub gap_below : (time before : ℕ) → time ≤ 2 ^ 29 → AllBelow ((gap_filled time before).before ∷ (gap_filled time before).lo ∷ (gap_filled time before).hi ∷ [])
unfolding gap_filled
gap_below time before h = (omega arith, (omega arith, (omega arith, tt)))
