-- The laws of the pair, but for Sound.
use Rattle.std.specs.Prelude.{◌≡◌, ◌≢◌, ℕ, ◌+◌, ◌<◌, ◌≤◌, ◌⊎◌, Bool, true, false, ◌||◌, if◌then◌else◌, nat_eq, List, [], ◌∷◌, ◌++◌, length, refl, sum_by, slice_index}
use Rattle.std.proofs.Common.{sym, ap, ◌∙◌, subst, inl, inr, ⊎_elim, arith, lit<, lit≤, append-nil}
use Rattle.std.specs.List.{AllByRecursion}
use Rattle.std.proofs.lemmas.Bool.{eqb-true}
use Rattle.vm_field.specs.Field.{modulus, field_add, field_mul}
use Rattle.vm_field.proofs.Constraints.{boolean}
use Rattle.vm_isa.specs.declared.instr.VmInstr.{VmInstr}
use Rattle.vm_isa.specs.declared.record.StepRecord.{StepRecord}
use Rattle.vm_isa.specs.Instr.{InRange, IsInstruction, numbers_of}
use Rattle.vm_isa.specs.Slots.{slots_of}
use Rattle.vm_isa.specs.Means.{Fillable}
use Rattle.vm_isa.proofs.InstrLaws.{numbers_of-nop}
use Rattle.vm_isa.proofs.MeansLaws.{nop_goes_on}
use Rattle.air_core.specs.declared.event.Event.{Event}
use Rattle.air_core.specs.Balance.{BalancedOn}
use Rattle.air_core.specs.First.{bit}
use Rattle.air_core.specs.Laws.{Timed, Recorded}
use Rattle.air_core.specs.ListLemmas.{all_append, all_left, all_counted, all_counted_back, all_counted_some, counted_none, counted_length, counted-append, on_bus-append, below_at}
use Rattle.air_core.specs.Lookups.{Good, GoodEvent}
use Rattle.air_core.specs.Path.{path_lines}
use Rattle.air_core.specs.PathLaws.{path_program, path_step, path_good, good_free, path_recorded, time_fits}
use Rattle.air_core.specs.Sheet.{counted, sent, received}
use Rattle.air_core.specs.Step.{on_bus, Touched, IsStep, TimedStep}
use Rattle.air_core.specs.System.{tables_for}
use Rattle.air_core.specs.ExtensionLaws.{ExtensionFits, ExtensionBuses, ExtensionRows, ExtensionTimed, ExtensionComplete, ExtensionQuiet, OnOwnBus, SlotsFit, RecordRows, lookup_count}
use Rattle.extension_tests.specs.Pair.{pair, step_sheet, answer_sheet, step_lines, step_numbers, answer_constraint}
use Rattle.air_core.specs.Ring.{field}
use Rattle.air_core.specs.declared.bus.TheConstants.{FIRST_PRIVATE, EXECUTION, PROGRAM, MEMORY}

-- Law Fits

slots : (op : ℕ) → nat_eq op 39 ≡ true → SlotsFit step_sheet op
slots op h = let is : op ≡ 39 = eqb-true op 39 h in record { are = rw is refl; some = lit≤ tt; few = lit≤ tt }

pub pair_fits : ExtensionFits pair
pair_fits = record {
  bits_low = lit≤ tt;
  bits_high = lit≤ tt;
  count = lit< tt;
  width = lit≤ tt;
  private_high = λ bus h. omega (arith, eqb-true bus 6 h);
  private_byte = λ bus h. omega (arith, eqb-true bus 6 h);
  parts = (record { bits_same = refl; slots = slots }, (record { bits_same = refl; slots = λ op h. absurd (cc) }, tt));
  owners = (λ op h. refl, (λ op h. refl, tt));
}

-- Law Buses

uses : (pc time flag x : ℕ) → AllByRecursion (OnOwnBus pair.private step_sheet) (step_lines pc time flag x)
unfolding step_lines path_lines
uses pc time flag x = (
  record { lookup = λ h. absurd (cc); machine = λ h. (39, refl); own = λ h. absurd (omega arith) },
  (
    record { lookup = λ h. refl; machine = λ h. (39, refl); own = λ h. absurd (omega arith) },
    (
      record { lookup = λ h. refl; machine = λ h. (39, refl); own = λ h. absurd (omega arith) },
      (record { lookup = λ h. refl; machine = λ h. (39, refl); own = λ h. refl }, tt),
    ),
  ),
)

four : (pc time flag x : ℕ) → length (step_lines pc time flag x) ≡ 4
unfolding step_lines path_lines
four pc time flag x = refl

pub pair_buses : ExtensionBuses pair
pair_buses = (
  record {
    uses = λ row. all_counted (OnOwnBus pair.private step_sheet) (step_sheet.lines row) (uses (slice_index row 0) (slice_index row 1) (slice_index row 2) (slice_index row 3));
    few = λ row. omega (arith, counted_length (step_sheet.lines row), four (slice_index row 0) (slice_index row 1) (slice_index row 2) (slice_index row 3));
  },
  (
    record {
      uses = λ row. all_counted (OnOwnBus pair.private answer_sheet) (answer_sheet.lines row) (record { lookup = λ h. absurd (cc); machine = λ h. absurd (omega arith); own = λ h. refl }, tt);
      few = λ row. omega (arith, counted_length (answer_sheet.lines row));
    },
    tt,
  ),
)

-- Law Rows

abbrev once : Bool → ℕ
once b = if b then 1 else 0

once_few : (b : Bool) → once b ≤ 64
once_few true = lit≤ tt
once_few false = lit≤ tt

once_on : (b : Bool) → b ≡ true → once b ≡ 1
once_on b h = rw h refl

once_off : (b : Bool) → b ≡ false → once b ≡ 0
once_off b h = rw h refl

or_off : (b : Bool) → (b || false) ≡ false → b ≡ false
or_off true h = absurd (cc)
or_off false h = refl

pub pair_rows : ExtensionRows pair
pair_rows = record {
  parts = (
    record {
      owned = λ done h. once_on (nat_eq done.instr.op 39) h;
      others = λ done h s. once_off (nat_eq done.instr.op 39) h;
      few = λ done. once_few (nat_eq done.instr.op 39);
    },
    (record { owned = λ done h. absurd (cc); others = λ done h s. absurd (omega arith); few = λ done. once_few (nat_eq done.instr.op 39) }, tt),
  );
  unowned = λ done h.
      let off = or_off (nat_eq done.instr.op 39) h in
      (once_off (nat_eq done.instr.op 39) off, (once_off (nat_eq done.instr.op 39) off, tt));
}

-- Law Quiet

zeros_silent : counted (step_lines 0 0 0 0) ≡ []
unfolding step_lines path_lines
zeros_silent = refl

zeros_hold : (bit field) 0 ≡ 0
unfolding bit
zeros_hold = refl

no_answer : answer_constraint 0 0 ≡ 0
unfolding answer_constraint
no_answer = refl

pub pair_quiet : ExtensionQuiet pair
pair_quiet = (record { holds = (zeros_hold, tt); silent = zeros_silent }, (record { holds = (no_answer, tt); silent = refl }, tt))

-- Law Timed

-- the flag is 0 or 1
pub flag_of : (flag : ℕ) → flag < modulus → bit field flag ≡ 0 → (flag ≡ 0) ⊎ (flag ≡ 1)
unfolding bit
flag_of flag low h = boolean flag low h

pub silent : (pc time flag x : ℕ) → flag ≡ 0 → counted (step_lines pc time flag x) ≡ []
unfolding step_lines path_lines
silent pc time flag x none = counted_none (step_lines pc time flag x) (none, (none, (none, (none, tt))))

-- what the row says is its path, and then the question
pub says : (pc time flag x : ℕ) → flag ≡ 1 → counted (step_lines pc time flag x) ≡ counted (path_lines field flag pc time (field_add pc x) 1 (step_numbers pc flag)) ++ (sent FIRST_PRIVATE 1 (x ∷ []) ∷ [])
unfolding step_lines
says pc time flag x one =
    counted-append (path_lines field flag pc time (field_add pc x) 1 (step_numbers pc flag)) (sent FIRST_PRIVATE flag (x ∷ []) ∷ [])
    ∙ ap (λ (f : ℕ). counted (path_lines field flag pc time (field_add pc x) 1 (step_numbers pc flag)) ++ counted (sent FIRST_PRIVATE f (x ∷ []) ∷ [])) one

-- a step with an event more, which is on none of the machine's buses
step_more : (slots bits : ℕ) (instr : VmInstr) (time next : ℕ) (accesses : List Touched) (events more : List Event) → on_bus EXECUTION more ≡ [] → on_bus PROGRAM more ≡ [] → on_bus MEMORY more ≡ []
    → IsStep slots bits instr time next accesses events → IsStep slots bits instr time next accesses (events ++ more)
step_more slots bits instr time next accesses events more a b c s = record {
  in_range = s.in_range;
  time_below = s.time_below;
  spoken = record {
    path = on_bus-append 0 events more ∙ ap (λ (t : List Event). on_bus EXECUTION events ++ t) a ∙ append-nil (on_bus EXECUTION events) ∙ s.spoken.path;
    program = on_bus-append 1 events more ∙ ap (λ (t : List Event). on_bus PROGRAM events ++ t) b ∙ append-nil (on_bus PROGRAM events) ∙ s.spoken.program;
    memory = on_bus-append 2 events more ∙ ap (λ (t : List Event). on_bus MEMORY events ++ t) c ∙ append-nil (on_bus MEMORY events) ∙ s.spoken.memory;
  };
  words = s.words;
  rising = s.rising;
  earlier = s.earlier;
  new_bytes = s.new_bytes;
}

-- the instruction of a valid row
pub record IsNop (pc : ℕ) (instr : VmInstr) : Type 0 where
  pub at : pc ≡ instr.pc
  pub op : instr.op ≡ 39

is_nop : (pc flag : ℕ) (instr : VmInstr) → flag ≡ 1 → step_numbers pc flag ≡ numbers_of instr → IsNop pc instr
unfolding step_numbers numbers_of
is_nop pc flag instr one are =
    let op : field_mul flag 39 ≡ 39 = rw one refl in
    let same : field_mul flag 39 ≡ instr.op = cc in
    record { at = cc; op = sym same ∙ op }

-- all that a valid row says
pub record Stepped (pc time flag x : ℕ) : Type 0 where
  pub instr : VmInstr
  pub nop : IsNop pc instr
  pub in_range : InRange instr
  pub step : IsStep 1 24 instr time (field_add pc x) [] (counted (step_lines pc time flag x))

program : (pc time flag x : ℕ) → flag ≡ 1 → Good (counted (step_lines pc time flag x)) → IsInstruction (step_numbers pc flag)
unfolding step_lines
program pc time flag x one good =
    let path = path_lines field flag pc time (field_add pc x) 1 (step_numbers pc flag) in
    let lines = all_counted_back GoodEvent (path ++ (sent FIRST_PRIVATE flag (x ∷ []) ∷ [])) good in
    path_program flag pc time (field_add pc x) 1 (step_numbers pc flag) one (all_left (λ e. e.count ≢ 0 → GoodEvent e) path (sent FIRST_PRIVATE flag (x ∷ []) ∷ []) lines)

pub stepped : (pc time flag x : ℕ) → time < modulus → flag ≡ 1 → Good (counted (step_lines pc time flag x)) → Stepped pc time flag x
stepped pc time flag x low one good =
    let p = program pc time flag x one good in
    let nop = is_nop pc flag p.instr one p.are in
    let path = path_lines field flag pc time (field_add pc x) 1 (step_numbers pc flag) in
    let s = path_step 1 24 p.instr flag pc time (field_add pc x) (step_numbers pc flag) one p.in_range p.are nop.at low in
    record {
      instr = p.instr;
      nop = nop;
      in_range = p.in_range;
      step = subst (IsStep 1 24 p.instr time (field_add pc x) []) (sym (says pc time flag x one))
          (step_more 1 24 p.instr time (field_add pc x) [] (counted path) (sent FIRST_PRIVATE 1 (x ∷ []) ∷ []) refl refl refl s);
    }

timed_row : (pc time flag x : ℕ) → time < modulus → flag < modulus → bit field flag ≡ 0 → Good (counted (step_lines pc time flag x))
    → (counted (step_lines pc time flag x) ≡ []) ⊎ TimedStep (λ op. nat_eq op 39) 1 24 (counted (step_lines pc time flag x))
timed_row pc time flag x low small holds good =
    ⊎_elim
    (λ (none : flag ≡ 0). inl (silent pc time flag x none))
    (λ (one : flag ≡ 1).
    let s = stepped pc time flag x low one good in
    inr (record { instr = s.instr; time = time; next = field_add pc x; accesses = []; owned = rw s.nop.op refl; step = s.step }))
    (flag_of flag small holds)

timed : Timed step_sheet
timed owns row is holds good =
    timed_row (slice_index row 0) (slice_index row 1) (slice_index row 2) (slice_index row 3) (below_at row 1 is.below) (below_at row 2 is.below) holds.0 good

pub pair_timed : ExtensionTimed pair
pair_timed = (timed, (λ owns. absurd (let h : false ≡ true = owns.1 in cc), tt))

-- Law Complete

filled_numbers : (instr : VmInstr) → InRange instr → instr.op ≡ 39 → step_numbers instr.pc 1 ≡ numbers_of instr
unfolding step_numbers
filled_numbers instr range op = sym (numbers_of-nop instr range op)

one_bit : (bit field) 1 ≡ 0
unfolding bit
one_bit = refl

four_answered : answer_constraint 4 1 ≡ 0
unfolding answer_constraint
four_answered = refl

good_step : (pc time : ℕ) → IsInstruction (step_numbers pc 1) → Good (counted (step_lines pc time 1 4))
unfolding step_lines
good_step pc time is =
    let path = path_lines field 1 pc time (field_add pc 4) 1 (step_numbers pc 1) in
    all_counted_some GoodEvent (path ++ (sent FIRST_PRIVATE 1 (4 ∷ []) ∷ []))
    (all_append (λ e. e.count ≢ 0 → GoodEvent e) path (sent FIRST_PRIVATE 1 (4 ∷ []) ∷ []) (path_good 1 pc time (field_add pc 4) 1 (step_numbers pc 1) is)
    (λ n. good_free _ (omega arith) (omega arith) (omega arith) (omega arith), tt))

recorded_more : (done : StepRecord) (events more : List Event) → on_bus EXECUTION more ≡ [] → on_bus PROGRAM more ≡ [] → on_bus MEMORY more ≡ [] → Recorded done events → Recorded done (events ++ more)
recorded_more done events more a b c r = record {
  path = on_bus-append 0 events more ∙ ap (λ (t : List Event). on_bus EXECUTION events ++ t) a ∙ append-nil (on_bus EXECUTION events) ∙ r.path;
  program = on_bus-append 1 events more ∙ ap (λ (t : List Event). on_bus PROGRAM events ++ t) b ∙ append-nil (on_bus PROGRAM events) ∙ r.program;
  memory = on_bus-append 2 events more ∙ ap (λ (t : List Event). on_bus MEMORY events ++ t) c ∙ append-nil (on_bus MEMORY events) ∙ r.memory;
}

recorded : (done : StepRecord) → Fillable 24 done → done.instr.op ≡ 39 → Recorded done (counted (step_lines done.instr.pc done.time 1 4))
recorded done f op =
    let pc = done.instr.pc in
    let shape = nop_goes_on 24 done f op in
    let slots : slots_of done.instr.op ≡ 1 = rw op refl in
    let next : field_add pc 4 ≡ done.next = omega (arith, f.in_range.low, shape.next_is) in
    let ends : field_add done.time 1 ≡ done.time + slots_of done.instr.op = omega (arith, time_fits 8 done.time (slots_of done.instr.op) (lit≤ tt) f.ends, slots) in
    let r = path_recorded done 1 (field_add pc 4) 1 (step_numbers pc 1) refl next (filled_numbers done.instr f.in_range op) ends shape.none in
    subst (Recorded done) (sym (says pc done.time 1 4 refl))
    (recorded_more done (counted (path_lines field 1 pc done.time (field_add pc 4) 1 (step_numbers pc 1))) (sent FIRST_PRIVATE 1 (4 ∷ []) ∷ []) refl refl refl r)

two_tables : (done : StepRecord) → nat_eq done.instr.op 39 ≡ true
    → ((done.instr.pc ∷ done.time ∷ 1 ∷ 4 ∷ []) ∷ []) ∷ ((4 ∷ 1 ∷ []) ∷ []) ∷ [] ≡ tables_for done pair.parts
two_tables done h = rw h refl

balanced : (pc time : ℕ) → BalancedOn pair.private ((counted (step_lines pc time 1 4) ++ []) ++ ((counted (received FIRST_PRIVATE 1 (4 ∷ []) ∷ []) ++ []) ++ []))
unfolding step_lines path_lines
balanced pc time = record { even = λ bus tuple h. let is : bus ≡ 6 = eqb-true bus 6 h in rw is (omega arith) }

few : (pc time : ℕ) → sum_by lookup_count ((counted (step_lines pc time 1 4) ++ []) ++ ((counted (received FIRST_PRIVATE 1 (4 ∷ []) ∷ []) ++ []) ++ [])) ≤ 4096
unfolding step_lines path_lines
few pc time = lit≤ tt

filled : (done : StepRecord) → Fillable 24 done → done.instr.op ≡ 39 → RecordRows pair done (((done.instr.pc ∷ done.time ∷ 1 ∷ 4 ∷ []) ∷ []) ∷ ((4 ∷ 1 ∷ []) ∷ []) ∷ [])
filled done f op =
    let fits = time_fits 8 done.time (slots_of done.instr.op) (lit≤ tt) f.ends in
    let is : IsInstruction (step_numbers done.instr.pc 1) = record { instr = done.instr; in_range = f.in_range; are = filled_numbers done.instr f.in_range op } in
    record {
      rows = (
        (
          record {
            is_row = record { wide = refl; below = (omega (arith, f.in_range.low), (omega (arith, fits), (lit< tt, (lit< tt, tt)))) };
            holds = (one_bit, tt);
            good = good_step done.instr.pc done.time is;
          },
          tt,
        ),
        (
          (
            record {
              is_row = record { wide = refl; below = (lit< tt, (lit< tt, tt)) };
              holds = (four_answered, tt);
              good = (good_free _ (omega arith) (omega arith) (omega arith) (omega arith), tt);
            },
            tt,
          ),
          tt,
        ),
      );
      says = ((λ mine. recorded done f op, tt), ((λ mine. absurd (cc), tt), tt));
      balanced = balanced done.instr.pc done.time;
      lookups = few done.instr.pc done.time;
    }

or_on : (b : Bool) → (b || (false || false)) ≡ true → b ≡ true
or_on true h = refl
or_on false h = absurd (cc)

pub pair_complete : ExtensionComplete pair
pair_complete done owned f =
    let mine = or_on (nat_eq done.instr.op 39) owned in
    subst (RecordRows pair done) (two_tables done mine) (filled done f (eqb-true done.instr.op 39 mine))
