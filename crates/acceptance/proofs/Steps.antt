-- Steps that meet the blocks are steps of the machine, and a path of them is a run.
use Rattle.std.proofs.Common.{◌≡◌, ℕ, zero, suc, ◌%◌, ◌≤◌, Bool, true, false, nat_eq, List, [], ◌∷◌, ◌++◌, length, map, take, drop, refl, sym, ap, ◌∙◌, subst, arith, Some, Contains, append_assoc}
use Rattle.std.specs.Prelude.{flat_map, if◌then◌else◌}
use Rattle.std.specs.List.{AllByRecursion}
use Rattle.std.proofs.lemmas.Bool.{eqb-true}
use Rattle.vm_isa.specs.declared.instr.VmInstr.{VmInstr}
use Rattle.vm_isa.specs.Blocks.{Blocks, VmState, VmStep, VmGoes, Meets, after_accesses, hints_used}
use Rattle.vm_isa.specs.Means.{Accessed, means_of}
use Rattle.vm_isa.specs.Words.{IsBytes}
use Rattle.air_core.specs.Step.{Touched, FourEach, IsMeaning, accessed}
use Rattle.exec_path.specs.Path.{Point, IsPath}
use Rattle.acceptance.specs.BlockRun.{StepsMeet, after_steps, step_accesses}
use Rattle.acceptance.specs.OneRun.{RowStep, StepHasBytes, timed_rows, timed_row}
use Rattle.air_core.specs.declared.hint.HintWord.{HintWord}
use Rattle.acceptance.specs.Spelled.{hint_event, hints_before, low_byte}
use Rattle.acceptance.proofs.Hints.{any_given, hint_word, hint_four, olds_of}
use Rattle.acceptance.proofs.Row.{slot_word, step_hint}

-- the word in slot 1 is that of an access, or none is there
slot_bytes : (accesses : List Touched) → AllByRecursion (λ a. IsBytes a.old × IsBytes a.new) accesses → IsBytes (slot_word accesses)
slot_bytes [] bytes = tt
slot_bytes (a ∷ more) bytes = either a.new (slot_word more) (nat_eq a.slot 1) bytes.0.1 (slot_bytes more bytes.1)
  where
    either : (xs ys : List ℕ) (b : Bool) → IsBytes xs → IsBytes ys → IsBytes (if b then xs else ys)
    either xs ys true p q = p
    either xs ys false p q = q

bytes_are_low : (xs : List ℕ) → IsBytes xs → map low_byte xs ≡ xs
bytes_are_low [] h = refl
bytes_are_low (x ∷ xs) h =
    let low : x % 256 ≡ x = omega (arith, h.0) in
    rw (low, bytes_are_low xs h.1) refl

-- ---- one step

-- a step along the path: a row of the program with its meaning, and its words are bytes
pub record IsMachineStep (program : List VmInstr) (step : RowStep) : Type 0 where
  pub stands : Contains program step.instr
  pub means : IsMeaning step.instr step.accesses step.next
  pub four : AllByRecursion FourEach step.accesses
  pub bytes : StepHasBytes step

-- the hint bytes that a row uses up
abbrev pub word_bytes : HintWord → List ℕ
word_bytes h = if h.next then [] else map low_byte h.word

word_before : (h : HintWord) (hs : List HintWord) (rest : List ℕ) (b : Bool) → h.next ≡ b → hints_before (map hint_event hs) rest ≡ flat_map word_bytes hs ++ rest
    → hints_before (map hint_event (h ∷ hs)) rest ≡ flat_map word_bytes (h ∷ hs) ++ rest
word_before h hs rest true is more = rw is more
word_before h hs rest false is more = rw is (ap (λ (bytes : List ℕ). map low_byte h.word ++ bytes) more ∙ sym (append_assoc (map low_byte h.word) (flat_map word_bytes hs) rest))

-- those of rows, before others
pub before_words : (hs : List HintWord) (rest : List ℕ) → hints_before (map hint_event hs) rest ≡ flat_map word_bytes hs ++ rest
before_words [] rest = refl
before_words (h ∷ hs) rest = word_before h hs rest h.next refl (before_words hs rest)

-- the hint bytes that a step uses up
abbrev pub step_bytes : RowStep → List ℕ
step_bytes step = flat_map word_bytes (step_hint step)

olds_accessed : (accesses : List Touched) → map (λ (a : Accessed). a.old) (map accessed accesses) ≡ olds_of accesses
olds_accessed [] = refl
olds_accessed (a ∷ more) = ap (λ (xs : List (List ℕ)). a.old ∷ xs) (olds_accessed more)

take_four : (xs ys : List ℕ) → length xs ≡ 4 → take 4 (xs ++ ys) ≡ xs
take_four [] ys h = absurd (omega (arith, h))
take_four (a ∷ []) ys h = absurd (omega (arith, h))
take_four (a ∷ b ∷ []) ys h = absurd (omega (arith, h))
take_four (a ∷ b ∷ c ∷ []) ys h = absurd (omega (arith, h))
take_four (a ∷ b ∷ c ∷ d ∷ []) ys h = refl
take_four (a ∷ b ∷ c ∷ d ∷ e ∷ xs) ys h = absurd (omega (arith, h))

drop_four : (xs ys : List ℕ) → length xs ≡ 4 → drop 4 (xs ++ ys) ≡ ys
drop_four [] ys h = absurd (omega (arith, h))
drop_four (a ∷ []) ys h = absurd (omega (arith, h))
drop_four (a ∷ b ∷ []) ys h = absurd (omega (arith, h))
drop_four (a ∷ b ∷ c ∷ []) ys h = absurd (omega (arith, h))
drop_four (a ∷ b ∷ c ∷ d ∷ []) ys h = refl
drop_four (a ∷ b ∷ c ∷ d ∷ e ∷ xs) ys h = absurd (omega (arith, h))

abbrev pub state : ℕ → Blocks → List ℕ → VmState
state pc blocks hints = record { pc = pc; blocks = blocks; hints = hints }

-- what a step takes of the hint bytes
record Takes (step : RowStep) (rest : List ℕ) : Type 0 where
  means : means_of step.instr (olds_of step.accesses) (take 4 (step_bytes step ++ rest)) ≡ Some (record { accesses = map accessed step.accesses; next = step.next })
  enough : hints_used step.instr.op ≤ length (step_bytes step ++ rest)
  left : drop (hints_used step.instr.op) (step_bytes step ++ rest) ≡ rest

append_none : (xs : List ℕ) → xs ++ [] ≡ xs
append_none [] = refl
append_none (x ∷ xs) = ap (λ (t : List ℕ). x ∷ t) (append_none xs)

length_more : (xs ys : List ℕ) → length xs ≤ length (xs ++ ys)
length_more [] ys = omega arith
length_more (x ∷ xs) ys = omega (arith, length_more xs ys)

takes_by : (program : List VmInstr) (step : RowStep) (rest : List ℕ) (b : Bool) → nat_eq step.instr.op 37 ≡ b → IsMachineStep program step → Takes step rest
takes_by program step rest false is m =
    let none : step_bytes step ≡ [] = rw is refl in
    let used : hints_used step.instr.op ≡ 0 = rw is refl in
    record {
      means = any_given step.instr (olds_of step.accesses) m.means.0 (take 4 (step_bytes step ++ rest)) (record { accesses = map accessed step.accesses; next = step.next }) is m.means.1;
      enough = omega (arith, used);
      left = rw (used, none) refl;
    }
takes_by program step rest true is m =
    let op : step.instr.op ≡ 37 = eqb-true step.instr.op 37 is in
    let given = m.means.0 in
    let word : slot_word step.accesses ≡ given = hint_word step.instr step.next step.accesses given op m.means.1 in
    let four : length given ≡ 4 = hint_four step.instr step.next step.accesses given op m.four m.means.1 in
    let low : map low_byte (slot_word step.accesses) ≡ slot_word step.accesses = bytes_are_low (slot_word step.accesses) (slot_bytes step.accesses m.bytes) in
    let here : step_bytes step ≡ map low_byte (slot_word step.accesses) ++ [] = rw is refl in
    let all : step_bytes step ≡ given = here ∙ append_none (map low_byte (slot_word step.accesses)) ∙ low ∙ word in
    let used : hints_used step.instr.op ≡ 4 = rw is refl in
    record {
      means = subst (λ (bytes : List ℕ). means_of step.instr (olds_of step.accesses) bytes ≡ Some (record { accesses = map accessed step.accesses; next = step.next }))
          (sym (ap (λ (xs : List ℕ). take 4 (xs ++ rest)) all ∙ take_four given rest four)) m.means.1;
      enough = omega (arith, used, length_more (step_bytes step) rest, ap length all, four);
      left = ap (λ (n : ℕ). drop n (step_bytes step ++ rest)) used ∙ ap (λ (xs : List ℕ). drop 4 (xs ++ rest)) all ∙ drop_four given rest four;
    }

pub machine_step : (program : List VmInstr) (step : RowStep) (blocks : Blocks) (rest : List ℕ) → IsMachineStep program step → Meets blocks (step_accesses step)
    → VmStep program (state step.instr.pc blocks (step_bytes step ++ rest)) (state step.next (after_accesses blocks (step_accesses step)) rest)
machine_step program step blocks rest m meets =
    let takes = takes_by program step rest (nat_eq step.instr.op 37) refl m in
    record {
      instr = step.instr;
      stands = m.stands;
      here = refl;
      meaning = record { accesses = step_accesses step; next = step.next };
      means = ap (λ (olds : List (List ℕ)). means_of step.instr olds (take 4 (step_bytes step ++ rest))) (olds_accessed step.accesses) ∙ takes.means;
      meets = meets;
      enough = takes.enough;
      next = ap (λ (hints : List ℕ). state step.next (after_accesses blocks (step_accesses step)) hints) (sym takes.left);
    }

-- ---- a path

-- a step before a run is a run
pub goes_first : (program : List VmInstr) (s t u : VmState) (n : ℕ) → VmStep program s t → VmGoes program t n u → VmGoes program s (suc n) u
goes_first program s t u zero step same = (s, refl, subst (VmStep program s) (sym same) step)
goes_first program s t u (suc n) step (before, reached, last) = (before, goes_first program s t before n step reached, last)

-- the hint bytes of all steps
abbrev pub path_bytes : List RowStep → List ℕ
path_bytes path = flat_map step_bytes path

pub path_goes : (program : List VmInstr) (start end : Point) (path : List RowStep) (blocks : Blocks) (rest : List ℕ) → AllByRecursion (IsMachineStep program) path → StepsMeet blocks path → IsPath start (timed_rows path) end
    → VmGoes program (state start.pc blocks (path_bytes path ++ rest)) (length path) (state end.pc (after_steps blocks path) rest)
path_goes program start end [] blocks rest steps meets path = ap (λ (pc : ℕ). state pc blocks rest) (sym (ap (λ (x : Point). x.pc) path))
path_goes program start end (step ∷ more) blocks rest steps meets path =
    let from : step.instr.pc ≡ start.pc = ap (λ (x : Point). x.pc) path.0 in
    let first = machine_step program step blocks (path_bytes more ++ rest) steps.0 meets.0 in
    let later = path_goes program (record { pc = step.next; time = (timed_row step).to_time }) end more (after_accesses blocks (step_accesses step)) rest steps.1 meets.1 path.1 in
    let whole_path = goes_first program (state step.instr.pc blocks (step_bytes step ++ (path_bytes more ++ rest))) (state step.next (after_accesses blocks (step_accesses step)) (path_bytes more ++ rest)) (state end.pc (after_steps blocks (step ∷ more)) rest) (length more) first later in
    let at_start = subst (λ (pc : ℕ). VmGoes program (state pc blocks (step_bytes step ++ (path_bytes more ++ rest))) (suc (length more)) (state end.pc (after_steps blocks (step ∷ more)) rest)) from whole_path in
    subst (λ (hints : List ℕ). VmGoes program (state start.pc blocks hints) (suc (length more)) (state end.pc (after_steps blocks (step ∷ more)) rest)) (sym (append_assoc (step_bytes step) (path_bytes more) rest)) at_start
