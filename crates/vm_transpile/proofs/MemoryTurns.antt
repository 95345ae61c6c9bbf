-- The turns of loads and stores.
use Rattle.std.proofs.Common.{◌≡◌, ℕ, ◌-◌, ◌*◌, ◌%◌, ◌^◌, ◌<◌, ◌==◌, Bool, true, false, cond, ◌&&◌, ◌||◌, not, nat_eq, nat_lt, None, Some, Option, List, [], ◌∷◌, refl, sym, ap, ◌∙◌, subst, arith}
use Rattle.std.proofs.lemmas.Bool.Decides.{nat_tests}
use Rattle.rv_decode.specs.declared.instr.Instr.TheVariants.{Load}
use Rattle.vm_word.specs.declared.operation.LoadKind.{LoadKind}
use Rattle.vm_word.specs.declared.operation.LoadKind.TheVariants.{Lb}
use Rattle.vm_word.specs.Word.{limbs_of, word_of_limbs}
use Rattle.vm_word.specs.Arithmetic.{word_sum}
use Rattle.vm_word.proofs.WordLemmas.{word_of_limbs-limbs_of}
use Rattle.rv_run.specs.declared.outcome.Cause.{Cause}
use Rattle.rv_run.specs.declared.outcome.Cause.TheVariants.{Misaligned, OutOfRange}
use Rattle.rv_run.specs.Machine.{Machine}
use Rattle.rv_run.specs.Memory.{number_at}
use Rattle.rv_run.specs.Step.{register, goes, goes_on, put, at_address}
use Rattle.vm_word.specs.Operations.{load_extended, load_width}
use Rattle.vm_isa.specs.declared.instr.VmInstr.{VmInstr}
use Rattle.vm_isa.specs.Results.{width_of, extended, number_in}
use Rattle.vm_isa.specs.Means.{is_refused, bars_first, bars_second, imm_of, is_bad, new_at, next_of, place, places_by, word_at}
use Rattle.vm_isa.specs.Blocks.{VmState, with_block, hints_used, is_block}
use Rattle.vm_isa.proofs.ReadsKept.{with_block-same}
use Rattle.vm_isa.proofs.Shapes.{forced2, can2, after2, forced3, can3, after3}
use Rattle.vm_transpile.specs.Rows.{load_opcode, bare, row_of}
use Rattle.vm_transpile.specs.Same.{IsMachine, Same, memory_block}
use Rattle.vm_transpile.proofs.Turns.{Turns, turns, state_is, is_register, word_back}
use Rattle.vm_transpile.proofs.Operations.{none_used}
use Rattle.vm_transpile.proofs.Updates.{same_put, same_stays, put_x0}
use Rattle.vm_transpile.proofs.WordBytes.{loaded_here}

-- ---- where an access can be

free_by : (x y : Bool) → cond (not x) (let c : Option Cause = Some Misaligned in c) (cond y None (Some OutOfRange)) ≡ None → (not x || not y) ≡ false
free_by true true e = refl
free_by true false e = absurd (cc)
free_by false y e = absurd (cc)

fits_by : (x y : Bool) → (not x || not y) ≡ false → cond (not x) (let c : Option Cause = Some Misaligned in c) (cond y None (Some OutOfRange)) ≡ None
fits_by true true e = refl
fits_by true false e = absurd (cc)
fits_by false y e = absurd (cc)

pub free_fits : (width a : ℕ) → at_address width a ≡ None → is_bad width a ≡ false
free_fits width a h = free_by (nat_eq (a % width) 0) (nat_lt a (2 ^ 29)) h

pub fits_free : (width a : ℕ) → is_bad width a ≡ false → at_address width a ≡ None
fits_free width a h = fits_by (nat_eq (a % width) 0) (nat_lt a (2 ^ 29)) h

pub fits_aligned : (width a : ℕ) → is_bad width a ≡ false → a % width ≡ 0
fits_aligned width a h = grind (arith, nat_tests)

pub fits_low : (width a : ℕ) → is_bad width a ≡ false → a < 2 ^ 29
fits_low width a h = grind (arith, nat_tests)

pub is_memory : (a : ℕ) → a < 2 ^ 29 → is_block 2 (a - a % 4) ≡ true
is_memory a low =
    let even : (a - a % 4) % 4 ≡ 0 = omega arith in
    let under : a - a % 4 < 2 ^ 29 = omega arith in
    rw even (grind (arith, nat_tests))

-- a test of the first word alone
pub tested : (t : Bool) → ((t && true) || false) ≡ t
tested true = refl
tested false = refl

-- ---- loads

abbrev load_row : ℕ → LoadKind → ℕ → ℕ → List ℕ → Bool → VmInstr
load_row pc kind rd rs1 limbs write = record (bare pc (load_opcode kind)) { rd = rd; rs1 = rs1; write = write; imm = limbs }

record Loads3 (i : VmInstr) (pc : ℕ) (kind : LoadKind) (rd rs1 v : ℕ) : Type 0 where
  places : (b c : ℕ) → places_by i b c ≡ place 0 1 (4 * rs1) ∷ place 1 2 (word_sum b v - word_sum b v % 4) ∷ place 2 1 (4 * rd) ∷ []
  keep0 : (olds : List (List ℕ)) (given x : List ℕ) → new_at i olds given 0 x ≡ x
  keep1 : (olds : List (List ℕ)) (given x : List ℕ) → new_at i olds given 1 x ≡ x
  new : (x y z given : List ℕ) → new_at i (x ∷ y ∷ z ∷ []) given 2 z ≡ limbs_of (load_extended kind (number_in y (word_sum (word_of_limbs x) v % 4) (load_width kind)))
  next : (olds : List (List ℕ)) → next_of i olds ≡ word_sum pc 4
  fits : (x y z : List ℕ) → is_refused i (x ∷ y ∷ z ∷ []) ≡ is_bad (load_width kind) (word_sum (word_of_limbs x) v)
  used : hints_used i.op ≡ 0

record Loads2 (i : VmInstr) (pc : ℕ) (kind : LoadKind) (rs1 v : ℕ) : Type 0 where
  places : (b c : ℕ) → places_by i b c ≡ place 0 1 (4 * rs1) ∷ place 1 2 (word_sum b v - word_sum b v % 4) ∷ []
  keep0 : (olds : List (List ℕ)) (given x : List ℕ) → new_at i olds given 0 x ≡ x
  keep1 : (olds : List (List ℕ)) (given x : List ℕ) → new_at i olds given 1 x ≡ x
  next : (olds : List (List ℕ)) → next_of i olds ≡ word_sum pc 4
  fits : (x y : List ℕ) → is_refused i (x ∷ y ∷ []) ≡ is_bad (load_width kind) (word_sum (word_of_limbs x) v)
  used : hints_used i.op ≡ 0

load3 : (kind : LoadKind) (pc rd rs1 : ℕ) (limbs : List ℕ) → Loads3 (load_row pc kind rd rs1 limbs true) pc kind rd rs1 (word_of_limbs limbs)
unfolding places_by new_at next_of is_refused bars_first bars_second word_at imm_of width_of extended
load3 Lb pc rd rs1 limbs = record { places = λ b c. refl; keep0 = λ o g x. refl; keep1 = λ o g x. refl; new = λ x y z g. refl; next = λ o. refl; fits = λ x y z. tested _; used = refl }
load3 _ pc rd rs1 limbs = record { places = λ b c. refl; keep0 = λ o g x. refl; keep1 = λ o g x. refl; new = λ x y z g. refl; next = λ o. refl; fits = λ x y z. tested _; used = refl }

load2 : (kind : LoadKind) (pc rd rs1 : ℕ) (limbs : List ℕ) → Loads2 (load_row pc kind rd rs1 limbs false) pc kind rs1 (word_of_limbs limbs)
unfolding places_by new_at next_of is_refused bars_first bars_second word_at imm_of width_of
load2 Lb pc rd rs1 limbs = record { places = λ b c. refl; keep0 = λ o g x. refl; keep1 = λ o g x. refl; next = λ o. refl; fits = λ x y. tested _; used = refl }
load2 _ pc rd rs1 limbs = record { places = λ b c. refl; keep0 = λ o g x. refl; keep1 = λ o g x. refl; next = λ o. refl; fits = λ x y. tested _; used = refl }

-- the row's immediate is the instruction's
pub imm_word : (imm : ℕ) → imm < 2 ^ 32 → word_of_limbs (limbs_of imm) ≡ imm
imm_word imm low = word_of_limbs-limbs_of imm low

module _ (m : Machine) (s : VmState) (is : IsMachine m) (h : Same m s) where
  -- what a load finds in its block
  found : (kind : LoadKind) (a : ℕ) → is_bad (load_width kind) a ≡ false
      → limbs_of (load_extended kind (number_in (s.blocks 2 (a - a % 4)) (a % 4) (load_width kind))) ≡ limbs_of (load_extended kind (number_at m.memory a (load_width kind)))
  found kind a good =
      let low : a < 2 ^ 29 = fits_low (load_width kind) a good in
      let block : s.blocks 2 (a - a % 4) ≡ memory_block m.memory (a - a % 4) = h.memory (a - a % 4) (omega arith) (omega arith) in
      let number : number_at m.memory a (load_width kind) ≡ number_in (memory_block m.memory (a - a % 4)) (a % 4) (load_width kind) = loaded_here kind m.memory a (fits_aligned (load_width kind) a good) in
      ap (λ (x : List ℕ). limbs_of (load_extended kind (number_in x (a % 4) (load_width kind)))) block ∙ ap (λ (n : ℕ). limbs_of (load_extended kind n)) (sym number)

  load3_turn : (kind : LoadKind) (rd rs1 imm : ℕ) (i : VmInstr) → Loads3 i m.pc kind rd rs1 imm → rd < 32 → rs1 < 32 → (rd == 0) ≡ false → Turns m (Load kind rd rs1 imm) i s
  load3_turn kind rd rs1 imm i loads d one some =
      let X : List ℕ = limbs_of (register m rs1) in
      let a : ℕ = word_sum (register m rs1) imm in
      let Y : List ℕ = s.blocks 2 (a - a % 4) in
      let Z : List ℕ = s.blocks 1 (4 * rd) in
      let p = place 0 1 (4 * rs1) in
      let q = λ (b : ℕ). place 1 2 (word_sum b imm - word_sum b imm % 4) in
      let r = λ (b : ℕ). place 2 1 (4 * rd) in
      let keep = λ (b : ℕ). loads.keep1 in
      let hx : s.blocks 1 (4 * rs1) ≡ X = h.registers rs1 one in
      let back : word_of_limbs X ≡ register m rs1 = word_back m rs1 is in
      let word : List ℕ = limbs_of (load_extended kind (number_in Y (a % 4) (load_width kind))) in
      let new : (given : List ℕ) → new_at i (X ∷ Y ∷ Z ∷ []) given 2 Z ≡ word = λ given. loads.new X Y Z given ∙ rw back refl in
      let used : hints_used i.op ≡ 0 = loads.used in
      let bad : is_refused i (X ∷ Y ∷ Z ∷ []) ≡ is_bad (load_width kind) a = loads.fits X Y Z ∙ rw back refl in
      let same = λ (good : is_bad (load_width kind) a ≡ false). same_put m s (word_sum m.pc 4) rd (load_extended kind (number_at m.memory a (load_width kind))) word is h d some (found kind a good) in
      turns m (Load kind rd rs1 imm) i s (goes_on (put rd (load_extended kind (number_at m.memory a (load_width kind))) m)) (X ∷ Y ∷ Z ∷ [])
      (record { pc = word_sum m.pc 4; blocks = with_block s.blocks 1 (4 * rd) word; hints = s.hints }) refl
      (record {
        forced = forced3 i s p q r loads.places loads.keep0 keep X Y Z (register m rs1) hx back refl refl;
        leads = state_is _ _ _ _ _ _ (loads.next _)
            (after3 i s p q r loads.places loads.keep0 keep X Y Z (register m rs1) _ hx back refl ∙ ap (with_block s.blocks 1 (4 * rd)) (new _))
            (none_used (hints_used i.op) s.hints used);
      })
      (λ free low.
      let good : is_bad (load_width kind) a ≡ false = free_fits (load_width kind) a free in
      (can3 i s p q r loads.places loads.keep0 keep X Y Z (register m rs1) hx back refl refl (bad ∙ good) (is_register rs1 one) (is_memory a (fits_low (load_width kind) a good)) (is_register rd d) (omega arith), same good))
      (λ can even low.
      let good : is_bad (load_width kind) a ≡ false = sym bad ∙ can.fits in
      (fits_free (load_width kind) a good, same good))

  -- a load to x0 only reads
  load2_turn : (kind : LoadKind) (rd rs1 imm : ℕ) (i : VmInstr) → Loads2 i m.pc kind rs1 imm → rs1 < 32 → (rd == 0) ≡ true → Turns m (Load kind rd rs1 imm) i s
  load2_turn kind rd rs1 imm i loads one none =
      let X : List ℕ = limbs_of (register m rs1) in
      let a : ℕ = word_sum (register m rs1) imm in
      let Y : List ℕ = s.blocks 2 (a - a % 4) in
      let p = place 0 1 (4 * rs1) in
      let q = λ (b : ℕ). place 1 2 (word_sum b imm - word_sum b imm % 4) in
      let hx : s.blocks 1 (4 * rs1) ≡ X = h.registers rs1 one in
      let back : word_of_limbs X ≡ register m rs1 = word_back m rs1 is in
      let used : hints_used i.op ≡ 0 = loads.used in
      let bad : is_refused i (X ∷ Y ∷ []) ≡ is_bad (load_width kind) a = loads.fits X Y ∙ rw back refl in
      let w : ℕ = load_extended kind (number_at m.memory a (load_width kind)) in
      turns m (Load kind rd rs1 imm) i s (goes_on m) (X ∷ Y ∷ [])
      (record { pc = word_sum m.pc 4; blocks = s.blocks; hints = s.hints }) (ap (λ (n : Machine). goes (goes_on n)) (put_x0 m rd w none))
      (record {
        forced = forced2 i s p q loads.places loads.keep0 X Y (register m rs1) hx back refl;
        leads = state_is _ _ _ _ _ _ (loads.next _)
            (after2 i s p q loads.places loads.keep0 X Y (register m rs1) _ hx back ∙ ap (with_block s.blocks 2 (a - a % 4)) (loads.keep1 _ _ _) ∙ with_block-same s.blocks 2 (a - a % 4))
            (none_used (hints_used i.op) s.hints used);
      })
      (λ free low.
      let good : is_bad (load_width kind) a ≡ false = free_fits (load_width kind) a free in
      (can2 i s p q loads.places loads.keep0 X Y (register m rs1) hx back refl (bad ∙ good) (is_register rs1 one) (is_memory a (fits_low (load_width kind) a good)) (omega arith), same_stays m s (word_sum m.pc 4) h))
      (λ can even low.
      let good : is_bad (load_width kind) a ≡ false = sym bad ∙ can.fits in
      (fits_free (load_width kind) a good, same_stays m s (word_sum m.pc 4) h))

  load_by : (kind : LoadKind) (rd rs1 imm : ℕ) (none : Bool) → (rd == 0) ≡ none → rd < 32 → rs1 < 32 → imm < 2 ^ 32
      → Turns m (Load kind rd rs1 imm) (load_row m.pc kind rd rs1 (limbs_of imm) (not none)) s
  load_by kind rd rs1 imm true e d one low =
      load2_turn kind rd rs1 imm (load_row m.pc kind rd rs1 (limbs_of imm) false)
      (subst (λ (v : ℕ). Loads2 (load_row m.pc kind rd rs1 (limbs_of imm) false) m.pc kind rs1 v) (imm_word imm low) (load2 kind m.pc rd rs1 (limbs_of imm))) one e
  load_by kind rd rs1 imm false e d one low =
      load3_turn kind rd rs1 imm (load_row m.pc kind rd rs1 (limbs_of imm) true)
      (subst (λ (v : ℕ). Loads3 (load_row m.pc kind rd rs1 (limbs_of imm) true) m.pc kind rd rs1 v) (imm_word imm low) (load3 kind m.pc rd rs1 (limbs_of imm))) d one e

  pub load_turn : (kind : LoadKind) (rd rs1 imm : ℕ) → rd < 32 → rs1 < 32 → imm < 2 ^ 32 → Turns m (Load kind rd rs1 imm) (row_of m.pc (Load kind rd rs1 imm)) s
  load_turn kind rd rs1 imm d one low = load_by kind rd rs1 imm (rd == 0) refl d one low
