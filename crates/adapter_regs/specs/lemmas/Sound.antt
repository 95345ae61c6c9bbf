-- What a row of the register form tells: its accesses, and its meaning, where its core's laws hold.
use Rattle.std.proofs.Common.{◌≡◌, ℕ, ◌^◌, ◌≤◌, ◌<◌, Bool, true, false, cond, List, [], ◌∷◌, ◌++◌, length, slice_index, refl, sym, ap, subst, ◌∙◌, arith, lit<, lit≤}
use Rattle.std.specs.List.{AllByRecursion}
use Rattle.vm_field.specs.Field.{modulus, field_add, field_mul}
use Rattle.vm_field.proofs.Constraints.{gated_equal}
use Rattle.vm_word.specs.Word.{limbs_of}
use Rattle.vm_word.specs.Arithmetic.{word_sum}
use Rattle.vm_isa.specs.declared.instr.VmInstr.{VmInstr}
use Rattle.vm_isa.specs.Words.{IsBytes}
use Rattle.vm_isa.specs.Instr.{numbers_of, bit_of}
use Rattle.vm_isa.proofs.InstrLaws.{four}
use Rattle.vm_field.specs.declared.limbs.Limbs.{Limbs}
use Rattle.vm_field.specs.Limbs.{list_of, limbs_by, LimbsBelow}
use Rattle.vm_field.proofs.LimbLemmas.{length-list_of}
use Rattle.air_core.specs.First.{gated_difference}
use Rattle.air_core.specs.Flags.{sum_from}
use Rattle.air_core.specs.Ring.{field}
use Rattle.air_core.specs.Sheet.{AllZero, AllBelow}
use Rattle.air_core.specs.Step.{Touched, IsMeaning}
use Rattle.air_core.specs.ListLemmas.{all_left, all_right, below_at}
use Rattle.air_core.specs.lemmas.Cells.{length-cells, cells_below}
use Rattle.air_core.specs.lemmas.OneHot.{sum_one, at_place}
use Rattle.gadget_limbs.proofs.LimbsLaws.{limbs_of-word}
use Rattle.gadget_time.specs.Told.{touched_of}
use Rattle.gadget_time.specs.Laws.{CountsSmall}
use Rattle.gadget_time.specs.Form.{Columns, valid_of}
use Rattle.gadget_time.specs.FormLaws.{IsAt, FormHolds, InstructionAt, Tells}
use Rattle.adapter_regs.specs.declared.regs.Regs.{Regs}
use Rattle.adapter_regs.specs.Regs.{regs_of, regs_touches, first_touch, second_touch, third_touch, regs_numbers, immediate_constraints}
use Rattle.adapter_regs.specs.Core.{Core, CoreLaws, Operands, IsResult, operands_of, registers, regs_form}
use Rattle.adapter_regs.specs.lemmas.Access.{pointer}
use Rattle.vm_isa.specs.Opcodes.{is_register}
use Rattle.vm_isa.proofs.RegisterForm.{result_word, means_word, means_imm}

-- the program tuple read as an instruction
record IsInstr (r : Regs ℕ) (op : ℕ) (i : VmInstr) : Type 0 where
  pc : r.pc ≡ i.pc
  op_is : op ≡ i.op
  rd : r.rd ≡ i.rd
  rs1 : r.rs1 ≡ i.rs1
  rs2 : r.rs2 ≡ i.rs2
  use_imm : r.use_imm ≡ bit_of i.use_imm
  imm : list_of r.imm ≡ i.imm

is_instr : (r : Regs ℕ) (op : ℕ) (i : VmInstr) → length i.imm ≡ 4 → r.pc ∷ op ∷ regs_numbers field r ≡ numbers_of i → IsInstr r op i
unfolding regs_numbers numbers_of list_of
is_instr r op i len e = record {
  pc = cc;
  op_is = cc;
  rd = cc;
  rs1 = cc;
  rs2 = cc;
  use_imm = cc;
  imm = let at : r.imm.x0 ∷ r.imm.x1 ∷ r.imm.x2 ∷ r.imm.x3 ∷ [] ≡ slice_index i.imm 0 ∷ slice_index i.imm 1 ∷ slice_index i.imm 2 ∷ slice_index i.imm 3 ∷ [] = cc in at ∙ four i.imm len;
}

pub touches_quiet : (r : Regs ℕ) (valid : ℕ) (new : Limbs ℕ) → valid ≡ 0 → AllByRecursion (λ a. a.count ≡ 0) (regs_touches field r valid new)
unfolding first_touch second_touch third_touch
touches_quiet r valid new v = (v, (rw v (omega arith), (v, tt)))

-- the accesses of the register form and of the immediate form
abbrev touched_word : Regs ℕ → Limbs ℕ → List Touched
touched_word r new =
    record { slot = 0; space = 1; pointer = field_mul 4 r.rs1; old = list_of r.left; new = list_of r.left; before = r.first.before }
    ∷ record { slot = 1; space = 1; pointer = field_mul 4 r.rs2; old = list_of r.right; new = list_of r.right; before = r.second.before }
    ∷ record { slot = 2; space = 1; pointer = field_mul 4 r.rd; old = list_of r.old; new = list_of new; before = r.third.before }
    ∷ []

abbrev touched_imm : Regs ℕ → Limbs ℕ → List Touched
touched_imm r new =
    record { slot = 0; space = 1; pointer = field_mul 4 r.rs1; old = list_of r.left; new = list_of r.left; before = r.first.before }
    ∷ record { slot = 2; space = 1; pointer = field_mul 4 r.rd; old = list_of r.old; new = list_of new; before = r.third.before }
    ∷ []

pub touched_is_word : (r : Regs ℕ) (valid : ℕ) (new : Limbs ℕ) → valid ≡ 1 → r.use_imm ≡ 0 → touched_of (regs_touches field r valid new) ≡ touched_word r new
unfolding first_touch second_touch third_touch
touched_is_word r valid new v u = rw (v, u) refl

pub touched_is_imm : (r : Regs ℕ) (valid : ℕ) (new : Limbs ℕ) → valid ≡ 1 → r.use_imm ≡ 1 → touched_of (regs_touches field r valid new) ≡ touched_imm r new
unfolding first_touch second_touch third_touch
touched_is_imm r valid new v u = rw (v, u) refl

pub counts_small : (r : Regs ℕ) (valid : ℕ) (new : Limbs ℕ) → valid ≡ 1 → r.use_imm ≤ 1 → CountsSmall (regs_touches field r valid new)
unfolding first_touch second_touch third_touch
counts_small r valid new v u = (omega arith, (rw v (omega arith), (omega arith, tt)))

slots_low : (r : Regs ℕ) (valid : ℕ) (new : Limbs ℕ) → AllByRecursion (λ a. a.slot < 3) (regs_touches field r valid new)
unfolding first_touch second_touch third_touch
slots_low r valid new = (lit< tt, (lit< tt, (lit< tt, tt)))

-- with an immediate the right word is that of the program row
limb_equal : (u c i : ℕ) → u ≡ 1 → c < modulus → i < 256 → gated_difference field u c i ≡ 0 → c ≡ i
unfolding gated_difference
limb_equal u c i one below byte h = gated_equal u c i one below (omega arith) h

right_is_imm : (r : Regs ℕ) → r.use_imm ≡ 1 → LimbsBelow r.right → IsBytes (list_of r.imm) → AllZero (immediate_constraints field r) → list_of r.right ≡ list_of r.imm
unfolding immediate_constraints list_of
right_is_imm r u below bytes h =
    let e0 = limb_equal r.use_imm r.right.x0 r.imm.x0 u below.x0 bytes.0 h.0 in
    let e1 = limb_equal r.use_imm r.right.x1 r.imm.x1 u below.x1 bytes.1.0 h.1.0 in
    let e2 = limb_equal r.use_imm r.right.x2 r.imm.x2 u below.x2 bytes.1.1.0 h.1.1.0 in
    let e3 = limb_equal r.use_imm r.right.x3 r.imm.x3 u below.x3 bytes.1.1.1.0 h.1.1.1.0 in
    rw (e0, e1, e2, e3) refl

step_on : (x y : ℕ) → x ≡ y → y < 2 ^ 29 → field_add x 4 ≡ word_sum y 4
step_on x y e h = omega arith

cond_zero : (b : Bool) (xs ys : List ℕ) → b ≡ true → AllZero (cond b xs [] ++ ys) → AllZero xs
cond_zero true xs ys e h = all_left (λ x. x ≡ 0) xs ys h
cond_zero false xs ys e h = absurd (cc)

cond_rest : (b : Bool) (xs ys : List ℕ) → AllZero (cond b xs [] ++ ys) → AllZero ys
cond_rest true xs ys h = all_right (λ x. x ≡ 0) xs ys h
cond_rest false xs ys h = h

limbs_below : (rest : List ℕ) → AllBelow rest → (at : ℕ) → LimbsBelow (limbs_by (slice_index rest) at)
limbs_below rest h at = record { x0 = below_at rest at h; x1 = below_at rest _ h; x2 = below_at rest _ h; x3 = below_at rest _ h }

-- without immediates use_imm is 0
no_use : (immediates : Bool) (own pc time : ℕ) (rest : List ℕ) → immediates ≡ false → (regs_of field immediates own pc time rest).use_imm ≡ 0
unfolding regs_of
no_use immediates own pc time rest e = rw e refl

-- An instruction's row, in the two forms.
module _ (core : Core) (laws : CoreLaws core) (k : ℕ) (c : Columns ℕ) (at : IsAt (regs_form core) k c) (holds : FormHolds (regs_form core) c) (i : InstructionAt (regs_form core) k c) where
  abbrev r : Regs ℕ
  r = registers field core.immediates core.own c

  abbrev o : Operands ℕ
  o = operands_of field core.immediates core.own c

  abbrev op : ℕ
  op = slice_index core.opcodes k

  abbrev new : Limbs ℕ
  new = core.parts.new o

  pc_is : r.pc ≡ c.pc
  unfolding regs_of
  pc_is = refl

  right_below : LimbsBelow r.right
  unfolding regs_of
  right_below = limbs_below c.rest at.rest_below _

  v : valid_of field c ≡ 1
  v = ap (sum_from field 0) at.flags ∙ sum_one (length core.opcodes) k at.below

  is : IsInstr r op i.instr
  is = is_instr r op i.instr i.in_range.imm.four (ap (λ (x : ℕ). x ∷ op ∷ regs_numbers field r) pc_is ∙ i.are)

  register : is_register i.instr.op ≡ true
  register = ap is_register (sym is.op_is) ∙ at_place (λ x. is_register x ≡ true) core.opcodes k at.below laws.registers

  -- the new word, where both words are bytes
  own : IsBytes (list_of r.left) → IsBytes (list_of r.right) → IsResult op o new
  own left right = laws.sound k o (record {
    below = at.below;
    flags = at.flags;
    own_long = length-cells (slice_index c.rest) _ core.own;
    own_below = cells_below c.rest at.rest_below _ core.own;
    left = left;
    right = right;
  }) (cond_rest core.immediates _ (core.parts.constraints o) holds.zero) holds.good

  new_word : IsBytes (list_of r.left) → IsBytes (list_of r.right) → list_of new ≡ result_word i.instr.op (list_of r.left) (list_of r.right)
  new_word left right =
      let w = own left right in
      sym (limbs_of-word (list_of new) (record { four = length-list_of new; bytes = w.bytes })) ∙ ap limbs_of w.result_is ∙ ap (λ (x : ℕ). result_word x (list_of r.left) (list_of r.right)) is.op_is

  -- an immediate is in a table with immediates, and its second word is that of the program row
  with_immediates : (b : Bool) → core.immediates ≡ b → i.instr.use_imm ≡ true → core.immediates ≡ true
  with_immediates true e word = e
  with_immediates false e word =
      let one : r.use_imm ≡ 1 = is.use_imm ∙ ap bit_of word in
      let none : r.use_imm ≡ 0 = no_use core.immediates core.own c.pc c.time c.rest e in
      absurd (omega arith)

  right_imm : i.instr.use_imm ≡ true → list_of r.right ≡ i.instr.imm
  right_imm word =
      let u : r.use_imm ≡ 1 = is.use_imm ∙ ap bit_of word in
      let bytes : IsBytes (list_of r.imm) = subst IsBytes (sym is.imm) i.in_range.imm.bytes in
      let zero = cond_zero core.immediates (immediate_constraints field r) (core.parts.constraints o) (with_immediates core.immediates refl word) holds.zero in
      right_is_imm r u right_below bytes zero ∙ is.imm

  right_bytes : i.instr.use_imm ≡ true → IsBytes (list_of r.right)
  right_bytes word = subst IsBytes (sym (right_imm word)) i.in_range.imm.bytes

  tells_by : (b : Bool) → i.instr.use_imm ≡ b → Tells (regs_form core) c
  tells_by false word =
      let u : r.use_imm ≡ 0 = is.use_imm ∙ ap bit_of word in
      record {
        accesses = touched_word r new;
        counts = counts_small r (valid_of field c) new v (omega (arith, u));
        slots = slots_low r (valid_of field c) new;
        are = touched_is_word r (valid_of field c) new v u;
        rising = (lit≤ tt, lit< tt, (lit≤ tt, lit< tt, (lit≤ tt, lit< tt, tt)));
        new_bytes = λ x. (x, λ y. (y, λ z. ((own x y).bytes, tt)));
      }
  tells_by true word =
      let u : r.use_imm ≡ 1 = is.use_imm ∙ ap bit_of word in
      record {
        accesses = touched_imm r new;
        counts = counts_small r (valid_of field c) new v (omega (arith, u));
        slots = slots_low r (valid_of field c) new;
        are = touched_is_imm r (valid_of field c) new v u;
        rising = (lit≤ tt, lit< tt, (lit≤ tt, lit< tt, tt));
        new_bytes = λ x. (x, λ z. ((own x (right_bytes word)).bytes, tt));
      }

  means_by : (b : Bool) (word : i.instr.use_imm ≡ b) → AllByRecursion (λ a. IsBytes a.old) (tells_by b word).accesses → IsMeaning i.instr (tells_by b word).accesses (field_add c.pc 4)
  unfolding tells_by
  means_by false word old =
      let range = i.in_range in
      let e0 = pointer r.rs1 i.instr.rs1 is.rs1 range.rs1 in
      let e1 = pointer r.rs2 i.instr.rs2 is.rs2 range.rs2 in
      let e2 = pointer r.rd i.instr.rd is.rd range.rd in
      let n = step_on c.pc i.instr.pc (sym pc_is ∙ is.pc) range.low in
      let w = new_word old.0 old.1.0 in
      ([], means_word i.instr (list_of r.left) (list_of r.right) (list_of r.old) [] register word ∙ rw (e0, e1, e2, n, w) refl)
  means_by true word old =
      let range = i.in_range in
      let e0 = pointer r.rs1 i.instr.rs1 is.rs1 range.rs1 in
      let e2 = pointer r.rd i.instr.rd is.rd range.rd in
      let n = step_on c.pc i.instr.pc (sym pc_is ∙ is.pc) range.low in
      let w = new_word old.0 (right_bytes word) ∙ ap (λ (xs : List ℕ). result_word i.instr.op (list_of r.left) xs) (right_imm word) in
      ([], means_imm i.instr (list_of r.left) (list_of r.old) [] register word ∙ rw (e0, e2, n, w) refl)

  pub regs_tell : Tells (regs_form core) c
  regs_tell = tells_by i.instr.use_imm refl

  pub regs_mean : AllByRecursion (λ a. IsBytes a.old) regs_tell.accesses → IsMeaning i.instr regs_tell.accesses (field_add c.pc 4)
  unfolding tells_by regs_tell
  regs_mean old = means_by i.instr.use_imm refl old
