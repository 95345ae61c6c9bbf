-- Records of steps of both operand forms are ones that the table's rows are filled from.
use Rattle.std.proofs.Common.{◌≡◌, ℕ, ◌+◌, ◌*◌, ◌^◌, ◌<◌, ◌≤◌, ◌∙◌, Bool, true, false, if◌then◌else◌, List, [], ◌∷◌, map, refl, arith, lit<}
use Rattle.vm_word.specs.Word.{limbs_of}
use Rattle.vm_word.specs.Arithmetic.{word_sum}
use Rattle.vm_word.proofs.WordLemmas.{word_of_limbs-limbs_of}
use Rattle.vm_isa.specs.declared.instr.VmInstr.{VmInstr}
use Rattle.vm_isa.specs.declared.access.TimedAccess.{TimedAccess}
use Rattle.vm_isa.specs.Words.{IsWord}
use Rattle.vm_isa.specs.Opcodes.{is_alu, is_mul, is_register}
use Rattle.vm_isa.specs.Slots.{slots_of}
use Rattle.vm_isa.specs.Spaces.{REGISTERS}
use Rattle.vm_isa.specs.Instr.{InRange}
use Rattle.vm_isa.specs.Results.{result}
use Rattle.vm_isa.specs.Means.{Fillable, Placed, placed_at}
use Rattle.gadget_limbs.proofs.LimbsLaws.{limbs_word}
use Rattle.vm_isa.proofs.RegisterForm.{register_slots, by_word, by_imm, means_word, means_imm, reads, writes, result_word}
use Rattle.vm_isa.proofs.InRangeLaws.{Fits, alu_in_range, mul_in_range}

-- the instruction that reads x6
abbrev pub instr_of : ℕ → ℕ → Bool → ℕ → VmInstr
instr_of op rd use_imm right = record {
  pc = 4096;
  op = op;
  rd = rd;
  rs1 = 6;
  rs2 = if use_imm then 0 else 7;
  write = true;
  use_imm = use_imm;
  imm = if use_imm then limbs_of right else limbs_of 0;
  target = 0;
}

-- an access of a register
abbrev pub at_register : ℕ → ℕ → ℕ → ℕ → ℕ → TimedAccess
at_register register old new time before = record {
  access = record { space = REGISTERS; pointer = 4 * register; old = limbs_of old; new = limbs_of new };
  time = time;
  before = before;
}

imm_word : (use_imm : Bool) (right : ℕ) → IsWord (if use_imm then limbs_of right else limbs_of 0)
imm_word true right = limbs_word right
imm_word false right = limbs_word 0

second_low : (use_imm : Bool) → (if use_imm then 0 else 7) < 32
second_low true = lit< tt
second_low false = lit< tt

fits : (op rd right : ℕ) (use_imm : Bool) → rd < 32 → Fits (instr_of op rd use_imm right)
fits op rd right use_imm low = record { aligned = refl; low = lit< tt; rd = low; rs1 = lit< tt; rs2 = second_low use_imm; imm = imm_word use_imm right; target = lit< tt }

is_product : (b : Bool) (op : ℕ) → is_alu op ≡ b → is_register op ≡ true → b ≡ false → is_mul op ≡ true
is_product b op e own f = let none : is_alu op ≡ false = e ∙ f in rw none at own

in_range : (b : Bool) (op rd right : ℕ) (use_imm : Bool) → is_alu op ≡ b → is_register op ≡ true → (use_imm ≡ true → is_alu op ≡ true) → rd < 32 → InRange (instr_of op rd use_imm right)
in_range true op rd right use_imm e own alu low = alu_in_range (instr_of op rd use_imm right) (fits op rd right use_imm low) e refl refl
in_range false op rd right true e own alu low = let yes = alu refl in absurd (cc)
in_range false op rd right false e own alu low = mul_in_range (instr_of op rd false right) (fits op rd right false low) (is_product false op e own refl) refl refl refl refl

-- the word that is written
new_word : (op b c : ℕ) → b < 2 ^ 32 → c < 2 ^ 32 → limbs_of (result op b c) ≡ result_word op (limbs_of b) (limbs_of c)
new_word op b c p q = rw (word_of_limbs-limbs_of b p, word_of_limbs-limbs_of c q) refl

ends : (op time : ℕ) → is_register op ≡ true → time ≤ 70000 → time + slots_of op ≤ 2 ^ 24
ends op time own low = omega (arith, register_slots op own)

-- the accesses at their times
abbrev at_time : ℕ → ℕ → List ℕ → List ℕ → Placed
at_time time register old new = record { time = time; space = REGISTERS; pointer = 4 * register; old = old; new = new }

three_placed : (time start p q r : ℕ) (b c o v w : List ℕ) → start ≡ time + 0 → v ≡ w
    → at_time start p b b ∷ at_time (time + 1) q c c ∷ at_time (time + 2) r o v ∷ [] ≡ map (placed_at time) (reads 0 p b ∷ reads 1 q c ∷ writes 2 r o w ∷ [])
three_placed time start p q r b c o v w e f = rw (e, f) refl

two_placed : (time start p r : ℕ) (b o v w : List ℕ) → start ≡ time + 0 → v ≡ w
    → at_time start p b b ∷ at_time (time + 2) r o v ∷ [] ≡ map (placed_at time) (reads 0 p b ∷ writes 2 r o w ∷ [])
two_placed time start p r b o v w e f = rw (e, f) refl

pub registers_fillable : (op rd time before b c old : ℕ) → is_register op ≡ true → rd < 32 → 100 ≤ time → time ≤ 70000 → before < time + 2 → b < 2 ^ 32 → c < 2 ^ 32
    → Fillable 24 (record {
      instr = instr_of op rd false c;
      time = time;
      accesses = at_register 6 b b time 90 ∷ at_register 7 c c (time + 1) 50 ∷ at_register rd old (result op b c) (time + 2) before ∷ [];
      next = 4100;
    })
registers_fillable op rd time before b c old own register from to order p q =
    let i = instr_of op rd false c in
    record {
      in_range = in_range (is_alu op) op rd c false refl own (λ e. absurd (cc)) register;
      words = (limbs_word b, (limbs_word c, (limbs_word old, tt)));
      given = limbs_of 0;
      given_word = limbs_word 0;
      meaning = record { accesses = by_word i (limbs_of b) (limbs_of c) (limbs_of old); next = word_sum 4096 4 };
      means = means_word i (limbs_of b) (limbs_of c) (limbs_of old) (limbs_of 0) own refl;
      accesses = three_placed time time 6 7 rd (limbs_of b) (limbs_of c) (limbs_of old) (limbs_of (result op b c)) (result_word op (limbs_of b) (limbs_of c)) (omega arith) (new_word op b c p q);
      next = refl;
      earlier = (omega arith, (omega arith, (order, tt)));
      ends = ends op time own to;
    }

pub immediate_fillable : (op rd time before b c old : ℕ) → is_alu op ≡ true → is_register op ≡ true → rd < 32 → 100 ≤ time → time ≤ 70000 → before < time + 2 → b < 2 ^ 32 → c < 2 ^ 32
    → Fillable 24 (record {
      instr = instr_of op rd true c;
      time = time;
      accesses = at_register 6 b b time 90 ∷ at_register rd old (result op b c) (time + 2) before ∷ [];
      next = 4100;
    })
immediate_fillable op rd time before b c old alu_op own register from to order p q =
    let i = instr_of op rd true c in
    record {
      in_range = in_range (is_alu op) op rd c true refl own (λ e. alu_op) register;
      words = (limbs_word b, (limbs_word old, tt));
      given = limbs_of 0;
      given_word = limbs_word 0;
      meaning = record { accesses = by_imm i (limbs_of b) (limbs_of old); next = word_sum 4096 4 };
      means = means_imm i (limbs_of b) (limbs_of old) (limbs_of 0) own refl;
      accesses = two_placed time time 6 rd (limbs_of b) (limbs_of old) (limbs_of (result op b c)) (result_word op (limbs_of b) (limbs_of c)) (omega arith) (new_word op b c p q);
      next = refl;
      earlier = (omega arith, (order, tt));
      ends = ends op time own to;
    }
