-- A step keeps what a state of the machine always is.
use Rattle.std.proofs.Common.{◌≡◌, ℕ, zero, suc, ◌+◌, ◌-◌, ◌%◌, ◌^◌, ◌<◌, ◌==◌, Bool, true, false, cond, ◌&&◌, nat_lt, List, [], ◌∷◌, ◌++◌, length, length-append, length-take, length-drop, get_or, set, take, drop, None, refl, sym, ap, ◌∙◌, subst, arith}
use Rattle.std.specs.Prelude.{nat_le, nat_eq, slice_index, if◌then◌else◌}
use Rattle.std.proofs.lemmas.Bool.Decides.{nat_tests}
use Rattle.std.proofs.lemmas.List.{length-set, get_or-set_same, get_or-set_other}
use Rattle.byteorder.specs.Endian.{little_bytes}
use Rattle.rv_decode.specs.declared.instr.Instr.{Instr}
use Rattle.rv_decode.specs.declared.instr.Instr.TheVariants.{Lui, Auipc, Jal, Jalr, Branch, Load, Store, AluImm, Alu, MulDiv, Fence, Terminate, HintStore, Reveal, ShaBlock}
use Rattle.vm_word.specs.declared.operation.StoreKind.{StoreKind}
use Rattle.vm_word.specs.declared.operation.StoreKind.TheVariants.{Sb, Sh, Sw}
use Rattle.rv_decode.specs.Ranges.{HasFieldsInRange}
use Rattle.vm_word.specs.Arithmetic.{word_sum}
use Rattle.rv_run.specs.Machine.{Machine}
use Rattle.rv_run.specs.Memory.{number_at, with_bytes, with_words}
use Rattle.rv_run.specs.Step.{goes, register, jumps, put, make_public, obstacle, performed, step_by}
use Rattle.vm_word.specs.Operations.{alu_result, mul_div_result, load_extended, load_width, store_width}
use Rattle.rv_run.specs.Step.{jalr_target, address_of, compressed, branch_taken}
use Rattle.rv_run.proofs.HintsTaken.{unless_parts}
use Rattle.vm_isa.specs.Words.{IsBytes}
use Rattle.vm_transpile.specs.Same.{IsMachine}
use Rattle.vm_transpile.proofs.Updates.{put_x0, registers_put}
use Rattle.vm_transpile.proofs.Bounds.{alu_word, mul_div_word, loaded_word}
use Rattle.vm_transpile.proofs.OperationTurns.{operand_word}
use Rattle.vm_transpile.proofs.StoreTurns.{public_free}

-- ---- lists of bytes

all_append : (xs ys : List ℕ) → IsBytes xs → IsBytes ys → IsBytes (xs ++ ys)
all_append [] ys h k = k
all_append (x ∷ xs) ys h k = (h.0, all_append xs ys h.1 k)

pub all_take : (n : ℕ) (xs : List ℕ) → IsBytes xs → IsBytes (take n xs)
all_take zero xs h = tt
all_take (suc n) [] h = tt
all_take (suc n) (x ∷ xs) h = (h.0, all_take n xs h.1)

pub all_drop : (n : ℕ) (xs : List ℕ) → IsBytes xs → IsBytes (drop n xs)
all_drop zero xs h = h
all_drop (suc n) [] h = tt
all_drop (suc n) (x ∷ xs) h = all_drop n xs h.1

pub byte_at : (xs : List ℕ) (k : ℕ) → IsBytes xs → slice_index xs k < 256
byte_at [] k h = omega arith
byte_at (x ∷ xs) zero h = h.0
byte_at (x ∷ xs) (suc k) h = byte_at xs k h.1

word_bytes : (w : ℕ) → IsBytes (little_bytes 4 w)
word_bytes w = (omega arith, (omega arith, (omega arith, (omega arith, tt))))

number_bytes : (kind : StoreKind) (w : ℕ) → IsBytes (little_bytes (store_width kind) w)
number_bytes Sb w = (omega arith, tt)
number_bytes Sh w = (omega arith, (omega arith, tt))
number_bytes Sw w = word_bytes w

-- ---- memory

Bytes : (ℕ → ℕ) → Type 0
Bytes m = (a : ℕ) → m a < 256

pub choice_byte : (b : Bool) (x y : ℕ) → x < 256 → y < 256 → cond b x y < 256
choice_byte true x y p q = p
choice_byte false x y p q = q

stored_bytes : (m : ℕ → ℕ) (a : ℕ) (bytes : List ℕ) → Bytes m → IsBytes bytes → Bytes (with_bytes m a bytes)
unfolding Bytes
stored_bytes m a bytes h k x = choice_byte (nat_le a x && nat_lt x (a + length bytes)) (slice_index bytes (x - a)) (m x) (byte_at bytes (x - a) k) (h x)

words_bytes : (m : ℕ → ℕ) (a : ℕ) (words : List ℕ) → Bytes m → Bytes (with_words m a words)
words_bytes m a [] h = h
words_bytes m a (w ∷ words) h = words_bytes (with_bytes m a (little_bytes 4 w)) (a + 4) words (stored_bytes m a (little_bytes 4 w) h (word_bytes w))

-- ---- registers

set_by : (xs : List ℕ) (rd w r : ℕ) (b : Bool) → nat_eq r rd ≡ b → rd < length xs → w < 2 ^ 32 → get_or xs r 0 < 2 ^ 32 → get_or (set xs rd w) r 0 < 2 ^ 32
set_by xs rd w r true e low word h =
    let same : r ≡ rd = grind (arith, nat_tests) in
    let is : get_or (set xs rd w) r 0 ≡ w = ap (λ (k : ℕ). get_or (set xs rd w) k 0) same ∙ get_or-set_same xs rd w 0 low in
    omega arith
set_by xs rd w r false e low word h =
    let is : get_or (set xs rd w) r 0 ≡ get_or xs r 0 = get_or-set_other xs rd r w 0 (λ same. grind (arith, nat_tests)) in
    omega arith

module _ (m : Machine) (is : IsMachine m) where
  moved : (pc : ℕ) → pc < 2 ^ 32 → IsMachine (jumps pc m)
  moved pc low = record { pc = low; count = is.count; words = is.words; x0 = is.x0; bytes = is.bytes; public_count = is.public_count; public_bytes = is.public_bytes; hints = is.hints }

  put_by : (pc rd w : ℕ) (none : Bool) → (rd == 0) ≡ none → pc < 2 ^ 32 → rd < 32 → w < 2 ^ 32 → IsMachine (jumps pc (put rd w m))
  put_by pc rd w true e low d word = subst (λ (n : Machine). IsMachine (jumps pc n)) (sym (put_x0 m rd w e)) (moved pc low)
  put_by pc rd w false e low d word =
      let long : length m.registers ≡ 32 = is.count in
      let set_is : (put rd w m).registers ≡ set m.registers rd w = registers_put m rd w e in
      let other : 0 ≡ rd → ⊥ = λ same. grind (arith, nat_tests) in
      let first : get_or (set m.registers rd w) 0 0 ≡ get_or m.registers 0 0 = get_or-set_other m.registers rd 0 w 0 other in
      record {
        pc = low;
        count = ap (λ (xs : List ℕ). length xs) set_is ∙ length-set m.registers rd w ∙ is.count;
        words = λ r. subst (λ (xs : List ℕ). slice_index xs r < 2 ^ 32) (sym set_is) (set_by m.registers rd w r (nat_eq r rd) refl (omega arith) word (is.words r));
        x0 = ap (λ (xs : List ℕ). slice_index xs 0) set_is ∙ first ∙ is.x0;
        bytes = is.bytes;
        public_count = is.public_count;
        public_bytes = is.public_bytes;
        hints = is.hints;
      }

  put_kept : (pc rd w : ℕ) → pc < 2 ^ 32 → rd < 32 → w < 2 ^ 32 → IsMachine (jumps pc (put rd w m))
  put_kept pc rd w low d word = put_by pc rd w (rd == 0) refl low d word

  stored_kept : (pc : ℕ) (memory : ℕ → ℕ) (left : List ℕ) → pc < 2 ^ 32 → Bytes memory → IsBytes left → IsMachine (record m { pc = pc; memory = memory; hints = left })
  unfolding Bytes
  stored_kept pc memory left low bytes hints = record { pc = low; count = is.count; words = is.words; x0 = is.x0; bytes = bytes; public_count = is.public_count; public_bytes = is.public_bytes; hints = hints }

  shown_kept : (pc place w : ℕ) → pc < 2 ^ 32 → place % 4 ≡ 0 → place < 64 → IsMachine (jumps pc (make_public place w m))
  shown_kept pc place w low even under =
      let long : length m.public_bytes ≡ 64 = is.public_count in
      let front : length (take place m.public_bytes) ≡ place = omega (arith, length-take place m.public_bytes) in
      let back : length (drop (place + 4) m.public_bytes) ≡ 64 - (place + 4) = omega (arith, length-drop (place + 4) m.public_bytes) in
      let tail : length (little_bytes 4 w ++ drop (place + 4) m.public_bytes) ≡ 4 + length (drop (place + 4) m.public_bytes) = length-append (little_bytes 4 w) (drop (place + 4) m.public_bytes) in
      record {
        pc = low;
        count = is.count;
        words = is.words;
        x0 = is.x0;
        bytes = is.bytes;
        public_count = length-append (take place m.public_bytes) (little_bytes 4 w ++ drop (place + 4) m.public_bytes) ∙ omega arith;
        public_bytes = all_append (take place m.public_bytes) (little_bytes 4 w ++ drop (place + 4) m.public_bytes) (all_take place m.public_bytes is.public_bytes)
            (all_append (little_bytes 4 w) (drop (place + 4) m.public_bytes) (word_bytes w) (all_drop (place + 4) m.public_bytes is.public_bytes));
        hints = is.hints;
      }

  branch_kept : (taken : Bool) (a b : ℕ) → a < 2 ^ 32 → b < 2 ^ 32 → IsMachine (if taken then jumps a m else jumps b m)
  branch_kept true a b x y = moved a x
  branch_kept false a b x y = moved b y

  goes_same : (a next : Machine) → IsMachine a → goes a ≡ goes next → IsMachine next
  goes_same a next h e = let same : a ≡ next = cc in subst IsMachine same h

  pub performed_kept : (instr : Instr) (next : Machine) → HasFieldsInRange instr → obstacle m instr ≡ None → performed m instr ≡ goes next → IsMachine next
  unfolding Bytes
  performed_kept (Lui rd imm) next f free e = goes_same _ next (put_kept (word_sum m.pc 4) rd imm (omega arith) f.0 f.1) e
  performed_kept (Auipc rd imm) next f free e = goes_same _ next (put_kept (word_sum m.pc 4) rd (word_sum m.pc imm) (omega arith) f.0 (omega arith)) e
  performed_kept (Jal rd offset) next f free e = goes_same _ next (put_kept (word_sum m.pc offset) rd (word_sum m.pc 4) (omega arith) f.0 (omega arith)) e
  performed_kept (Jalr rd rs1 imm) next f free e = goes_same _ next (put_kept (jalr_target m rs1 imm) rd (word_sum m.pc 4) (omega arith) f.0 (omega arith)) e
  performed_kept (Branch kind rs1 rs2 offset) next f free e = goes_same _ next (branch_kept (branch_taken m kind rs1 rs2) (word_sum m.pc offset) (word_sum m.pc 4) (omega arith) (omega arith)) e
  performed_kept (Load kind rd rs1 imm) next f free e =
      goes_same _ next (put_kept (word_sum m.pc 4) rd (load_extended kind (number_at m.memory (address_of m rs1 imm) (load_width kind))) (omega arith) f.0 (loaded_word kind m.memory (address_of m rs1 imm) is.bytes)) e
  performed_kept (Store kind rs1 rs2 imm) next f free e =
      goes_same _ next (stored_kept (word_sum m.pc 4) (with_bytes m.memory (address_of m rs1 imm) (little_bytes (store_width kind) (register m rs2))) m.hints (omega arith)
      (stored_bytes m.memory (address_of m rs1 imm) (little_bytes (store_width kind) (register m rs2)) is.bytes (number_bytes kind (register m rs2))) is.hints) e
  performed_kept (AluImm op rd rs1 imm) next f free e = goes_same _ next (put_kept (word_sum m.pc 4) rd (alu_result op (register m rs1) imm) (omega arith) f.0 (alu_word op (register m rs1) imm (is.words rs1) (operand_word op imm f.2))) e
  performed_kept (Alu op rd rs1 rs2) next f free e = goes_same _ next (put_kept (word_sum m.pc 4) rd (alu_result op (register m rs1) (register m rs2)) (omega arith) f.0 (alu_word op (register m rs1) (register m rs2) (is.words rs1) (is.words rs2))) e
  performed_kept (MulDiv op rd rs1 rs2) next f free e = goes_same _ next (put_kept (word_sum m.pc 4) rd (mul_div_result op (register m rs1) (register m rs2)) (omega arith) f.0 (mul_div_word op (register m rs1) (register m rs2) (is.words rs1) (is.words rs2))) e
  performed_kept Fence next f free e = goes_same _ next (moved (word_sum m.pc 4) (omega arith)) e
  performed_kept (Terminate code) next f free e = absurd (cc)
  performed_kept (HintStore base imm) next f free e =
      goes_same _ next (stored_kept (word_sum m.pc 4) (with_bytes m.memory (address_of m base imm) (take 4 m.hints)) (drop 4 m.hints) (omega arith)
      (stored_bytes m.memory (address_of m base imm) (take 4 m.hints) is.bytes (all_take 4 m.hints is.hints)) (all_drop 4 m.hints is.hints)) e
  performed_kept (Reveal base rs1 imm) next f free e =
      let at = public_free (address_of m base imm) free in
      goes_same _ next (shown_kept (word_sum m.pc 4) (address_of m base imm) (register m rs1) (omega arith) at.0 at.1) e
  performed_kept (ShaBlock state block) next f free e =
      goes_same _ next (stored_kept (word_sum m.pc 4) (with_words m.memory (register m state) (compressed m state block)) m.hints (omega arith) (words_bytes m.memory (register m state) (compressed m state block) is.bytes) is.hints) e

  -- what a step that goes on says
  pub went_parts : (instr : Instr) (next : Machine) → step_by m instr ≡ goes next → (obstacle m instr ≡ None) × (performed m instr ≡ goes next)
  went_parts instr next e = unless_parts m (obstacle m instr) (performed m instr) next e

  pub step_kept : (instr : Instr) (next : Machine) → HasFieldsInRange instr → step_by m instr ≡ goes next → IsMachine next
  step_kept instr next f e = let parts = went_parts instr next e in performed_kept instr next f parts.0 parts.1
