-- The laws of the three cores.
use Rattle.std.proofs.Common.{◌≡◌, ℕ, zero, suc, ◌-◌, ◌/◌, ◌%◌, ◌^◌, ◌<◌, ◌≤◌, true, false, List, [], ◌∷◌, replicate, refl, sym, ap, subst, ◌∙◌, arith, lit<, lit≤}
use Rattle.std.specs.List.{AllByRecursion}
use Rattle.vm_field.specs.Field.{modulus, field_sub, field_mul}
use Rattle.vm_field.specs.declared.limbs.Limbs.{Limbs}
use Rattle.vm_field.specs.Limbs.{list_of, limbs_from}
use Rattle.vm_field.proofs.Constraints.{gated, gated_equal, gate_off, boolean_at_most, boolean_holds}
use Rattle.vm_field.proofs.LimbLemmas.{list_of-from, length-list_of}
use Rattle.vm_word.specs.Arithmetic.{word_sum}
use Rattle.vm_word.specs.Word.{limbs_of, word_of_limbs}
use Rattle.vm_word.proofs.WordLemmas.{word_of_limbs-limbs_of}
use Rattle.vm_isa.specs.declared.instr.VmInstr.{VmInstr}
use Rattle.vm_isa.specs.declared.record.StepRecord.{StepRecord}
use Rattle.vm_isa.specs.Means.{imm_of, jalr_target}
use Rattle.vm_isa.specs.Words.{IsBytes}
use Rattle.air_core.specs.First.{bit, gated_difference}
use Rattle.air_core.specs.ListLemmas.{all_left, all_right, all_append, by_zero_test, zero_test}
use Rattle.air_core.specs.Ring.{field}
use Rattle.air_core.specs.Sheet.{AllZero}
use Rattle.air_core.specs.Flags.{flag_constraints}
use Rattle.air_core.specs.Path.{path_lines}
use Rattle.gadget_limbs.specs.Sum.{sum_constraints, carry_out, gated_bit}
use Rattle.gadget_limbs.proofs.LimbsLaws.{limbs_word, limbs_of-word}
use Rattle.gadget_limbs.proofs.SumLaw.{sum_law_word}
use Rattle.gadget_limbs.proofs.SumHolds.{sum_holds_word}
use Rattle.gadget_time.specs.Access.{access_at}
use Rattle.gadget_time.specs.Told.{time_constraint, touch_constraint, touch_lines}
use Rattle.gadget_time.specs.Form.{columns_by, form_constraints}
use Rattle.adapter_mem.specs.Pointer.{pointer_constraints, part, pointer, low_half, high_half, half_out}
use Rattle.adapter_mem.proofs.PointerLaws.{pointer_law, pointer_holds, pointer_is, by_2}
use Rattle.adapter_regs.specs.lemmas.Access.{leads_to, bytes_of}
use Rattle.adapter_regs.specs.Next.{next_by}
use Rattle.chip_jump.specs.declared.columns.LinkColumns.{LinkColumns}
use Rattle.chip_jump.specs.Link.{number_by, link_difference, columns_of, word_ranges, link_numbers}
use Rattle.chip_jump.specs.LinkLaws.{LinkAt, LinkTells, LinkDone, LinkFills, LinkLaws, InBits}
use Rattle.chip_jump.specs.Cores.{jal_constraints, jal_lui_layout, jal_lui_link, auipc_layout, auipc_link, jalr_layout, jalr_link, JalLuiIsFormal, AuipcIsFormal, JalrIsFormal}
use Rattle.chip_jump.specs.lemmas.Means.{jal_leads, lui_leads, auipc_leads, jalr_leads}

-- ---- the words of a pc and of a return address

-- a word is looked up with so many bits of its top limb
abbrev Looked : ℕ → Limbs ℕ → Type 0
Looked bits w = AllByRecursion InBits (word_ranges field bits w)

looked_bytes : (bits : ℕ) (w : Limbs ℕ) → 2 ^ bits ≤ 256 → Looked bits w → IsBytes (list_of w)
unfolding list_of
looked_bytes bits w most l = (l.0.1, (l.1.0.1, (l.1.1.0.1, (omega (arith, l.1.1.1.0.1, most), tt))))

bytes_looked : (w : Limbs ℕ) → IsBytes (list_of w) → Looked 8 w
unfolding list_of
bytes_looked w h = ((lit≤ tt, h.0), ((lit≤ tt, h.1.0), ((lit≤ tt, h.1.1.0), ((lit≤ tt, h.1.1.1.0), tt))))

limbs_are : (w : Limbs ℕ) (n : ℕ) → IsBytes (list_of w) → word_of_limbs (list_of w) ≡ n → list_of w ≡ limbs_of n
limbs_are w n p e = sym (limbs_of-word (list_of w) (record { four = length-list_of w; bytes = p })) ∙ ap limbs_of e

-- below 2 ^ 30 the number in the field is the word
number_is : (w : Limbs ℕ) → Looked 6 w → (number_by field w ≡ word_of_limbs (list_of w)) × (word_of_limbs (list_of w) < 2 ^ 30)
unfolding number_by list_of
number_is w l = (omega (arith, l.0.1, l.1.0.1, l.1.1.0.1, l.1.1.1.0.1), omega (arith, l.0.1, l.1.0.1, l.1.1.0.1, l.1.1.1.0.1))

link_below : (w : Limbs ℕ) (pc : ℕ) → link_difference field w pc < modulus
unfolding link_difference
link_below w pc = omega arith

-- the word of a return address, and of pc
link_is : (w : Limbs ℕ) (pc : ℕ) → Looked 6 w → pc < 2 ^ 29 → link_difference field w pc ≡ 0 → list_of w ≡ limbs_of (word_sum pc 4)
unfolding link_difference
link_is w pc l low h =
    let n = number_is w l in
    let zero : field_sub (field_sub (word_of_limbs (list_of w)) pc) 4 ≡ 0 = rw (← n.0) h in
    limbs_are w (word_sum pc 4) (looked_bytes 6 w (lit≤ tt) l) (omega (arith, zero, n.1, low))

pc_is : (w : Limbs ℕ) (pc : ℕ) → Looked 6 w → pc < 2 ^ 29 → field_sub (number_by field w) pc ≡ 0 → word_of_limbs (list_of w) ≡ pc
pc_is w pc l low h =
    let n = number_is w l in
    let zero : field_sub (word_of_limbs (list_of w)) pc ≡ 0 = rw (← n.0) h in
    omega (arith, zero, n.1, low)

-- the limbs of a number below 2 ^ 30
record LowWord (n : ℕ) : Type 0 where
  looked : Looked 6 (limbs_from (limbs_of n))
  bytes : IsBytes (list_of (limbs_from (limbs_of n)))
  word : word_of_limbs (list_of (limbs_from (limbs_of n))) ≡ n
  number : number_by field (limbs_from (limbs_of n)) ≡ n

looked_by : (n : ℕ) → n < 2 ^ 30 → Looked 6 (limbs_from (limbs_of n))
unfolding limbs_from
looked_by n low = ((lit≤ tt, omega arith), ((lit≤ tt, omega arith), ((lit≤ tt, omega arith), ((lit≤ tt, omega (arith, low)), tt))))

filled : (n : ℕ) → n < 2 ^ 30 → LowWord n
filled n low =
    let word : word_of_limbs (list_of (limbs_from (limbs_of n))) ≡ n = ap word_of_limbs (list_of-from (limbs_of n) refl) ∙ word_of_limbs-limbs_of n (omega (arith, low)) in
    let looked = looked_by n low in
    record { looked = looked; bytes = bytes_of (limbs_of n) (limbs_word n); word = word; number = (number_is (limbs_from (limbs_of n)) looked).0 ∙ word }

link_holds : (pc : ℕ) → pc < 2 ^ 29 → link_difference field (limbs_from (limbs_of (word_sum pc 4))) pc ≡ 0
unfolding link_difference
link_holds pc low = rw (filled (word_sum pc 4) (omega (arith, low))).number (omega (arith, low))

link_filled : (pc : ℕ) → pc < 2 ^ 29 → LowWord (word_sum pc 4)
link_filled pc low = filled (word_sum pc 4) (omega (arith, low))

-- ---- JAL and LUI

limb_is : (x y : ℕ) → x < 256 → y < 256 → gated_difference field 1 x y ≡ 0 → x ≡ y
unfolding gated_difference
limb_is x y p q h = gated_equal 1 x y refl (omega (arith, p)) (omega (arith, q)) h

lui_word : (pc : ℕ) (new imm : Limbs ℕ) → AllZero (jal_constraints field 0 1 pc new imm) → IsBytes (list_of new) → IsBytes (list_of imm) → list_of new ≡ list_of imm
unfolding list_of
lui_word pc new imm h p q =
    let a = limb_is new.x0 imm.x0 p.0 q.0 h.1.0 in
    let b = limb_is new.x1 imm.x1 p.1.0 q.1.0 h.1.1.0 in
    let c = limb_is new.x2 imm.x2 p.1.1.0 q.1.1.0 h.1.1.1.0 in
    let d = limb_is new.x3 imm.x3 p.1.1.1.0 q.1.1.1.0 h.1.1.1.1.0 in
    rw (a, b, c, d) refl

jal_lui_sound : (k : ℕ) (m : LinkColumns ℕ) (i : VmInstr) → LinkAt jal_lui_link k m i → LinkTells jal_lui_link k m i
jal_lui_sound zero m i a =
    let by = jal_leads i (list_of m.word) a.op_is in
    let new = link_is m.new i.pc a.ranges a.in_range.low (gated 1 (link_difference field m.new i.pc) refl (link_below m.new i.pc) a.zero.0) in
    record { new = new ∙ sym by.0; next = leads_to true i.pc m.target 1 refl a.in_range.low (rw a.target a.in_range.target) ∙ a.target ∙ sym by.1; low = λ no. absurd (cc) }
jal_lui_sound (suc zero) m i a =
    let by = lui_leads i (list_of m.word) a.op_is in
    let new = lui_word i.pc m.new m.imm a.zero (looked_bytes 8 m.new (lit≤ tt) a.ranges) (subst IsBytes (sym a.imm) a.in_range.imm.bytes) in
    record { new = new ∙ a.imm ∙ sym by.0; next = leads_to false i.pc m.target 0 refl a.in_range.low (rw a.target a.in_range.target) ∙ sym by.1; low = λ no. absurd (cc) }
jal_lui_sound (suc (suc k)) m i a = absurd (omega (arith, a.below))

jal_zero : (pc : ℕ) (imm : Limbs ℕ) → pc < 2 ^ 29 → AllZero (jal_constraints field 1 0 pc (limbs_from (limbs_of (word_sum pc 4))) imm)
unfolding gated_difference
jal_zero pc imm low = (rw (link_holds pc low) refl, (gate_off 0 _ refl, (gate_off 0 _ refl, (gate_off 0 _ refl, (gate_off 0 _ refl, tt)))))

difference_none : (x : ℕ) → x < 256 → gated_difference field 1 x x ≡ 0
unfolding gated_difference
difference_none x p = let none : field_sub x x ≡ 0 = omega (arith, p) in rw none refl

lui_zero : (pc : ℕ) (imm : Limbs ℕ) → IsBytes (list_of imm) → AllZero (jal_constraints field 0 1 pc imm imm)
unfolding list_of
lui_zero pc imm p = (gate_off 0 (link_difference field imm pc) refl, (difference_none imm.x0 p.0, (difference_none imm.x1 p.1.0, (difference_none imm.x2 p.1.1.0, (difference_none imm.x3 p.1.1.1.0, tt)))))

no_word : IsBytes (list_of (record { x0 = 0; x1 = 0; x2 = 0; x3 = 0 }))
unfolding list_of
no_word = (lit< tt, (lit< tt, (lit< tt, (lit< tt, tt))))

jal_lui_complete : (k : ℕ) (done : StepRecord) → LinkDone jal_lui_link k done → LinkFills jal_lui_link k done
jal_lui_complete zero done d =
    let i = done.instr in
    let by = jal_leads i [] d.op_is in
    record { back = rw (d.rs1 refl) refl; word = no_word; zero = rw by.0 (jal_zero i.pc (limbs_from i.imm) d.in_range.low); ranges = rw by.0 (link_filled i.pc d.in_range.low).looked }
jal_lui_complete (suc zero) done d =
    let i = done.instr in
    let by = lui_leads i [] d.op_is in
    let imm = bytes_of i.imm d.in_range.imm in
    record { back = rw (d.rs1 refl) refl; word = no_word; zero = rw by.0 (lui_zero i.pc (limbs_from i.imm) imm); ranges = rw by.0 (bytes_looked (limbs_from i.imm) imm) }
jal_lui_complete (suc (suc k)) done d = absurd (omega (arith, d.below))

jal_lui_zeros : AllZero (jal_lui_link.parts.constraints 0 (replicate 2 0) (columns_of field jal_lui_layout (replicate 18 0)))
unfolding link_difference number_by gated_difference zero_test
jal_lui_zeros = by_zero_test (jal_lui_link.parts.constraints 0 (replicate 2 0) (columns_of field jal_lui_layout (replicate 18 0))) refl

pub jal_lui_laws : LinkLaws jal_lui_link
jal_lui_laws = record {
  some = lit≤ tt;
  few_flags = lit≤ tt;
  narrow = lit≤ tt;
  opcodes = (refl, (refl, tt));
  few = λ flags m. lit≤ tt;
  zeros = jal_lui_zeros;
  word = λ no. absurd (cc);
  sound = jal_lui_sound;
  complete = jal_lui_complete;
}

-- ---- AUIPC

auipc_sound : (k : ℕ) (m : LinkColumns ℕ) (i : VmInstr) → LinkAt auipc_link k m i → LinkTells auipc_link k m i
auipc_sound zero m i a =
    let by = auipc_leads i (list_of m.word) a.op_is in
    let r = a.ranges in
    let word : Looked 6 m.word = (r.0, (r.1.0, (r.1.1.0, (r.1.1.1.0, tt)))) in
    let new = looked_bytes 8 m.new (lit≤ tt) r.1.1.1.1 in
    let sum = sum_law_word m.word m.imm m.new (looked_bytes 6 m.word (lit≤ tt) word) (subst IsBytes (sym a.imm) a.in_range.imm.bytes) new a.zero.1 in
    let total = sum ∙ ap (λ (n : ℕ). word_sum n (word_of_limbs (list_of m.imm))) (pc_is m.word i.pc word a.in_range.low a.zero.0) ∙ ap (λ (xs : List ℕ). word_sum i.pc (word_of_limbs xs)) a.imm in
    record { new = limbs_are m.new _ new total ∙ sym by.0; next = rw by.1 (omega (arith, a.in_range.low)); low = λ no. absurd (cc) }
auipc_sound (suc k) m i a = absurd (omega (arith, a.below))

auipc_complete : (k : ℕ) (done : StepRecord) → LinkDone auipc_link k done → LinkFills auipc_link k done
auipc_complete zero done d =
    let i = done.instr in
    let by = auipc_leads i [] d.op_is in
    let n = d.in_range.upper (rw d.op_is refl) in
    let here = filled i.pc (omega (arith, d.in_range.low)) in
    let total = word_sum i.pc (word_of_limbs i.imm) in
    let imm = bytes_of i.imm d.in_range.imm in
    let new = bytes_of (limbs_of total) (limbs_word total) in
    let sum : word_of_limbs (list_of (limbs_from (limbs_of total))) ≡ word_sum (word_of_limbs (list_of (limbs_from (limbs_of i.pc)))) (word_of_limbs (list_of (limbs_from i.imm)))
    = ap word_of_limbs (list_of-from (limbs_of total) refl) ∙ word_of_limbs-limbs_of total (omega arith) ∙ sym (rw (here.word, list_of-from i.imm d.in_range.imm.four) refl) in
    let r = here.looked in
    record {
      back = rw (n.0, n.2, n.4) refl;
      word = here.bytes;
      zero = rw by.0 (rw here.number (omega (arith, d.in_range.low)), sum_holds_word 1 (limbs_from (limbs_of i.pc)) (limbs_from i.imm) (limbs_from (limbs_of total)) here.bytes imm new sum);
      ranges = rw by.0 (r.0, (r.1.0, (r.1.1.0, (r.1.1.1.0, bytes_looked (limbs_from (limbs_of total)) new))));
    }
auipc_complete (suc k) done d = absurd (omega (arith, d.below))

auipc_zeros : AllZero (auipc_link.parts.constraints 0 (replicate 1 0) (columns_of field auipc_layout (replicate 20 0)))
unfolding number_by sum_constraints carry_out gated_bit bit list_of zero_test
auipc_zeros = by_zero_test (auipc_link.parts.constraints 0 (replicate 1 0) (columns_of field auipc_layout (replicate 20 0))) refl

pub auipc_laws : LinkLaws auipc_link
auipc_laws = record {
  some = lit≤ tt;
  few_flags = lit≤ tt;
  narrow = lit≤ tt;
  opcodes = (refl, tt);
  few = λ flags m. lit≤ tt;
  zeros = auipc_zeros;
  word = λ no. absurd (cc);
  sound = auipc_sound;
  complete = auipc_complete;
}

-- ---- JALR

target_is : (i : VmInstr) (b : ℕ) → jalr_target i b ≡ word_sum b (word_of_limbs i.imm) - word_sum b (word_of_limbs i.imm) % 2
unfolding imm_of
target_is i b = refl

jalr_sound : (k : ℕ) (m : LinkColumns ℕ) (i : VmInstr) → LinkAt jalr_link k m i → LinkTells jalr_link k m i
unfolding bit
jalr_sound zero m i a =
    let by = jalr_leads i (list_of m.word) a.op_is in
    let halves = pointer_constraints field m.word m.imm m.low m.high in
    let last = bit field m.parity ∷ field_mul 1 (link_difference field m.new i.pc) ∷ [] in
    let more = all_right (λ x. x ≡ 0) halves last a.zero in
    let bits : m.parity < 2 = omega (arith, boolean_at_most m.parity a.parity more.0) in
    let b = word_of_limbs (list_of m.word) in
    let p = pointer_law 2 1006632961 15 m.word m.imm m.low m.high m.parity by_2 (a.word refl) (subst IsBytes (sym a.imm) a.in_range.imm.bytes) a.low bits
    (record { zero = all_left (λ x. x ≡ 0) halves last a.zero; low = a.ranges.0.1; high = a.ranges.1.0.1 }) in
    let same : word_sum b (word_of_limbs (list_of m.imm)) ≡ word_sum b (word_of_limbs i.imm) = ap (λ (xs : List ℕ). word_sum b (word_of_limbs xs)) a.imm in
    let new = link_is m.new i.pc a.ranges.1.1 a.in_range.low (gated 1 (link_difference field m.new i.pc) refl (link_below m.new i.pc) more.1.0) in
    record {
      new = new ∙ sym by.0;
      next = p.is ∙ ap (λ (n : ℕ). word_sum b (word_of_limbs (list_of m.imm)) - n) (sym p.remainder) ∙ ap (λ (n : ℕ). n - n % 2) same ∙ sym (target_is i b) ∙ sym by.1;
      low = λ e. omega (arith, target_is i b, same, p.below);
    }
jalr_sound (suc k) m i a = absurd (omega (arith, a.below))

sum_below : (n : ℕ) → n - n % 2 < 2 ^ 29 → n < 2 ^ 29
sum_below n h = omega arith

jalr_complete : (k : ℕ) (done : StepRecord) → LinkDone jalr_link k done → LinkFills jalr_link k done
unfolding bit
jalr_complete zero done d =
    let i = done.instr in
    let by = jalr_leads i [] d.op_is in
    let b = limbs_from (access_at done.accesses 0).access.old in
    let imm = limbs_from i.imm in
    let n = word_sum (word_of_limbs (access_at done.accesses 0).access.old) (word_of_limbs i.imm) in
    let low : n < 2 ^ 29 = sum_below n (omega (arith, target_is i (word_of_limbs (access_at done.accesses 0).access.old), d.low refl)) in
    let sum : word_sum (word_of_limbs (list_of b)) (word_of_limbs (list_of imm)) ≡ n = rw (d.word_is refl, list_of-from i.imm d.in_range.imm.four) refl in
    let is : pointer field (n % 65536) (n / 65536) (n % 2) ≡ n - n % 2 = pointer_is (n % 65536) (n / 65536) (n % 2) n (omega arith) (omega (arith, low)) (omega arith) (omega arith) in
    let p = pointer_holds 2 1006632961 15 b imm (n % 65536) (n / 65536) (n % 2) by_2 (d.word refl) (bytes_of i.imm d.in_range.imm) (omega arith)
    (record { halves = sum ∙ omega arith; low = omega arith; below = rw sum low; remainder = rw sum refl; is = rw sum is }) in
    record {
      back = rw (d.in_range.jalr d.op_is).2 refl;
      word = d.word refl;
      zero = all_append (λ x. x ≡ 0) (pointer_constraints field b imm (n % 65536) (n / 65536)) _ p.zero (boolean_holds (n % 2) (omega arith), (rw (by.0, link_holds i.pc d.in_range.low) refl, tt));
      ranges = ((lit≤ tt, p.low), ((lit≤ tt, p.high), rw by.0 (link_filled i.pc d.in_range.low).looked));
    }
jalr_complete (suc k) done d = absurd (omega (arith, d.below))

jalr_zeros : AllZero (jalr_link.parts.constraints 0 (replicate 1 0) (columns_of field jalr_layout (replicate 28 0)))
unfolding pointer_constraints low_half high_half half_out link_difference number_by bit zero_test
jalr_zeros = by_zero_test (jalr_link.parts.constraints 0 (replicate 1 0) (columns_of field jalr_layout (replicate 28 0))) refl

pub jalr_laws : LinkLaws jalr_link
jalr_laws = record {
  some = lit≤ tt;
  few_flags = lit≤ tt;
  narrow = lit≤ tt;
  opcodes = (refl, tt);
  few = λ flags m. lit≤ tt;
  zeros = jalr_zeros;
  word = λ yes done. refl;
  sound = jalr_sound;
  complete = jalr_complete;
}

-- ---- the expressions over the columns have the values of the sheets

pub jal_lui_formal : JalLuiIsFormal
unfolding flag_constraints path_lines time_constraint touch_constraint touch_lines columns_by form_constraints bit gated_difference next_by number_by link_difference link_numbers
jal_lui_formal = record { constraints = λ row. refl; lines = λ hi row. refl }

pub auipc_formal : AuipcIsFormal
unfolding flag_constraints path_lines time_constraint touch_constraint touch_lines columns_by form_constraints bit list_of sum_constraints carry_out gated_bit number_by link_numbers
auipc_formal = record { constraints = λ row. refl; lines = λ hi row. refl }

pub jalr_formal : JalrIsFormal
unfolding flag_constraints path_lines time_constraint touch_constraint touch_lines columns_by form_constraints bit pointer_constraints low_half high_half half_out part pointer number_by link_difference link_numbers
jalr_formal = record { constraints = λ row. refl; lines = λ hi row. refl }
