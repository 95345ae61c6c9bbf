-- The columns of a step of the register form: they hold, and they say the record.
use Rattle.std.proofs.Common.{◌≡◌, ℕ, ◌+◌, ◌^◌, ◌≤◌, ◌<◌, ⊎_elim, true, false, List, [], ◌∷◌, ◌++◌, Option, Some, None, refl, sym, subst, ◌∙◌, arith, lit<}
use Rattle.std.specs.List.{AllByRecursion}
use Rattle.std.proofs.lemmas.Bool.{cases_Bool}
use Rattle.vm_field.specs.Field.{modulus, field_add, field_sub}
use Rattle.vm_word.specs.Word.{word_of_limbs}
use Rattle.vm_word.specs.Arithmetic.{word_sum}
use Rattle.vm_isa.specs.declared.access.TimedAccess.{TimedAccess}
use Rattle.vm_isa.specs.declared.record.StepRecord.{StepRecord}
use Rattle.vm_isa.specs.Words.{IsBytes, IsWord}
use Rattle.vm_isa.specs.Instr.{InRange, numbers_of}
use Rattle.vm_isa.specs.Means.{Fillable}
use Rattle.air_core.specs.First.{gated_difference}
use Rattle.air_core.specs.Ring.{field}
use Rattle.air_core.specs.Sheet.{AllZero, AllBelow}
use Rattle.air_core.specs.ListLemmas.{all_append}
use Rattle.vm_field.specs.declared.limbs.Limbs.{Limbs}
use Rattle.vm_field.specs.Limbs.{list_of, limbs_from}
use Rattle.vm_field.proofs.LimbLemmas.{list_of-from}
use Rattle.gadget_limbs.proofs.LimbsLaws.{bytes_below, byte_at, limbs_word}
use Rattle.gadget_time.specs.Told.{gap_filled, MadeBy, MadeByAll, made}
use Rattle.gadget_time.specs.lemmas.Filled.{gap_below}
use Rattle.adapter_regs.specs.declared.regs.Regs.{Regs}
use Rattle.adapter_regs.specs.Regs.{regs_touches, first_touch, second_touch, third_touch, regs_numbers, immediate_constraints, last_access, right_filled, second_filled, new_filled, regs_filled, regs_cells, time_cells, gap_cells}
use Rattle.vm_isa.specs.Opcodes.{is_register}
use Rattle.vm_isa.specs.Results.{result}
use Rattle.adapter_regs.specs.Core.{IsResultOf}
use Rattle.adapter_regs.specs.lemmas.Access.{found, made_by, bytes_of}
use Rattle.vm_isa.proofs.RegisterForm.{register_slots, named}
use Rattle.vm_isa.proofs.RegisterForm.{result_word, WordShape, ImmShape, word_shape, imm_shape}

-- What columns are that were filled from a record of an opcode of the form.
pub record RegsFilled (op : ℕ) (r : Regs ℕ) (new : Limbs ℕ) : Type 0 where
  pub immediates : AllZero (immediate_constraints field r)
  pub left : IsBytes (list_of r.left)
  pub right : IsBytes (list_of r.right)
  pub word : IsResultOf op r.left r.right new
  pub cells : AllBelow (regs_cells true r)
  pub gaps : AllBelow (time_cells r)

-- The columns, form by form.

-- the columns of the register form, of three accesses
abbrev columns_word : StepRecord → TimedAccess → TimedAccess → TimedAccess → Regs ℕ
columns_word done a b c = record {
  pc = done.instr.pc;
  time = done.time;
  rd = done.instr.rd;
  rs1 = done.instr.rs1;
  rs2 = done.instr.rs2;
  use_imm = 0;
  imm = limbs_from done.instr.imm;
  left = limbs_from a.access.old;
  right = limbs_from b.access.old;
  old = limbs_from c.access.old;
  first = gap_filled a.time a.before;
  second = gap_filled b.time b.before;
  third = gap_filled c.time c.before;
}

-- and of the immediate form, of two
abbrev columns_imm : StepRecord → TimedAccess → TimedAccess → Regs ℕ
columns_imm done a c = record {
  pc = done.instr.pc;
  time = done.time;
  rd = done.instr.rd;
  rs1 = done.instr.rs1;
  rs2 = done.instr.rs2;
  use_imm = 1;
  imm = limbs_from done.instr.imm;
  left = limbs_from a.access.old;
  right = limbs_from done.instr.imm;
  old = limbs_from c.access.old;
  first = gap_filled a.time a.before;
  second = record { before = 0; lo = 0; hi = 0 };
  third = gap_filled c.time c.before;
}

filled_word : (done : StepRecord) (a b c : TimedAccess) → done.instr.use_imm ≡ false → done.accesses ≡ a ∷ b ∷ c ∷ [] → (regs_filled done ≡ columns_word done a b c) × (new_filled done ≡ limbs_from c.access.new)
unfolding regs_filled new_filled right_filled second_filled last_access
filled_word done a b c word are = (rw (word, are) refl, rw (word, are) refl)

filled_imm : (done : StepRecord) (a c : TimedAccess) → done.instr.use_imm ≡ true → done.accesses ≡ a ∷ c ∷ [] → (regs_filled done ≡ columns_imm done a c) × (new_filled done ≡ limbs_from c.access.new)
unfolding regs_filled new_filled right_filled second_filled last_access
filled_imm done a c word are = (rw (word, are) refl, rw (word, are) refl)

immediates_word : (done : StepRecord) (a b c : TimedAccess) → AllZero (immediate_constraints field (columns_word done a b c))
unfolding immediate_constraints gated_difference
immediates_word done a b c = (omega arith, (omega arith, (omega arith, (omega arith, tt))))

difference_none : (u x : ℕ) → x < modulus → gated_difference field u x x ≡ 0
unfolding gated_difference
difference_none u x h = let none : field_sub x x ≡ 0 = omega arith in rw none (omega arith)

immediates_imm : (done : StepRecord) (a c : TimedAccess) → IsBytes done.instr.imm → AllZero (immediate_constraints field (columns_imm done a c))
unfolding immediate_constraints limbs_from
immediates_imm done a c h =
    (difference_none 1 _ (omega (arith, byte_at done.instr.imm 0 h)), (difference_none 1 _ (omega (arith, byte_at done.instr.imm 1 h)), (difference_none 1 _ (omega (arith, byte_at done.instr.imm 2 h)), (difference_none 1 _ (omega (arith, byte_at done.instr.imm 3 h)), tt))))

cells_below : (r : Regs ℕ) → r.rd < 32 → r.rs1 < 32 → r.rs2 < 32 → r.use_imm ≤ 1 → IsBytes (list_of r.imm) → IsBytes (list_of r.left) → IsBytes (list_of r.right) → IsBytes (list_of r.old) → AllBelow (regs_cells true r)
unfolding regs_cells
cells_below r d s t u i b c o = (
  omega arith,
  (
    omega arith,
    (
      omega arith,
      (
        omega arith,
        all_append (λ x. x < modulus) (list_of r.imm) (list_of r.left ++ (list_of r.right ++ list_of r.old)) (bytes_below (list_of r.imm) i)
            (all_append (λ x. x < modulus) (list_of r.left) (list_of r.right ++ list_of r.old) (bytes_below (list_of r.left) b)
            (all_append (λ x. x < modulus) (list_of r.right) (list_of r.old) (bytes_below (list_of r.right) c) (bytes_below (list_of r.old) o))),
      ),
    ),
  ),
)

times_below : (r : Regs ℕ) → AllBelow (gap_cells r.first) → AllBelow (gap_cells r.second) → AllBelow (gap_cells r.third) → AllBelow (time_cells r)
unfolding time_cells
times_below r a b c =
    all_append (λ x. x < modulus) (gap_cells r.first) (gap_cells r.second ++ gap_cells r.third) a (all_append (λ x. x < modulus) (gap_cells r.second) (gap_cells r.third) b c)

-- What a table is given of the columns, and what their accesses are.
pub record FilledColumns (hi : ℕ) (done : StepRecord) (r : Regs ℕ) (new : Limbs ℕ) : Type 0 where
  pub own : RegsFilled done.instr.op r new
  pub sources : List (Option TimedAccess)
  pub made_of : MadeByAll hi done.time (regs_touches field r 1 new) sources
  pub accesses : made sources ≡ done.accesses
  pub next : done.next ≡ word_sum done.instr.pc 4

made_word : (hi : ℕ) (done : StepRecord) (a b c : TimedAccess) (new : Limbs ℕ)
    → MadeBy hi done.time (first_touch field (columns_word done a b c) 1) a → MadeBy hi done.time (second_touch field (columns_word done a b c) 1) b → MadeBy hi done.time (third_touch field (columns_word done a b c) 1 new) c
    → MadeByAll hi done.time (regs_touches field (columns_word done a b c) 1 new) (Some a ∷ Some b ∷ Some c ∷ [])
made_word hi done a b c new p q r = (p, (q, (r, tt)))

second_none : (done : StepRecord) (a c : TimedAccess) → (second_touch field (columns_imm done a c) 1).count ≡ 0
unfolding second_touch
second_none done a c = refl

-- of the register form
columns_of_word : (hi : ℕ) (done : StepRecord) → hi ≤ 13 → done.time + 3 ≤ 2 ^ (16 + hi) → Fillable (16 + hi) done → (s : WordShape done.instr done.time done.next done.accesses)
    → FilledColumns hi done (columns_word done s.a s.b s.c) (limbs_from s.c.access.new)
unfolding first_touch second_touch third_touch
columns_of_word hi done top ends f s =
    let words = subst (AllByRecursion (λ (x : TimedAccess). IsWord x.access.old)) s.are f.words in
    let before = subst (AllByRecursion (λ (x : TimedAccess). x.before < x.time)) s.are f.earlier in
    let result_of = result_word done.instr.op s.a.access.old s.b.access.old in
    let p = found hi done.time 0 done.instr.rs1 s.a s.a.access.old s.first top (omega (arith, ends)) before.0 in
    let q = found hi done.time 1 done.instr.rs2 s.b s.b.access.old s.second top (omega (arith, ends)) before.1.0 in
    let r = found hi done.time 2 done.instr.rd s.c result_of s.third top (omega (arith, ends)) before.1.1.0 in
    let new = limbs_from s.c.access.new in
    let range = f.in_range in
    let new_word : IsWord s.c.access.new = subst IsWord (sym r.new_is) (limbs_word (result done.instr.op (word_of_limbs s.a.access.old) (word_of_limbs s.b.access.old))) in
    let back_a = list_of-from s.a.access.old words.0.four in
    let back_b = list_of-from s.b.access.old words.1.0.four in
    let back_o = list_of-from s.c.access.old words.1.1.0.four in
    let back_c = list_of-from s.c.access.new new_word.four in
    record {
      own = record {
        immediates = immediates_word done s.a s.b s.c;
        left = bytes_of s.a.access.old words.0;
        right = bytes_of s.b.access.old words.1.0;
        word = record { bytes = bytes_of s.c.access.new new_word; is = back_c ∙ r.new_is ∙ rw (back_a, back_b) refl };
        cells = cells_below (columns_word done s.a s.b s.c) range.rd range.rs1 range.rs2 (omega arith) (bytes_of done.instr.imm range.imm) (bytes_of s.a.access.old words.0) (bytes_of s.b.access.old words.1.0) (bytes_of s.c.access.old words.1.1.0);
        gaps = times_below (columns_word done s.a s.b s.c) (gap_below s.a.time s.a.before p.low) (gap_below s.b.time s.b.before q.low) (gap_below s.c.time s.c.before r.low);
      };
      sources = Some s.a ∷ Some s.b ∷ Some s.c ∷ [];
      made_of = made_word hi done s.a s.b s.c new
          (made_by hi done.time 0 done.instr.rs1 _ s.a _ _ s.a.access.old refl range.rs1 back_a back_a p)
          (made_by hi done.time 1 done.instr.rs2 _ s.b _ _ s.b.access.old refl range.rs2 back_b back_b q)
          (made_by hi done.time 2 done.instr.rd _ s.c _ _ result_of refl range.rd back_o (back_c ∙ r.new_is) r);
      accesses = sym s.are;
      next = s.next_is;
    }

-- of the immediate form
columns_of_imm : (hi : ℕ) (done : StepRecord) → hi ≤ 13 → done.time + 3 ≤ 2 ^ (16 + hi) → Fillable (16 + hi) done → (s : ImmShape done.instr done.time done.next done.accesses)
    → FilledColumns hi done (columns_imm done s.a s.c) (limbs_from s.c.access.new)
unfolding first_touch third_touch
columns_of_imm hi done top ends f s =
    let words = subst (AllByRecursion (λ (x : TimedAccess). IsWord x.access.old)) s.are f.words in
    let before = subst (AllByRecursion (λ (x : TimedAccess). x.before < x.time)) s.are f.earlier in
    let result_of = result_word done.instr.op s.a.access.old done.instr.imm in
    let p = found hi done.time 0 done.instr.rs1 s.a s.a.access.old s.first top (omega (arith, ends)) before.0 in
    let r = found hi done.time 2 done.instr.rd s.c result_of s.third top (omega (arith, ends)) before.1.0 in
    let range = f.in_range in
    let new_word : IsWord s.c.access.new = subst IsWord (sym r.new_is) (limbs_word (result done.instr.op (word_of_limbs s.a.access.old) (word_of_limbs done.instr.imm))) in
    let back_a = list_of-from s.a.access.old words.0.four in
    let back_i = list_of-from done.instr.imm range.imm.four in
    let back_o = list_of-from s.c.access.old words.1.0.four in
    let back_c = list_of-from s.c.access.new new_word.four in
    record {
      own = record {
        immediates = immediates_imm done s.a s.c range.imm.bytes;
        left = bytes_of s.a.access.old words.0;
        right = bytes_of done.instr.imm range.imm;
        word = record { bytes = bytes_of s.c.access.new new_word; is = back_c ∙ r.new_is ∙ rw (back_a, back_i) refl };
        cells = cells_below (columns_imm done s.a s.c) range.rd range.rs1 range.rs2 (omega arith) (bytes_of done.instr.imm range.imm) (bytes_of s.a.access.old words.0) (bytes_of done.instr.imm range.imm) (bytes_of s.c.access.old words.1.0);
        gaps = times_below (columns_imm done s.a s.c) (gap_below s.a.time s.a.before p.low) (lit< tt, (lit< tt, (lit< tt, tt))) (gap_below s.c.time s.c.before r.low);
      };
      sources = Some s.a ∷ None ∷ Some s.c ∷ [];
      made_of = (
        made_by hi done.time 0 done.instr.rs1 _ s.a _ _ s.a.access.old refl range.rs1 back_a back_a p,
        (
          second_none done s.a s.c,
          (made_by hi done.time 2 done.instr.rd _ s.c _ _ result_of refl range.rd back_o (back_c ∙ r.new_is) r, tt),
        ),
      );
      accesses = sym s.are;
      next = s.next_is;
    }

pub columns_filled : (hi : ℕ) (done : StepRecord) → hi ≤ 13 → Fillable (16 + hi) done → is_register done.instr.op ≡ true → FilledColumns hi done (regs_filled done) (new_filled done)
columns_filled hi done top f register =
    let ends : done.time + 3 ≤ 2 ^ (16 + hi) = omega (arith, f.ends, register_slots done.instr.op register) in
    ⊎_elim
    (λ (word : done.instr.use_imm ≡ true).
    let s = imm_shape done.instr done.time done.next done.accesses f.given f.meaning register word f.means f.next f.accesses in
    let e = filled_imm done s.a s.c word s.are in
    rw (e.0, e.1) (columns_of_imm hi done top ends f s))
    (λ (word : done.instr.use_imm ≡ false).
    let s = word_shape done.instr done.time done.next done.accesses f.given f.meaning register word f.means f.next f.accesses in
    let e = filled_word done s.a s.b s.c word s.are in
    rw (e.0, e.1) (columns_of_word hi done top ends f s))
    (cases_Bool done.instr.use_imm)

pub is_instruction : (done : StepRecord) → InRange done.instr → is_register done.instr.op ≡ true → done.instr.pc ∷ done.instr.op ∷ regs_numbers field (regs_filled done) ≡ numbers_of done.instr
unfolding regs_numbers regs_filled numbers_of limbs_from
is_instruction done range register = let is = named done.instr range register in rw (is.0, is.1) refl

pub goes_on : (pc next : ℕ) → pc < 2 ^ 29 → next ≡ word_sum pc 4 → field_add pc 4 ≡ next
goes_on pc next low n = omega arith
