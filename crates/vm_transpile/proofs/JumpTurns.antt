-- The turns of branches and jumps.
use Rattle.std.proofs.Common.{◌≡◌, ℕ, ◌-◌, ◌*◌, ◌%◌, ◌^◌, ◌<◌, ◌≤◌, ◌==◌, Bool, true, false, cond, not, nat_lt, None, if◌then◌else◌, length, List, [], ◌∷◌, take, refl, sym, ap, ◌∙◌, subst, arith}
use Rattle.std.proofs.lemmas.Bool.Decides.{nat_tests}
use Rattle.rv_decode.specs.declared.instr.Instr.TheVariants.{Branch, Jal, Jalr}
use Rattle.vm_word.specs.declared.operation.BranchKind.{BranchKind}
use Rattle.vm_word.specs.declared.operation.BranchKind.TheVariants.{Beq}
use Rattle.vm_word.specs.Word.{limbs_of, word_of_limbs}
use Rattle.vm_word.specs.Arithmetic.{word_sum}
use Rattle.rv_run.specs.Machine.{Machine}
use Rattle.rv_run.specs.Step.{register, goes, goes_on, jumps, put, at_target, jalr_target}
use Rattle.vm_word.specs.Operations.{branch_holds}
use Rattle.vm_isa.specs.declared.instr.VmInstr.{VmInstr}
use Rattle.vm_isa.specs.Results.{is_taken}
use Rattle.vm_isa.specs.Means.{is_refused, bars_first, bars_second, imm_of, is_high, new_at, next_of, place, places_by, word_at}
use Rattle.vm_isa.specs.Blocks.{VmState, with_block, hints_used}
use Rattle.vm_isa.proofs.ReadsKept.{with_block-same}
use Rattle.vm_isa.proofs.RowSteps.{Can}
use Rattle.vm_isa.proofs.Shapes.{forced0, can0, after0, forced1, can1, after1, forced2, can2, after2}
use Rattle.vm_transpile.specs.Rows.{branch_opcode, within_program, target_of, bare, row_of}
use Rattle.vm_isa.specs.declared.opcode.TheConstants.{JAL, JALR}
use Rattle.vm_transpile.specs.Same.{IsMachine, Same}
use Rattle.vm_transpile.proofs.Turns.{Turns, turns, state_is, is_register, word_back}
use Rattle.vm_transpile.proofs.Operations.{none_used}
use Rattle.vm_transpile.proofs.Updates.{same_put, same_stays, put_x0}
use Rattle.vm_transpile.proofs.MemoryTurns.{tested, imm_word}

-- ---- targets

target_low : (address : ℕ) → address < 2 ^ 29 → within_program address ≡ address
target_low address low =
    let on : nat_lt address (2 ^ 29) ≡ true = grind (arith, nat_tests) in
    rw on refl

even_target : (address : ℕ) → address % 4 ≡ 0 → at_target address ≡ None
even_target address even = rw even refl

target_by : (address : ℕ) (on : Bool) → nat_lt address (2 ^ 29) ≡ on → cond on address 1 % 4 ≡ 0 → (cond on address 1 ≡ address) × (address % 4 ≡ 0)
target_by address true e even = (refl, even)
target_by address false e even = absurd (omega (arith, even))

-- a target at which a row can stand is where the jump leads
target_stands : (address : ℕ) → within_program address % 4 ≡ 0 → (within_program address ≡ address) × (address % 4 ≡ 0)
target_stands address even = target_by address (nat_lt address (2 ^ 29)) refl even

-- ---- the rows

record Branches (i : VmInstr) (pc target : ℕ) (kind : BranchKind) (rs1 rs2 : ℕ) : Type 0 where
  places : (b c : ℕ) → places_by i b c ≡ place 0 1 (4 * rs1) ∷ place 1 1 (4 * rs2) ∷ []
  keep0 : (olds : List (List ℕ)) (given x : List ℕ) → new_at i olds given 0 x ≡ x
  keep1 : (olds : List (List ℕ)) (given x : List ℕ) → new_at i olds given 1 x ≡ x
  next : (x y : List ℕ) → next_of i (x ∷ y ∷ []) ≡ (if branch_holds kind (word_of_limbs x) (word_of_limbs y) then target else word_sum pc 4)
  fits : (x y : List ℕ) → is_refused i (x ∷ y ∷ []) ≡ false
  used : hints_used i.op ≡ 0

branches : (kind : BranchKind) (pc rs1 rs2 target : ℕ) → Branches (record (bare pc (branch_opcode kind)) { rs1 = rs1; rs2 = rs2; target = target }) pc target kind rs1 rs2
unfolding places_by new_at next_of is_refused bars_first bars_second word_at is_taken
branches Beq pc rs1 rs2 target = record { places = λ b c. refl; keep0 = λ o g x. refl; keep1 = λ o g x. refl; next = λ x y. refl; fits = λ x y. refl; used = refl }
branches _ pc rs1 rs2 target = record { places = λ b c. refl; keep0 = λ o g x. refl; keep1 = λ o g x. refl; next = λ x y. refl; fits = λ x y. refl; used = refl }

abbrev jal_by : ℕ → ℕ → Bool → ℕ → VmInstr
jal_by pc rd write target = record (bare pc JAL) { rd = rd; write = write; target = target }

abbrev jalr_by : ℕ → ℕ → ℕ → Bool → List ℕ → VmInstr
jalr_by pc rd rs1 write limbs = record (bare pc JALR) { rd = rd; rs1 = rs1; write = write; imm = limbs }

-- where JALR leads, from the word and the immediate
abbrev led : ℕ → ℕ → ℕ
led b v = word_sum b v - word_sum b v % 2

record Links (i : VmInstr) (pc rd rs1 v : ℕ) : Type 0 where
  places : (b c : ℕ) → places_by i b c ≡ place 0 1 (4 * rs1) ∷ place 1 1 (4 * rd) ∷ []
  keep : (olds : List (List ℕ)) (given x : List ℕ) → new_at i olds given 0 x ≡ x
  new : (x z given : List ℕ) → new_at i (x ∷ z ∷ []) given 1 z ≡ limbs_of (word_sum pc 4)
  next : (x z : List ℕ) → next_of i (x ∷ z ∷ []) ≡ led (word_of_limbs x) v
  fits : (x z : List ℕ) → is_refused i (x ∷ z ∷ []) ≡ is_high (led (word_of_limbs x) v)
  used : hints_used i.op ≡ 0

record Leads (i : VmInstr) (pc rs1 v : ℕ) : Type 0 where
  places : (b c : ℕ) → places_by i b c ≡ place 0 1 (4 * rs1) ∷ []
  keep : (olds : List (List ℕ)) (given x : List ℕ) → new_at i olds given 0 x ≡ x
  next : (x : List ℕ) → next_of i (x ∷ []) ≡ led (word_of_limbs x) v
  fits : (x : List ℕ) → is_refused i (x ∷ []) ≡ is_high (led (word_of_limbs x) v)
  used : hints_used i.op ≡ 0

links : (pc rd rs1 : ℕ) (limbs : List ℕ) → Links (jalr_by pc rd rs1 true limbs) pc rd rs1 (word_of_limbs limbs)
unfolding places_by new_at next_of is_refused bars_first bars_second word_at imm_of
links pc rd rs1 limbs = record { places = λ b c. refl; keep = λ o g x. refl; new = λ x z g. refl; next = λ x z. refl; fits = λ x z. tested _; used = refl }

leads_on : (pc rd rs1 : ℕ) (limbs : List ℕ) → Leads (jalr_by pc rd rs1 false limbs) pc rs1 (word_of_limbs limbs)
unfolding places_by new_at next_of is_refused bars_first bars_second word_at imm_of
leads_on pc rd rs1 limbs = record { places = λ b c. refl; keep = λ o g x. refl; next = λ x. refl; fits = λ x. tested _; used = refl }

low_target : (a : ℕ) → a < 2 ^ 29 → is_high a ≡ false
low_target a low = grind (arith, nat_tests)

module _ (m : Machine) (s : VmState) (is : IsMachine m) (h : Same m s) where
  -- ---- branches

  branched_low : (taken : Bool) (address : ℕ) → (if taken then jumps address m else goes_on m).pc < 2 ^ 29
      → Same (if taken then jumps address m else goes_on m) (record { pc = cond taken (within_program address) (word_sum m.pc 4); blocks = s.blocks; hints = s.hints })
  branched_low true address low = subst (λ (pc : ℕ). Same (jumps address m) (record { pc = pc; blocks = s.blocks; hints = s.hints })) (sym (target_low address low)) (same_stays m s address h)
  branched_low false address low = same_stays m s (word_sum m.pc 4) h

  branched : (taken : Bool) (address : ℕ) → cond taken (within_program address) (word_sum m.pc 4) % 4 ≡ 0
      → ((if taken then at_target address else None) ≡ None)
      × Same (if taken then jumps address m else goes_on m) (record { pc = cond taken (within_program address) (word_sum m.pc 4); blocks = s.blocks; hints = s.hints })
  branched true address even =
      let at = target_stands address even in
      (even_target address at.1, subst (λ (pc : ℕ). Same (jumps address m) (record { pc = pc; blocks = s.blocks; hints = s.hints })) (sym at.0) (same_stays m s address h))
  branched false address even = (refl, same_stays m s (word_sum m.pc 4) h)

  branch_by : (kind : BranchKind) (rs1 rs2 offset : ℕ) (i : VmInstr) → Branches i m.pc (target_of m.pc offset) kind rs1 rs2 → rs1 < 32 → rs2 < 32 → Turns m (Branch kind rs1 rs2 offset) i s
  branch_by kind rs1 rs2 offset i row one two =
      let X : List ℕ = limbs_of (register m rs1) in
      let Y : List ℕ = limbs_of (register m rs2) in
      let p = place 0 1 (4 * rs1) in
      let q = λ (b : ℕ). place 1 1 (4 * rs2) in
      let hx : s.blocks 1 (4 * rs1) ≡ X = h.registers rs1 one in
      let hy : s.blocks 1 (4 * rs2) ≡ Y = h.registers rs2 two in
      let back : word_of_limbs X ≡ register m rs1 = word_back m rs1 is in
      let more : word_of_limbs Y ≡ register m rs2 = word_back m rs2 is in
      let address : ℕ = word_sum m.pc offset in
      let taken : Bool = branch_holds kind (register m rs1) (register m rs2) in
      let used : hints_used i.op ≡ 0 = row.used in
      let can : Can i s (X ∷ Y ∷ []) = can2 i s p q row.places row.keep0 X Y (register m rs1) hx back hy (row.fits X Y) (is_register rs1 one) (is_register rs2 two) (omega arith) in
      let next : next_of i (X ∷ Y ∷ []) ≡ cond taken (within_program address) (word_sum m.pc 4) = row.next X Y ∙ rw (back, more) refl in
      turns m (Branch kind rs1 rs2 offset) i s (if taken then jumps address m else goes_on m) (X ∷ Y ∷ [])
      (record { pc = cond taken (within_program address) (word_sum m.pc 4); blocks = s.blocks; hints = s.hints }) refl
      (record {
        forced = forced2 i s p q row.places row.keep0 X Y (register m rs1) hx back hy;
        leads = state_is _ _ _ _ _ _ next
            (after2 i s p q row.places row.keep0 X Y (register m rs1) _ hx back ∙ ap (with_block s.blocks 1 (4 * rs2)) (row.keep1 _ _ _ ∙ sym hy) ∙ with_block-same s.blocks 1 (4 * rs2))
            (none_used (hints_used i.op) s.hints used);
      })
      (λ free low. (can, branched_low taken address low))
      (λ done even low. branched taken address even)

  pub branch_turn : (kind : BranchKind) (rs1 rs2 offset : ℕ) → rs1 < 32 → rs2 < 32 → Turns m (Branch kind rs1 rs2 offset) (row_of m.pc (Branch kind rs1 rs2 offset)) s
  branch_turn kind rs1 rs2 offset one two =
      branch_by kind rs1 rs2 offset (row_of m.pc (Branch kind rs1 rs2 offset)) (branches kind m.pc rs1 rs2 (target_of m.pc offset)) one two

  -- ---- JAL

  jal_link : (rd offset : ℕ) → rd < 32 → (rd == 0) ≡ false → Turns m (Jal rd offset) (jal_by m.pc rd true (target_of m.pc offset)) s
  unfolding places_by new_at next_of is_refused bars_first bars_second
  jal_link rd offset d some =
      let i : VmInstr = jal_by m.pc rd true (target_of m.pc offset) in
      let Z : List ℕ = s.blocks 1 (4 * rd) in
      let p = place 0 1 (4 * rd) in
      let address : ℕ = word_sum m.pc offset in
      let link : List ℕ = limbs_of (word_sum m.pc 4) in
      let can : Can i s (Z ∷ []) = can1 i s p (λ b c. refl) Z refl refl (is_register rd d) (let none : 0 ≤ length s.hints = omega arith in none) in
      let same = same_put m s address rd (word_sum m.pc 4) link is h d some refl in
      let next : Machine = jumps address (put rd (word_sum m.pc 4) m) in
      let moved = λ (pc : ℕ) (e : pc ≡ address). subst (λ (n : ℕ). Same next (record { pc = n; blocks = with_block s.blocks 1 (4 * rd) link; hints = s.hints })) (sym e) same in
      turns m (Jal rd offset) i s next (Z ∷ []) (record { pc = within_program address; blocks = with_block s.blocks 1 (4 * rd) link; hints = s.hints }) refl
      (record {
        forced = forced1 i s p (λ b c. refl) Z refl;
        leads = state_is _ _ _ _ _ _ refl (after1 i s p (λ b c. refl) Z (take 4 s.hints)) refl;
      })
      (λ free low. (can, moved (within_program address) (target_low address low)))
      (λ done even low. let at = target_stands address even in (even_target address at.1, moved (within_program address) at.0))

  jal_plain : (rd offset : ℕ) → (rd == 0) ≡ true → Turns m (Jal rd offset) (jal_by m.pc rd false (target_of m.pc offset)) s
  unfolding places_by next_of is_refused bars_first bars_second
  jal_plain rd offset none =
      let i : VmInstr = jal_by m.pc rd false (target_of m.pc offset) in
      let address : ℕ = word_sum m.pc offset in
      let can : Can i s [] = can0 i s (λ b c. refl) refl (let none : 0 ≤ length s.hints = omega arith in none) in
      let moved = λ (pc : ℕ) (e : pc ≡ address). subst (λ (n : ℕ). Same (jumps address m) (record { pc = n; blocks = s.blocks; hints = s.hints })) (sym e) (same_stays m s address h) in
      turns m (Jal rd offset) i s (jumps address m) [] (record { pc = within_program address; blocks = s.blocks; hints = s.hints })
      (ap (λ (n : Machine). goes (jumps address n)) (put_x0 m rd (word_sum m.pc 4) none))
      (record {
        forced = forced0 i s (λ b c. refl);
        leads = state_is _ _ _ _ _ _ refl (after0 i s (λ b c. refl) _) refl;
      })
      (λ free low. (can, moved (within_program address) (target_low address low)))
      (λ done even low. let at = target_stands address even in (even_target address at.1, moved (within_program address) at.0))

  jal_by_rd : (rd offset : ℕ) (none : Bool) → (rd == 0) ≡ none → rd < 32 → Turns m (Jal rd offset) (jal_by m.pc rd (not none) (target_of m.pc offset)) s
  jal_by_rd rd offset true e d = jal_plain rd offset e
  jal_by_rd rd offset false e d = jal_link rd offset d e

  pub jal_turn : (rd offset : ℕ) → rd < 32 → Turns m (Jal rd offset) (row_of m.pc (Jal rd offset)) s
  jal_turn rd offset d = jal_by_rd rd offset (rd == 0) refl d

  -- ---- JALR

  jalr_link : (rd rs1 imm : ℕ) (i : VmInstr) → Links i m.pc rd rs1 imm → rd < 32 → rs1 < 32 → (rd == 0) ≡ false → Turns m (Jalr rd rs1 imm) i s
  jalr_link rd rs1 imm i row d one some =
      let X : List ℕ = limbs_of (register m rs1) in
      let Z : List ℕ = s.blocks 1 (4 * rd) in
      let p = place 0 1 (4 * rs1) in
      let q = λ (b : ℕ). place 1 1 (4 * rd) in
      let hx : s.blocks 1 (4 * rs1) ≡ X = h.registers rs1 one in
      let back : word_of_limbs X ≡ register m rs1 = word_back m rs1 is in
      let to : ℕ = jalr_target m rs1 imm in
      let link : List ℕ = limbs_of (word_sum m.pc 4) in
      let used : hints_used i.op ≡ 0 = row.used in
      let bad : is_refused i (X ∷ Z ∷ []) ≡ is_high to = row.fits X Z ∙ rw back refl in
      let next : next_of i (X ∷ Z ∷ []) ≡ to = row.next X Z ∙ rw back refl in
      let same = same_put m s to rd (word_sum m.pc 4) link is h d some refl in
      turns m (Jalr rd rs1 imm) i s (jumps to (put rd (word_sum m.pc 4) m)) (X ∷ Z ∷ []) (record { pc = to; blocks = with_block s.blocks 1 (4 * rd) link; hints = s.hints }) refl
      (record {
        forced = forced2 i s p q row.places row.keep X Z (register m rs1) hx back refl;
        leads = state_is _ _ _ _ _ _ next
            (after2 i s p q row.places row.keep X Z (register m rs1) _ hx back ∙ ap (with_block s.blocks 1 (4 * rd)) (row.new _ _ _))
            (none_used (hints_used i.op) s.hints used);
      })
      (λ free low. (can2 i s p q row.places row.keep X Z (register m rs1) hx back refl (bad ∙ low_target to low) (is_register rs1 one) (is_register rd d) (omega arith), same))
      (λ done even low. (even_target to even, same))

  jalr_plain : (rd rs1 imm : ℕ) (i : VmInstr) → Leads i m.pc rs1 imm → rs1 < 32 → (rd == 0) ≡ true → Turns m (Jalr rd rs1 imm) i s
  jalr_plain rd rs1 imm i row one none =
      let X : List ℕ = limbs_of (register m rs1) in
      let p = place 0 1 (4 * rs1) in
      let hx : s.blocks 1 (4 * rs1) ≡ X = h.registers rs1 one in
      let back : word_of_limbs X ≡ register m rs1 = word_back m rs1 is in
      let to : ℕ = jalr_target m rs1 imm in
      let used : hints_used i.op ≡ 0 = row.used in
      let bad : is_refused i (X ∷ []) ≡ is_high to = row.fits X ∙ rw back refl in
      let next : next_of i (X ∷ []) ≡ to = row.next X ∙ rw back refl in
      turns m (Jalr rd rs1 imm) i s (jumps to m) (X ∷ []) (record { pc = to; blocks = s.blocks; hints = s.hints })
      (ap (λ (n : Machine). goes (jumps to n)) (put_x0 m rd (word_sum m.pc 4) none))
      (record {
        forced = forced1 i s p row.places X hx;
        leads = state_is _ _ _ _ _ _ next
            (after1 i s p row.places X _ ∙ ap (with_block s.blocks 1 (4 * rs1)) (row.keep _ _ _ ∙ sym hx) ∙ with_block-same s.blocks 1 (4 * rs1))
            (none_used (hints_used i.op) s.hints used);
      })
      (λ free low. (can1 i s p row.places X hx (bad ∙ low_target to low) (is_register rs1 one) (omega arith), same_stays m s to h))
      (λ done even low. (even_target to even, same_stays m s to h))

  jalr_by_rd : (rd rs1 imm : ℕ) (none : Bool) → (rd == 0) ≡ none → rd < 32 → rs1 < 32 → imm < 2 ^ 32 → Turns m (Jalr rd rs1 imm) (jalr_by m.pc rd rs1 (not none) (limbs_of imm)) s
  jalr_by_rd rd rs1 imm true e d one low =
      jalr_plain rd rs1 imm (jalr_by m.pc rd rs1 false (limbs_of imm))
      (subst (λ (v : ℕ). Leads (jalr_by m.pc rd rs1 false (limbs_of imm)) m.pc rs1 v) (imm_word imm low) (leads_on m.pc rd rs1 (limbs_of imm))) one e
  jalr_by_rd rd rs1 imm false e d one low =
      jalr_link rd rs1 imm (jalr_by m.pc rd rs1 true (limbs_of imm))
      (subst (λ (v : ℕ). Links (jalr_by m.pc rd rs1 true (limbs_of imm)) m.pc rd rs1 v) (imm_word imm low) (links m.pc rd rs1 (limbs_of imm))) d one e

  pub jalr_turn : (rd rs1 imm : ℕ) → rd < 32 → rs1 < 32 → imm < 2 ^ 32 → Turns m (Jalr rd rs1 imm) (row_of m.pc (Jalr rd rs1 imm)) s
  jalr_turn rd rs1 imm d one low = jalr_by_rd rd rs1 imm (rd == 0) refl d one low
