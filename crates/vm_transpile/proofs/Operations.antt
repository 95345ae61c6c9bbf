-- Instructions that make a register's word from those of others: register and immediate form, LUI, AUIPC.
use Rattle.std.proofs.Common.{◌≡◌, ℕ, ◌*◌, ◌<◌, ◌==◌, false, List, [], ◌∷◌, drop, refl, ap, ◌∙◌, arith}
use Rattle.vm_word.specs.Word.{limbs_of, word_of_limbs}
use Rattle.vm_word.specs.Arithmetic.{word_sum}
use Rattle.rv_run.specs.Machine.{Machine}
use Rattle.rv_run.specs.Step.{register, goes_on, put}
use Rattle.vm_isa.specs.declared.instr.VmInstr.{VmInstr}
use Rattle.vm_isa.specs.Means.{is_refused, new_at, next_of, place, places_by}
use Rattle.vm_isa.specs.Blocks.{VmState, with_block, hints_used}
use Rattle.vm_isa.proofs.RowSteps.{Can}
use Rattle.vm_isa.proofs.Shapes.{forced1, can1, after1, forced2, can2, after2, forced3, can3, after3}
use Rattle.vm_transpile.specs.Same.{IsMachine, Same}
use Rattle.vm_transpile.proofs.Turns.{Acts, state_is, is_register, word_back}
use Rattle.vm_transpile.proofs.Updates.{same_put}

-- a word of two registers' words
pub record Makes3 (i : VmInstr) (pc rd rs1 rs2 : ℕ) (f : ℕ → ℕ → ℕ) : Type 0 where
  pub places : (b c : ℕ) → places_by i b c ≡ place 0 1 (4 * rs1) ∷ place 1 1 (4 * rs2) ∷ place 2 1 (4 * rd) ∷ []
  pub keep0 : (olds : List (List ℕ)) (given x : List ℕ) → new_at i olds given 0 x ≡ x
  pub keep1 : (olds : List (List ℕ)) (given x : List ℕ) → new_at i olds given 1 x ≡ x
  pub new : (x y z given : List ℕ) → new_at i (x ∷ y ∷ z ∷ []) given 2 z ≡ limbs_of (f (word_of_limbs x) (word_of_limbs y))
  pub next : (olds : List (List ℕ)) → next_of i olds ≡ word_sum pc 4
  pub fits : (x y z : List ℕ) → is_refused i (x ∷ y ∷ z ∷ []) ≡ false
  pub used : hints_used i.op ≡ 0

-- of one
pub record Makes2 (i : VmInstr) (pc rd rs1 : ℕ) (f : ℕ → ℕ) : Type 0 where
  pub places : (b c : ℕ) → places_by i b c ≡ place 0 1 (4 * rs1) ∷ place 2 1 (4 * rd) ∷ []
  pub keep : (olds : List (List ℕ)) (given x : List ℕ) → new_at i olds given 0 x ≡ x
  pub new : (x z given : List ℕ) → new_at i (x ∷ z ∷ []) given 2 z ≡ limbs_of (f (word_of_limbs x))
  pub next : (olds : List (List ℕ)) → next_of i olds ≡ word_sum pc 4
  pub fits : (x z : List ℕ) → is_refused i (x ∷ z ∷ []) ≡ false
  pub used : hints_used i.op ≡ 0

-- of none
pub record Makes1 (i : VmInstr) (pc rd w : ℕ) : Type 0 where
  pub places : (b c : ℕ) → places_by i b c ≡ place 0 1 (4 * rd) ∷ []
  pub new : (z given : List ℕ) → new_at i (z ∷ []) given 0 z ≡ limbs_of w
  pub next : (olds : List (List ℕ)) → next_of i olds ≡ word_sum pc 4
  pub fits : (z : List ℕ) → is_refused i (z ∷ []) ≡ false
  pub used : hints_used i.op ≡ 0

-- a row that can always be done, and leaves this word in rd
pub record Puts (m : Machine) (s : VmState) (i : VmInstr) (rd w : ℕ) : Type 0 where
  pub olds : List (List ℕ)
  pub can : Can i s olds
  pub acts : Acts i s olds (record { pc = word_sum m.pc 4; blocks = with_block s.blocks 1 (4 * rd) (limbs_of w); hints = s.hints })

pub none_used : (used : ℕ) (hints : List ℕ) → used ≡ 0 → drop used hints ≡ hints
none_used used hints e = rw e refl

module _ (m : Machine) (s : VmState) (is : IsMachine m) (h : Same m s) where
  pub puts3 : (i : VmInstr) (rd rs1 rs2 : ℕ) (f : ℕ → ℕ → ℕ) → Makes3 i m.pc rd rs1 rs2 f → rd < 32 → rs1 < 32 → rs2 < 32 → Puts m s i rd (f (register m rs1) (register m rs2))
  puts3 i rd rs1 rs2 f makes d one two =
      let X : List ℕ = limbs_of (register m rs1) in
      let Y : List ℕ = limbs_of (register m rs2) in
      let Z : List ℕ = s.blocks 1 (4 * rd) in
      let p = place 0 1 (4 * rs1) in
      let q = λ (b : ℕ). place 1 1 (4 * rs2) in
      let r = λ (b : ℕ). place 2 1 (4 * rd) in
      let keep = λ (b : ℕ). makes.keep1 in
      let hx : s.blocks 1 (4 * rs1) ≡ X = h.registers rs1 one in
      let hy : s.blocks 1 (4 * rs2) ≡ Y = h.registers rs2 two in
      let back : word_of_limbs X ≡ register m rs1 = word_back m rs1 is in
      let more : word_of_limbs Y ≡ register m rs2 = word_back m rs2 is in
      let new : (given : List ℕ) → new_at i (X ∷ Y ∷ Z ∷ []) given 2 Z ≡ limbs_of (f (register m rs1) (register m rs2)) = λ given. makes.new X Y Z given ∙ rw (back, more) refl in
      let used : hints_used i.op ≡ 0 = makes.used in
      record {
        olds = X ∷ Y ∷ Z ∷ [];
        can = can3 i s p q r makes.places makes.keep0 keep X Y Z (register m rs1) hx back hy refl (makes.fits X Y Z) (is_register rs1 one) (is_register rs2 two) (is_register rd d) (omega arith);
        acts = record {
          forced = forced3 i s p q r makes.places makes.keep0 keep X Y Z (register m rs1) hx back hy refl;
          leads = state_is _ _ _ _ _ _ (makes.next _)
              (after3 i s p q r makes.places makes.keep0 keep X Y Z (register m rs1) _ hx back hy ∙ ap (with_block s.blocks 1 (4 * rd)) (new _))
              (none_used (hints_used i.op) s.hints used);
        };
      }

  pub puts2 : (i : VmInstr) (rd rs1 : ℕ) (f : ℕ → ℕ) → Makes2 i m.pc rd rs1 f → rd < 32 → rs1 < 32 → Puts m s i rd (f (register m rs1))
  puts2 i rd rs1 f makes d one =
      let X : List ℕ = limbs_of (register m rs1) in
      let Z : List ℕ = s.blocks 1 (4 * rd) in
      let p = place 0 1 (4 * rs1) in
      let q = λ (b : ℕ). place 2 1 (4 * rd) in
      let hx : s.blocks 1 (4 * rs1) ≡ X = h.registers rs1 one in
      let back : word_of_limbs X ≡ register m rs1 = word_back m rs1 is in
      let new : (given : List ℕ) → new_at i (X ∷ Z ∷ []) given 2 Z ≡ limbs_of (f (register m rs1)) = λ given. makes.new X Z given ∙ rw back refl in
      let used : hints_used i.op ≡ 0 = makes.used in
      record {
        olds = X ∷ Z ∷ [];
        can = can2 i s p q makes.places makes.keep X Z (register m rs1) hx back refl (makes.fits X Z) (is_register rs1 one) (is_register rd d) (omega arith);
        acts = record {
          forced = forced2 i s p q makes.places makes.keep X Z (register m rs1) hx back refl;
          leads = state_is _ _ _ _ _ _ (makes.next _)
              (after2 i s p q makes.places makes.keep X Z (register m rs1) _ hx back ∙ ap (with_block s.blocks 1 (4 * rd)) (new _))
              (none_used (hints_used i.op) s.hints used);
        };
      }

  pub puts1 : (i : VmInstr) (rd w : ℕ) → Makes1 i m.pc rd w → rd < 32 → Puts m s i rd w
  puts1 i rd w makes d =
      let Z : List ℕ = s.blocks 1 (4 * rd) in
      let p = place 0 1 (4 * rd) in
      let used : hints_used i.op ≡ 0 = makes.used in
      record {
        olds = Z ∷ [];
        can = can1 i s p makes.places Z refl (makes.fits Z) (is_register rd d) (omega arith);
        acts = record {
          forced = forced1 i s p makes.places Z refl;
          leads = state_is _ _ _ _ _ _ (makes.next _)
              (after1 i s p makes.places Z _ ∙ ap (with_block s.blocks 1 (4 * rd)) (makes.new Z _))
              (none_used (hints_used i.op) s.hints used);
        };
      }

  put_same : (rd w : ℕ) → rd < 32 → (rd == 0) ≡ false → Same (goes_on (put rd w m)) (record { pc = word_sum m.pc 4; blocks = with_block s.blocks 1 (4 * rd) (limbs_of w); hints = s.hints })
  put_same rd w d some = same_put m s (word_sum m.pc 4) rd w (limbs_of w) is h d some refl
