-- One instruction on the manual's machine, and its row on blocks.
use Rattle.std.proofs.Common.{◌≡◌, ℕ, ◌*◌, ◌%◌, ◌^◌, ◌<◌, true, None, List, sym, ap, ◌∙◌, subst, arith}
use Rattle.std.proofs.lemmas.Bool.Decides.{nat_tests}
use Rattle.rv_decode.specs.declared.instr.Instr.{Instr}
use Rattle.vm_word.specs.Word.{limbs_of, word_of_limbs}
use Rattle.vm_word.proofs.WordLemmas.{word_of_limbs-limbs_of}
use Rattle.rv_run.specs.Machine.{Machine}
use Rattle.rv_run.specs.Step.{register, goes, obstacle, performed}
use Rattle.vm_isa.specs.declared.instr.VmInstr.{VmInstr}
use Rattle.vm_isa.specs.Blocks.{Blocks, VmState, is_block}
use Rattle.vm_isa.proofs.RowSteps.{followed_by, Can, By}
use Rattle.vm_transpile.specs.Same.{IsMachine, Same}

-- a row finds these words alone, and leads to this state with them
pub record Acts (i : VmInstr) (s : VmState) (olds : List (List ℕ)) (t : VmState) : Type 0 where
  pub forced : (xs : List (List ℕ)) → Can i s xs → xs ≡ olds
  pub leads : followed_by i s olds ≡ t

-- The instruction and the row do the same: forth where nothing keeps the instruction from being done
-- and it leads into memory, back where the row leads to where a row can stand.
pub record Turns (m : Machine) (instr : Instr) (i : VmInstr) (s : VmState) : Type 0 where
  pub next : Machine
  pub performs : performed m instr ≡ goes next
  pub forth : obstacle m instr ≡ None → next.pc < 2 ^ 29 → (t : VmState) × By i s t × Same next t
  pub back : (t : VmState) → By i s t → t.pc % 4 ≡ 0 → t.pc < 2 ^ 29 → (obstacle m instr ≡ None) × Same next t

pub turns : (m : Machine) (instr : Instr) (i : VmInstr) (s : VmState) (next : Machine) (olds : List (List ℕ)) (t : VmState) → performed m instr ≡ goes next → Acts i s olds t
    → (obstacle m instr ≡ None → next.pc < 2 ^ 29 → Can i s olds × Same next t)
    → (Can i s olds → t.pc % 4 ≡ 0 → t.pc < 2 ^ 29 → (obstacle m instr ≡ None) × Same next t) → Turns m instr i s
turns m instr i s next olds t performs acts forth back = record {
  next = next;
  performs = performs;
  forth = λ free low. let f = forth free low in (t, record { olds = olds; can = f.0; next = sym acts.leads }, f.1);
  back = λ u by even low.
      let same : by.olds ≡ olds = acts.forced by.olds by.can in
      let is : u ≡ t = by.next ∙ ap (followed_by i s) same ∙ acts.leads in
      let b = back (subst (Can i s) same by.can) (subst (λ (x : VmState). x.pc % 4 ≡ 0) is even) (subst (λ (x : VmState). x.pc < 2 ^ 29) is low) in
      (b.0, subst (λ (x : VmState). Same next x) (sym is) b.1);
}

-- a state by its parts
pub state_is : (p q : ℕ) (b c : Blocks) (g h : List ℕ) → p ≡ q → b ≡ c → g ≡ h → (let x : VmState = record { pc = p; blocks = b; hints = g } in x) ≡ record { pc = q; blocks = c; hints = h }
state_is p q b c g h pc blocks hints = λ j. record { pc = pc j; blocks = blocks j; hints = hints j }

pub is_register : (r : ℕ) → r < 32 → is_block 1 (4 * r) ≡ true
is_register r low =
    let even : 4 * r % 4 ≡ 0 = omega arith in
    rw even (grind (arith, nat_tests))

pub word_back : (m : Machine) (r : ℕ) → IsMachine m → word_of_limbs (limbs_of (register m r)) ≡ register m r
word_back m r is = word_of_limbs-limbs_of (register m r) (is.words r)
