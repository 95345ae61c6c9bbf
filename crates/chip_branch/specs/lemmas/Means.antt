-- What a branch means, and what a record of one is.
use Rattle.std.proofs.Common.{◌≡◌, ℕ, ◌<◌, true, false, nat_eq, List, [], ◌∷◌, length, Some, map, refl, ap, ◌∙◌, arith}
use Rattle.std.specs.Prelude.{if◌then◌else◌}
use Rattle.std.proofs.lemmas.Bool.Decides.{nat_tests}
use Rattle.vm_word.specs.Word.{word_of_limbs}
use Rattle.vm_word.specs.Arithmetic.{word_sum}
use Rattle.vm_isa.specs.declared.instr.VmInstr.{VmInstr}
use Rattle.vm_isa.specs.declared.access.TimedAccess.{TimedAccess}
use Rattle.vm_isa.specs.Opcodes.{is_load, is_store, is_branch, is_register, has_meaning, JAL, LUI, JALR, AUIPC, HINT, REVEAL, SHA, HINT_NEXT}
use Rattle.vm_isa.specs.Results.{is_taken}
use Rattle.vm_isa.specs.Slots.{slots_of}
use Rattle.vm_isa.specs.Means.{Meaning, Fillable, means_of, is_refused, bars_first, bars_second, places_by, accessed_by, new_at, next_of, word_at, register, placed, placed_at}
use Rattle.vm_isa.proofs.RegisterForm.{reads}
use Rattle.adapter_regs.specs.lemmas.Meant.{olds_of, means_by, as_many, recorded}

-- what no branch is
pub record Apart (op : ℕ) : Type 0 where
  pub meant : has_meaning op ≡ true
  pub register : is_register op ≡ false
  pub load : is_load op ≡ false
  pub store : is_store op ≡ false
  pub jal : nat_eq op JAL ≡ false
  pub lui : nat_eq op LUI ≡ false
  pub jalr : nat_eq op JALR ≡ false
  pub auipc : nat_eq op AUIPC ≡ false
  pub hint : nat_eq op HINT ≡ false
  pub reveal : nat_eq op REVEAL ≡ false
  pub sha : nat_eq op SHA ≡ false
  pub next_input : nat_eq op HINT_NEXT ≡ false
  pub two : slots_of op ≡ 2
  pub low : op < 2013265921

pub apart : (op : ℕ) → is_branch op ≡ true → Apart op
apart op h = record {
  meant = grind (arith, nat_tests);
  register = grind (arith, nat_tests);
  load = grind (arith, nat_tests);
  store = grind (arith, nat_tests);
  jal = grind (arith, nat_tests);
  lui = grind (arith, nat_tests);
  jalr = grind (arith, nat_tests);
  auipc = grind (arith, nat_tests);
  hint = grind (arith, nat_tests);
  reveal = grind (arith, nat_tests);
  sha = grind (arith, nat_tests);
  next_input = grind (arith, nat_tests);
  two = grind (arith, nat_tests);
  low = grind (arith, nat_tests);
}

-- both words are read, and the next pc is by the condition
abbrev pub branch_meaning : VmInstr → List ℕ → List ℕ → Meaning
branch_meaning i b c = record {
  accesses = reads 0 i.rs1 b ∷ reads 1 i.rs2 c ∷ [];
  next = if is_taken i.op (word_of_limbs b) (word_of_limbs c) then i.target else word_sum i.pc 4;
}

fits : (i : VmInstr) (olds : List (List ℕ)) → Apart i.op → is_refused i olds ≡ false
unfolding is_refused bars_first bars_second
fits i olds n = rw (n.meant, n.load, n.store, n.jalr, n.hint, n.reveal, n.sha) refl

places : (i : VmInstr) (b c : ℕ) → is_branch i.op ≡ true → places_by i b c ≡ register 0 i.rs1 ∷ register 1 i.rs2 ∷ []
unfolding places_by
places i b c h = let n = apart i.op h in rw (n.register, n.load, n.store, h) refl

kept : (i : VmInstr) (olds : List (List ℕ)) (given old : List ℕ) (slot : ℕ) → Apart i.op → new_at i olds given slot old ≡ old
unfolding new_at
kept i olds given old slot n = rw (n.register, n.load, n.store, n.jal, n.lui, n.jalr, n.auipc, n.hint, n.reveal, n.sha) refl

leads : (i : VmInstr) (b c : List ℕ) → is_branch i.op ≡ true → next_of i (b ∷ c ∷ []) ≡ (branch_meaning i b c).next
unfolding next_of word_at
leads i b c h = rw h refl

both : (f : ℕ → List ℕ → List ℕ) (i : VmInstr) (b c : List ℕ) → f 0 b ≡ b → f 1 c ≡ c → accessed_by f (register 0 i.rs1 ∷ register 1 i.rs2 ∷ []) (b ∷ c ∷ []) ≡ reads 0 i.rs1 b ∷ reads 1 i.rs2 c ∷ []
unfolding accessed_by
both f i b c p q = rw (p, q) refl

pub means_branch : (i : VmInstr) (b c given : List ℕ) → is_branch i.op ≡ true → means_of i (b ∷ c ∷ []) given ≡ Some (branch_meaning i b c)
means_branch i b c given h =
    let olds : List (List ℕ) = b ∷ c ∷ [] in
    let n = apart i.op h in
    means_by i olds given (register 0 i.rs1 ∷ register 1 i.rs2 ∷ []) _ _ (fits i olds n) (places i (word_at olds 0) (word_at olds 1) h) refl
    (both (new_at i olds given) i b c (kept i olds given b 0 n) (kept i olds given c 1 n)) (leads i b c h)

pub record BranchShape (i : VmInstr) (time next : ℕ) (accesses : List TimedAccess) : Type 0 where
  pub a : TimedAccess
  pub b : TimedAccess
  pub are : accesses ≡ a ∷ b ∷ []
  pub first : placed a ≡ placed_at time (reads 0 i.rs1 a.access.old)
  pub second : placed b ≡ placed_at time (reads 1 i.rs2 b.access.old)
  pub next_is : next ≡ (branch_meaning i a.access.old b.access.old).next

long : (i : VmInstr) (accesses : List TimedAccess) (given : List ℕ) (m : Meaning) → is_branch i.op ≡ true → means_of i (olds_of accesses) given ≡ Some m → length (olds_of accesses) ≡ 2
long i accesses given m h e = as_many i accesses given m e ∙ ap (λ (ps : List _). length ps) (places i (word_at (olds_of accesses) 0) (word_at (olds_of accesses) 1) h)

shape : (i : VmInstr) (time next : ℕ) (accesses : List TimedAccess) (given : List ℕ) (m : Meaning) → is_branch i.op ≡ true → means_of i (olds_of accesses) given ≡ Some m → next ≡ m.next
    → map placed accesses ≡ map (placed_at time) m.accesses → BranchShape i time next accesses
shape i time next [] given m h e n p = let two = long i [] given m h e in absurd (omega arith)
shape i time next (a ∷ []) given m h e n p = let two = long i (a ∷ []) given m h e in absurd (omega arith)
shape i time next (a ∷ b ∷ []) given m h e n p =
    let r = recorded i time next (a ∷ b ∷ []) given m (branch_meaning i a.access.old b.access.old) e n p (means_branch i a.access.old b.access.old given h) in
    let at : placed a ∷ placed b ∷ [] ≡ placed_at time (reads 0 i.rs1 a.access.old) ∷ placed_at time (reads 1 i.rs2 b.access.old) ∷ [] = r.are in
    record { a = a; b = b; are = refl; first = cc; second = cc; next_is = r.next_is }
shape i time next (a ∷ b ∷ c ∷ more) given m h e n p = let two = long i (a ∷ b ∷ c ∷ more) given m h e in absurd (omega arith)

pub branch_shape : (bits : ℕ) (done : _) → Fillable bits done → is_branch done.instr.op ≡ true → BranchShape done.instr done.time done.next done.accesses
branch_shape bits done f h = shape done.instr done.time done.next done.accesses f.given f.meaning h f.means f.next f.accesses
