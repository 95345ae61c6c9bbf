-- The register form: what its opcodes are apart from, the meaning with a register's word and with an
-- immediate, and the accesses of such steps.
use Rattle.std.proofs.Common.{◌≤◌, nat_eq, ◌≡◌, ℕ, ◌*◌, Bool, true, false, ◌||◌, List, [], ◌∷◌, length, Some, map, refl, sym, ap, ◌∙◌, arith}
use Rattle.std.proofs.lemmas.Bool.Decides.{nat_tests}
use Rattle.vm_word.specs.Word.{word_of_limbs, limbs_of}
use Rattle.vm_word.specs.Arithmetic.{word_sum}
use Rattle.vm_isa.specs.declared.instr.VmInstr.{VmInstr}
use Rattle.vm_isa.specs.declared.access.TimedAccess.{TimedAccess}
use Rattle.vm_isa.specs.Opcodes.{is_from, is_alu, is_load, is_store, is_branch, is_mul, is_register, has_meaning, JAL, LUI, JALR, AUIPC, HINT, REVEAL, SHA, HINT_NEXT, ADD, SW, MUL, REMU}
use Rattle.vm_isa.specs.Slots.{slots_of}
use Rattle.vm_isa.specs.Spaces.{REGISTERS}
use Rattle.vm_isa.specs.Instr.{InRange}
use Rattle.vm_isa.specs.Results.{result}
use Rattle.vm_isa.specs.Means.{Accessed, Meaning, means_of, is_refused, bars_first, bars_second, places_by, places_of, accessed_by, new_at, next_of, operand, word_at, imm_of, register, placed, placed_at}
use Rattle.vm_isa.proofs.NextLaws.{meant}

-- ---- the opcodes

or_true : (b : Bool) → b || true ≡ true
or_true true = refl
or_true false = refl

-- within narrower bounds is within wider ones
pub wider : (a b c d op : ℕ) → c ≤ a → b ≤ d → is_from a b op ≡ true → is_from c d op ≡ true
wider a b c d op low high h = grind (arith, nat_tests)

pub alu_register : (op : ℕ) → is_alu op ≡ true → is_register op ≡ true
alu_register op h = rw h refl

pub mul_register : (op : ℕ) → is_mul op ≡ true → is_register op ≡ true
mul_register op h = rw (h, or_true (is_alu op)) refl

-- what no opcode of the form is
pub record Apart (op : ℕ) : Type 0 where
  pub meant : has_meaning op ≡ true
  pub load : is_load op ≡ false
  pub store : is_store op ≡ false
  pub branch : is_branch op ≡ false
  pub jal : nat_eq op JAL ≡ false
  pub lui : nat_eq op LUI ≡ false
  pub jalr : nat_eq op JALR ≡ false
  pub auipc : nat_eq op AUIPC ≡ false
  pub hint : nat_eq op HINT ≡ false
  pub reveal : nat_eq op REVEAL ≡ false
  pub sha : nat_eq op SHA ≡ false
  pub next_input : nat_eq op HINT_NEXT ≡ false
  pub three : slots_of op ≡ 3

pub apart : (op : ℕ) → is_register op ≡ true → Apart op
apart op h =
    let low : is_from ADD SW op || (is_from MUL REMU op || nat_eq op REVEAL) ≡ true = grind (arith, nat_tests) in
    record {
      meant = grind (arith, nat_tests);
      load = grind (arith, nat_tests);
      store = grind (arith, nat_tests);
      branch = grind (arith, nat_tests);
      jal = grind (arith, nat_tests);
      lui = grind (arith, nat_tests);
      jalr = grind (arith, nat_tests);
      auipc = grind (arith, nat_tests);
      hint = grind (arith, nat_tests);
      reveal = grind (arith, nat_tests);
      sha = grind (arith, nat_tests);
      next_input = grind (arith, nat_tests);
      three = rw low refl;
    }

pub register_slots : (op : ℕ) → is_register op ≡ true → slots_of op ≡ 3
register_slots op h = (apart op h).three

-- their rows name a register to write, and no target
named_by : (i : VmInstr) (is_one : Bool) → is_alu i.op ≡ is_one → InRange i → is_register i.op ≡ true → (i.write ≡ true) × (i.target ≡ 0)
named_by i true e range h = range.alu e
named_by i false e range h =
    let mul : is_mul i.op ≡ true = rw e at h in
    let named = range.mul mul in
    (named.0, named.3)

pub named : (i : VmInstr) → InRange i → is_register i.op ≡ true → (i.write ≡ true) × (i.target ≡ 0)
named i range h = named_by i (is_alu i.op) refl range h

-- ---- the meaning

-- a register read, and a register written
abbrev pub reads : ℕ → ℕ → List ℕ → Accessed
reads slot register word = record { slot = slot; space = REGISTERS; pointer = 4 * register; old = word; new = word }

abbrev pub writes : ℕ → ℕ → List ℕ → List ℕ → Accessed
writes slot register old new = record { slot = slot; space = REGISTERS; pointer = 4 * register; old = old; new = new }

abbrev pub result_word : ℕ → List ℕ → List ℕ → List ℕ
result_word op b c = limbs_of (result op (word_of_limbs b) (word_of_limbs c))

-- the accesses of the two forms
abbrev pub by_word : VmInstr → List ℕ → List ℕ → List ℕ → List Accessed
by_word i b c o = reads 0 i.rs1 b ∷ reads 1 i.rs2 c ∷ writes 2 i.rd o (result_word i.op b c) ∷ []

abbrev pub by_imm : VmInstr → List ℕ → List ℕ → List Accessed
by_imm i b o = reads 0 i.rs1 b ∷ writes 2 i.rd o (result_word i.op b i.imm) ∷ []

fits : (i : VmInstr) (olds : List (List ℕ)) → Apart i.op → is_refused i olds ≡ false
unfolding is_refused bars_first bars_second
fits i olds n = rw (n.meant, n.load, n.store, n.jalr, n.hint, n.reveal, n.sha) refl

goes_on : (i : VmInstr) (olds : List (List ℕ)) → Apart i.op → next_of i olds ≡ word_sum i.pc 4
unfolding next_of
goes_on i olds n = rw (n.branch, n.jal, n.jalr) refl

places_word : (i : VmInstr) (b c : ℕ) → is_register i.op ≡ true → i.use_imm ≡ false → places_by i b c ≡ register 0 i.rs1 ∷ register 1 i.rs2 ∷ register 2 i.rd ∷ []
unfolding places_by
places_word i b c h w = rw (h, w) refl

places_imm : (i : VmInstr) (b c : ℕ) → is_register i.op ≡ true → i.use_imm ≡ true → places_by i b c ≡ register 0 i.rs1 ∷ register 2 i.rd ∷ []
unfolding places_by
places_imm i b c h w = rw (h, w) refl

-- a read keeps its word
first_kept : (i : VmInstr) (olds : List (List ℕ)) (given old : List ℕ) → is_register i.op ≡ true → new_at i olds given 0 old ≡ old
unfolding new_at
first_kept i olds given old h = let n = apart i.op h in rw (h, n.load, n.store, n.jal, n.lui, n.jalr, n.auipc, n.hint, n.reveal, n.sha) refl

second_kept : (i : VmInstr) (olds : List (List ℕ)) (given old : List ℕ) → is_register i.op ≡ true → new_at i olds given 1 old ≡ old
unfolding new_at
second_kept i olds given old h = let n = apart i.op h in rw (h, n.load, n.store, n.jal, n.lui, n.jalr, n.auipc, n.hint, n.reveal, n.sha) refl

-- and the third access leaves the result
written : (i : VmInstr) (olds : List (List ℕ)) (given old : List ℕ) → is_register i.op ≡ true
    → new_at i olds given 2 old ≡ limbs_of (result i.op (word_at olds 0) (operand i (word_at olds 1)))
unfolding new_at
written i olds given old h = rw h refl

means_three : (i : VmInstr) (b c o given : List ℕ) (accesses : List Accessed) → is_refused i (b ∷ c ∷ o ∷ []) ≡ false
    → places_of i (b ∷ c ∷ o ∷ []) ≡ register 0 i.rs1 ∷ register 1 i.rs2 ∷ register 2 i.rd ∷ []
    → accessed_by (new_at i (b ∷ c ∷ o ∷ []) given) (register 0 i.rs1 ∷ register 1 i.rs2 ∷ register 2 i.rd ∷ []) (b ∷ c ∷ o ∷ []) ≡ accesses → next_of i (b ∷ c ∷ o ∷ []) ≡ word_sum i.pc 4
    → means_of i (b ∷ c ∷ o ∷ []) given ≡ Some (record { accesses = accesses; next = word_sum i.pc 4 })
unfolding means_of
means_three i b c o given accesses fits are made next = rw (fits, are, made, next) refl

means_two : (i : VmInstr) (b o given : List ℕ) (accesses : List Accessed) → is_refused i (b ∷ o ∷ []) ≡ false
    → places_of i (b ∷ o ∷ []) ≡ register 0 i.rs1 ∷ register 2 i.rd ∷ []
    → accessed_by (new_at i (b ∷ o ∷ []) given) (register 0 i.rs1 ∷ register 2 i.rd ∷ []) (b ∷ o ∷ []) ≡ accesses → next_of i (b ∷ o ∷ []) ≡ word_sum i.pc 4
    → means_of i (b ∷ o ∷ []) given ≡ Some (record { accesses = accesses; next = word_sum i.pc 4 })
unfolding means_of
means_two i b o given accesses fits are made next = rw (fits, are, made, next) refl

three : (f : ℕ → List ℕ → List ℕ) (i : VmInstr) (b c o w : List ℕ) → f 0 b ≡ b → f 1 c ≡ c → f 2 o ≡ w
    → accessed_by f (register 0 i.rs1 ∷ register 1 i.rs2 ∷ register 2 i.rd ∷ []) (b ∷ c ∷ o ∷ []) ≡ reads 0 i.rs1 b ∷ reads 1 i.rs2 c ∷ writes 2 i.rd o w ∷ []
unfolding accessed_by
three f i b c o w p q r = rw (p, q, r) refl

two : (f : ℕ → List ℕ → List ℕ) (i : VmInstr) (b o w : List ℕ) → f 0 b ≡ b → f 2 o ≡ w
    → accessed_by f (register 0 i.rs1 ∷ register 2 i.rd ∷ []) (b ∷ o ∷ []) ≡ reads 0 i.rs1 b ∷ writes 2 i.rd o w ∷ []
unfolding accessed_by
two f i b o w p r = rw (p, r) refl

second_word : (i : VmInstr) (b c o : List ℕ) → i.use_imm ≡ false → limbs_of (result i.op (word_at (b ∷ c ∷ o ∷ []) 0) (operand i (word_at (b ∷ c ∷ o ∷ []) 1))) ≡ result_word i.op b c
unfolding word_at
second_word i b c o w = rw w refl

second_imm : (i : VmInstr) (b o : List ℕ) → i.use_imm ≡ true → limbs_of (result i.op (word_at (b ∷ o ∷ []) 0) (operand i (word_at (b ∷ o ∷ []) 1))) ≡ result_word i.op b i.imm
unfolding word_at imm_of
second_imm i b o w = rw w refl

pub means_word : (i : VmInstr) (b c o given : List ℕ) → is_register i.op ≡ true → i.use_imm ≡ false
    → means_of i (b ∷ c ∷ o ∷ []) given ≡ Some (record { accesses = by_word i b c o; next = word_sum i.pc 4 })
means_word i b c o given h w =
    let olds : List (List ℕ) = b ∷ c ∷ o ∷ [] in
    let n = apart i.op h in
    let new = written i olds given o h ∙ second_word i b c o w in
    means_three i b c o given (by_word i b c o) (fits i olds n) (places_word i (word_at olds 0) (word_at olds 1) h w)
    (three (new_at i olds given) i b c o (result_word i.op b c) (first_kept i olds given b h) (second_kept i olds given c h) new)
    (goes_on i olds n)

pub means_imm : (i : VmInstr) (b o given : List ℕ) → is_register i.op ≡ true → i.use_imm ≡ true
    → means_of i (b ∷ o ∷ []) given ≡ Some (record { accesses = by_imm i b o; next = word_sum i.pc 4 })
means_imm i b o given h w =
    let olds : List (List ℕ) = b ∷ o ∷ [] in
    let n = apart i.op h in
    let new = written i olds given o h ∙ second_imm i b o w in
    means_two i b o given (by_imm i b o) (fits i olds n) (places_imm i (word_at olds 0) (word_at olds 1) h w)
    (two (new_at i olds given) i b o (result_word i.op b i.imm) (first_kept i olds given b h) new)
    (goes_on i olds n)

-- The accesses of a step.

abbrev olds_of : List TimedAccess → List (List ℕ)
olds_of accesses = map (λ a. a.access.old) accesses

-- of the register form
pub record WordShape (i : VmInstr) (time next : ℕ) (accesses : List TimedAccess) : Type 0 where
  pub a : TimedAccess
  pub b : TimedAccess
  pub c : TimedAccess
  pub are : accesses ≡ a ∷ b ∷ c ∷ []
  pub first : placed a ≡ placed_at time (reads 0 i.rs1 a.access.old)
  pub second : placed b ≡ placed_at time (reads 1 i.rs2 b.access.old)
  pub third : placed c ≡ placed_at time (writes 2 i.rd c.access.old (result_word i.op a.access.old b.access.old))
  pub next_is : next ≡ word_sum i.pc 4

-- and of the immediate form
pub record ImmShape (i : VmInstr) (time next : ℕ) (accesses : List TimedAccess) : Type 0 where
  pub a : TimedAccess
  pub c : TimedAccess
  pub are : accesses ≡ a ∷ c ∷ []
  pub first : placed a ≡ placed_at time (reads 0 i.rs1 a.access.old)
  pub third : placed c ≡ placed_at time (writes 2 i.rd c.access.old (result_word i.op a.access.old i.imm))
  pub next_is : next ≡ word_sum i.pc 4

long_word : (i : VmInstr) (olds : List (List ℕ)) (given : List ℕ) (m : Meaning) → is_register i.op ≡ true → i.use_imm ≡ false → means_of i olds given ≡ Some m → length olds ≡ 3
long_word i olds given m h w e = (meant i olds given m e).long ∙ ap (λ (ps : List _). length ps) (places_word i (word_at olds 0) (word_at olds 1) h w)

long_imm : (i : VmInstr) (olds : List (List ℕ)) (given : List ℕ) (m : Meaning) → is_register i.op ≡ true → i.use_imm ≡ true → means_of i olds given ≡ Some m → length olds ≡ 2
long_imm i olds given m h w e = (meant i olds given m e).long ∙ ap (λ (ps : List _). length ps) (places_imm i (word_at olds 0) (word_at olds 1) h w)

pub word_shape : (i : VmInstr) (time next : ℕ) (accesses : List TimedAccess) (given : List ℕ) (m : Meaning) → is_register i.op ≡ true → i.use_imm ≡ false
    → means_of i (olds_of accesses) given ≡ Some m → next ≡ m.next → map placed accesses ≡ map (placed_at time) m.accesses → WordShape i time next accesses
word_shape i time next [] given m h w e n p = let long = long_word i [] given m h w e in absurd (omega arith)
word_shape i time next (a ∷ []) given m h w e n p = let long = long_word i (olds_of (a ∷ [])) given m h w e in absurd (omega arith)
word_shape i time next (a ∷ b ∷ []) given m h w e n p = let long = long_word i (olds_of (a ∷ b ∷ [])) given m h w e in absurd (omega arith)
word_shape i time next (a ∷ b ∷ c ∷ []) given m h w e n p =
    let whole = means_word i a.access.old b.access.old c.access.old given h w in
    let some : Some (record { accesses = by_word i a.access.old b.access.old c.access.old; next = word_sum i.pc 4 }) ≡ Some m = sym whole ∙ e in
    let is : record { accesses = by_word i a.access.old b.access.old c.access.old; next = word_sum i.pc 4 } ≡ m = cc in
    let at : placed a ∷ placed b ∷ placed c ∷ [] ≡ map (placed_at time) (by_word i a.access.old b.access.old c.access.old)
    = p ∙ ap (λ (x : Meaning). map (placed_at time) x.accesses) (sym is) in
    record { a = a; b = b; c = c; are = refl; first = cc; second = cc; third = cc; next_is = n ∙ ap (λ (x : Meaning). x.next) (sym is) }
word_shape i time next (a ∷ b ∷ c ∷ d ∷ more) given m h w e n p = let long = long_word i (olds_of (a ∷ b ∷ c ∷ d ∷ more)) given m h w e in absurd (omega arith)

pub imm_shape : (i : VmInstr) (time next : ℕ) (accesses : List TimedAccess) (given : List ℕ) (m : Meaning) → is_register i.op ≡ true → i.use_imm ≡ true
    → means_of i (olds_of accesses) given ≡ Some m → next ≡ m.next → map placed accesses ≡ map (placed_at time) m.accesses → ImmShape i time next accesses
imm_shape i time next [] given m h w e n p = let long = long_imm i [] given m h w e in absurd (omega arith)
imm_shape i time next (a ∷ []) given m h w e n p = let long = long_imm i (olds_of (a ∷ [])) given m h w e in absurd (omega arith)
imm_shape i time next (a ∷ c ∷ []) given m h w e n p =
    let whole = means_imm i a.access.old c.access.old given h w in
    let some : Some (record { accesses = by_imm i a.access.old c.access.old; next = word_sum i.pc 4 }) ≡ Some m = sym whole ∙ e in
    let is : record { accesses = by_imm i a.access.old c.access.old; next = word_sum i.pc 4 } ≡ m = cc in
    let at : placed a ∷ placed c ∷ [] ≡ map (placed_at time) (by_imm i a.access.old c.access.old)
    = p ∙ ap (λ (x : Meaning). map (placed_at time) x.accesses) (sym is) in
    record { a = a; c = c; are = refl; first = cc; third = cc; next_is = n ∙ ap (λ (x : Meaning). x.next) (sym is) }
imm_shape i time next (a ∷ b ∷ c ∷ more) given m h w e n p = let long = long_imm i (olds_of (a ∷ b ∷ c ∷ more)) given m h w e in absurd (omega arith)
