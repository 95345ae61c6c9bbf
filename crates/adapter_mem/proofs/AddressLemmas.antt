-- Where an access of memory has a meaning, and the address of a record.
use Rattle.std.proofs.Common.{◌≡◌, ℕ, ◌+◌, ◌*◌, ◌/◌, ◌%◌, ◌^◌, ◌<◌, Bool, true, false, not, ◌||◌, nat_eq, nat_lt, List, ◌∷◌, length, refl, sym, ◌∙◌, arith}
use Rattle.std.specs.Prelude.{if◌then◌else◌}
use Rattle.std.proofs.lemmas.Bool.Decides.{nat_tests}
use Rattle.std.proofs.lemmas.Bool.{eq-eqb, eqb-true, lt-ltb, ltb-true}
use Rattle.vm_word.specs.declared.operation.LoadKind.{LoadKind}
use Rattle.vm_word.specs.declared.operation.LoadKind.TheVariants.{Lb, Lh, Lw, Lbu, Lhu}
use Rattle.vm_word.specs.declared.operation.StoreKind.{StoreKind}
use Rattle.vm_word.specs.declared.operation.StoreKind.TheVariants.{Sb, Sh, Sw}
use Rattle.vm_word.specs.Operations.{load_width, store_width}
use Rattle.vm_word.specs.Word.{word_of_limbs}
use Rattle.vm_word.specs.Arithmetic.{word_sum}
use Rattle.vm_isa.specs.declared.instr.VmInstr.{VmInstr}
use Rattle.vm_isa.specs.declared.record.StepRecord.{StepRecord}
use Rattle.vm_isa.specs.Means.{address, is_refused, word_at, imm_of}
use Rattle.vm_isa.specs.Opcodes.{is_load, is_store, is_branch, is_register, has_meaning, JAL, LUI, JALR, AUIPC, HINT, REVEAL, SHA}
use Rattle.vm_isa.specs.Slots.{slots_of}
use Rattle.vm_isa.specs.Results.{width_of, load_kind, store_kind}
use Rattle.gadget_time.specs.Access.{access_at}
use Rattle.adapter_mem.specs.Memory.{address_filled}
use Rattle.adapter_mem.specs.MemoryLaws.{IsMemory}

-- what neither loads nor stores are
pub record Apart (op : ℕ) : Type 0 where
  pub meant : has_meaning op ≡ true
  pub register : is_register op ≡ false
  pub branch : is_branch op ≡ false
  pub jal : nat_eq op JAL ≡ false
  pub lui : nat_eq op LUI ≡ false
  pub jalr : nat_eq op JALR ≡ false
  pub auipc : nat_eq op AUIPC ≡ false
  pub hint : nat_eq op HINT ≡ false
  pub reveal : nat_eq op REVEAL ≡ false
  pub sha : nat_eq op SHA ≡ false
  pub three : slots_of op ≡ 3

pub apart : (op : ℕ) → (is_load op || is_store op) ≡ true → Apart op
apart op h = record {
  meant = grind (arith, nat_tests);
  register = grind (arith, nat_tests);
  branch = grind (arith, nat_tests);
  jal = grind (arith, nat_tests);
  lui = grind (arith, nat_tests);
  jalr = grind (arith, nat_tests);
  auipc = grind (arith, nat_tests);
  hint = grind (arith, nat_tests);
  reveal = grind (arith, nat_tests);
  sha = grind (arith, nat_tests);
  three = grind (arith, nat_tests);
}

pub address_is : (i : VmInstr) (b : ℕ) → address i b ≡ word_sum b (word_of_limbs i.imm)
unfolding imm_of
address_is i b = refl

pub filled_is : (done : StepRecord) → address_filled done ≡ address done.instr (word_of_limbs (access_at done.accesses 0).access.old)
unfolding address_filled imm_of
filled_is done = refl

-- by the two tests
refused_by : (p q : Bool) (i : VmInstr) (b : List ℕ) (more : List (List ℕ)) → IsMemory i → nat_eq (address i (word_of_limbs b) % width_of i.op) 0 ≡ p → nat_lt (address i (word_of_limbs b)) (2 ^ 29) ≡ q
    → is_refused i (b ∷ more) ≡ (not p || not q)
unfolding is_refused word_at
refused_by true true i b more h p q = rw (h.meant, h.bars (word_of_limbs b), h.second _, p, q) refl
refused_by true false i b more h p q = rw (h.meant, h.bars (word_of_limbs b), h.second _, p, q, lt-ltb 0 (length (b ∷ more)) (omega arith)) refl
refused_by false true i b more h p q = rw (h.meant, h.bars (word_of_limbs b), h.second _, p, lt-ltb 0 (length (b ∷ more)) (omega arith)) refl
refused_by false false i b more h p q = rw (h.meant, h.bars (word_of_limbs b), h.second _, p, lt-ltb 0 (length (b ∷ more)) (omega arith)) refl

pub fits : (i : VmInstr) (b : List ℕ) (more : List (List ℕ)) → IsMemory i → address i (word_of_limbs b) < 2 ^ 29 → address i (word_of_limbs b) % width_of i.op ≡ 0 → is_refused i (b ∷ more) ≡ false
fits i b more h low aligned = refused_by true true i b more h (eq-eqb (address i (word_of_limbs b) % width_of i.op) 0 aligned) (lt-ltb (address i (word_of_limbs b)) (2 ^ 29) low)

low_by : (p q : Bool) (i : VmInstr) (b : List ℕ) (more : List (List ℕ)) → IsMemory i → nat_eq (address i (word_of_limbs b) % width_of i.op) 0 ≡ p → nat_lt (address i (word_of_limbs b)) (2 ^ 29) ≡ q
    → is_refused i (b ∷ more) ≡ false → (address i (word_of_limbs b) < 2 ^ 29) × (address i (word_of_limbs b) % width_of i.op ≡ 0)
low_by true true i b more h p q fits = (ltb-true (address i (word_of_limbs b)) (2 ^ 29) q, eqb-true (address i (word_of_limbs b) % width_of i.op) 0 p)
low_by true false i b more h p q fits = let no : true ≡ false = sym (refused_by true false i b more h p q) ∙ fits in absurd (cc)
low_by false true i b more h p q fits = let no : true ≡ false = sym (refused_by false true i b more h p q) ∙ fits in absurd (cc)
low_by false false i b more h p q fits = let no : true ≡ false = sym (refused_by false false i b more h p q) ∙ fits in absurd (cc)

pub low_where_it_fits : (i : VmInstr) (b : List ℕ) (more : List (List ℕ)) → IsMemory i → is_refused i (b ∷ more) ≡ false → (address i (word_of_limbs b) < 2 ^ 29) × (address i (word_of_limbs b) % width_of i.op ≡ 0)
low_where_it_fits i b more h fits = low_by _ _ i b more h refl refl fits

-- a width is 1, 2 or 4
of_load : (P : ℕ → Type 0) (k : LoadKind) → P 1 → P 2 → P 4 → P (load_width k)
of_load P Lb one two four = one
of_load P Lh one two four = two
of_load P Lw one two four = four
of_load P Lbu one two four = one
of_load P Lhu one two four = two

of_store : (P : ℕ → Type 0) (k : StoreKind) → P 1 → P 2 → P 4 → P (store_width k)
of_store P Sb one two four = one
of_store P Sh one two four = two
of_store P Sw one two four = four

either : (P : ℕ → Type 0) (c : Bool) (x y : ℕ) → P x → P y → P (if c then x else y)
either P true x y p q = p
either P false x y p q = q

widths : (P : ℕ → Type 0) (op : ℕ) → P 1 → P 2 → P 4 → P (width_of op)
unfolding width_of
widths P op one two four = either P (is_load op) _ _ (of_load P (load_kind op) one two four) (of_store P (store_kind op) one two four)

pub in_word : (op sum : ℕ) → sum % width_of op ≡ 0 → sum % 4 % width_of op ≡ 0
in_word op sum h = widths (λ w. sum % w ≡ 0 → sum % 4 % w ≡ 0) op (λ e. omega arith) (λ e. omega arith) (λ e. omega arith) h

pub halves_of : (s m0 m1 : ℕ) → m0 ≡ s % 65536 → m1 ≡ s / 65536 → s ≡ m0 + 65536 * m1
halves_of s m0 m1 e f = omega arith
