-- What JAL, LUI, AUIPC and JALR mean: a register is read or none, and another is written or none.
use Rattle.std.proofs.Common.{◌≡◌, ℕ, ◌^◌, ◌<◌, ◌≤◌, Bool, true, false, nat_eq, List, [], ◌∷◌, length, Some, refl, sym, subst, ◌∙◌, arith, inl, inr}
use Rattle.std.specs.Prelude.{if◌then◌else◌}
use Rattle.std.proofs.lemmas.Bool.{cases_lt, lt-ltb, le-ltb}
use Rattle.vm_word.specs.Word.{word_of_limbs, limbs_of}
use Rattle.vm_word.specs.Arithmetic.{word_sum}
use Rattle.vm_isa.specs.declared.instr.VmInstr.{VmInstr}
use Rattle.vm_isa.specs.Instr.{InRange}
use Rattle.vm_isa.specs.Opcodes.{JAL, LUI, JALR, AUIPC}
use Rattle.vm_isa.specs.Means.{Meaning, means_of, is_refused, bars_first, bars_second, places_by, places_of, accessed_by, new_at, next_of, block_at, word_at, imm_of, register, jalr_target}
use Rattle.vm_isa.specs.Words.{IsWord}
use Rattle.vm_isa.proofs.RegisterForm.{reads, writes}
use Rattle.air_core.specs.lemmas.OneHot.{of_owned}
use Rattle.gadget_limbs.proofs.LimbsLaws.{limbs_word}
use Rattle.adapter_regs.specs.lemmas.Meant.{means_by}
use Rattle.chip_jump.specs.Link.{write_at, written}
use Rattle.chip_jump.specs.LinkLaws.{is_link}

-- what there is where a register is read (r) and one is written (w)
abbrev pub pick : {X : Type 0} → Bool → Bool → X → X → List X
pick r w x y = if r then (if w then x ∷ y ∷ [] else x ∷ []) else (if w then y ∷ [] else [])

-- the meaning, with these old words
abbrev pub link_meaning : Bool → Bool → VmInstr → List ℕ → List ℕ → Meaning
link_meaning r w i b o = record { accesses = pick r w (reads 0 i.rs1 b) (writes (write_at r) i.rd o (written i)); next = next_of i (b ∷ []) }

-- what the definitions say of these opcodes
pub record Says (r w : Bool) (i : VmInstr) (olds : List (List ℕ)) (given : List ℕ) : Type 0 where
  pub places : places_of i olds ≡ pick r w (register 0 i.rs1) (register (write_at r) i.rd)
  pub kept : (o : List ℕ) → r ≡ true → new_at i olds given 0 o ≡ o
  pub new : (o : List ℕ) → new_at i olds given (write_at r) o ≡ written i
  pub next : (b : List ℕ) → (r ≡ true → block_at olds 0 ≡ b) → next_of i olds ≡ next_of i (b ∷ [])
  pub fits : (r ≡ true → jalr_target i (word_at olds 0) < 2 ^ 29) → is_refused i olds ≡ false

pub says : (r w : Bool) (i : VmInstr) (olds : List (List ℕ)) (given : List ℕ) → InRange i → is_link r i.op ≡ true → i.write ≡ w → Says r w i olds given
unfolding places_by new_at next_of word_at is_refused bars_first bars_second imm_of written
says true w i olds given range own write =
    of_owned (λ op. i.op ≡ op → Says true w i olds given) (JALR ∷ []) i.op (
      λ op. record {
        places = rw (op, write) refl;
        kept = λ o yes. rw op refl;
        new = λ o. rw op refl;
        next = λ b e. rw (op, e refl) refl;
        fits = λ low. rw (op, lt-ltb (jalr_target i (word_at olds 0)) (2 ^ 29) (low refl)) refl;
      },
      tt,
    ) own refl
says false w i olds given range own write =
    of_owned (λ op. i.op ≡ op → Says false w i olds given) (JAL ∷ LUI ∷ AUIPC ∷ []) i.op (
      λ op. record { places = rw (op, write) refl; kept = λ o no. absurd (cc); new = λ o. rw op refl; next = λ b e. rw op refl; fits = λ low. rw op refl },
      (
        λ op. record { places = rw (op, sym write ∙ (range.upper (rw op refl)).2) refl; kept = λ o no. absurd (cc); new = λ o. rw op refl; next = λ b e. rw op refl; fits = λ low. rw op refl },
        (λ op. record { places = rw (op, sym write ∙ (range.upper (rw op refl)).2) refl; kept = λ o no. absurd (cc); new = λ o. rw op refl; next = λ b e. rw op refl; fits = λ low. rw op refl }, tt),
      ),
    ) own refl

first_is : (r w : Bool) (b o : List ℕ) → r ≡ true → block_at (pick r w b o) 0 ≡ b
first_is true true b o e = refl
first_is true false b o e = refl
first_is false w b o e = absurd (cc)

made : (r w : Bool) (f : ℕ → List ℕ → List ℕ) (i : VmInstr) (b o : List ℕ) → (r ≡ true → f 0 b ≡ b) → f (write_at r) o ≡ written i
    → (length (pick r w b o) ≡ length (pick r w (register 0 i.rs1) (register (write_at r) i.rd))) × (accessed_by f (pick r w (register 0 i.rs1) (register (write_at r) i.rd)) (pick r w b o) ≡ (link_meaning r w i b o).accesses)
unfolding accessed_by
made true true f i b o p q = (refl, rw (p refl, q) refl)
made true false f i b o p q = (refl, rw (p refl) refl)
made false true f i b o p q = (refl, rw q refl)
made false false f i b o p q = (refl, refl)

pub link_means : (r w : Bool) (i : VmInstr) (b o given : List ℕ) → InRange i → is_link r i.op ≡ true → i.write ≡ w → (r ≡ true → jalr_target i (word_of_limbs b) < 2 ^ 29)
    → means_of i (pick r w b o) given ≡ Some (link_meaning r w i b o)
unfolding word_at
link_means r w i b o given range own write low =
    let olds = pick r w b o in
    let s = says r w i olds given range own write in
    let m = made r w (new_at i olds given) i b o (s.kept b) (s.new o) in
    means_by i olds given (pick r w (register 0 i.rs1) (register (write_at r) i.rd)) (link_meaning r w i b o).accesses (next_of i (b ∷ []))
    (s.fits (λ e. subst (λ (xs : List ℕ). jalr_target i (word_of_limbs xs) < 2 ^ 29) (sym (first_is r w b o e)) (low e))) s.places m.0 m.1 (s.next b (first_is r w b o))

-- where JALR has a meaning, it leads below 2 ^ 29
jalr_high : (i : VmInstr) (b : List ℕ) (more : List (List ℕ)) → i.op ≡ JALR → 2 ^ 29 ≤ jalr_target i (word_of_limbs b) → is_refused i (b ∷ more) ≡ true
unfolding is_refused bars_first bars_second word_at imm_of
jalr_high i b more op high = rw (op, le-ltb (jalr_target i (word_of_limbs b)) (2 ^ 29) high, lt-ltb 0 (length (b ∷ more)) (omega arith)) refl

pub target_low : (i : VmInstr) (b : List ℕ) (more : List (List ℕ)) → i.op ≡ JALR → is_refused i (b ∷ more) ≡ false → jalr_target i (word_of_limbs b) < 2 ^ 29
target_low i b more op fits = elim (cases_lt (jalr_target i (word_of_limbs b)) (2 ^ 29)) [
  | inl low ↦ low
  | inr high ↦ let no : true ≡ false = sym (jalr_high i b more op high) ∙ fits in absurd (cc)
]

either : (b : Bool) (xs ys : List ℕ) → IsWord xs → IsWord ys → IsWord (if b then xs else ys)
either true xs ys h k = h
either false xs ys h k = k

pub written_word : (i : VmInstr) → IsWord i.imm → IsWord (written i)
unfolding written
written_word i h = either (nat_eq i.op LUI) i.imm _ h (limbs_word _)

-- the word that each opcode writes, and where it leads
abbrev pub Leads : VmInstr → List ℕ → List ℕ → ℕ → Type 0
Leads i b word next = (written i ≡ word) × (next_of i (b ∷ []) ≡ next)

pub jal_leads : (i : VmInstr) (b : List ℕ) → i.op ≡ JAL → Leads i b (limbs_of (word_sum i.pc 4)) i.target
unfolding written next_of
jal_leads i b op = (rw op refl, rw op refl)

pub lui_leads : (i : VmInstr) (b : List ℕ) → i.op ≡ LUI → Leads i b i.imm (word_sum i.pc 4)
unfolding written next_of
lui_leads i b op = (rw op refl, rw op refl)

pub auipc_leads : (i : VmInstr) (b : List ℕ) → i.op ≡ AUIPC → Leads i b (limbs_of (word_sum i.pc (word_of_limbs i.imm))) (word_sum i.pc 4)
unfolding written next_of
auipc_leads i b op = (rw op refl, rw op refl)

pub jalr_leads : (i : VmInstr) (b : List ℕ) → i.op ≡ JALR → Leads i b (limbs_of (word_sum i.pc 4)) (jalr_target i (word_of_limbs b))
unfolding written next_of word_at
jalr_leads i b op = (rw op refl, rw op refl)
