-- A run depends on the hint bytes that it takes.
use Rattle.std.proofs.Common.{◌≡◌, ℕ, zero, suc, ◌+◌, ◌≤◌, Bool, true, false, nat_lt, List, [], ◌++◌, length, length-append, length-take, take, drop, append_assoc, Option, None, Some, refl, sym, ap, ◌∙◌, subst, arith}
use Rattle.std.specs.Prelude.{if◌then◌else◌}
use Rattle.std.proofs.Math.Seq.{drop-append_seam, take-append_seam}
use Rattle.std.proofs.lemmas.Bool.Decides.{nat_tests}
use Rattle.std.proofs.lemmas.List.{take-append-drop}
use Rattle.elf_image.specs.Loaded.{word_of}
use Rattle.rv_decode.specs.declared.instr.Instr.{Instr}
use Rattle.rv_decode.specs.declared.instr.Instr.TheVariants.{Lui, Auipc, Jal, Jalr, Branch, Load, Store, AluImm, Alu, MulDiv, Fence, Terminate, HintStore, Reveal, ShaBlock}
use Rattle.rv_decode.specs.Listing.{decode_of}
use Rattle.vm_word.specs.Arithmetic.{word_sum}
use Rattle.rv_run.specs.declared.outcome.Cause.{Cause}
use Rattle.rv_run.specs.declared.outcome.Cause.TheVariants.{HintsEnd}
use Rattle.rv_run.specs.Machine.{Machine}
use Rattle.rv_run.specs.Memory.{with_bytes}
use Rattle.rv_run.specs.Step.{Next, goes, goes_on, jumps, address_of, at_address, branch_taken, obstacle, or_hints_end, performed, step_by, step_at_instr, step_at_word, unless}
use Rattle.rv_run.specs.Run.{Goes}
use Rattle.rv_run.specs.Laws.{RunTakesHints}

-- a state with other hints
abbrev with_hints : Machine → List ℕ → Machine
with_hints m hints = record m { hints = hints }

-- what a step that goes on takes of the hints
record Takes (m next : Machine) (step : Machine → Next) : Type 0 where
  taken : List ℕ
  are : m.hints ≡ taken ++ next.hints
  others : (rest : List ℕ) → step (with_hints m (taken ++ rest)) ≡ goes (with_hints next rest)

-- what a step that goes on says
pub unless_parts : (m : Machine) (o : Option Cause) (p : Next) (next : Machine) → unless m o p ≡ goes next → (o ≡ None) × (p ≡ goes next)
unless_parts m (Some cause) p next e = absurd (cc)
unless_parts m None p next e = (refl, e)

-- an instruction that takes none
none_taken : (m a next : Machine) (instr : Instr) → goes a ≡ goes next → a.hints ≡ m.hints → obstacle m instr ≡ None
    → ((rest : List ℕ) → obstacle (with_hints m rest) instr ≡ obstacle m instr) → ((rest : List ℕ) → performed (with_hints m rest) instr ≡ goes (with_hints a rest))
    → Takes m next (λ n. step_by n instr)
none_taken m a next instr e same free obstacles performs =
    let is : a ≡ next = cc in
    record {
      taken = [];
      are = sym same ∙ ap (λ (x : Machine). x.hints) is;
      others = λ rest. ap (λ (o : Option Cause). unless (with_hints m rest) o (performed (with_hints m rest) instr)) (obstacles rest ∙ free) ∙ performs rest ∙ ap (λ (x : Machine). goes (with_hints x rest)) is;
    }

branch_hints : (m : Machine) (taken : Bool) (a b : ℕ) → (if taken then jumps a m else jumps b m).hints ≡ m.hints
branch_hints m true a b = refl
branch_hints m false a b = refl

branch_others : (m : Machine) (taken : Bool) (a b : ℕ) (rest : List ℕ) → (if taken then jumps a (with_hints m rest) else jumps b (with_hints m rest)) ≡ with_hints (if taken then jumps a m else jumps b m) rest
branch_others m true a b rest = refl
branch_others m false a b rest = refl

-- and of a hint store
pub hint_parts : (m : Machine) (o : Option Cause) (short : Bool) → nat_lt (length m.hints) 4 ≡ short → or_hints_end m o ≡ None → (o ≡ None) × (4 ≤ length m.hints)
hint_parts m (Some cause) short e h = absurd (cc)
hint_parts m None true e h = let no : Some HintsEnd ≡ None = rw e at h in absurd (cc)
hint_parts m None false e h = (refl, grind (arith, nat_tests))

pub hint_whole : (m : Machine) (o : Option Cause) → o ≡ None → 4 ≤ length m.hints → or_hints_end m o ≡ None
hint_whole m o e h =
    let off : nat_lt (length m.hints) 4 ≡ false = grind (arith, nat_tests) in
    rw (e, off) refl

abbrev hint_next : Machine → ℕ → List ℕ → List ℕ → Machine
hint_next m address bytes left = record m { pc = word_sum m.pc 4; memory = with_bytes m.memory address bytes; hints = left }

-- a hint store takes four
hint_taken : (m next : Machine) (base imm : ℕ) → obstacle m (HintStore base imm) ≡ None → performed m (HintStore base imm) ≡ goes next → Takes m next (λ n. step_by n (HintStore base imm))
hint_taken m next base imm free performs =
    let a : ℕ = address_of m base imm in
    let parts = hint_parts m (at_address 4 a) (nat_lt (length m.hints) 4) refl free in
    let many : 4 ≤ length m.hints = parts.1 in
    let used : List ℕ = take 4 m.hints in
    let four : length used ≡ 4 = omega (arith, length-take 4 m.hints) in
    let is : hint_next m a used (drop 4 m.hints) ≡ next = cc in
    record {
      taken = used;
      are = sym (take-append-drop 4 m.hints) ∙ ap (λ (x : Machine). used ++ x.hints) is;
      others = λ rest.
          let other : Machine = with_hints m (used ++ rest) in
          let front : take 4 (used ++ rest) ≡ used = ap (λ (k : ℕ). take k (used ++ rest)) (sym four) ∙ take-append_seam used rest in
          let back : drop 4 (used ++ rest) ≡ rest = ap (λ (k : ℕ). drop k (used ++ rest)) (sym four) ∙ drop-append_seam used rest in
          let long : length (used ++ rest) ≡ length used + length rest = length-append used rest in
          let goes_there : obstacle other (HintStore base imm) ≡ None = hint_whole other (at_address 4 a) parts.0 (omega arith) in
          ap (λ (o : Option Cause). unless other o (performed other (HintStore base imm))) goes_there
          ∙ (λ j. goes (hint_next m a (front j) (back j)))
          ∙ ap (λ (x : Machine). goes (with_hints x rest)) is;
    }

instr_takes : (m next : Machine) (instr : Instr) → obstacle m instr ≡ None → performed m instr ≡ goes next → Takes m next (λ n. step_by n instr)
instr_takes m next (HintStore base imm) free e = hint_taken m next base imm free e
instr_takes m next (Terminate code) free e = absurd (cc)
instr_takes m next (Branch kind rs1 rs2 offset) free e =
    none_taken m (if branch_taken m kind rs1 rs2 then jumps (word_sum m.pc offset) m else goes_on m) next (Branch kind rs1 rs2 offset) e
    (branch_hints m (branch_taken m kind rs1 rs2) (word_sum m.pc offset) (word_sum m.pc 4)) free (λ rest. refl)
    (λ rest. ap goes (branch_others m (branch_taken m kind rs1 rs2) (word_sum m.pc offset) (word_sum m.pc 4) rest))
instr_takes m next (Lui rd imm) free e = none_taken m _ next (Lui rd imm) e refl free (λ rest. refl) (λ rest. refl)
instr_takes m next (Auipc rd imm) free e = none_taken m _ next (Auipc rd imm) e refl free (λ rest. refl) (λ rest. refl)
instr_takes m next (Jal rd offset) free e = none_taken m _ next (Jal rd offset) e refl free (λ rest. refl) (λ rest. refl)
instr_takes m next (Jalr rd rs1 imm) free e = none_taken m _ next (Jalr rd rs1 imm) e refl free (λ rest. refl) (λ rest. refl)
instr_takes m next (Load kind rd rs1 imm) free e = none_taken m _ next (Load kind rd rs1 imm) e refl free (λ rest. refl) (λ rest. refl)
instr_takes m next (Store kind rs1 rs2 imm) free e = none_taken m _ next (Store kind rs1 rs2 imm) e refl free (λ rest. refl) (λ rest. refl)
instr_takes m next (AluImm op rd rs1 imm) free e = none_taken m _ next (AluImm op rd rs1 imm) e refl free (λ rest. refl) (λ rest. refl)
instr_takes m next (Alu op rd rs1 rs2) free e = none_taken m _ next (Alu op rd rs1 rs2) e refl free (λ rest. refl) (λ rest. refl)
instr_takes m next (MulDiv op rd rs1 rs2) free e = none_taken m _ next (MulDiv op rd rs1 rs2) e refl free (λ rest. refl) (λ rest. refl)
instr_takes m next Fence free e = none_taken m _ next Fence e refl free (λ rest. refl) (λ rest. refl)
instr_takes m next (Reveal base rs1 imm) free e = none_taken m _ next (Reveal base rs1 imm) e refl free (λ rest. refl) (λ rest. refl)
instr_takes m next (ShaBlock state block) free e = none_taken m _ next (ShaBlock state block) e refl free (λ rest. refl) (λ rest. refl)

at_instr : (m next : Machine) (o : Option Instr) → step_at_instr m o ≡ goes next → Takes m next (λ n. step_at_instr n o)
at_instr m next None e = absurd (cc)
at_instr m next (Some instr) e =
    let parts = unless_parts m (obstacle m instr) (performed m instr) next e in
    instr_takes m next instr parts.0 parts.1

at_word : (m next : Machine) (o : Option ℕ) → step_at_word m o ≡ goes next → Takes m next (λ n. step_at_word n o)
at_word m next None e = absurd (cc)
at_word m next (Some word) e = at_instr m next (decode_of word) e

pub run_takes_hints : RunTakesHints
run_takes_hints loaded hints zero m h = ([], sym (ap (λ (x : Machine). x.hints) h), λ rest. ap (λ (x : Machine). with_hints x rest) h)
run_takes_hints loaded hints (suc n) m h =
    let before = run_takes_hints loaded hints n h.0 h.1 in
    let step = at_word h.0 m (word_of loaded h.0.pc) h.2 in (
      before.0 ++ step.taken,
      before.1 ∙ ap (λ (xs : List ℕ). before.0 ++ xs) step.are ∙ sym (append_assoc before.0 step.taken m.hints),
      λ rest. (
        with_hints h.0 (step.taken ++ rest),
        subst (λ (xs : List ℕ). Goes loaded xs n (with_hints h.0 (step.taken ++ rest))) (sym (append_assoc before.0 step.taken rest)) (before.2 (step.taken ++ rest)),
        step.others rest,
      ),
    )
