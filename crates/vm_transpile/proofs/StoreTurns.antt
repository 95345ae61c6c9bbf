-- The turns of stores, hint stores and reveals.
use Rattle.std.proofs.Common.{◌≡◌, ℕ, ◌+◌, ◌-◌, ◌*◌, ◌%◌, ◌^◌, ◌<◌, ◌≤◌, Bool, true, false, cond, ◌&&◌, nat_eq, nat_lt, None, Some, Option, length, length-take, List, [], ◌∷◌, take, drop, refl, sym, ap, ◌∙◌, subst, arith}
use Rattle.std.proofs.lemmas.Bool.Decides.{nat_tests}
use Rattle.byteorder.specs.Endian.{little_bytes}
use Rattle.rv_decode.specs.declared.instr.Instr.TheVariants.{Store, HintStore, Reveal}
use Rattle.vm_word.specs.declared.operation.StoreKind.{StoreKind}
use Rattle.vm_word.specs.declared.operation.StoreKind.TheVariants.{Sb}
use Rattle.vm_word.specs.Word.{limbs_of, word_of_limbs}
use Rattle.vm_word.specs.Arithmetic.{word_sum}
use Rattle.rv_run.specs.declared.outcome.Cause.{Cause}
use Rattle.rv_run.specs.declared.outcome.Cause.TheVariants.{PublicIndex}
use Rattle.rv_run.specs.Machine.{Machine}
use Rattle.rv_run.specs.Memory.{with_bytes}
use Rattle.rv_run.specs.Step.{register, goes_on, store, use_hints, make_public, at_address, at_public}
use Rattle.vm_word.specs.Operations.{store_width}
use Rattle.rv_run.proofs.HintsTaken.{hint_parts, hint_whole}
use Rattle.vm_isa.specs.declared.instr.VmInstr.{VmInstr}
use Rattle.vm_isa.specs.Results.{width_of, with_low}
use Rattle.vm_isa.specs.Means.{is_refused, bars_first, bars_second, imm_of, is_bad, new_at, next_of, place, places_by, word_at}
use Rattle.vm_isa.specs.Blocks.{VmState, with_block, hints_used, is_block}
use Rattle.vm_isa.proofs.Shapes.{forced2, can2, after2, forced3, can3, blocks3, after3}
use Rattle.vm_transpile.specs.Rows.{store_opcode, hint_row, reveal_row, bare, row_of}
use Rattle.vm_transpile.specs.Same.{IsMachine, Same, memory_block}
use Rattle.vm_transpile.proofs.Turns.{Turns, turns, state_is, is_register, word_back}
use Rattle.vm_transpile.proofs.Operations.{none_used}
use Rattle.vm_transpile.proofs.Updates.{same_store, same_public}
use Rattle.vm_transpile.proofs.WordBytes.{block-with, stored_here, store_fits}
use Rattle.vm_transpile.proofs.MemoryTurns.{free_fits, fits_free, fits_aligned, fits_low, is_memory, tested, imm_word}

-- ---- the rows

record Stores (i : VmInstr) (pc : ℕ) (kind : StoreKind) (rs1 rs2 v : ℕ) : Type 0 where
  places : (b c : ℕ) → places_by i b c ≡ place 0 1 (4 * rs1) ∷ place 1 1 (4 * rs2) ∷ place 2 2 (word_sum b v - word_sum b v % 4) ∷ []
  keep0 : (olds : List (List ℕ)) (given x : List ℕ) → new_at i olds given 0 x ≡ x
  keep1 : (olds : List (List ℕ)) (given x : List ℕ) → new_at i olds given 1 x ≡ x
  new : (x y z given : List ℕ) → new_at i (x ∷ y ∷ z ∷ []) given 2 z ≡ with_low z (word_sum (word_of_limbs x) v % 4) (store_width kind) y
  next : (olds : List (List ℕ)) → next_of i olds ≡ word_sum pc 4
  fits : (x y z : List ℕ) → is_refused i (x ∷ y ∷ z ∷ []) ≡ is_bad (store_width kind) (word_sum (word_of_limbs x) v)
  used : hints_used i.op ≡ 0

abbrev store_row : ℕ → StoreKind → ℕ → ℕ → List ℕ → VmInstr
store_row pc kind rs1 rs2 limbs = record (bare pc (store_opcode kind)) { rs1 = rs1; rs2 = rs2; imm = limbs }

stores : (kind : StoreKind) (pc rs1 rs2 : ℕ) (limbs : List ℕ) → Stores (store_row pc kind rs1 rs2 limbs) pc kind rs1 rs2 (word_of_limbs limbs)
unfolding places_by new_at next_of is_refused bars_first bars_second word_at imm_of width_of
stores Sb pc rs1 rs2 limbs = record { places = λ b c. refl; keep0 = λ o g x. refl; keep1 = λ o g x. refl; new = λ x y z g. refl; next = λ o. refl; fits = λ x y z. tested _; used = refl }
stores _ pc rs1 rs2 limbs = record { places = λ b c. refl; keep0 = λ o g x. refl; keep1 = λ o g x. refl; new = λ x y z g. refl; next = λ o. refl; fits = λ x y z. tested _; used = refl }

record Hints (i : VmInstr) (pc base v : ℕ) : Type 0 where
  places : (b c : ℕ) → places_by i b c ≡ place 0 1 (4 * base) ∷ place 1 2 (word_sum b v) ∷ []
  keep : (olds : List (List ℕ)) (given x : List ℕ) → new_at i olds given 0 x ≡ x
  new : (x y given : List ℕ) → new_at i (x ∷ y ∷ []) given 1 y ≡ given
  next : (olds : List (List ℕ)) → next_of i olds ≡ word_sum pc 4
  fits : (x y : List ℕ) → is_refused i (x ∷ y ∷ []) ≡ is_bad 4 (word_sum (word_of_limbs x) v)
  used : hints_used i.op ≡ 4

abbrev hint_by : ℕ → ℕ → List ℕ → VmInstr
hint_by pc base limbs = record (hint_row pc base 0) { imm = limbs }

hints : (pc base : ℕ) (limbs : List ℕ) → Hints (hint_by pc base limbs) pc base (word_of_limbs limbs)
unfolding places_by new_at next_of is_refused bars_first bars_second word_at imm_of
hints pc base limbs = record { places = λ b c. refl; keep = λ o g x. refl; new = λ x y g. refl; next = λ o. refl; fits = λ x y. tested _; used = refl }

record Reveals (i : VmInstr) (pc base rs1 v : ℕ) : Type 0 where
  places : (b c : ℕ) → places_by i b c ≡ place 0 1 (4 * base) ∷ place 1 1 (4 * rs1) ∷ place 2 3 (word_sum b v) ∷ []
  keep0 : (olds : List (List ℕ)) (given x : List ℕ) → new_at i olds given 0 x ≡ x
  keep1 : (olds : List (List ℕ)) (given x : List ℕ) → new_at i olds given 1 x ≡ x
  new : (x y z given : List ℕ) → new_at i (x ∷ y ∷ z ∷ []) given 2 z ≡ y
  next : (olds : List (List ℕ)) → next_of i olds ≡ word_sum pc 4
  fits : (x y z : List ℕ) → is_refused i (x ∷ y ∷ z ∷ []) ≡ is_bad 4 (word_sum (word_of_limbs x) v)
  used : hints_used i.op ≡ 0

abbrev reveal_by : ℕ → ℕ → ℕ → List ℕ → VmInstr
reveal_by pc base rs1 limbs = record (reveal_row pc base rs1 0) { imm = limbs }

reveals : (pc base rs1 : ℕ) (limbs : List ℕ) → Reveals (reveal_by pc base rs1 limbs) pc base rs1 (word_of_limbs limbs)
unfolding places_by new_at next_of is_refused bars_first bars_second word_at imm_of
reveals pc base rs1 limbs = record { places = λ b c. refl; keep0 = λ o g x. refl; keep1 = λ o g x. refl; new = λ x y z g. refl; next = λ o. refl; fits = λ x y z. tested _; used = refl }

-- ---- hints and public bytes

-- four bytes at a multiple of 4
pub whole_block : (m : ℕ → ℕ) (a : ℕ) (bytes : List ℕ) → length bytes ≡ 4 → memory_block (with_bytes m a bytes) a ≡ bytes
whole_block m a [] e = absurd (omega arith)
whole_block m a (x ∷ []) e = absurd (omega arith)
whole_block m a (x ∷ y ∷ []) e = absurd (omega arith)
whole_block m a (x ∷ y ∷ z ∷ []) e = absurd (omega arith)
whole_block m a (x ∷ y ∷ z ∷ w ∷ []) e =
    let bytes : List ℕ = x ∷ y ∷ z ∷ w ∷ [] in
    let at : a + 0 ≡ a = omega arith in
    subst (λ (n : ℕ). memory_block (with_bytes m n bytes) a ≡ bytes) at (block-with m a 0 bytes)
whole_block m a (x ∷ y ∷ z ∷ w ∷ u ∷ more) e = absurd (omega arith)

public_by : (x y : Bool) → cond (x && y) None (let c : Option Cause = Some PublicIndex in c) ≡ None → (x ≡ true) × (y ≡ true)
public_by true true h = (refl, refl)
public_by true false h = absurd (cc)
public_by false y h = absurd (cc)

pub public_free : (a : ℕ) → at_public a ≡ None → (a % 4 ≡ 0) × (a < 64)
public_free a h =
    let both = public_by (nat_eq (a % 4) 0) (nat_lt a 64) h in
    let even : nat_eq (a % 4) 0 ≡ true = both.0 in
    let low : nat_lt a 64 ≡ true = both.1 in
    (grind (arith, nat_tests), grind (arith, nat_tests))

public_from_block : (a : ℕ) → is_block 3 a ≡ true → at_public a ≡ None
public_from_block a h = let t : (nat_eq (a % 4) 0 && nat_lt a 64) ≡ true = h in rw t refl

block_from_public : (a : ℕ) → a % 4 ≡ 0 → a < 64 → is_block 3 a ≡ true
block_from_public a even low = rw even (grind (arith, nat_tests))

block_parts : (a : ℕ) → is_block 3 a ≡ true → (a % 4 ≡ 0) × (a < 64)
block_parts a h = public_free a (public_from_block a h)

good_low : (a : ℕ) → a % 4 ≡ 0 → a < 64 → is_bad 4 a ≡ false
good_low a even low = rw even (grind (arith, nat_tests))

module _ (m : Machine) (s : VmState) (is : IsMachine m) (h : Same m s) where
  store_by : (kind : StoreKind) (rs1 rs2 imm : ℕ) (i : VmInstr) → Stores i m.pc kind rs1 rs2 imm → rs1 < 32 → rs2 < 32 → Turns m (Store kind rs1 rs2 imm) i s
  store_by kind rs1 rs2 imm i row one two =
      let X : List ℕ = limbs_of (register m rs1) in
      let Y : List ℕ = limbs_of (register m rs2) in
      let a : ℕ = word_sum (register m rs1) imm in
      let Z : List ℕ = s.blocks 2 (a - a % 4) in
      let p = place 0 1 (4 * rs1) in
      let q = λ (b : ℕ). place 1 1 (4 * rs2) in
      let r = λ (b : ℕ). place 2 2 (word_sum b imm - word_sum b imm % 4) in
      let keep = λ (b : ℕ). row.keep1 in
      let hx : s.blocks 1 (4 * rs1) ≡ X = h.registers rs1 one in
      let hy : s.blocks 1 (4 * rs2) ≡ Y = h.registers rs2 two in
      let back : word_of_limbs X ≡ register m rs1 = word_back m rs1 is in
      let word : List ℕ = with_low Z (a % 4) (store_width kind) Y in
      let bytes : List ℕ = little_bytes (store_width kind) (register m rs2) in
      let new : (given : List ℕ) → new_at i (X ∷ Y ∷ Z ∷ []) given 2 Z ≡ word = λ given. row.new X Y Z given ∙ rw back refl in
      let used : hints_used i.op ≡ 0 = row.used in
      let bad : is_refused i (X ∷ Y ∷ Z ∷ []) ≡ is_bad (store_width kind) a = row.fits X Y Z ∙ rw back refl in
      let same = λ (good : is_bad (store_width kind) a ≡ false).
      let low : a < 2 ^ 29 = fits_low (store_width kind) a good in
      let even = fits_aligned (store_width kind) a good in
      let block : Z ≡ memory_block m.memory (a - a % 4) = h.memory (a - a % 4) (omega arith) (omega arith) in
      same_store m s (word_sum m.pc 4) a bytes word s.hints m.hints h (store_fits kind a (register m rs2) even)
      (stored_here kind m.memory a (register m rs2) even ∙ ap (λ (z : List ℕ). with_low z (a % 4) (store_width kind) Y) (sym block)) h.hints in
      turns m (Store kind rs1 rs2 imm) i s (goes_on (store a bytes m)) (X ∷ Y ∷ Z ∷ [])
      (record { pc = word_sum m.pc 4; blocks = with_block s.blocks 2 (a - a % 4) word; hints = s.hints }) refl
      (record {
        forced = forced3 i s p q r row.places row.keep0 keep X Y Z (register m rs1) hx back hy refl;
        leads = state_is _ _ _ _ _ _ (row.next _)
            (after3 i s p q r row.places row.keep0 keep X Y Z (register m rs1) _ hx back hy ∙ ap (with_block s.blocks 2 (a - a % 4)) (new _))
            (none_used (hints_used i.op) s.hints used);
      })
      (λ free low.
      let good : is_bad (store_width kind) a ≡ false = free_fits (store_width kind) a free in
      (can3 i s p q r row.places row.keep0 keep X Y Z (register m rs1) hx back hy refl (bad ∙ good) (is_register rs1 one) (is_register rs2 two) (is_memory a (fits_low (store_width kind) a good)) (omega arith), same good))
      (λ can even low.
      let good : is_bad (store_width kind) a ≡ false = sym bad ∙ can.fits in
      (fits_free (store_width kind) a good, same good))

  pub store_turn : (kind : StoreKind) (rs1 rs2 imm : ℕ) → rs1 < 32 → rs2 < 32 → imm < 2 ^ 32 → Turns m (Store kind rs1 rs2 imm) (row_of m.pc (Store kind rs1 rs2 imm)) s
  store_turn kind rs1 rs2 imm one two low =
      store_by kind rs1 rs2 imm (store_row m.pc kind rs1 rs2 (limbs_of imm))
      (subst (λ (v : ℕ). Stores (store_row m.pc kind rs1 rs2 (limbs_of imm)) m.pc kind rs1 rs2 v) (imm_word imm low) (stores kind m.pc rs1 rs2 (limbs_of imm))) one two

  hint_same : (a : ℕ) → is_bad 4 a ≡ false → 4 ≤ length m.hints
      → Same (goes_on (use_hints 4 (store a (take 4 m.hints) m))) (record { pc = word_sum m.pc 4; blocks = with_block s.blocks 2 a (take 4 s.hints); hints = drop 4 s.hints })
  hint_same a good enough =
      let even : a % 4 ≡ 0 = fits_aligned 4 a good in
      let here : a - a % 4 ≡ a = omega arith in
      let four : length (take 4 m.hints) ≡ 4 = omega (arith, length-take 4 m.hints) in
      let word : memory_block (with_bytes m.memory a (take 4 m.hints)) (a - a % 4) ≡ take 4 s.hints =
      ap (memory_block (with_bytes m.memory a (take 4 m.hints))) here ∙ whole_block m.memory a (take 4 m.hints) four ∙ ap (take 4) (sym h.hints) in
      subst (λ (n : ℕ). Same (goes_on (use_hints 4 (store a (take 4 m.hints) m))) (record { pc = word_sum m.pc 4; blocks = with_block s.blocks 2 n (take 4 s.hints); hints = drop 4 s.hints })) here
      (same_store m s (word_sum m.pc 4) a (take 4 m.hints) (take 4 s.hints) (drop 4 s.hints) (drop 4 m.hints) h (omega arith) word (ap (drop 4) h.hints))

  hint_turn_by : (base imm : ℕ) (i : VmInstr) → Hints i m.pc base imm → base < 32 → Turns m (HintStore base imm) i s
  hint_turn_by base imm i row one =
      let X : List ℕ = limbs_of (register m base) in
      let a : ℕ = word_sum (register m base) imm in
      let Y : List ℕ = s.blocks 2 a in
      let p = place 0 1 (4 * base) in
      let q = λ (b : ℕ). place 1 2 (word_sum b imm) in
      let hx : s.blocks 1 (4 * base) ≡ X = h.registers base one in
      let back : word_of_limbs X ≡ register m base = word_back m base is in
      let used : hints_used i.op ≡ 4 = row.used in
      let bad : is_refused i (X ∷ Y ∷ []) ≡ is_bad 4 a = row.fits X Y ∙ rw back refl in
      let size : length s.hints ≡ length m.hints = ap (λ (xs : List ℕ). length xs) h.hints in
      turns m (HintStore base imm) i s (goes_on (use_hints 4 (store a (take 4 m.hints) m))) (X ∷ Y ∷ [])
      (record { pc = word_sum m.pc 4; blocks = with_block s.blocks 2 a (take 4 s.hints); hints = drop 4 s.hints }) refl
      (record {
        forced = forced2 i s p q row.places row.keep X Y (register m base) hx back refl;
        leads = state_is _ _ _ _ _ _ (row.next _)
            (after2 i s p q row.places row.keep X Y (register m base) _ hx back ∙ ap (with_block s.blocks 2 a) (row.new _ _ _))
            (ap (λ (n : ℕ). drop n s.hints) used);
      })
      (λ free low.
      let parts = hint_parts m (at_address 4 a) (nat_lt (length m.hints) 4) refl free in
      let good : is_bad 4 a ≡ false = free_fits 4 a parts.0 in
      let many : 4 ≤ length m.hints = parts.1 in
      let even : a % 4 ≡ 0 = fits_aligned 4 a good in
      let here : a - a % 4 ≡ a = omega arith in (
        can2 i s p q row.places row.keep X Y (register m base) hx back refl (bad ∙ good) (is_register base one) (subst (λ (n : ℕ). is_block 2 n ≡ true) here (is_memory a (fits_low 4 a good))) (omega arith),
        hint_same a good parts.1,
      ))
      (λ can even low.
      let good : is_bad 4 a ≡ false = sym bad ∙ can.fits in
      let enough : hints_used i.op ≤ length s.hints = can.enough in
      let many : 4 ≤ length m.hints = omega arith in
      (hint_whole m (at_address 4 a) (fits_free 4 a good) many, hint_same a good many))

  pub hint_turn : (base imm : ℕ) → base < 32 → imm < 2 ^ 32 → Turns m (HintStore base imm) (row_of m.pc (HintStore base imm)) s
  hint_turn base imm one low =
      hint_turn_by base imm (hint_by m.pc base (limbs_of imm))
      (subst (λ (v : ℕ). Hints (hint_by m.pc base (limbs_of imm)) m.pc base v) (imm_word imm low) (hints m.pc base (limbs_of imm))) one

  reveal_turn_by : (base rs1 imm : ℕ) (i : VmInstr) → Reveals i m.pc base rs1 imm → base < 32 → rs1 < 32 → Turns m (Reveal base rs1 imm) i s
  reveal_turn_by base rs1 imm i row one two =
      let X : List ℕ = limbs_of (register m base) in
      let Y : List ℕ = limbs_of (register m rs1) in
      let a : ℕ = word_sum (register m base) imm in
      let Z : List ℕ = s.blocks 3 a in
      let p = place 0 1 (4 * base) in
      let q = λ (b : ℕ). place 1 1 (4 * rs1) in
      let r = λ (b : ℕ). place 2 3 (word_sum b imm) in
      let keep = λ (b : ℕ). row.keep1 in
      let hx : s.blocks 1 (4 * base) ≡ X = h.registers base one in
      let hy : s.blocks 1 (4 * rs1) ≡ Y = h.registers rs1 two in
      let back : word_of_limbs X ≡ register m base = word_back m base is in
      let used : hints_used i.op ≡ 0 = row.used in
      let bad : is_refused i (X ∷ Y ∷ Z ∷ []) ≡ is_bad 4 a = row.fits X Y Z ∙ rw back refl in
      let same = λ (even : a % 4 ≡ 0) (low : a < 64). same_public m s (word_sum m.pc 4) a (register m rs1) Y is h even low refl in
      turns m (Reveal base rs1 imm) i s (goes_on (make_public a (register m rs1) m)) (X ∷ Y ∷ Z ∷ [])
      (record { pc = word_sum m.pc 4; blocks = with_block s.blocks 3 a Y; hints = s.hints }) refl
      (record {
        forced = forced3 i s p q r row.places row.keep0 keep X Y Z (register m base) hx back hy refl;
        leads = state_is _ _ _ _ _ _ (row.next _)
            (after3 i s p q r row.places row.keep0 keep X Y Z (register m base) _ hx back hy ∙ ap (with_block s.blocks 3 a) (row.new _ _ _ _))
            (none_used (hints_used i.op) s.hints used);
      })
      (λ free low.
      let parts = public_free a free in (
        can3 i s p q r row.places row.keep0 keep X Y Z (register m base) hx back hy refl (bad ∙ good_low a parts.0 parts.1) (is_register base one) (is_register rs1 two) (block_from_public a parts.0 parts.1) (omega arith),
        same parts.0 parts.1,
      ))
      (λ can even low.
      let on = blocks3 i s p q r row.places row.keep0 keep X Y Z (register m base) back can in
      let parts = block_parts a on.2 in
      (public_from_block a on.2, same parts.0 parts.1))

  pub reveal_turn : (base rs1 imm : ℕ) → base < 32 → rs1 < 32 → imm < 2 ^ 32 → Turns m (Reveal base rs1 imm) (row_of m.pc (Reveal base rs1 imm)) s
  reveal_turn base rs1 imm one two low =
      reveal_turn_by base rs1 imm (reveal_by m.pc base rs1 (limbs_of imm))
      (subst (λ (v : ℕ). Reveals (reveal_by m.pc base rs1 (limbs_of imm)) m.pc base rs1 v) (imm_word imm low) (reveals m.pc base rs1 (limbs_of imm))) one two
