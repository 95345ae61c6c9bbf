-- The states stay the same when a word is put into a register, stored or made public on both sides.
use Rattle.std.proofs.Common.{◌≡◌, ℕ, ◌+◌, ◌-◌, ◌*◌, ◌%◌, ◌<◌, ◌≤◌, ◌==◌, Bool, true, false, cond, nat_eq, List, ◌++◌, length, take, drop, set, get_or, refl, sym, ap, ◌∙◌, arith, length-take, length-drop, take-take, drop-drop, ⊎_elim}
use Rattle.std.specs.Prelude.{slice_index}
use Rattle.std.proofs.Math.Seq.{drop-append_seam, drop-append-add}
use Rattle.std.proofs.lemmas.Bool.{cases_lt}
use Rattle.std.proofs.lemmas.Bool.Decides.{nat_tests}
use Rattle.std.proofs.lemmas.List.{drop-append-le, take-append-le, drop-take, get_or-set_same, get_or-set_other}
use Rattle.byteorder.specs.Endian.{little_bytes}
use Rattle.vm_word.specs.Word.{limbs_of}
use Rattle.rv_run.specs.Machine.{Machine}
use Rattle.rv_run.specs.Memory.{with_bytes}
use Rattle.rv_run.specs.Step.{jumps, put, store, make_public}
use Rattle.vm_isa.specs.Blocks.{Blocks, VmState, with_block}
use Rattle.vm_transpile.specs.Same.{IsMachine, Same, memory_block}
use Rattle.vm_transpile.proofs.WordBytes.{limbs-are, stored_elsewhere}

pub same_stays : (m : Machine) (s : VmState) (pc : ℕ) → Same m s → Same (jumps pc m) (record { pc = pc; blocks = s.blocks; hints = s.hints })
same_stays m s pc h = record { pc = refl; registers = h.registers; memory = h.memory; public_bytes = h.public_bytes; hints = h.hints }

-- ---- registers

put_by : (blocks : Blocks) (registers : List ℕ) (rd r w : ℕ) (word : List ℕ) (b : Bool) → nat_eq (4 * r) (4 * rd) ≡ b → rd < length registers
    → word ≡ limbs_of w → blocks 1 (4 * r) ≡ limbs_of (slice_index registers r) → cond b word (blocks 1 (4 * r)) ≡ limbs_of (slice_index (set registers rd w) r)
put_by blocks registers rd r w word true e low is h =
    let same : r ≡ rd = grind (arith, nat_tests) in
    is ∙ ap limbs_of (sym (ap (λ (k : ℕ). get_or (set registers rd w) k 0) same ∙ get_or-set_same registers rd w 0 low))
put_by blocks registers rd r w word false e low is h =
    let other : r ≡ rd → ⊥ = λ same. grind (arith, nat_tests) in
    h ∙ ap limbs_of (sym (get_or-set_other registers rd r w 0 other))

pub registers_put : (m : Machine) (rd w : ℕ) → (rd == 0) ≡ false → (put rd w m).registers ≡ set m.registers rd w
registers_put m rd w some = rw some refl

pub same_put : (m : Machine) (s : VmState) (pc rd w : ℕ) (word : List ℕ) → IsMachine m → Same m s → rd < 32 → (rd == 0) ≡ false → word ≡ limbs_of w
    → Same (jumps pc (put rd w m)) (record { pc = pc; blocks = with_block s.blocks 1 (4 * rd) word; hints = s.hints })
same_put m s pc rd w word is h low some e =
    let long : length m.registers ≡ 32 = is.count in
    record {
      pc = refl;
      registers = λ r at.
          put_by s.blocks m.registers rd r w word (nat_eq (4 * r) (4 * rd)) refl (omega arith) e (h.registers r at)
          ∙ ap (λ (xs : List ℕ). limbs_of (slice_index xs r)) (sym (registers_put m rd w some));
      memory = h.memory;
      public_bytes = h.public_bytes;
      hints = h.hints;
    }

pub put_x0 : (m : Machine) (rd w : ℕ) → (rd == 0) ≡ true → put rd w m ≡ m
put_x0 m rd w none = rw none refl

-- ---- memory

store_by : (blocks : Blocks) (m : ℕ → ℕ) (a q : ℕ) (bytes word : List ℕ) (b : Bool) → nat_eq q (a - a % 4) ≡ b → a % 4 + length bytes ≤ 4 → q % 4 ≡ 0
    → memory_block (with_bytes m a bytes) (a - a % 4) ≡ word → blocks 2 q ≡ memory_block m q → cond b word (blocks 2 q) ≡ memory_block (with_bytes m a bytes) q
store_by blocks m a q bytes word true e fits even is h =
    let same : a - a % 4 ≡ q = grind (arith, nat_tests) in
    sym is ∙ ap (memory_block (with_bytes m a bytes)) same
store_by blocks m a q bytes word false e fits even is h =
    h ∙ sym (stored_elsewhere m a q bytes fits even (λ same. grind (arith, nat_tests)))

-- bytes within one block
pub same_store : (m : Machine) (s : VmState) (pc a : ℕ) (bytes word hints left : List ℕ) → Same m s → a % 4 + length bytes ≤ 4
    → memory_block (with_bytes m.memory a bytes) (a - a % 4) ≡ word → hints ≡ left
    → Same (record (jumps pc (store a bytes m)) { hints = left }) (record { pc = pc; blocks = with_block s.blocks 2 (a - a % 4) word; hints = hints })
same_store m s pc a bytes word hints left h fits is e =
    record {
      pc = refl;
      registers = h.registers;
      memory = λ q even low. store_by s.blocks m.memory a q bytes word (nat_eq q (a - a % 4)) refl fits even is (h.memory q even low);
      public_bytes = h.public_bytes;
      hints = e;
    }

-- ---- public bytes

shown : List ℕ → ℕ → ℕ → List ℕ
shown xs place w = take place xs ++ (little_bytes 4 w ++ drop (place + 4) xs)

shown_here : (xs : List ℕ) (place w : ℕ) → place ≤ length xs → take 4 (drop place (shown xs place w)) ≡ limbs_of w
unfolding shown
shown_here xs place w low =
    let long : length (take place xs) ≡ place = omega (arith, length-take place xs) in
    let rest : drop place (shown xs place w) ≡ little_bytes 4 w ++ drop (place + 4) xs =
    ap (λ (n : ℕ). drop n (shown xs place w)) (sym long) ∙ drop-append_seam (take place xs) (little_bytes 4 w ++ drop (place + 4) xs) in
    ap (take 4) rest ∙ limbs-are w

shown_before : (xs : List ℕ) (place w n : ℕ) → place ≤ length xs → n + 4 ≤ place → take 4 (drop n (shown xs place w)) ≡ take 4 (drop n xs)
unfolding shown
shown_before xs place w n low before =
    let more : List ℕ = little_bytes 4 w ++ drop (place + 4) xs in
    let long : length (take place xs) ≡ place = omega (arith, length-take place xs) in
    let split : n + (place - n) ≡ place = omega arith in
    let front : drop n (take place xs) ≡ take (place - n) (drop n xs) = ap (λ (k : ℕ). drop n (take k xs)) (sym split) ∙ drop-take n (place - n) xs in
    let size : length (take (place - n) (drop n xs)) ≡ place - n = omega (arith, length-take (place - n) (drop n xs), length-drop n xs) in
    ap (take 4) (drop-append-le n (take place xs) more (omega arith) ∙ ap (λ (ys : List ℕ). ys ++ more) front)
    ∙ take-append-le 4 (take (place - n) (drop n xs)) more (omega arith) ∙ take-take 4 (place - n) (drop n xs) (omega arith)

shown_after : (xs : List ℕ) (place w n : ℕ) → place ≤ length xs → place + 4 ≤ n → take 4 (drop n (shown xs place w)) ≡ take 4 (drop n xs)
unfolding shown
shown_after xs place w n low after =
    let tail : List ℕ = drop (place + 4) xs in
    let long : length (take place xs) ≡ place = omega (arith, length-take place xs) in
    let first : length (take place xs) + (n - place) ≡ n = omega arith in
    let second : length (little_bytes 4 w) + (n - place - 4) ≡ n - place = omega arith in
    let third : place + 4 + (n - place - 4) ≡ n = omega arith in
    ap (take 4) (
    ap (λ (k : ℕ). drop k (shown xs place w)) (sym first) ∙ drop-append-add (take place xs) (little_bytes 4 w ++ tail) (n - place)
    ∙ ap (λ (k : ℕ). drop k (little_bytes 4 w ++ tail)) (sym second) ∙ drop-append-add (little_bytes 4 w) tail (n - place - 4)
    ∙ drop-drop (n - place - 4) (place + 4) xs ∙ ap (λ (k : ℕ). drop k xs) third)

show_by : (blocks : Blocks) (xs : List ℕ) (place w j : ℕ) (word : List ℕ) (b : Bool) → nat_eq (4 * j) place ≡ b → place % 4 ≡ 0 → place ≤ length xs
    → word ≡ limbs_of w → blocks 3 (4 * j) ≡ take 4 (drop (4 * j) xs) → cond b word (blocks 3 (4 * j)) ≡ take 4 (drop (4 * j) (shown xs place w))
show_by blocks xs place w j word true e even low is h =
    let same : 4 * j ≡ place = grind (arith, nat_tests) in
    is ∙ sym (ap (λ (n : ℕ). take 4 (drop n (shown xs place w))) same ∙ shown_here xs place w low)
show_by blocks xs place w j word false e even low is h =
    let other : 4 * j ≡ place → ⊥ = λ same. grind (arith, nat_tests) in
    h ∙ sym (⊎_elim (λ (less : 4 * j < place). shown_before xs place w (4 * j) low (omega arith))
    (λ (more : place ≤ 4 * j). shown_after xs place w (4 * j) low (let apart : place + 4 ≤ 4 * j = omega (arith, other) in apart))
    (cases_lt (4 * j) place))

pub same_public : (m : Machine) (s : VmState) (pc place w : ℕ) (word : List ℕ) → IsMachine m → Same m s → place % 4 ≡ 0 → place < 64 → word ≡ limbs_of w
    → Same (jumps pc (make_public place w m)) (record { pc = pc; blocks = with_block s.blocks 3 place word; hints = s.hints })
unfolding shown
same_public m s pc place w word is h even low e =
    let long : length m.public_bytes ≡ 64 = is.public_count in
    record {
      pc = refl;
      registers = h.registers;
      memory = h.memory;
      public_bytes = λ j at. show_by s.blocks m.public_bytes place w j word (nat_eq (4 * j) place) refl even (omega arith) e (h.public_bytes j at);
      hints = h.hints;
    }
