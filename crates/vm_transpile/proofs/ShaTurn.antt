-- The turn of a SHA block.
use Rattle.std.proofs.Common.{◌≡◌, ℕ, zero, suc, ◌+◌, ◌-◌, ◌*◌, ◌%◌, ◌^◌, ◌<◌, ◌≤◌, ◌==◌, Bool, true, false, cond, ◌&&◌, ◌||◌, not, nat_eq, nat_lt, None, Some, Option, length, List, [], ◌∷◌, ◌++◌, map, take, drop, drop-cons, refl, sym, ap, ◌∙◌, subst, arith}
use Rattle.std.specs.Prelude.{nat_le, slice_index}
use Rattle.std.specs.List.{concat, range_with_len}
use Rattle.std.proofs.Math.ListN.{drop_of_length-le}
use Rattle.std.proofs.lemmas.Bool.Decides.{nat_tests}
use Rattle.byteorder.specs.Endian.{little_bytes}
use Rattle.rv_decode.specs.declared.instr.Instr.TheVariants.{ShaBlock}
use Rattle.sha_words.specs.Sha256.{compress, sums_of}
use Rattle.vm_word.specs.Word.{limbs_of, word_of_limbs}
use Rattle.vm_word.specs.Arithmetic.{word_sum}
use Rattle.rv_run.specs.declared.outcome.Cause.{Cause}
use Rattle.rv_run.specs.declared.outcome.Cause.TheVariants.{Misaligned, OutOfRange}
use Rattle.rv_run.specs.Machine.{Machine}
use Rattle.rv_run.specs.Memory.{number_at, with_bytes, with_words}
use Rattle.rv_run.specs.Step.{register, goes_on, jumps, store_words, at_block, words_at, bytes_at}
use Rattle.rv_run.specs.Step.{compressed as compressed_by}
use Rattle.vm_isa.specs.declared.instr.VmInstr.{VmInstr}
use Rattle.vm_isa.specs.Means.{accessed_by, compressed, is_high, is_refused, bars_first, bars_second, memory, memory_from, new_at, next_of, places_by, sha_places, word_at}
use Rattle.vm_isa.specs.Blocks.{Blocks, VmState, with_block, after_accesses, is_block}
use Rattle.vm_isa.proofs.ReadsKept.{look}
use Rattle.vm_isa.proofs.ShaShape.{sha_olds, sha_forced, sha_blocks, sha_can, sha_after}
use Rattle.vm_transpile.specs.Rows.{sha_row, row_of}
use Rattle.vm_transpile.specs.Same.{IsMachine, Same, memory_block}
use Rattle.vm_transpile.proofs.Turns.{Turns, turns, state_is, is_register, word_back}
use Rattle.vm_transpile.proofs.Updates.{same_stays, same_store}
use Rattle.vm_transpile.proofs.StoreTurns.{whole_block}
use Rattle.vm_transpile.proofs.WordBytes.{limbs-are}

-- ---- eight words, one after another

one_word : (m : Machine) (s : VmState) (address w pointer : ℕ) (word : List ℕ) → Same m s → address - address % 4 ≡ address → address % 4 ≡ 0 → pointer ≡ address
    → memory_block (with_bytes m.memory address (little_bytes 4 w)) (address - address % 4) ≡ word
    → Same (record m { memory = with_bytes m.memory address (little_bytes 4 w) }) (record { pc = s.pc; blocks = with_block s.blocks 2 pointer word; hints = s.hints })
one_word m s address w pointer word h here even at is =
    let same : Same (record m { memory = with_bytes m.memory address (little_bytes 4 w); pc = s.pc }) (record { pc = s.pc; blocks = with_block s.blocks 2 (address - address % 4) word; hints = s.hints }) =
    same_store m s s.pc address (little_bytes 4 w) word s.hints m.hints h (omega arith) is h.hints in
    let moved = subst (λ (q : ℕ). Same (record m { memory = with_bytes m.memory address (little_bytes 4 w); pc = s.pc }) (record { pc = s.pc; blocks = with_block s.blocks 2 q word; hints = s.hints })) (here ∙ sym at) same in
    subst (λ (pc : ℕ). Same (record m { memory = with_bytes m.memory address (little_bytes 4 w); pc = pc }) (record { pc = s.pc; blocks = with_block s.blocks 2 pointer word; hints = s.hints })) h.pc moved

-- word by word, what the row writes is what the instruction stores
module _ (b : ℕ) (even : b % 4 ≡ 0) (fits : b + 32 ≤ 2 ^ 29) (words : List ℕ) (new : ℕ → List ℕ → List ℕ) (writes : (j : ℕ) (z : List ℕ) → new (18 + j) z ≡ limbs_of (slice_index words j)) where
  sha_same : (n a : ℕ) (zs : List (List ℕ)) (m : Machine) (s : VmState) → a + n ≡ 8 → length words ≡ 8 → length zs ≡ n → Same m s
      → Same (record m { memory = with_words m.memory (b + 4 * a) (drop a words) })
      (record { pc = s.pc; blocks = after_accesses s.blocks (accessed_by new (map (λ j. memory (18 + j) (word_sum b (4 * j))) (range_with_len a n)) zs); hints = s.hints })
  unfolding accessed_by after_accesses
  sha_same zero a zs m s total eight long h =
      let done : drop a words ≡ [] = drop_of_length-le words {i = a} (omega arith) in
      let whole : with_words m.memory (b + 4 * a) (drop a words) ≡ m.memory = rw done refl in
      subst (λ (mem : ℕ → ℕ). Same (record m { memory = mem }) s) (sym whole) h
  sha_same (suc n) a [] m s total eight long h = absurd (omega arith)
  sha_same (suc n) a (z ∷ zs) m s total eight long h =
      let address : ℕ = b + 4 * a in
      let w : ℕ = slice_index words a in
      let split : drop a words ≡ w ∷ drop (suc a) words = drop-cons words a 0 (omega arith) in
      let next : suc a ≡ a + 1 = omega arith in
      let after : address + 4 ≡ b + 4 * (a + 1) = omega arith in
      let stored : with_words m.memory address (drop a words) ≡ with_words (with_bytes m.memory address (little_bytes 4 w)) (b + 4 * (a + 1)) (drop (a + 1) words) =
      ap (with_words m.memory address) (split ∙ ap (λ (k : ℕ). w ∷ drop k words) next) ∙ ap (λ (x : ℕ). with_words (with_bytes m.memory address (little_bytes 4 w)) x (drop (a + 1) words)) after in
      let here : address - address % 4 ≡ address = omega arith in
      let pointer : word_sum b (4 * a) ≡ address = omega arith in
      let word : memory_block (with_bytes m.memory address (little_bytes 4 w)) (address - address % 4) ≡ new (18 + a) z =
      ap (memory_block (with_bytes m.memory address (little_bytes 4 w))) here ∙ whole_block m.memory address (little_bytes 4 w) refl ∙ limbs-are w ∙ sym (writes a z) in
      let one : Same (record m { memory = with_bytes m.memory address (little_bytes 4 w) }) (record { pc = s.pc; blocks = with_block s.blocks 2 (word_sum b (4 * a)) (new (18 + a) z); hints = s.hints }) = one_word m s address w (word_sum b (4 * a)) (new (18 + a) z) h here (omega arith) pointer word in
      subst (λ (mem : ℕ → ℕ). Same (record m { memory = mem }) (record { pc = s.pc; blocks = after_accesses (with_block s.blocks 2 (word_sum b (4 * a)) (new (18 + a) z)) (accessed_by new (map (λ j. memory (18 + j) (word_sum b (4 * j))) (range_with_len (a + 1) n)) zs); hints = s.hints })) (sym stored)
      (sha_same n (a + 1) zs (record m { memory = with_bytes m.memory address (little_bytes 4 w) }) (record { pc = s.pc; blocks = with_block s.blocks 2 (word_sum b (4 * a)) (new (18 + a) z); hints = s.hints }) (omega arith) eight (omega arith) one)

-- ---- what is compressed

map_range : {X : Type 0} (f g : ℕ → X) (a n : ℕ) → ((j : ℕ) → j < a + n → f j ≡ g j) → map f (range_with_len a n) ≡ map g (range_with_len a n)
map_range f g a zero h = refl
map_range f g a (suc n) h =
    let first : f a ≡ g a = h a (omega arith) in
    let rest = map_range f g (a + 1) n (λ j low. h j (omega arith)) in
    λ k. first k ∷ rest k

concat_range : (f : ℕ → List ℕ) (m : ℕ → ℕ) (c a n : ℕ) → ((j : ℕ) → j < a + n → f j ≡ memory_block m (c + 4 * j))
    → concat (map f (range_with_len a n)) ≡ map (λ i. m (c + i)) (range_with_len (4 * a) (4 * n))
concat_range f m c a zero h = refl
concat_range f m c a (suc n) h =
    let first : f a ≡ memory_block m (c + 4 * a) = h a (omega arith) in
    let rest = concat_range f m c (a + 1) n (λ j low. h j (omega arith)) in
    let more : 4 * suc n ≡ suc (suc (suc (suc (4 * n)))) = omega arith in
    let one : c + 4 * a + 1 ≡ c + (4 * a + 1) = omega arith in
    let two : c + 4 * a + 2 ≡ c + (4 * a + 1 + 1) = omega arith in
    let three : c + 4 * a + 3 ≡ c + (4 * a + 1 + 1 + 1) = omega arith in
    let four : 4 * (a + 1) ≡ 4 * a + 1 + 1 + 1 + 1 = omega arith in
    let tail : List ℕ = map (λ i. m (c + i)) (range_with_len (4 * a + 1 + 1 + 1 + 1) (4 * n)) in
    ap (λ (xs : List ℕ). xs ++ concat (map f (range_with_len (a + 1) n))) first
    ∙ ap (λ (ys : List ℕ). memory_block m (c + 4 * a) ++ ys) (rest ∙ ap (λ (k : ℕ). map (λ i. m (c + i)) (range_with_len k (4 * n))) four)
    ∙ (λ k. m (c + 4 * a) ∷ m (one k) ∷ m (two k) ∷ m (three k) ∷ tail)
    ∙ ap (λ (k : ℕ). map (λ i. m (c + i)) (range_with_len (4 * a) k)) (sym more)

-- the number in a block of memory
block_number : (m : ℕ → ℕ) (q : ℕ) → word_of_limbs (memory_block m q) ≡ number_at m q 4
block_number m q =
    let two : q + 1 + 1 ≡ q + 2 = omega arith in
    let three : q + 2 + 1 ≡ q + 3 = omega arith in
    rw (two, three) (omega arith)

compress_long : (state block : List ℕ) → length (compress state block) ≡ 8
unfolding compress sums_of
compress_long state block = refl

block_of : (m : Machine) (s : VmState) → Same m s → (x j : ℕ) → x % 4 ≡ 0 → x + 4 * j + 4 ≤ 2 ^ 29 → s.blocks 2 (word_sum x (4 * j)) ≡ memory_block m.memory (x + 4 * j)
block_of m s h x j even low =
    let pointer : word_sum x (4 * j) ≡ x + 4 * j = omega arith in
    ap (s.blocks 2) pointer ∙ h.memory (x + 4 * j) (omega arith) (omega arith)

words_same : (m : Machine) (s : VmState) → Same m s → (b : ℕ) → b % 4 ≡ 0 → b + 32 ≤ 2 ^ 29
    → map (λ j. word_of_limbs (s.blocks 2 (word_sum b (4 * j)))) (range_with_len 0 8) ≡ words_at m.memory b 8
unfolding words_at
words_same m s h b even low =
    map_range (λ j. word_of_limbs (s.blocks 2 (word_sum b (4 * j)))) (λ i. number_at m.memory (b + 4 * i) 4) 0 8
    (λ j less. ap word_of_limbs (block_of m s h b j even (omega arith)) ∙ block_number m.memory (b + 4 * j))

bytes_same : (m : Machine) (s : VmState) → Same m s → (c : ℕ) → c % 4 ≡ 0 → c + 64 ≤ 2 ^ 29
    → concat (map (λ j. s.blocks 2 (word_sum c (4 * j))) (range_with_len 0 16)) ≡ bytes_at m.memory c 64
unfolding bytes_at
bytes_same m s h c even low =
    concat_range (λ j. s.blocks 2 (word_sum c (4 * j))) m.memory c 0 16 (λ j less. block_of m s h c j even (omega arith))

compressed_same : (m : Machine) (s : VmState) → Same m s → (X Y : List ℕ) (b c : ℕ) → b % 4 ≡ 0 → c % 4 ≡ 0 → b + 32 ≤ 2 ^ 29 → c + 64 ≤ 2 ^ 29
    → compressed (sha_olds s.blocks X Y b c) ≡ compress (words_at m.memory b 8) (bytes_at m.memory c 64)
unfolding compressed
compressed_same m s h X Y b c even_b even_c low_b low_c =
    let words = words_same m s h b even_b low_b in
    let bytes = bytes_same m s h c even_c low_c in
    λ k. compress (words k) (bytes k)

-- ---- the row

sha_quiet : (pc state block : ℕ) (olds : List (List ℕ)) (given x : List ℕ) (slot : ℕ) → slot < 18 → new_at (sha_row pc state block) olds given slot x ≡ x
unfolding new_at
sha_quiet pc state block olds given x slot low =
    let off : nat_le 18 slot ≡ false = grind (arith, nat_tests) in
    rw off refl

sha_writes : (pc state block : ℕ) (olds : List (List ℕ)) (given : List ℕ) (j : ℕ) (z : List ℕ) → new_at (sha_row pc state block) olds given (18 + j) z ≡ limbs_of (slice_index (compressed olds) j)
unfolding new_at
sha_writes pc state block olds given j z =
    let on : nat_le 18 (18 + j) ≡ true = grind (arith, nat_tests) in
    let back : 18 + j - 18 ≡ j = omega arith in
    rw (on, back) refl

sha_places-are : (pc state block b c : ℕ) → places_by (sha_row pc state block) b c ≡ sha_places (sha_row pc state block) b c
unfolding places_by
sha_places-are pc state block b c = refl

sha_next : (pc state block : ℕ) (olds : List (List ℕ)) → next_of (sha_row pc state block) olds ≡ word_sum pc 4
unfolding next_of
sha_next pc state block olds = refl

sha_refused : (pc state block : ℕ) (blocks : Blocks) (X Y : List ℕ) (b c : ℕ) → is_refused (sha_row pc state block) (sha_olds blocks X Y b c) ≡ ((is_high (word_of_limbs X) && true) || (is_high (word_of_limbs Y) && true))
unfolding is_refused bars_first bars_second word_at
sha_refused pc state block blocks X Y b c = refl

both_low : (x y : Bool) → ((x && true) || (y && true)) ≡ false → (x ≡ false) × (y ≡ false)
both_low true y e = absurd (cc)
both_low false true e = absurd (cc)
both_low false false e = (refl, refl)

low_both : (x y : Bool) → x ≡ false → y ≡ false → ((x && true) || (y && true)) ≡ false
low_both x y e f = rw (e, f) refl

pub record AtBlock (state block : ℕ) : Type 0 where
  even_state : state % 4 ≡ 0
  even_block : block % 4 ≡ 0
  low_state : state + 32 ≤ 2 ^ 29
  low_block : block + 64 ≤ 2 ^ 29

at_by : (p q r u : Bool) → cond (not (p && q)) (let c : Option Cause = Some Misaligned in c) (cond (r && u) None (Some OutOfRange)) ≡ None → (p ≡ true) × (q ≡ true) × (r ≡ true) × (u ≡ true)
at_by true true true true e = (refl, refl, refl, refl)
at_by true true true false e = absurd (cc)
at_by true true false u e = absurd (cc)
at_by true false r u e = absurd (cc)
at_by false q r u e = absurd (cc)

free_at : (state block : ℕ) → at_block state block ≡ None → AtBlock state block
free_at state block h =
    let all = at_by (state % 4 == 0) (block % 4 == 0) (nat_le state (2 ^ 29 - 32)) (nat_le block (2 ^ 29 - 64)) h in
    let p : (state % 4 == 0) ≡ true = all.0 in
    let q : (block % 4 == 0) ≡ true = all.1 in
    let r : nat_le state (2 ^ 29 - 32) ≡ true = all.2 in
    let u : nat_le block (2 ^ 29 - 64) ≡ true = all.3 in
    let low : state ≤ 2 ^ 29 - 32 = grind (arith, nat_tests) in
    let under : block ≤ 2 ^ 29 - 64 = grind (arith, nat_tests) in
    record { even_state = grind (arith, nat_tests); even_block = grind (arith, nat_tests); low_state = omega arith; low_block = omega arith }

at_free : (state block : ℕ) → AtBlock state block → at_block state block ≡ None
at_free state block at =
    let r : nat_le state (2 ^ 29 - 32) ≡ true = grind (arith, nat_tests) in
    let u : nat_le block (2 ^ 29 - 64) ≡ true = grind (arith, nat_tests) in
    rw (at.even_state, at.even_block, r, u) refl

is_word : (x j : ℕ) → x % 4 ≡ 0 → x + 4 * j + 4 ≤ 2 ^ 29 → is_block 2 (word_sum x (4 * j)) ≡ true
is_word x j even low =
    let pointer : word_sum x (4 * j) ≡ x + 4 * j = omega arith in
    let whole : (x + 4 * j) % 4 ≡ 0 = omega arith in
    let under : nat_lt (x + 4 * j) (2 ^ 29) ≡ true = grind (arith, nat_tests) in
    rw (pointer, whole, under) refl

word_parts_by : (y : ℕ) (p q : Bool) → nat_eq (y % 4) 0 ≡ p → nat_lt y (2 ^ 29) ≡ q → (p && q) ≡ true → (y % 4 ≡ 0) × (y < 2 ^ 29)
word_parts_by y true true e f h = (grind (arith, nat_tests), grind (arith, nat_tests))
word_parts_by y true false e f h = absurd (cc)
word_parts_by y false q e f h = absurd (cc)

word_parts : (y : ℕ) → is_block 2 y ≡ true → (y % 4 ≡ 0) × (y < 2 ^ 29)
word_parts y h = word_parts_by y (nat_eq (y % 4) 0) (nat_lt y (2 ^ 29)) refl refl h

-- the last word of a range lies in memory: so does the range
last_word : (x j : ℕ) → x < 2 ^ 29 → j < 16 → is_block 2 (word_sum x (4 * j)) ≡ true → (x % 4 ≡ 0) × (x + 4 * j + 4 ≤ 2 ^ 29)
last_word x j low few h =
    let pointer : word_sum x (4 * j) ≡ x + 4 * j = omega arith in
    let parts = word_parts (x + 4 * j) (subst (λ (n : ℕ). is_block 2 n ≡ true) pointer h) in
    let even : (x + 4 * j) % 4 ≡ 0 = parts.0 in
    let under : x + 4 * j < 2 ^ 29 = parts.1 in
    (omega arith, omega arith)

not_high : (x : ℕ) → x < 2 ^ 29 → is_high x ≡ false
not_high x low = grind (arith, nat_tests)

low_from : (x : ℕ) → is_high x ≡ false → x < 2 ^ 29
low_from x h = grind (arith, nat_tests)

module _ (m : Machine) (s : VmState) (is : IsMachine m) (h : Same m s) where
  sha_state : (state block : ℕ) → AtBlock (register m state) (register m block) → (X Y : List ℕ) (given : List ℕ) (zs : List (List ℕ)) → length zs ≡ 8
      → Same (goes_on (store_words (register m state) (compressed_by m state block) m))
      (record {
        pc = word_sum m.pc 4;
        blocks = after_accesses s.blocks (accessed_by (new_at (sha_row m.pc state block) (sha_olds s.blocks X Y (register m state) (register m block)) given) (memory_from 18 (register m state) 8) zs);
        hints = s.hints;
      })
  sha_state state block at X Y given zs eight =
      let b : ℕ = register m state in
      let c : ℕ = register m block in
      let i : VmInstr = sha_row m.pc state block in
      let olds : List (List ℕ) = sha_olds s.blocks X Y b c in
      let words : List ℕ = compressed_by m state block in
      let same : compressed olds ≡ words = compressed_same m s h X Y b c at.even_state at.even_block at.low_state at.low_block in
      let writes : (j : ℕ) (z : List ℕ) → new_at i olds given (18 + j) z ≡ limbs_of (slice_index words j) =
      λ j z. sha_writes m.pc state block olds given j z ∙ ap (λ (ws : List ℕ). limbs_of (slice_index ws j)) same in
      let start : b + 4 * 0 ≡ b = omega arith in
      subst (λ (x : ℕ). Same (record m { pc = word_sum m.pc 4; memory = with_words m.memory x words }) (record { pc = word_sum m.pc 4; blocks = after_accesses s.blocks (accessed_by (new_at i olds given) (memory_from 18 b 8) zs); hints = s.hints })) start
      (sha_same b at.even_state at.low_state words (new_at i olds given) writes 8 0 zs (jumps (word_sum m.pc 4) m) (record { pc = word_sum m.pc 4; blocks = s.blocks; hints = s.hints }) refl
      (compress_long (words_at m.memory b 8) (bytes_at m.memory c 64)) eight (same_stays m s (word_sum m.pc 4) h))

  pub sha_turn : (state block : ℕ) → state < 32 → block < 32 → Turns m (ShaBlock state block) (row_of m.pc (ShaBlock state block)) s
  sha_turn state block one two =
      let i : VmInstr = sha_row m.pc state block in
      let b : ℕ = register m state in
      let c : ℕ = register m block in
      let X : List ℕ = limbs_of b in
      let Y : List ℕ = limbs_of c in
      let pl = sha_places-are m.pc state block in
      let quiet = sha_quiet m.pc state block in
      let hx : s.blocks 1 (4 * state) ≡ X = h.registers state one in
      let hy : s.blocks 1 (4 * block) ≡ Y = h.registers block two in
      let hb : word_of_limbs X ≡ b = word_back m state is in
      let hc : word_of_limbs Y ≡ c = word_back m block is in
      let olds : List (List ℕ) = sha_olds s.blocks X Y b c in
      let bad : is_refused i olds ≡ ((is_high b && true) || (is_high c && true)) = sha_refused m.pc state block s.blocks X Y b c ∙ rw (hb, hc) refl in
      let zs : List (List ℕ) = map (look s.blocks) (memory_from 18 b 8) in
      turns m (ShaBlock state block) i s (goes_on (store_words b (compressed_by m state block) m)) olds
      (record { pc = word_sum m.pc 4; blocks = after_accesses s.blocks (accessed_by (new_at i olds (take 4 s.hints)) (memory_from 18 b 8) zs); hints = s.hints }) refl
      (record {
        forced = sha_forced i s pl quiet X Y b c hx hb hy hc;
        leads = state_is _ _ _ _ _ _ (sha_next m.pc state block olds) (sha_after i s pl quiet X Y b c hx hb hy hc (take 4 s.hints)) refl;
      })
      (λ free low.
      let at = free_at b c free in (
        sha_can i s pl quiet X Y b c hx hb hy hc (bad ∙ low_both (is_high b) (is_high c) (not_high b (let l = at.low_state in omega arith)) (not_high c (let l = at.low_block in omega arith)))
            (is_register state one) (is_register block two)
            (λ j less. is_word c j at.even_block (let l = at.low_block in omega arith)) (λ j less. is_word b j at.even_state (let l = at.low_state in omega arith)) (let none : 0 ≤ length s.hints = omega arith in none),
        sha_state state block at X Y (take 4 s.hints) zs refl,
      ))
      (λ can even low.
      let fits = both_low (is_high b) (is_high c) (sym bad ∙ can.fits) in
      let on = sha_blocks i s pl quiet X Y b c hx hb hy hc can in
      let from_c = last_word c 15 (low_from c fits.1) (omega arith) (on.0 15 (omega arith)) in
      let from_b = last_word b 7 (low_from b fits.0) (omega arith) (on.1 7 (omega arith)) in
      let at : AtBlock b c = record { even_state = from_b.0; even_block = from_c.0; low_state = omega (arith, from_b.1); low_block = omega (arith, from_c.1) } in
      (at_free b c at, sha_state state block at X Y (take 4 s.hints) zs refl))
