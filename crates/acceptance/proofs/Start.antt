-- The leaves at the start are the machine's blocks, and the leaf of public bytes is what the machine makes public.
use Rattle.std.proofs.Common.{◌≡◌, ◌≢◌, ℕ, zero, suc, ◌+◌, ◌*◌, ◌/◌, ◌%◌, ◌<◌, ◌≤◌, true, List, [], ◌∷◌, ◌++◌, length, map, drop, replicate, slice_index, refl, sym, ap, ◌∙◌, subst, arith, ⊎_elim}
use Rattle.std.specs.Prelude.{flat_map}
use Rattle.std.specs.List.{AllByRecursion, range_with_len}
use Rattle.std.proofs.lemmas.Bool.{cases_eq, ne_eqb}
use Rattle.std.proofs.lemmas.Bool.Decides.{nat_tests}
use Rattle.std.proofs.lemmas.List.{get_or-replicate}
use Rattle.std.proofs.lemmas.List.FromFn.{get_or-map-range_with_len}
use native.Mathlib.Numerals.{unary_clauses}
use Rattle.elf_image.specs.Loaded.{Loaded, byte_of}
use Rattle.vm_isa.specs.Blocks.{Blocks, is_block, public_bytes_of}
use Rattle.vm_isa.proofs.SpaceLaws.{block_low}
use Rattle.vm_transpile.specs.Start.{start_blocks}
use Rattle.air_core.specs.ListLemmas.{all_weaker}
use Rattle.air_core.proofs.Ordering.{range_within}
use Rattle.vm_trace.specs.Pages.{block_word}
use Rattle.page_tree.specs.Tree.{Leaves}
use Rattle.page_tree.specs.MapBlocks.{map_block, AreBlocksOf}
use Rattle.page_tree.specs.Start.{memory_leaf, start_map}
use Rattle.page_tree.proofs.StartLemmas.{start_map-in, start_map-out}

-- ---- memory

memory_byte : (image : Loaded) (leaf k address : ℕ) → k < 64 → 64 * leaf + k ≡ address → slice_index (memory_leaf image leaf) k ≡ byte_of image address
unfolding memory_leaf
memory_byte image leaf k address small at =
    get_or-map-range_with_len (λ j. byte_of image (64 * leaf + j)) 0 64 k k 0 small (omega arith) ∙ ap (byte_of image) at

four_same : (a b c d e f g h : ℕ) → a ≡ e → b ≡ f → c ≡ g → d ≡ h → a ∷ b ∷ c ∷ d ∷ [] ≡ e ∷ f ∷ g ∷ h ∷ []
four_same a b c d e f g h p q r s = rw (p, q, r, s) refl

memory_word : (image : Loaded) (pointer : ℕ) → pointer % 4 ≡ 0
    → map (λ i. byte_of image (pointer + i)) (range_with_len 0 4) ≡ block_word (memory_leaf image (pointer / 64)) (pointer % 64 / 4)
memory_word image pointer aligned =
    four_same _ _ _ _ _ _ _ _
    (sym (memory_byte image (pointer / 64) (4 * (pointer % 64 / 4)) (pointer + 0) (omega arith) (omega (arith, aligned))))
    (sym (memory_byte image (pointer / 64) (4 * (pointer % 64 / 4) + 1) (pointer + 1) (omega arith) (omega (arith, aligned))))
    (sym (memory_byte image (pointer / 64) (4 * (pointer % 64 / 4) + 2) (pointer + 2) (omega arith) (omega (arith, aligned))))
    (sym (memory_byte image (pointer / 64) (4 * (pointer % 64 / 4) + 3) (pointer + 3) (omega arith) (omega (arith, aligned))))

in_memory : (image : Loaded) (pointer : ℕ) → pointer % 4 ≡ 0 → pointer < 536870912 → start_blocks image 2 pointer ≡ map_block (start_map image) 2 pointer
in_memory image pointer aligned low =
    let leaf : (8388608 * 2 + pointer / 64) % 8388608 ≡ pointer / 64 = omega (arith, low) in
    memory_word image pointer aligned
    ∙ ap (λ (n : ℕ). block_word (memory_leaf image n) (pointer % 64 / 4)) (sym leaf)
    ∙ ap (λ (bytes : List ℕ). block_word bytes (pointer % 64 / 4)) (sym (start_map-in image (8388608 * 2 + pointer / 64) (omega (arith, low))))

-- ---- the other spaces

zero_word : (block : ℕ) → block < 16 → block_word (replicate 64 0) block ≡ 0 ∷ 0 ∷ 0 ∷ 0 ∷ []
zero_word block low =
    four_same _ _ _ _ _ _ _ _
    (get_or-replicate 64 (4 * block) 0 0 (omega (arith, low)))
    (get_or-replicate 64 (4 * block + 1) 0 0 (omega (arith, low)))
    (get_or-replicate 64 (4 * block + 2) 0 0 (omega (arith, low)))
    (get_or-replicate 64 (4 * block + 3) 0 0 (omega (arith, low)))

elsewhere : (image : Loaded) (space pointer : ℕ) → space ≢ 2 → pointer < 536870912 → start_blocks image space pointer ≡ map_block (start_map image) space pointer
elsewhere image space pointer other low =
    let zeros : start_blocks image space pointer ≡ 0 ∷ 0 ∷ 0 ∷ 0 ∷ [] = rw (ne_eqb space 2 other) refl in
    zeros
    ∙ sym (zero_word (pointer % 64 / 4) (omega arith))
    ∙ ap (λ (bytes : List ℕ). block_word bytes (pointer % 64 / 4)) (sym (start_map-out image (8388608 * space + pointer / 64) (λ e. other (omega (arith, e, low)))))

pub start_blocks_are : (image : Loaded) → AreBlocksOf (start_map image) (start_blocks image)
start_blocks_are image = record {
  each = λ space pointer is.
      let parts = block_low space pointer is in
      let low = parts.1 in
      ⊎_elim
      (λ (memory : space ≡ 2). subst (λ (n : ℕ). start_blocks image n pointer ≡ map_block (start_map image) n pointer) (sym memory) (in_memory image pointer parts.0 low))
      (λ (other : space ≡ 2 → ⊥). elsewhere image space pointer other low)
      (cases_eq space 2);
}

-- ---- public bytes

-- the four elements from a place on, and what follows
pub four_more : (xs : List ℕ) (k : ℕ) → k + 4 ≤ length xs → slice_index xs k ∷ slice_index xs (k + 1) ∷ slice_index xs (k + 2) ∷ slice_index xs (k + 3) ∷ drop (k + 4) xs ≡ drop k xs
four_more [] k h = absurd (omega (arith, h))
four_more (a ∷ []) zero h = absurd (omega (arith, h))
four_more (a ∷ b ∷ []) zero h = absurd (omega (arith, h))
four_more (a ∷ b ∷ c ∷ []) zero h = absurd (omega (arith, h))
four_more (a ∷ b ∷ c ∷ d ∷ xs) zero h = refl
four_more (x ∷ xs) (suc k) h =
    let rest = four_more xs k (omega (arith, h)) in
    simp unary_clauses (simp unary_clauses at rest)

drop_end : (xs : List ℕ) → drop (length xs) xs ≡ []
drop_end [] = refl
drop_end (x ∷ xs) = drop_end xs

-- words one after the other are the list
words_are : (xs : List ℕ) (a n : ℕ) → length xs ≡ 4 * (a + n) → flat_map (block_word xs) (range_with_len a n) ≡ drop (4 * a) xs
words_are xs a zero size =
    let all : 4 * a ≡ length xs = omega (arith, size) in
    sym (ap (λ (k : ℕ). drop k xs) all ∙ drop_end xs)
words_are xs a (suc n) size =
    let more : 4 * (a + 1) ≡ 4 * a + 4 = omega arith in
    ap (λ (ys : List ℕ). block_word xs a ++ ys) (words_are xs (a + 1) n (omega (arith, size)) ∙ ap (λ (k : ℕ). drop k xs) more)
    ∙ four_more xs (4 * a) (omega (arith, size))

pub public_block : (m : Leaves) (blocks : Blocks) → AreBlocksOf m blocks → (j : ℕ) → j < 16 → blocks 3 (4 * j) ≡ block_word (m 25165824) j
public_block m blocks are j low =
    let is : is_block 3 (4 * j) ≡ true = grind (arith, nat_tests) in
    let label : 8388608 * 3 + 4 * j / 64 ≡ 25165824 = omega (arith, low) in
    let block : 4 * j % 64 / 4 ≡ j = omega (arith, low) in
    are.each 3 (4 * j) is ∙ ap (λ (n : ℕ). block_word (m n) (4 * j % 64 / 4)) label ∙ ap (block_word (m 25165824)) block

public_blocks : (m : Leaves) (blocks : Blocks) → AreBlocksOf m blocks → (js : List ℕ) → AllByRecursion (λ j. j < 16) js → flat_map (λ j. blocks 3 (4 * j)) js ≡ flat_map (block_word (m 25165824)) js
public_blocks m blocks are [] low = refl
public_blocks m blocks are (j ∷ js) low =
    ap (λ (xs : List ℕ). xs ++ flat_map (λ i. blocks 3 (4 * i)) js) (public_block m blocks are j low.0)
    ∙ ap (λ (xs : List ℕ). block_word (m 25165824) j ++ xs) (public_blocks m blocks are js low.1)

pub public_bytes_are : (m : Leaves) (blocks : Blocks) (public_bytes : List ℕ) → AreBlocksOf m blocks → public_bytes ≡ m 25165824 → length public_bytes ≡ 64 → public_bytes_of blocks ≡ public_bytes
public_bytes_are m blocks public_bytes are is size =
    public_blocks m blocks are (range_with_len 0 16) (all_weaker (λ i. (0 ≤ i) × (i < 0 + 16)) (λ i. i < 16) (λ i h. omega (arith, h.1)) (range_with_len 0 16) (range_within 0 16))
    ∙ words_are (m 25165824) 0 16 (ap length (sym is) ∙ size)
    ∙ sym is
