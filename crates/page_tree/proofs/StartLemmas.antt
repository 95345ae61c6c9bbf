-- The leaves at the start, leaf by leaf and load by load.
use Rattle.std.proofs.Common.{◌≡◌, ℕ, zero, suc, ◌+◌, ◌-◌, ◌*◌, ◌/◌, ◌%◌, ◌^◌, ◌<◌, ◌≤◌, ◌⊎◌, inl, inr, ⊎_elim, false, eqb, List, [], ◌∷◌, map, replicate, length, get_or, drop, refl, sym, ap, ◌∙◌, subst, arith}
use Rattle.std.specs.Prelude.{Some, None, slice_get}
use Rattle.std.specs.List.{range_with_len}
use Rattle.std.proofs.Math.Nat.{pow-suc}
use Rattle.std.proofs.lemmas.Bool.{cases_eq, cases_lt, cond-true, cond-false, eq-eqb, ne_eqb}
use Rattle.std.proofs.lemmas.Bool.Decides.{nat_tests}
use Rattle.std.proofs.lemmas.List.{length-map}
use Rattle.std.proofs.lemmas.List.FromFn.{length-range_with_len, get_or-map-range_with_len}
use Rattle.elf_image.specs.Loaded.{Load, Loaded, IsPart, gives, byte_in, byte_of}
use Rattle.elf_image.specs.declared.LoadPart.{LoadPart}
use Rattle.page_tree.specs.Tree.{Leaves, IsBelow}
use Rattle.page_tree.specs.Kept.{shown, either_half, HasShape, Stands}
use Rattle.page_tree.specs.declared.subtree.Subtree.{Subtree, Pair'}
use Rattle.page_tree.specs.declared.subtree.Subtree.TheVariants.{Zeros, Leaf}
use Rattle.elf_image.specs.Copies.{given_or}
use Rattle.page_tree.specs.Loading.{laid_over, AreLoaded, LaysOver}
use Rattle.page_tree.specs.Start.{memory_leaf, start_map}
use Rattle.page_tree.proofs.TreeLemmas.{below_leaf, below_left, below_right}
use Rattle.page_tree.proofs.KeptLemmas.{shown-zeros, half-left, half-right, below-lower, below-upper}

pub start_map-in : (image : Loaded) (label : ℕ) → label / 8388608 ≡ 2 → start_map image label ≡ memory_leaf image (label % 8388608)
unfolding start_map
start_map-in image label h = cond-true (eqb (label / 8388608) 2) _ _ (eq-eqb (label / 8388608) 2 h)

pub start_map-out : (image : Loaded) (label : ℕ) → (label / 8388608 ≡ 2 → ⊥) → start_map image label ≡ replicate 64 0
unfolding start_map
start_map-out image label h = cond-false (eqb (label / 8388608) 2) _ _ (ne_eqb (label / 8388608) 2 h)

length-memory_leaf : (image : Loaded) (leaf : ℕ) → length (memory_leaf image leaf) ≡ 64
unfolding memory_leaf
length-memory_leaf image leaf = length-map (range_with_len 0 64) (λ k. byte_of image (64 * leaf + k)) ∙ length-range_with_len 0 64

pub length-start_map : (image : Loaded) (label : ℕ) → length (start_map image label) ≡ 64
length-start_map image label =
    ⊎_elim
    (λ (inside : label / 8388608 ≡ 2). ap length (start_map-in image label inside) ∙ length-memory_leaf image (label % 8388608))
    (λ (outside : label / 8388608 ≡ 2 → ⊥). ap length (start_map-out image label outside))
    (cases_eq (label / 8388608) 2)

-- a leaf outside of a load's has none of its bytes
gives_none : (load : Load) (a : ℕ) → (a < load.address) ⊎ (load.address + length load.bytes ≤ a) → gives load a ≡ false
gives_none load a h = ⊎_elim (λ (low : a < load.address). grind (arith, nat_tests)) (λ (high : load.address + length load.bytes ≤ a). grind (arith, nat_tests)) h

load_outside : (load : Load) (from to leaf k : ℕ) → leaf < 8388608 → k < 64 → from ≤ load.address / 64 → (to ≡ 8388608) ⊎ (load.address + length load.bytes ≤ 64 * to)
    → (from ≤ leaf → leaf < to → ⊥) → gives load (64 * leaf + k) ≡ false
load_outside load from to leaf k small below first last away =
    gives_none load (64 * leaf + k)
    (⊎_elim
    (λ (before : leaf < from). inl (omega arith))
    (λ (from_on : from ≤ leaf).
    ⊎_elim
    (λ (within : leaf < to). absurd (away from_on within))
    (λ (behind : to ≤ leaf).
    ⊎_elim
    (λ (all : to ≡ 8388608). absurd (omega arith))
    (λ (end : load.address + length load.bytes ≤ 64 * to). inr (omega arith))
    last)
    (cases_lt leaf to))
    (cases_lt leaf from))

abbrev of_loads : List Load → Loaded
of_loads loads = record { entry = 0; loads = loads }

map_same : (f g : ℕ → ℕ) (a n : ℕ) → ((k : ℕ) → a ≤ k → k < a + n → f k ≡ g k) → map f (range_with_len a n) ≡ map g (range_with_len a n)
map_same f g a zero h = refl
map_same f g a (suc n) h =
    ap (λ (x : ℕ). x ∷ map f (range_with_len (a + 1) n)) (h a (omega arith) (omega arith))
    ∙ ap (λ (xs : List ℕ). g a ∷ xs) (map_same f g (a + 1) n (λ k low high. h k (omega arith) (omega arith)))

-- a load that gives no byte of a leaf
pub start_map-away : (load : Load) (loads : List Load) (from to j : ℕ) → 16777216 ≤ from → to ≤ 25165824 → from ≤ 16777216 + load.address / 64 → (to ≡ 25165824) ⊎ (load.address + length load.bytes ≤ 64 * (to - 16777216))
    → (from ≤ j → j < to → ⊥) → start_map (of_loads loads) j ≡ start_map (of_loads (load ∷ loads)) j
unfolding memory_leaf
start_map-away load loads from to j memory space first last away =
    ⊎_elim
    (λ (inside : j / 8388608 ≡ 2).
    start_map-in (of_loads loads) j inside
    ∙ map_same (λ k. byte_in loads (64 * (j % 8388608) + k)) (λ k. byte_in (load ∷ loads) (64 * (j % 8388608) + k)) 0 64 (λ k low high.
    sym (cond-false (gives load (64 * (j % 8388608) + k)) _ _
    (load_outside load (from - 16777216) (to - 16777216) (j % 8388608) k (omega arith) (omega arith) (omega arith)
    (⊎_elim (λ (all : to ≡ 25165824). inl (omega arith)) (λ (end : load.address + length load.bytes ≤ 64 * (to - 16777216)). inr end) last)
    (λ above below. away (omega arith) (omega arith)))))
    ∙ sym (start_map-in (of_loads (load ∷ loads)) j inside))
    (λ (outside : j / 8388608 ≡ 2 → ⊥). start_map-out (of_loads loads) j outside ∙ sym (start_map-out (of_loads (load ∷ loads)) j outside))
    (cases_eq (j / 8388608) 2)

pub LaysOver-away : (address : ℕ) (bytes : List ℕ) (l i from to : ℕ) (m : Leaves) → 16777216 ≤ from → to ≤ 25165824 → from ≤ 16777216 + address / 64 → (to ≡ 25165824) ⊎ (address + length bytes ≤ 64 * (to - 16777216))
    → ((j : ℕ) → IsBelow l i j → from ≤ j → j < to → ⊥) → LaysOver address bytes l i m m
LaysOver-away address bytes l i from to m memory space first last away = record {
  lays = λ load loads at are begun j b.
      begun j b
      ∙ start_map-away load loads from to j memory space (subst (λ (a : ℕ). from ≤ 16777216 + a / 64) (sym at) first)
      (subst (λ (a : ℕ). (to ≡ 25165824) ⊎ (a + length load.bytes ≤ 64 * (to - 16777216))) (sym at) (subst (λ (xs : List ℕ). (to ≡ 25165824) ⊎ (address + length xs ≤ 64 * (to - 16777216))) (sym are) last))
      (away j b);
}

-- a byte of a leaf at the start
byte_at : (loads : List Load) (leaf k : ℕ) → k < 64 → get_or (memory_leaf (of_loads loads) leaf) k 0 ≡ byte_in loads (64 * leaf + k)
unfolding memory_leaf
byte_at loads leaf k h = get_or-map-range_with_len (λ k. byte_in loads (64 * leaf + k)) 0 64 k k 0 h (omega arith)

-- a load laid over one leaf
pub LaysOver-leaf : (address : ℕ) (bytes : List ℕ) (label : ℕ) (old new : Leaves) → 16777216 ≤ label → label < 25165824 → new label ≡ laid_over address bytes (64 * (label - 16777216)) (old label) → LaysOver address bytes 0 label old new
unfolding memory_leaf laid_over
LaysOver-leaf address bytes label old new low high is = record {
  lays = λ load loads at are begun j b.
      let same : j ≡ label = below_leaf label j b in
      let place : label % 8388608 ≡ label - 16777216 = omega arith in
      let before : old label ≡ memory_leaf (of_loads loads) (label - 16777216) =
      begun label (subst (λ (k : ℕ). IsBelow 0 label k) same b) ∙ start_map-in (of_loads loads) label (omega arith) ∙ ap (memory_leaf (of_loads loads)) place in
      ap new same ∙ is
      ∙ ap (laid_over address bytes (64 * (label - 16777216))) before
      ∙ map_same (λ k. given_or address bytes (64 * (label - 16777216) + k) (get_or (memory_leaf (of_loads loads) (label - 16777216)) k 0)) (λ k. byte_in (load ∷ loads) (64 * (label - 16777216) + k)) 0 64 (λ k from to.
      ap (λ (x : ℕ). given_or address bytes (64 * (label - 16777216) + k) x) (byte_at loads (label - 16777216) k to)
      ∙ ap (λ (a : ℕ). given_or a bytes (64 * (label - 16777216) + k) (byte_in loads (64 * (label - 16777216) + k))) (sym at)
      ∙ ap (λ (xs : List ℕ). given_or load.address xs (64 * (label - 16777216) + k) (byte_in loads (64 * (label - 16777216) + k))) (sym are))
      ∙ sym (ap (λ (k : ℕ). start_map (of_loads (load ∷ loads)) k) same ∙ start_map-in (of_loads (load ∷ loads)) label (omega arith) ∙ ap (memory_leaf (of_loads (load ∷ loads))) place);
}

-- a load laid over two halves
pub LaysOver-halves : (address : ℕ) (bytes : List ℕ) (l half i : ℕ) (old new left right left' right' : Leaves) → l ≡ half + 1
    → ((j : ℕ) → old j ≡ either_half half i left right j) → ((j : ℕ) → new j ≡ either_half half i left' right' j)
    → LaysOver address bytes half (2 * i) left left' → LaysOver address bytes half (2 * i + 1) right right' → LaysOver address bytes l i old new
LaysOver-halves address bytes l half i old new left right left' right' e was is first second = record {
  lays = λ load loads at are begun j b.
      ⊎_elim
      (λ (low : j < (2 * i + 1) * 2 ^ half).
      is j ∙ half-left half i left' right' j low
      ∙ first.lays load loads at are (λ k below. sym (half-left half i left right k below.to) ∙ sym (was k) ∙ begun k (below_lower l half i k e below)) j (below-lower l half i j e b low))
      (λ (high : (2 * i + 1) * 2 ^ half ≤ j).
      is j ∙ half-right half i left' right' j high
      ∙ second.lays load loads at are (λ k below. sym (half-right half i left right k below.from) ∙ sym (was k) ∙ begun k (below_upper l half i k e below)) j (below-upper l half i j e b high))
      (cases_lt j ((2 * i + 1) * 2 ^ half));
}
  where
    level_same : (l half : ℕ) → l ≡ half + 1 → suc half ≡ l
    level_same l half e = omega arith

    below_lower : (l half i k : ℕ) → l ≡ half + 1 → IsBelow half (2 * i) k → IsBelow l i k
    below_lower l half i k e b = subst (λ (n : ℕ). IsBelow n i k) (level_same l half e) (below_left half i k b)

    below_upper : (l half i k : ℕ) → l ≡ half + 1 → IsBelow half (2 * i + 1) k → IsBelow l i k
    below_upper l half i k e b = subst (λ (n : ℕ). IsBelow n i k) (level_same l half e) (below_right half i k b)

-- what is kept shows zeros behind its last label
pub shown-behind : (l i j : ℕ) (t : Subtree) → HasShape l t → (i + 1) * 2 ^ l ≤ j → shown l i t j ≡ replicate 64 0
unfolding shown Stands
shown-behind zero i j Zeros h behind = refl
shown-behind zero i j (Leaf leaf) h behind = cond-false (eqb i j) leaf.value.bytes (replicate 64 0) (ne_eqb i j (λ e. omega arith))
shown-behind zero i j (Pair' p digest left right) h behind = refl
shown-behind (suc l) i j Zeros h behind = refl
shown-behind (suc l) i j (Leaf leaf) h behind = refl
shown-behind (suc l) i j (Pair' p digest left right) h behind =
    let behind' = rw pow-suc at behind in
    half-right l i (shown l (2 * i) left) (shown l (2 * i + 1) right) j (omega arith) ∙ shown-behind l (2 * i + 1) j right h.1.1 (omega arith)

-- all loads are in the tree
pub AreLoaded-all : (image : Loaded) (t : Subtree) → HasShape 25 t → AreLoaded image.loads 25 0 (shown 25 0 t) → (j : ℕ) → shown 25 0 t j ≡ start_map image j
unfolding start_map memory_leaf
AreLoaded-all image t shape loaded j =
    ⊎_elim
    (λ (low : j < 33554432). loaded j (record { from = omega arith; to = omega arith }))
    (λ (high : 33554432 ≤ j). shown-behind 25 0 j t shape (omega arith) ∙ sym (start_map-out image j (omega arith)))
    (cases_lt j 33554432)

pub AreLoaded-none : (loads : List Load) → loads ≡ [] → AreLoaded loads 25 0 (shown 25 0 Zeros)
unfolding memory_leaf
AreLoaded-none loads e j b =
    shown-zeros 25 0 j
    ∙ sym (ap (λ xs. start_map (of_loads xs) j) e ∙ ⊎_elim
    (λ (inside : j / 8388608 ≡ 2). start_map-in (of_loads []) j inside ∙ map_same (λ k. byte_in [] (64 * (j % 8388608) + k)) (λ k. 0) 0 64 (λ k low high. refl))
    (λ (outside : j / 8388608 ≡ 2 → ⊥). start_map-out (of_loads []) j outside)
    (cases_eq (j / 8388608) 2))

-- the load at a place stands before those behind it
pub drop-load : (loads : List Load) (k : ℕ) (part : LoadPart) → k < length loads → IsPart (slice_get loads k) (Some part) → (x : Load) × (drop k loads ≡ x ∷ drop (k + 1) loads) × (x.address ≡ part.address) × (x.bytes ≡ part.bytes.now)
drop-load [] k part h is = absurd (omega arith)
drop-load (x ∷ loads) zero part h is = (x, refl, sym is.0, sym is.1)
drop-load (x ∷ loads) (suc k) part h is =
    let next : suc k + 1 ≡ suc (k + 1) = omega arith in
    let t = drop-load loads k part (omega arith) is in
    (t.0, t.1 ∙ ap (λ (n : ℕ). t.0 ∷ drop n (x ∷ loads)) (sym next), t.2, t.3)

pub no_part : (loads : List Load) (k : ℕ) → k < length loads → IsPart (slice_get loads k) None → ⊥
no_part [] k h is = omega arith
no_part (x ∷ loads) zero h is = is
no_part (x ∷ loads) (suc k) h is = no_part loads k (omega arith) is

-- one load more
pub AreLoaded-more : (loads : List Load) (k : ℕ) (part : LoadPart) (old new : Leaves) → k < length loads → IsPart (slice_get loads k) (Some part) → AreLoaded (drop (k + 1) loads) 25 0 old → LaysOver part.address part.bytes.now 25 0 old new → AreLoaded (drop k loads) 25 0 new
AreLoaded-more loads k part old new h is begun laid j b =
    let t = drop-load loads k part h is in
    laid.lays t.0 (drop (k + 1) loads) t.2 t.3 begun j b ∙ sym (ap (λ xs. start_map (of_loads xs) j) t.1)
