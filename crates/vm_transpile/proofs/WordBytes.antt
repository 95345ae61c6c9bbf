-- Bytes in memory, and the blocks of four that they make.
use Rattle.std.proofs.Common.{◌≡◌, ℕ, zero, suc, ◌+◌, ◌-◌, ◌/◌, ◌%◌, ◌<◌, ◌≤◌, false, ◌&&◌, List, [], ◌∷◌, length, refl, sym, ap, ◌∙◌, subst, arith}
use Rattle.std.specs.Prelude.{nat_le, nat_lt}
use Rattle.std.proofs.lemmas.Bool.Decides.{nat_tests}
use Rattle.byteorder.specs.Endian.{little_bytes}
use Rattle.vm_word.specs.declared.operation.LoadKind.{LoadKind}
use Rattle.vm_word.specs.declared.operation.LoadKind.TheVariants.{Lb, Lh, Lw, Lbu, Lhu}
use Rattle.vm_word.specs.declared.operation.StoreKind.{StoreKind}
use Rattle.vm_word.specs.declared.operation.StoreKind.TheVariants.{Sb, Sh, Sw}
use Rattle.vm_word.specs.Word.{limbs_of}
use Rattle.rv_run.specs.Memory.{number_at, with_bytes}
use Rattle.vm_word.specs.Operations.{load_width, store_width}
use Rattle.vm_isa.specs.Results.{number_in, with_low}
use Rattle.vm_transpile.specs.Same.{memory_block}

-- four bytes by their places
abbrev pub four : (ℕ → ℕ) → List ℕ
four f = f 0 ∷ f 1 ∷ f 2 ∷ f 3 ∷ []

pub four-of : (m : ℕ → ℕ) (q : ℕ) → memory_block m q ≡ four (λ k. m (q + k))
four-of m q = let first : q + 0 ≡ q = omega arith in rw first refl

by_one : (w : ℕ) → w / 1 ≡ w
by_one w = omega arith

pub limbs-are : (w : ℕ) → little_bytes 4 w ≡ limbs_of w
limbs-are w = rw (by_one w) refl

inside_by : (q o k n : ℕ) → (nat_le (q + o) (q + k) && nat_lt (q + k) (q + o + n)) ≡ (nat_le o k && nat_lt k (o + n))
inside_by q o k n =
    let a : nat_le (q + o) (q + k) ≡ nat_le o k = grind (arith, nat_tests) in
    let b : nat_lt (q + k) (q + o + n) ≡ nat_lt k (o + n) = grind (arith, nat_tests) in
    rw (a, b) refl

with_bytes-shift : (m : ℕ → ℕ) (q o k : ℕ) (bytes : List ℕ) → with_bytes m (q + o) bytes (q + k) ≡ with_bytes (λ j. m (q + j)) o bytes k
with_bytes-shift m q o k bytes =
    let place : (q + k) - (q + o) ≡ k - o = omega arith in
    rw (inside_by q o k (length bytes), place) refl

number_at-shift : (m : ℕ → ℕ) (q o n : ℕ) → number_at m (q + o) n ≡ number_at (λ j. m (q + j)) o n
number_at-shift m q o zero = refl
number_at-shift m q o (suc n) =
    let next : q + o + 1 ≡ q + (o + 1) = omega arith in
    rw (next, number_at-shift m q (o + 1) n) refl

pub block-with : (m : ℕ → ℕ) (q o : ℕ) (bytes : List ℕ) → memory_block (with_bytes m (q + o) bytes) q ≡ four (with_bytes (λ j. m (q + j)) o bytes)
block-with m q o bytes =
    four-of (with_bytes m (q + o) bytes) q
    ∙ rw (with_bytes-shift m q o 0 bytes, with_bytes-shift m q o 1 bytes, with_bytes-shift m q o 2 bytes, with_bytes-shift m q o 3 bytes) refl

stored_four : (kind : StoreKind) (f : ℕ → ℕ) (o w : ℕ) → o < 4 → o % store_width kind ≡ 0
    → four (with_bytes f o (little_bytes (store_width kind) w)) ≡ with_low (four f) o (store_width kind) (limbs_of w)
unfolding with_low
stored_four Sb f zero w low whole = rw (by_one w) refl
stored_four Sb f (suc zero) w low whole = rw (by_one w) refl
stored_four Sb f (suc (suc zero)) w low whole = rw (by_one w) refl
stored_four Sb f (suc (suc (suc zero))) w low whole = rw (by_one w) refl
stored_four Sb f (suc (suc (suc (suc o)))) w low whole = absurd (omega arith)
stored_four Sh f zero w low whole = rw (by_one w) refl
stored_four Sh f (suc zero) w low whole = absurd (omega arith)
stored_four Sh f (suc (suc zero)) w low whole = rw (by_one w) refl
stored_four Sh f (suc (suc (suc zero))) w low whole = absurd (omega arith)
stored_four Sh f (suc (suc (suc (suc o)))) w low whole = absurd (omega arith)
stored_four Sw f zero w low whole = rw (by_one w) refl
stored_four Sw f (suc zero) w low whole = absurd (omega arith)
stored_four Sw f (suc (suc zero)) w low whole = absurd (omega arith)
stored_four Sw f (suc (suc (suc zero))) w low whole = absurd (omega arith)
stored_four Sw f (suc (suc (suc (suc o)))) w low whole = absurd (omega arith)

-- the place in a block is as aligned as the address
store_place : (kind : StoreKind) (a : ℕ) → a % store_width kind ≡ 0 → a % 4 % store_width kind ≡ 0
store_place Sb a h = omega arith
store_place Sh a h = omega arith
store_place Sw a h = omega arith

load_place : (kind : LoadKind) (a : ℕ) → a % load_width kind ≡ 0 → a % 4 % load_width kind ≡ 0
load_place Lb a h = omega arith
load_place Lh a h = omega arith
load_place Lw a h = omega arith
load_place Lbu a h = omega arith
load_place Lhu a h = omega arith

-- the block that a store is to
pub stored_here : (kind : StoreKind) (m : ℕ → ℕ) (a w : ℕ) → a % store_width kind ≡ 0
    → memory_block (with_bytes m a (little_bytes (store_width kind) w)) (a - a % 4) ≡ with_low (memory_block m (a - a % 4)) (a % 4) (store_width kind) (limbs_of w)
stored_here kind m a w h =
    let q : ℕ = a - a % 4 in
    let o : ℕ = a % 4 in
    let bytes : List ℕ = little_bytes (store_width kind) w in
    let whole : q + o ≡ a = omega arith in
    subst (λ (x : ℕ). memory_block (with_bytes m x bytes) q ≡ with_low (memory_block m q) o (store_width kind) (limbs_of w)) whole
    (block-with m q o bytes ∙ stored_four kind (λ j. m (q + j)) o w (omega arith) (store_place kind a h) ∙ ap (λ (x : List ℕ). with_low x o (store_width kind) (limbs_of w)) (sym (four-of m q)))

outside_by : (m : ℕ → ℕ) (a x : ℕ) (bytes : List ℕ) → (a ≤ x → x < a + length bytes → ⊥) → with_bytes m a bytes x ≡ m x
outside_by m a x bytes h =
    let off : (nat_le a x && nat_lt x (a + length bytes)) ≡ false = grind (arith, nat_tests) in
    rw off refl

-- the other blocks
pub stored_elsewhere : (m : ℕ → ℕ) (a q : ℕ) (bytes : List ℕ) → a % 4 + length bytes ≤ 4 → q % 4 ≡ 0 → (q ≡ a - a % 4 → ⊥) → memory_block (with_bytes m a bytes) q ≡ memory_block m q
stored_elsewhere m a q bytes fits even other =
    let a0 = outside_by m a q bytes (λ low high. other (omega arith)) in
    let a1 = outside_by m a (q + 1) bytes (λ low high. other (omega arith)) in
    let a2 = outside_by m a (q + 2) bytes (λ low high. other (omega arith)) in
    let a3 = outside_by m a (q + 3) bytes (λ low high. other (omega arith)) in
    rw (a0, a1, a2, a3) refl

pub store_fits : (kind : StoreKind) (a w : ℕ) → a % store_width kind ≡ 0 → a % 4 + length (little_bytes (store_width kind) w) ≤ 4
store_fits Sb a w h = omega arith
store_fits Sh a w h = omega arith
store_fits Sw a w h = omega arith

loaded_four : (kind : LoadKind) (f : ℕ → ℕ) (o : ℕ) → o < 4 → o % load_width kind ≡ 0 → number_at f o (load_width kind) ≡ number_in (four f) o (load_width kind)
unfolding number_in
loaded_four Lb f zero low whole = omega arith
loaded_four Lb f (suc zero) low whole = omega arith
loaded_four Lb f (suc (suc zero)) low whole = omega arith
loaded_four Lb f (suc (suc (suc zero))) low whole = omega arith
loaded_four Lb f (suc (suc (suc (suc o)))) low whole = absurd (omega arith)
loaded_four Lbu f zero low whole = omega arith
loaded_four Lbu f (suc zero) low whole = omega arith
loaded_four Lbu f (suc (suc zero)) low whole = omega arith
loaded_four Lbu f (suc (suc (suc zero))) low whole = omega arith
loaded_four Lbu f (suc (suc (suc (suc o)))) low whole = absurd (omega arith)
loaded_four Lh f zero low whole = omega arith
loaded_four Lh f (suc zero) low whole = absurd (omega arith)
loaded_four Lh f (suc (suc zero)) low whole = omega arith
loaded_four Lh f (suc (suc (suc zero))) low whole = absurd (omega arith)
loaded_four Lh f (suc (suc (suc (suc o)))) low whole = absurd (omega arith)
loaded_four Lhu f zero low whole = omega arith
loaded_four Lhu f (suc zero) low whole = absurd (omega arith)
loaded_four Lhu f (suc (suc zero)) low whole = omega arith
loaded_four Lhu f (suc (suc (suc zero))) low whole = absurd (omega arith)
loaded_four Lhu f (suc (suc (suc (suc o)))) low whole = absurd (omega arith)
loaded_four Lw f zero low whole = omega arith
loaded_four Lw f (suc zero) low whole = absurd (omega arith)
loaded_four Lw f (suc (suc zero)) low whole = absurd (omega arith)
loaded_four Lw f (suc (suc (suc zero))) low whole = absurd (omega arith)
loaded_four Lw f (suc (suc (suc (suc o)))) low whole = absurd (omega arith)

-- what a load finds
pub loaded_here : (kind : LoadKind) (m : ℕ → ℕ) (a : ℕ) → a % load_width kind ≡ 0 → number_at m a (load_width kind) ≡ number_in (memory_block m (a - a % 4)) (a % 4) (load_width kind)
loaded_here kind m a h =
    let q : ℕ = a - a % 4 in
    let o : ℕ = a % 4 in
    let whole : q + o ≡ a = omega arith in
    subst (λ (x : ℕ). number_at m x (load_width kind) ≡ number_in (memory_block m q) o (load_width kind)) whole
    (number_at-shift m q o (load_width kind) ∙ loaded_four kind (λ j. m (q + j)) o (omega arith) (load_place kind a h) ∙ ap (λ (x : List ℕ). number_in x o (load_width kind)) (sym (four-of m q)))
