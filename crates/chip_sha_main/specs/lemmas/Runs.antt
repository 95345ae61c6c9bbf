-- Accesses of words one after another.
use Rattle.std.proofs.Common.{◌≡◌, ℕ, zero, suc, ◌+◌, ◌*◌, ◌^◌, ◌<◌, ◌≤◌, List, [], ◌∷◌, ◌++◌, length, map, refl, sym, ap, subst, ◌∙◌, arith}
use Rattle.std.specs.List.{AllByRecursion, range_with_len}
use Rattle.vm_field.specs.Field.{field_add}
use Rattle.vm_field.specs.declared.limbs.Limbs.{Limbs}
use Rattle.vm_field.specs.Limbs.{list_of}
use Rattle.vm_word.specs.Arithmetic.{word_sum}
use Rattle.vm_isa.specs.Words.{IsBytes}
use Rattle.vm_isa.specs.Means.{Accessed, accessed_by, memory}
use Rattle.air_core.specs.Step.{Touched, Rising, NewBytes, accessed}
use Rattle.gadget_time.specs.declared.touch.Touch.{Touch}
use Rattle.gadget_time.specs.declared.touch.Gap.{Gap}
use Rattle.gadget_time.specs.Told.{touched, touched_of}
use Rattle.air_core.specs.Ring.{field}
use Rattle.chip_sha_main.specs.Main.{run_touches}

-- as many new words and old times as old words
pub record Even (xs ys : List (Limbs ℕ)) (gs : List (Gap ℕ)) : Type 0 where
  pub news : length ys ≡ length xs
  pub gaps : length gs ≡ length xs

even_rest : (x y : Limbs ℕ) (g : Gap ℕ) (xs ys : List (Limbs ℕ)) (gs : List (Gap ℕ)) → Even (x ∷ xs) (y ∷ ys) (g ∷ gs) → Even xs ys gs
even_rest x y g xs ys gs e = record { news = omega (arith, e.news); gaps = omega (arith, e.gaps) }

-- what holds of each access of a run
pub run_all : (P : Touch ℕ → Type 0) (count slot base offset : ℕ) (xs ys : List (Limbs ℕ)) (gs : List (Gap ℕ))
    → ((s o : ℕ) (x y : Limbs ℕ) (g : Gap ℕ) → slot ≤ s → s < slot + length xs → P (record { count = count; slot = s; space = 2; pointer = field_add base o; old = x; new = y; gap = g }))
    → AllByRecursion P (run_touches field count slot base offset xs ys gs)
unfolding run_touches
run_all P count slot base offset [] ys gs h = tt
run_all P count slot base offset (x ∷ xs) [] gs h = tt
run_all P count slot base offset (x ∷ xs) (y ∷ ys) [] h = tt
run_all P count slot base offset (x ∷ xs) (y ∷ ys) (g ∷ gs) h =
    (h slot offset x y g (omega arith) (omega arith), run_all P count (slot + 1) base (offset + 4) xs ys gs (λ s o a b k low high. h s o a b k (omega arith) (omega arith)))

pub run_counts : (count slot base offset : ℕ) (xs ys : List (Limbs ℕ)) (gs : List (Gap ℕ)) → AllByRecursion (λ t. t.count ≡ count) (run_touches field count slot base offset xs ys gs)
run_counts count slot base offset xs ys gs = run_all (λ t. t.count ≡ count) count slot base offset xs ys gs (λ s o x y g low high. refl)

pub run_slots : (slots count slot base offset : ℕ) (xs ys : List (Limbs ℕ)) (gs : List (Gap ℕ)) → slot + length xs ≤ slots → AllByRecursion (λ t. t.slot < slots) (run_touches field count slot base offset xs ys gs)
run_slots slots count slot base offset xs ys gs few = run_all (λ t. t.slot < slots) count slot base offset xs ys gs (λ s o x y g low high. omega (arith, few))

-- accesses that all count are all touched
pub touched_all : (ts : List (Touch ℕ)) → AllByRecursion (λ t. t.count ≡ 1) ts → touched_of ts ≡ map touched ts
touched_all [] h = refl
touched_all (t ∷ ts) h = rw h.0 (ap (λ (more : List Touched). touched t ∷ more) (touched_all ts h.1))

-- slots rise through a run, and on from it
pub run_rises : (from slots count slot base offset : ℕ) (xs ys : List (Limbs ℕ)) (gs : List (Gap ℕ)) (more : List Touched) → Even xs ys gs → from ≤ slot → slot + length xs ≤ slots
    → ((k : ℕ) → k ≤ slot + length xs → from ≤ k → Rising k slots more) → Rising from slots (map touched (run_touches field count slot base offset xs ys gs) ++ more)
unfolding run_touches
run_rises from slots count slot base offset [] ys gs more e low few next = next from (omega arith) (omega arith)
run_rises from slots count slot base offset (x ∷ xs) [] gs more e low few next = absurd (omega (arith, e.news))
run_rises from slots count slot base offset (x ∷ xs) (y ∷ ys) [] more e low few next = absurd (omega (arith, e.gaps))
run_rises from slots count slot base offset (x ∷ xs) (y ∷ ys) (g ∷ gs) more e low few next =
    (low, omega arith, run_rises (slot + 1) slots count (slot + 1) base (offset + 4) xs ys gs more (even_rest x y g xs ys gs e) (omega arith) (omega arith) (λ k high under. next k (omega arith) (omega arith)))

-- reads keep their words
pub reads_bytes : (count slot base offset : ℕ) (xs : List (Limbs ℕ)) (gs : List (Gap ℕ)) (more : List Touched) → NewBytes more → NewBytes (map touched (run_touches field count slot base offset xs xs gs) ++ more)
unfolding run_touches
reads_bytes count slot base offset [] gs more next = next
reads_bytes count slot base offset (x ∷ xs) [] more next = next
reads_bytes count slot base offset (x ∷ xs) (g ∷ gs) more next = λ b. (b, reads_bytes count (slot + 1) base (offset + 4) xs gs more next)

-- and what is written is bytes
pub writes_bytes : (count slot base offset : ℕ) (xs ys : List (Limbs ℕ)) (gs : List (Gap ℕ)) (more : List Touched) → AllByRecursion (λ y. IsBytes (list_of y)) ys → NewBytes more
    → NewBytes (map touched (run_touches field count slot base offset xs ys gs) ++ more)
unfolding run_touches
writes_bytes count slot base offset [] ys gs more bytes next = next
writes_bytes count slot base offset (x ∷ xs) [] gs more bytes next = next
writes_bytes count slot base offset (x ∷ xs) (y ∷ ys) [] more bytes next = next
writes_bytes count slot base offset (x ∷ xs) (y ∷ ys) (g ∷ gs) more bytes next = λ b. (bytes.0, writes_bytes count (slot + 1) base (offset + 4) xs ys gs more bytes.1 next)

-- the old words of a run
pub run_olds : (count slot base offset : ℕ) (xs ys : List (Limbs ℕ)) (gs : List (Gap ℕ)) → Even xs ys gs → map (λ a. a.old) (map touched (run_touches field count slot base offset xs ys gs)) ≡ map list_of xs
unfolding run_touches
run_olds count slot base offset [] ys gs e = refl
run_olds count slot base offset (x ∷ xs) [] gs e = absurd (omega (arith, e.news))
run_olds count slot base offset (x ∷ xs) (y ∷ ys) [] e = absurd (omega (arith, e.gaps))
run_olds count slot base offset (x ∷ xs) (y ∷ ys) (g ∷ gs) e =
    ap (λ (ws : List (List ℕ)). list_of x ∷ ws) (run_olds count (slot + 1) base (offset + 4) xs ys gs (even_rest x y g xs ys gs e))

-- what a run writes is what a meaning writes there
abbrev pub AllNew : (new : ℕ → List ℕ → List ℕ) (slot : ℕ) → List (Limbs ℕ) → List (Limbs ℕ) → Type 0
AllNew new slot [] [] = Unit {0}
AllNew new slot (x ∷ xs) (y ∷ ys) = (new slot (list_of x) ≡ list_of y) × AllNew new (slot + 1) xs ys
AllNew new slot _ _ = ⊥

-- a run is the accesses of a meaning at the words from a pointer on
pub run_means : (new : ℕ → List ℕ → List ℕ) (first b count base a n : ℕ) (xs ys : List (Limbs ℕ)) (gs : List (Gap ℕ)) → Even xs ys gs → length xs ≡ n → base ≡ b → b < 2 ^ 29 → a + n ≤ 64
    → AllNew new (first + a) xs ys
    → accessed_by new (map (λ j. memory (first + j) (word_sum b (4 * j))) (range_with_len a n)) (map list_of xs) ≡ map accessed (map touched (run_touches field count (first + a) base (4 * a) xs ys gs))
unfolding run_touches accessed_by
run_means new first b count base a n [] ys gs e long at low few are = rw (← long) refl
run_means new first b count base a n (x ∷ xs) [] gs e long at low few are = absurd (omega (arith, e.news))
run_means new first b count base a n (x ∷ xs) (y ∷ ys) [] e long at low few are = absurd (omega (arith, e.gaps))
run_means new first b count base a zero (x ∷ xs) (y ∷ ys) (g ∷ gs) e long at low few are = absurd (omega (arith, long))
run_means new first b count base a (suc n) (x ∷ xs) (y ∷ ys) (g ∷ gs) e long at low few are =
    let pointer : word_sum b (4 * a) ≡ field_add base (4 * a) = omega arith in
    let here : Accessed = record { slot = first + a; space = 2; pointer = field_add base (4 * a); old = list_of x; new = list_of y } in
    let first_is : record { slot = first + a; space = 2; pointer = word_sum b (4 * a); old = list_of x; new = new (first + a) (list_of x) } ≡ here
    = λ i. record { slot = first + a; space = 2; pointer = pointer i; old = list_of x; new = are.0 i } in
    let slot_next : first + a + 1 ≡ first + (a + 1) = omega arith in
    let offset_next : 4 * a + 4 ≡ 4 * (a + 1) = omega arith in
    let rest = run_means new first b count base (a + 1) n xs ys gs (even_rest x y g xs ys gs e) (omega (arith, long)) at low (omega arith) (subst (λ (s : ℕ). AllNew new s xs ys) slot_next are.1) in
    let moved : map accessed (map touched (run_touches field count (first + (a + 1)) base (4 * (a + 1)) xs ys gs)) ≡ map accessed (map touched (run_touches field count (first + a + 1) base (4 * a + 4) xs ys gs))
    = sym (λ i. map accessed (map touched (run_touches field count (slot_next i) base (offset_next i) xs ys gs))) in
    let all = rest ∙ moved in
    λ i. first_is i ∷ all i

-- the old words of a run are bytes
pub run_bytes : (count slot base offset : ℕ) (xs ys : List (Limbs ℕ)) (gs : List (Gap ℕ)) → Even xs ys gs → AllByRecursion (λ a. IsBytes a.old) (map touched (run_touches field count slot base offset xs ys gs))
    → AllByRecursion (λ x. IsBytes (list_of x)) xs
unfolding run_touches
run_bytes count slot base offset [] ys gs e h = tt
run_bytes count slot base offset (x ∷ xs) [] gs e h = absurd (omega (arith, e.news))
run_bytes count slot base offset (x ∷ xs) (y ∷ ys) [] e h = absurd (omega (arith, e.gaps))
run_bytes count slot base offset (x ∷ xs) (y ∷ ys) (g ∷ gs) e h = (h.0, run_bytes count (slot + 1) base (offset + 4) xs ys gs (even_rest x y g xs ys gs e) h.1)
