-- Loops that write one part behind the other.
use Rattle.std.proofs.Common.{◌≡◌, ℕ, zero, suc, ◌+◌, ◌*◌, ◌<◌, List, [], ◌∷◌, ◌++◌, flat_map, length, map, take, slice_set, refl, sym, ap, ◌∙◌, arith, append_assoc, append-nil}
use Rattle.std.specs.List.{range_with_len}
use Rattle.std.proofs.Math.Seq.{take-suc-set}
use Rattle.std.proofs.lemmas.List.FromFn.{map-range_with_len_more}
use Rattle.vm_field.specs.Field.{field_add}
use Rattle.vm_field.specs.Limbs.{limbs_by, list_of}
use Rattle.air_core.specs.Ring.{field, cells}
use Rattle.gadget_time.specs.declared.touch.Touch.{Touch}
use Rattle.gadget_time.specs.Access.{gap_by}
use Rattle.chip_sha_main.specs.declared.accesses.Run.{Run}
use Rattle.chip_sha_main.specs.Main.{run_touches, words_by, gaps_by}
use Rattle.chip_sha_main.specs.Run.{run_in}

-- one part more of a range
pub flat_more : {Y : Type 0} (f : ℕ → List Y) (a n j : ℕ) → a + n ≡ j → flat_map f (range_with_len a (n + 1)) ≡ flat_map f (range_with_len a n) ++ f j
flat_more {Y = Y} f a zero j e = append-nil (f a) ∙ ap f (omega (arith, e))
flat_more {Y = Y} f a (suc n) j e =
    let next : suc n + 1 ≡ suc (n + 1) = omega arith in
    ap (λ (k : ℕ). flat_map f (range_with_len a k)) next ∙ ap (λ (ys : List Y). f a ++ ys) (flat_more f (a + 1) n j (omega (arith, e))) ∙ sym (append_assoc (f a) (flat_map f (range_with_len (a + 1) n)) (f j))

-- The accesses of a run.

abbrev pub touch_of : (ℕ → ℕ) → Run → ℕ → ℕ → ℕ → Touch ℕ
touch_of column run count base i = record {
  count = count;
  slot = run.slot + i;
  space = 2;
  pointer = field_add base (4 * i);
  old = limbs_by column (run.old + 4 * i);
  new = limbs_by column (run.new + 4 * i);
  gap = gap_by column (run.gaps + 3 * i);
}

run_by : (column : ℕ → ℕ) (run : Run) (count base a n : ℕ)
    → run_touches field count (run.slot + a) base (4 * a) (map (λ i. limbs_by column (run.old + 4 * i)) (range_with_len a n)) (map (λ i. limbs_by column (run.new + 4 * i)) (range_with_len a n)) (map (λ i. gap_by column (run.gaps + 3 * i)) (range_with_len a n))
    ≡ map (touch_of column run count base) (range_with_len a n)
unfolding run_touches
run_by column run count base a zero = refl
run_by column run count base a (suc n) =
    let slot : run.slot + a + 1 ≡ run.slot + (a + 1) = omega arith in
    let offset : 4 * a + 4 ≡ 4 * (a + 1) = omega arith in
    let rest = (λ i. run_touches field count (slot i) base (offset i) (map (λ i. limbs_by column (run.old + 4 * i)) (range_with_len (a + 1) n)) (map (λ i. limbs_by column (run.new + 4 * i)) (range_with_len (a + 1) n)) (map (λ i. gap_by column (run.gaps + 3 * i)) (range_with_len (a + 1) n)))
    ∙ run_by column run count base (a + 1) n in
    ap (λ (ts : List (Touch ℕ)). touch_of column run count base a ∷ ts) rest

pub run_is : (column : ℕ → ℕ) (run : Run) (count base : ℕ) → map (touch_of column run count base) (range_with_len 0 run.words) ≡ run_in column run count base
run_is column run count base =
    let slot : run.slot + 0 ≡ run.slot = omega arith in
    sym (run_by column run count base 0 run.words)
    ∙ (λ i. run_touches field count (slot i) base 0 (words_by column run.old run.words) (words_by column run.new run.words) (gaps_by column run.gaps run.words))

-- one access more
pub run_more : (column : ℕ → ℕ) (run : Run) (count base : ℕ) (all old : List (Touch ℕ)) (i : ℕ) (touch : Touch ℕ) → run.slot + i < length all → touch ≡ touch_of column run count base i
    → take (run.slot + i) all ≡ take run.slot old ++ map (touch_of column run count base) (range_with_len 0 i)
    → take (run.slot + (i + 1)) (slice_set all (run.slot + i) touch) ≡ take run.slot old ++ map (touch_of column run count base) (range_with_len 0 (i + 1))
run_more column run count base all old i touch low is before =
    let next : run.slot + (i + 1) ≡ suc (run.slot + i) = omega arith in
    let F = touch_of column run count base in
    ap (λ (k : ℕ). take k (slice_set all (run.slot + i) touch)) next ∙ take-suc-set all (run.slot + i) touch low ∙ (λ k. before k ++ is k ∷ [])
    ∙ append_assoc (take run.slot old) (map F (range_with_len 0 i)) (F i ∷ []) ∙ ap (λ (ts : List (Touch ℕ)). take run.slot old ++ ts) (sym (map-range_with_len_more F 0 i i (omega arith)))

-- Words as columns one after another.

four_on : (c : ℕ → ℕ) (x m : ℕ) → list_of (limbs_by c x) ++ cells c (x + 4) m ≡ cells c x (suc (suc (suc (suc m))))
unfolding list_of
four_on c x m =
    let p1 : x + 1 ≡ suc x = omega arith in
    let p2 : x + 2 ≡ suc (suc x) = omega arith in
    let p3 : x + 3 ≡ suc (suc (suc x)) = omega arith in
    let p4 : x + 4 ≡ suc (suc (suc (suc x))) = omega arith in
    λ i. c x ∷ c (p1 i) ∷ c (p2 i) ∷ c (p3 i) ∷ cells c (p4 i) m

pub words_cells : (c : ℕ → ℕ) (at a n : ℕ) → flat_map list_of (map (λ i. limbs_by c (at + 4 * i)) (range_with_len a n)) ≡ cells c (at + 4 * a) (4 * n)
words_cells c at a zero = refl
words_cells c at a (suc n) =
    let place : at + 4 * (a + 1) ≡ at + 4 * a + 4 = omega arith in
    let more : suc (suc (suc (suc (4 * n)))) ≡ 4 * suc n = omega arith in
    ap (λ (xs : List ℕ). list_of (limbs_by c (at + 4 * a)) ++ xs) (words_cells c at (a + 1) n ∙ ap (λ (k : ℕ). cells c k (4 * n)) place) ∙ four_on c (at + 4 * a) (4 * n) ∙ ap (cells c (at + 4 * a)) more
