-- Rows in rising order of pc: how many there can be, and where the row with a pc is found.
use Rattle.std.proofs.Common.{◌≡◌, ◌≢◌, ℕ, zero, suc, ◌+◌, ◌-◌, ◌*◌, ◌^◌, ◌<◌, ◌≤◌, ◌==◌, true, false, Bool, List, [], ◌∷◌, ◌++◌, length, get_or, cond, None, Some, refl, sym, ◌∙◌, ap, ⊎_elim, arith}
use Rattle.std.specs.Prelude.{find, position, slice_get}
use Rattle.std.specs.List.{position_from, AllByRecursion}
use Rattle.std.specs.List.Sorted.{IsNonDecreasingBy, IsPartitionPoint}
use Rattle.std.specs.Ordering.{nat_cmp, ordering_index}
use Rattle.std.specs.declared.cmp.Ordering.TheVariants.{Less, Equal, Greater}
use Rattle.std.proofs.lemmas.Bool.{eq-eqb, ne_eqb, cases_lt}
use Rattle.std.proofs.lemmas.Bool.Decides.{nat_tests}
use Rattle.std.proofs.lemmas.Cmp.{ranked}
use Rattle.std.proofs.lemmas.Iterator.Adapters.{position_from-zero}
use Rattle.vm_isa.specs.declared.instr.VmInstr.{VmInstr}
use Rattle.vm_transpile.specs.Order.{RisesFrom}

-- there are at most a quarter as many as addresses
pub rises_few : (least : ℕ) (rows : List VmInstr) → least ≤ 2 ^ 32 + 3 → RisesFrom least rows → least + 4 * length rows ≤ 2 ^ 32 + 3
rises_few least [] low h = omega (arith, low)
rises_few least (row ∷ rows) low h =
    let below : row.pc < 2 ^ 32 = h.1 in
    let from : least ≤ row.pc = h.0 in
    omega (arith, rises_few (row.pc + 4) rows (omega arith) h.2)

-- a row behind them
pub rises_push : (least : ℕ) (rows : List VmInstr) (row : VmInstr) → RisesFrom least rows → least ≤ row.pc → row.pc < 2 ^ 32 → AllByRecursion (λ r. r.pc + 4 ≤ row.pc) rows → RisesFrom least (rows ++ row ∷ [])
rises_push least [] row h low top all = (low, top, tt)
rises_push least (r ∷ rows) row h low top all = (h.0, h.1, rises_push (r.pc + 4) rows row h.2 all.0 top all.1)

-- each is at the first address or after it
pub rises_above : (least : ℕ) (rows : List VmInstr) (k : ℕ) (d : VmInstr) → RisesFrom least rows → k < length rows → least ≤ (get_or rows k d).pc
rises_above least [] k d h low = absurd (omega arith)
rises_above least (row ∷ rows) zero d h low = h.0
rises_above least (row ∷ rows) (suc k) d h low =
    let from : least ≤ row.pc = h.0 in
    omega (arith, rises_above (row.pc + 4) rows k d h.2 (omega arith))

pub rises_order : (least : ℕ) (rows : List VmInstr) → RisesFrom least rows → IsNonDecreasingBy (λ (row : VmInstr). row.pc) rows
rises_order least [] h i j d le low = absurd (omega arith)
rises_order least (row ∷ rows) h zero zero d le low = omega arith
rises_order least (row ∷ rows) h zero (suc j) d le low = omega (arith, rises_above (row.pc + 4) rows j d h.2 (omega arith))
rises_order least (row ∷ rows) h (suc i) zero d le low = absurd (omega arith)
rises_order least (row ∷ rows) h (suc i) (suc j) d le low = rises_order (row.pc + 4) rows h.2 i j d (omega arith) (omega arith)

-- the first row with a pc is the one that has it
found_from : (least : ℕ) (rows : List VmInstr) (pc i k : ℕ) (d : VmInstr) → RisesFrom least rows → k < length rows → (get_or rows k d).pc ≡ pc → position_from (λ (row : VmInstr). row.pc == pc) i rows ≡ Some (i + k)
found_from least [] pc i k d h low is = absurd (omega arith)
found_from least (row ∷ rows) pc i zero d h low is = rw (eq-eqb row.pc pc is) (ap Some (omega arith))
found_from least (row ∷ rows) pc i (suc k) d h low is =
    let other : row.pc ≡ pc → ⊥ = λ e. omega (arith, e, is, rises_above (row.pc + 4) rows k d h.2 (omega arith)) in
    rw (ne_eqb row.pc pc other) (found_from (row.pc + 4) rows pc (i + 1) k d h.2 (omega arith) is ∙ ap Some (omega arith))

absent_from : (rows : List VmInstr) (pc i : ℕ) → ((k : ℕ) (d : VmInstr) → k < length rows → (get_or rows k d).pc ≢ pc) → position_from (λ (row : VmInstr). row.pc == pc) i rows ≡ None
absent_from [] pc i none = refl
absent_from (row ∷ rows) pc i none =
    rw (ne_eqb row.pc pc (none 0 row (omega arith))) (absent_from rows pc (i + 1) (λ k d low. none (suc k) d (omega arith)))

pub found_place : (rows : List VmInstr) (pc k : ℕ) (d : VmInstr) → RisesFrom 0 rows → k < length rows → (get_or rows k d).pc ≡ pc → position (λ (row : VmInstr). row.pc == pc) rows ≡ Some k
found_place rows pc k d h low is =
    position_from-zero (λ (row : VmInstr). row.pc == pc) rows ∙ found_from 0 rows pc 0 k d h low is ∙ ap Some (omega arith)

pub absent_place : (rows : List VmInstr) (pc : ℕ) → ((k : ℕ) (d : VmInstr) → k < length rows → (get_or rows k d).pc ≢ pc) → position (λ (row : VmInstr). row.pc == pc) rows ≡ None
absent_place rows pc none = position_from-zero (λ (row : VmInstr). row.pc == pc) rows ∙ absent_from rows pc 0 none

-- the answers of a search rise with the rows
pub rises_compared : (rows : List VmInstr) (pc : ℕ) → RisesFrom 0 rows → IsNonDecreasingBy (λ (row : VmInstr). ordering_index (nat_cmp row.pc pc)) rows
rises_compared rows pc h i j d le low = let up = rises_order 0 rows h i j d le low in grind (arith, nat_tests)

-- what a search by pc answers

pub searched_found : (rows : List VmInstr) (pc k : ℕ) → RisesFrom 0 rows → k < length rows → ((d : VmInstr) → nat_cmp (get_or rows k d).pc pc ≡ Equal) → position (λ (row : VmInstr). row.pc == pc) rows ≡ Some k
searched_found [] pc k h low equal = absurd (omega arith)
searched_found (row ∷ rows) pc k h low equal =
    found_place (row ∷ rows) pc k row h low (ranked (get_or (row ∷ rows) k row).pc pc Equal (sym (equal row)))

pub searched_absent : (rows : List VmInstr) (pc i : ℕ) → RisesFrom 0 rows
    → (IsNonDecreasingBy (λ (row : VmInstr). ordering_index (nat_cmp row.pc pc)) rows → IsPartitionPoint (λ (row : VmInstr). nat_cmp row.pc pc ≡ Less) (λ (row : VmInstr). nat_cmp row.pc pc ≡ Greater) rows i)
    → position (λ (row : VmInstr). row.pc == pc) rows ≡ None
searched_absent rows pc i h parted =
    absent_place rows pc (λ k d low e.
    ⊎_elim (λ (below : k < i). let smaller : (get_or rows k d).pc < pc = ranked (get_or rows k d).pc pc Less (sym ((parted (rises_compared rows pc h)).0 k d (omega arith) below)) in omega (arith, e, smaller))
    (λ (above : i ≤ k). let greater : pc < (get_or rows k d).pc = ranked (get_or rows k d).pc pc Greater (sym ((parted (rises_compared rows pc h)).1 k d above low)) in omega (arith, e, greater))
    (cases_lt k i))

-- the first element that passes is the one at the first place that does

module _ {X : Type 0} (test : X → Bool) where
  none_by : (x : X) (xs : List X) (i : ℕ) (b : Bool) → (position_from test (i + 1) xs ≡ None → find test xs ≡ None)
      → cond b (Some i) (position_from test (i + 1) xs) ≡ None → cond b (Some x) (find test xs) ≡ None
  none_by x xs i true rest h = cc
  none_by x xs i false rest h = rest h

  none_from : (i : ℕ) (xs : List X) → position_from test i xs ≡ None → find test xs ≡ None
  none_from i [] h = refl
  none_from i (x ∷ xs) h = none_by x xs i (test x) (none_from (i + 1) xs) h

  some_by : (x : X) (xs : List X) (i n : ℕ) (b : Bool) → (position_from test (i + 1) xs ≡ Some n → (i + 1 ≤ n) × (slice_get xs (n - (i + 1)) ≡ find test xs))
      → cond b (Some i) (position_from test (i + 1) xs) ≡ Some n → (i ≤ n) × (slice_get (x ∷ xs) (n - i) ≡ cond b (Some x) (find test xs))
  some_by x xs i n true rest h =
      let same : i ≡ n = cc in
      let first : n - i ≡ zero = omega arith in
      (omega arith, rw first refl)
  some_by x xs i n false rest h =
      let r = rest h in
      let low : i + 1 ≤ n = r.0 in
      let next : n - i ≡ suc (n - (i + 1)) = omega arith in
      (omega arith, rw next r.1)

  some_from : (i n : ℕ) (xs : List X) → position_from test i xs ≡ Some n → (i ≤ n) × (slice_get xs (n - i) ≡ find test xs)
  some_from i n [] h = cc
  some_from i n (x ∷ xs) h = some_by x xs i n (test x) (some_from (i + 1) n xs) h

  pub find-absent : (xs : List X) → position test xs ≡ None → find test xs ≡ None
  find-absent xs h = none_from 0 xs (sym (position_from-zero test xs) ∙ h)

  pub find-place : (xs : List X) (n : ℕ) → position test xs ≡ Some n → slice_get xs n ≡ find test xs
  find-place xs n h =
      let whole : n - 0 ≡ n = omega arith in
      rw whole at (some_from 0 n xs (sym (position_from-zero test xs) ∙ h)).1
