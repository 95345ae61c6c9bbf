-- Hints at the places that the order of their times gives.
use Rattle.std.proofs.Common.{◌≡◌, ℕ, zero, suc, ◌+◌, ◌≤◌, Bool, true, false, cond, List, [], ◌∷◌, ◌++◌, length, map, get_or, refl, sym, ap, subst, ◌∙◌, arith, inl, inr, append_assoc}
use Rattle.std.specs.Prelude.{IsPermutation, flat_map}
use Rattle.std.specs.List.{AllAdjacentBelow, range_with_len}
use Rattle.std.specs.List.Sorted.{IsNonDecreasingBy}
use Rattle.std.proofs.lemmas.List.{length-map}
use Rattle.std.proofs.lemmas.List.FromFn.{fill_by_all}
use Rattle.std.proofs.lemmas.List.Sorted.{IsNonDecreasingBy-from_all_adjacent, IsPermutation-map}
use Rattle.air_core.specs.declared.hint.HintWord.{HintWord}
use Rattle.air_core.proofs.Ordering.{Ascends-from_IsNonDecreasingBy, Ascends-map}
use Rattle.exec_path.specs.declared.order.PathRow.{PathRow}
use Rattle.exec_path.specs.Order.{IsOrder, StandsBefore, time_at, no_row}
use Rattle.acceptance.specs.Spelled.{HintEvent, Word, NextFrame, hint_event, hints_before, low_byte}
use Rattle.vm_checker.specs.Kept.{IsSorted, bytes_of, hint_at, no_hint, timed_hint}

timed_at : (hints : List HintWord) (i : ℕ) → get_or (map timed_hint hints) i no_row ≡ timed_hint (get_or hints i no_hint)
timed_at [] i = refl
timed_at (h ∷ hs) zero = refl
timed_at (h ∷ hs) (suc i) = timed_at hs i

time_of_hint : (hints : List HintWord) (i : ℕ) → time_at (map timed_hint hints) i ≡ (hint_at hints i).time
time_of_hint hints i = ap (λ (r : PathRow). r.from_time) (timed_at hints i)

not_later : (rows : List PathRow) (i j : ℕ) → StandsBefore rows i j → time_at rows i ≤ time_at rows j
not_later rows i j (inl h) = omega (arith, h)
not_later rows i j (inr h) = omega (arith, h.0)

all_hints : (hints : List HintWord) → hints ≡ map (hint_at hints) (range_with_len 0 (length hints))
all_hints hints = fill_by_all (hint_at hints) hints (length hints) no_hint refl (λ k h. refl)

pub sorted_hints : (hints : List HintWord) (places : List ℕ) → IsOrder (map timed_hint hints) places → IsSorted hints (map (hint_at hints) places)
sorted_hints hints places order =
    let same : IsPermutation (range_with_len 0 (length hints)) places = subst (λ (m : ℕ). IsPermutation (range_with_len 0 m) places) (length-map hints timed_hint) order.same_places in
    let adjacent : AllAdjacentBelow (λ i j. (hint_at hints i).time ≤ (hint_at hints j).time) places (length places) =
    λ k d h.
    rw (← time_of_hint hints (get_or places k d), ← time_of_hint hints (get_or places (k + 1) d)) (not_later (map timed_hint hints) (get_or places k d) (get_or places (k + 1) d) (order.in_order k d h)) in
    let up : IsNonDecreasingBy (λ i. (hint_at hints i).time) places = IsNonDecreasingBy-from_all_adjacent (λ i. (hint_at hints i).time) places adjacent in
    record {
      same = subst (λ (xs : List HintWord). IsPermutation xs (map (hint_at hints) places)) (sym (all_hints hints)) (IsPermutation-map (hint_at hints) (range_with_len 0 (length hints)) places same);
      in_order = Ascends-map (λ (h : HintWord). h.time) (hint_at hints) places (Ascends-from_IsNonDecreasingBy (λ i. (hint_at hints i).time) places up);
    }

-- the machine's hints before these are their bytes
before_one : (next : Bool) (word : List ℕ) (more : List HintEvent) (rest : List ℕ) → hints_before ((cond next NextFrame (Word word)) ∷ more) rest ≡ cond next [] (map low_byte word) ++ hints_before more rest
before_one true word more rest = refl
before_one false word more rest = refl

pub bytes_before : (hints : List HintWord) (rest : List ℕ) → hints_before (map hint_event hints) rest ≡ flat_map bytes_of hints ++ rest
bytes_before [] rest = refl
bytes_before (h ∷ hs) rest =
    before_one h.next h.word (map hint_event hs) rest ∙ ap (λ (bytes : List ℕ). bytes_of h ++ bytes) (bytes_before hs rest) ∙ sym (append_assoc (bytes_of h) (flat_map bytes_of hs) rest)
