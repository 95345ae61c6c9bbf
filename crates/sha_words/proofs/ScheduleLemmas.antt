-- The words of a block's schedule, one by one: what each is, and that nothing else follows the rule.
use Rattle.std.proofs.Common.{◌≡◌, ℕ, zero, suc, ◌+◌, ◌-◌, ◌*◌, ◌^◌, ◌<◌, ◌≤◌, List, [], ◌∷◌, length, slice_index, slice_set, take, refl, sym, ap, ◌∙◌, add-one, arith, inl, inr, lt-ltb, le-ltb, mod-lt, pow_pos}
use Rattle.std.proofs.lemmas.List.{get_or-take, get_or_append_left, get_or_past, get_or_push, length_push, same_lists}
use Rattle.std.proofs.Math.Seq.{take-suc-set}
use Rattle.std.proofs.lemmas.Grind.{get_or_default_zero}
use Rattle.std.proofs.lemmas.Bool.{cases_lt}
use Rattle.sha_words.specs.Laws.{IsSchedule}
use Rattle.sha_words.specs.Sha256.{block_word, next_word, schedule, schedule_word}

pub length-schedule : (block : List ℕ) (n : ℕ) → length (schedule block n) ≡ n
unfolding schedule
length-schedule block zero = refl
length-schedule block (suc n) =
    omega (arith, length_push (schedule block n) (schedule_word block (schedule block n) n), length-schedule block n)

-- a word follows from those before it alone
pub next_word-same : (xs ys : List ℕ) (t : ℕ) → 16 ≤ t → ((k : ℕ) → k < t → slice_index xs k ≡ slice_index ys k) → next_word xs t ≡ next_word ys t
unfolding next_word
next_word-same xs ys t late same =
    rw (same (t - 2) (omega arith), same (t - 7) (omega arith), same (t - 15) (omega arith), same (t - 16) (omega arith)) refl

pub schedule_word-first : (block words : List ℕ) (t : ℕ) → t < 16 → schedule_word block words t ≡ block_word block t
schedule_word-first block words t early = rw (lt-ltb t 16 early) refl

pub schedule_word-next : (block words : List ℕ) (t : ℕ) → 16 ≤ t → schedule_word block words t ≡ next_word words t
schedule_word-next block words t late = rw (le-ltb t 16 late) refl

-- word t of a schedule does not depend on how far the schedule goes
pub slice_index-schedule : (block : List ℕ) (n t : ℕ) → t < n → slice_index (schedule block n) t ≡ schedule_word block (schedule block t) t
unfolding schedule
slice_index-schedule block zero t lt = absurd (omega arith)
slice_index-schedule block (suc n) t lt =
    let long : length (schedule block n) ≡ n = length-schedule block n in
    let last : ℕ = schedule_word block (schedule block n) n in
    elim (cases_lt t n) [
      | inl under ↦ get_or_append_left (schedule block n) (last ∷ []) 0 t (omega arith) ∙ slice_index-schedule block n t under
      | inr over ↦
          let e : t ≡ n = omega arith in
          rw e (get_or_push (schedule block n) last 0 n long)
    ]

pub schedule-same : (block : List ℕ) (n m t : ℕ) → t < n → t < m → slice_index (schedule block n) t ≡ slice_index (schedule block m) t
schedule-same block n m t a b = slice_index-schedule block n t a ∙ sym (slice_index-schedule block m t b)

pub slice_index-schedule_first : (block : List ℕ) (n t : ℕ) → t < 16 → t < n → slice_index (schedule block n) t ≡ block_word block t
slice_index-schedule_first block n t early lt = slice_index-schedule block n t lt ∙ schedule_word-first block (schedule block t) t early

pub slice_index-schedule_next : (block : List ℕ) (n t : ℕ) → 16 ≤ t → t < n → slice_index (schedule block n) t ≡ next_word (schedule block n) t
slice_index-schedule_next block n t late lt =
    slice_index-schedule block n t lt ∙ schedule_word-next block (schedule block t) t late
    ∙ next_word-same (schedule block t) (schedule block n) t late (λ k h. schedule-same block t n k h (omega arith))

pub IsSchedule-schedule : (block : List ℕ) (n : ℕ) → IsSchedule block (schedule block n) n
IsSchedule-schedule block n = record {
  long = length-schedule block n;
  first = slice_index-schedule_first block n;
  next = slice_index-schedule_next block n;
}

-- words that follow the rule agree with the schedule
agrees : (block words : List ℕ) (n m : ℕ) → IsSchedule block words n → m ≤ n
    → (k : ℕ) → k < m → slice_index words k ≡ slice_index (schedule block n) k
agrees block words n zero is le k lt = absurd (omega arith)
agrees block words n (suc m) is le k lt = elim (cases_lt k m) [
  | inl under ↦ agrees block words n m is (omega arith) k under
  | inr over ↦
      let below = agrees block words n m is (omega arith) in
      let at : k ≡ m = omega arith in
      elim (cases_lt k 16) [
        | inl early ↦ is.first k early (omega arith) ∙ sym (slice_index-schedule_first block n k early (omega arith))
        | inr late ↦
            is.next k late (omega arith)
            ∙ next_word-same words (schedule block n) k late (λ j h. below j (omega arith))
            ∙ sym (slice_index-schedule_next block n k late (omega arith))
      ]
]

pub schedule-from_IsSchedule : (block words : List ℕ) (n : ℕ) → IsSchedule block words n → words ≡ schedule block n
schedule-from_IsSchedule block words n is =
    let long : length words ≡ n = is.long in
    let other : length (schedule block n) ≡ n = length-schedule block n in
    same_lists words (schedule block n) (long ∙ sym other) (λ k d lt.
    get_or_default_zero words k d lt ∙ agrees block words n n is (omega arith) k (omega arith)
    ∙ sym (get_or_default_zero (schedule block n) k d (omega arith)))

-- a list that begins with the first t words of the schedule, and then has the next one at place t
pub schedule-push : (block words : List ℕ) (t x : ℕ) → t < length words → take t words ≡ schedule block t → x ≡ schedule_word block words t
    → take (t + 1) (slice_set words t x) ≡ schedule block (t + 1)
unfolding schedule
schedule-push block words t x lt before next =
    let same : schedule_word block words t ≡ schedule_word block (take t words) t = elim (cases_lt t 16) [
      | inl early ↦ schedule_word-first block words t early ∙ sym (schedule_word-first block (take t words) t early)
      | inr late ↦
          schedule_word-next block words t late
          ∙ next_word-same words (take t words) t late (λ k under. sym (get_or-take t words k 0 under))
          ∙ sym (schedule_word-next block (take t words) t late)
    ] in
    let value : x ≡ schedule_word block (schedule block t) t = next ∙ same ∙ ap (λ (ws : List ℕ). schedule_word block ws t) before in
    rw add-one (take-suc-set words t x lt ∙ rw (before, value) refl)

-- ---- each is a word

pub schedule_word-lt : (block words : List ℕ) (t : ℕ) → ((i : ℕ) → slice_index block i < 256) → schedule_word block words t < 2 ^ 32
unfolding next_word
schedule_word-lt block words t bytes = elim (cases_lt t 16) [
  | inl early ↦ rw (schedule_word-first block words t early) (omega (arith, bytes (4 * t), bytes (4 * t + 1), bytes (4 * t + 2), bytes (4 * t + 3)))
  | inr late ↦ rw (schedule_word-next block words t late) (mod-lt _ (pow_pos 32))
]

pub schedule-lt : (block : List ℕ) (n t : ℕ) → ((i : ℕ) → slice_index block i < 256) → slice_index (schedule block n) t < 2 ^ 32
schedule-lt block n t bytes = elim (cases_lt t n) [
  | inl under ↦ rw (slice_index-schedule block n t under) (schedule_word-lt block (schedule block t) t bytes)
  | inr over ↦
      let past : length (schedule block n) ≤ t = omega (arith, length-schedule block n) in
      rw (get_or_past (schedule block n) t 0 past) (pow_pos 32)
]
