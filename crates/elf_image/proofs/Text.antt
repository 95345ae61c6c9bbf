-- The list of the text words, over any function that gives the word at an address.
use Rattle.std.proofs.Common.{◌≡◌, ℕ, zero, suc, ◌+◌, ◌-◌, ◌<◌, ◌≤◌, [], ◌∷◌, ◌++◌, length, get_or, Option, None, Some, refl, ap, arith, inl, inr, append_assoc, length-append}
use Rattle.std.proofs.lemmas.Bool.{cases_lt}
use Rattle.std.proofs.lemmas.List.{append-nil}
use Rattle.std.specs.List.Sorted.{IsNonDecreasingBy}
use Rattle.std.proofs.lemmas.List.Sorted.{IsNonDecreasingBy-short, IsNonDecreasingBy-push}
use Rattle.elf_image.specs.declared.TextWord.{TextWord}
use Rattle.elf_image.specs.Loaded.{text_at, text_below}
use Rattle.elf_image.proofs.Members.{In, in_at, in_append, in_append_left, in_append_right}

abbrev pub Words : Type 0
Words = ℕ → Option ℕ

pub text_below-suc : (w : Words) (n : ℕ) → text_below w (suc n) ≡ text_below w n ++ text_at n (w n)
unfolding text_below
text_below-suc w n = refl

-- each text word stands at its address
pub text_stands : (w : Words) (n : ℕ) (t : TextWord) → In t (text_below w n) → (t.pc < n) × (w t.pc ≡ Some t.word)
unfolding text_below
text_stands w zero t h = absurd h
text_stands w (suc n) t h =
    elim (in_append t (text_below w n) (text_at n (w n)) h) [
      | inl old ↦ let k = text_stands w n t old in ((let below : t.pc < n = k.0 in omega arith), k.1)
      | inr last ↦ here (w n) refl last
    ] where
      here : (o : Option ℕ) → w n ≡ o → In t (text_at n o) → (t.pc < suc n) × (w t.pc ≡ Some t.word)
      here None e k = absurd k
      here (Some x) e (inl same) = rw same (omega arith, e)
      here (Some x) e (inr k) = absurd k

-- and each word at an address is among them
pub text_complete : (w : Words) (n pc x : ℕ) → pc < n → w pc ≡ Some x → In (record { pc = pc; word = x }) (text_below w n)
unfolding text_below
text_complete w zero pc x h e = absurd (omega arith)
text_complete w (suc n) pc x h e =
    elim (cases_lt pc n) [
      | inl below ↦ in_append_left _ _ _ (text_complete w n pc x below e)
      | inr above ↦
          let same : n ≡ pc = omega arith in
          rw (same, e) (in_append_right (record { pc = pc; word = x }) (text_below w pc) (text_at pc (Some x)) (inl refl))
    ]

-- they rise
pub text_rises : (w : Words) (n : ℕ) → IsNonDecreasingBy (λ (t : TextWord). t.pc) (text_below w n)
unfolding text_below
text_rises w zero = IsNonDecreasingBy-short (λ (t : TextWord). t.pc) [] (omega arith)
text_rises w (suc n) = at (w n) (text_rises w n) where
  at : (o : Option ℕ) → IsNonDecreasingBy (λ (t : TextWord). t.pc) (text_below w n) → IsNonDecreasingBy (λ (t : TextWord). t.pc) (text_below w n ++ text_at n o)
  at None rest = rw append-nil rest
  at (Some x) rest =
      IsNonDecreasingBy-push (λ (t : TextWord). t.pc) (text_below w n) (record { pc = n; word = x }) rest (λ d some.
      let before = text_stands w n _ (in_at (text_below w n) (length (text_below w n) - 1) d (omega arith)) in
      let below : (get_or (text_below w n) (length (text_below w n) - 1) d).pc < n = before.0 in
      omega arith)

-- where there is no word, nothing is added
pub text_skips : (w : Words) (m k : ℕ) → ((a : ℕ) → m ≤ a → a < m + k → w a ≡ None) → text_below w (m + k) ≡ text_below w m
text_skips w m zero h = ap (text_below w) (omega arith)
text_skips w m (suc k) h =
    let last : w (m + k) ≡ None = h (m + k) (omega arith) (omega arith) in
    let next : m + suc k ≡ suc (m + k) = omega arith in
    rw (next, text_below-suc w (m + k), last, append-nil) (text_skips w m k (λ a low high. h a low (omega arith)))

pub text_empty : (w : Words) (n : ℕ) → ((a : ℕ) → a < n → w a ≡ None) → text_below w n ≡ []
unfolding text_below
text_empty w n h = let whole : 0 + n ≡ n = omega arith in let k = text_skips w 0 n (λ a low high. h a (omega arith)) in rw whole at k

-- the words below an address and those from it on
pub text_parts : (w v u : Words) (m n : ℕ) → ((a : ℕ) → a < m → (w a ≡ v a) × (u a ≡ None)) → ((a : ℕ) → m ≤ a → (w a ≡ u a) × (v a ≡ None)) → text_below w n ≡ text_below v n ++ text_below u n
unfolding text_below
text_parts w v u m zero low high = refl
text_parts w v u m (suc n) low high =
    let so_far = text_parts w v u m n low high in
    elim (cases_lt n m) [
      | inl below ↦
          let none : text_below u n ≡ [] = text_empty u n (λ a h. (low a (omega arith)).1) in
          let here = low n below in
          simp (so_far, here.0, here.1, none, append-nil)
      | inr above ↦
          let here = high n above in
          simp (so_far, here.0, here.1, append-nil, append_assoc)
    ]

-- a word, and none at the three addresses after it
pub text_step : (w : Words) (pc x : ℕ) → w pc ≡ Some x → ((a : ℕ) → pc < a → a < pc + 4 → w a ≡ None) → text_below w (pc + 4) ≡ text_below w pc ++ record { pc = pc; word = x } ∷ []
text_step w pc x e none =
    let next : pc + 4 ≡ suc pc + 3 = omega arith in
    let rest = text_skips w (suc pc) 3 (λ a low high. none a (omega arith) (omega arith)) in
    rw (next, rest, text_below-suc w pc, e) refl

pub text_grows : (w : Words) (m k : ℕ) → length (text_below w m) ≤ length (text_below w (m + k))
text_grows w m zero = let whole : m + zero ≡ m = omega arith in rw whole (omega arith)
text_grows w m (suc k) =
    let next : m + suc k ≡ suc (m + k) = omega arith in
    rw (next, text_below-suc w (m + k), length-append) (omega (arith, text_grows w m k))

pub text_same : (w v : Words) (n : ℕ) → ((a : ℕ) → w a ≡ v a) → text_below w n ≡ text_below v n
unfolding text_below
text_same w v zero h = refl
text_same w v (suc n) h = simp (text_same w v n h, h n)
