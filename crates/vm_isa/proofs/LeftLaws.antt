-- Where next_access does not answer NoMeaning, some words make a meaning.
use Rattle.std.proofs.Common.{◌≡◌, ℕ, ◌+◌, ◌-◌, ◌^◌, ◌<◌, ◌≤◌, zero, suc, Bool, true, false, ◌&&◌, ◌||◌, not, nat_eq, nat_lt, List, [], ◌∷◌, ◌++◌, None, length, replicate, slice_index, slice_get, if◌then◌else◌, refl, ap, ◌∙◌, arith, ⊎_elim}
use Rattle.std.specs.List.{AllByRecursion}
use Rattle.std.proofs.Math.ListN.{length-append}
use Rattle.std.proofs.Math.Nat.{zero-mod}
use Rattle.std.proofs.lemmas.Bool.Decides.{nat_tests}
use Rattle.std.proofs.lemmas.Bool.{cases_lt}
use Rattle.std.proofs.lemmas.Option.{slice_get_past}
use Rattle.vm_word.specs.Word.{limbs_of}
use Rattle.vm_word.specs.Arithmetic.{word_difference}
use Rattle.vm_word.proofs.WordLemmas.{word_of_limbs-lt, word_of_limbs-limbs_of}
use Rattle.vm_isa.specs.declared.instr.VmInstr.{VmInstr}
use Rattle.vm_isa.specs.declared.meaning.NextAccess.TheVariants.{NoMeaning}
use Rattle.vm_isa.specs.Words.{IsWord}
use Rattle.vm_isa.specs.Opcodes.{is_load, is_store, has_meaning, JALR, HINT, REVEAL, SHA}
use Rattle.vm_isa.specs.Instr.{InRange}
use Rattle.vm_isa.specs.Results.{width_of}
use Rattle.vm_isa.specs.Means.{imm_of, address, is_bad, is_high, is_refused, bars_first, bars_second, known, places_of, next_access_of, word_at}
use Rattle.vm_isa.specs.Laws.{ElseMeaningIsLeft}
use Rattle.vm_isa.proofs.MeansLaws.{whole, done_whole}
use Rattle.vm_isa.proofs.NextLaws.{is_done}
use Rattle.vm_isa.proofs.FormLaws.{places_by-length}

-- ---- the words that are put behind

zeros : List ℕ
zeros = 0 ∷ 0 ∷ 0 ∷ 0 ∷ []

-- a first word with which every address is 0
first_of : VmInstr → ℕ
first_of i = word_difference 0 (imm_of i)

rest : VmInstr → List (List ℕ) → ℕ → List (List ℕ)
rest i [] (suc n) = limbs_of (first_of i) ∷ replicate n zeros
rest i _ n = replicate n zeros

limbs_word : (w : ℕ) → IsWord (limbs_of w)
limbs_word w = record { four = refl; bytes = (omega arith, (omega arith, (omega arith, (omega arith, tt)))) }

zeros_words : (n : ℕ) → AllByRecursion IsWord (replicate n zeros)
unfolding zeros
zeros_words zero = tt
zeros_words (suc n) = (record { four = refl; bytes = (omega arith, (omega arith, (omega arith, (omega arith, tt)))) }, zeros_words n)

rest_words : (i : VmInstr) (olds : List (List ℕ)) (n : ℕ) → AllByRecursion IsWord (rest i olds n)
unfolding rest
rest_words i [] zero = tt
rest_words i [] (suc n) = (limbs_word (first_of i), zeros_words n)
rest_words i (x ∷ olds) n = zeros_words n

zeros_length : (n : ℕ) → length (replicate n zeros) ≡ n
zeros_length zero = refl
zeros_length (suc n) = let more = zeros_length n in omega arith

rest_length : (i : VmInstr) (olds : List (List ℕ)) (n : ℕ) → length (rest i olds n) ≡ n
unfolding rest
rest_length i [] zero = refl
rest_length i [] (suc n) = let more = zeros_length n in omega arith
rest_length i (x ∷ olds) n = zeros_length n

-- ---- no test is met

bytes_at : (xs : List ℕ) → AllByRecursion (λ x. x < 256) xs → (k : ℕ) → slice_index xs k < 256
bytes_at [] h k = omega arith
bytes_at (x ∷ xs) h zero = h.0
bytes_at (x ∷ xs) h (suc k) = bytes_at xs h.1 k

below_word : (i : VmInstr) → InRange i → imm_of i < 2 ^ 32
unfolding imm_of
below_word i h = word_of_limbs-lt i.imm (λ k low. bytes_at i.imm h.imm.bytes k)

address_zero : (i : VmInstr) → InRange i → address i (first_of i) ≡ 0
unfolding first_of
address_zero i h = let low = below_word i h in omega arith

bars_by : (t1 t2 t3 t4 x y z w : Bool) → x ≡ false → y ≡ false → z ≡ false → (t4 ≡ true → w ≡ false)
    → (if t1 then x else if t2 then y else if t3 then z else (t4 && w)) ≡ false
bars_by true t2 t3 t4 x y z w a b c d = a
bars_by false true t3 t4 x y z w a b c d = b
bars_by false false true t4 x y z w a b c d = c
bars_by false false false true x y z w a b c d = d refl
bars_by false false false false x y z w a b c d = refl

not_bad : (width pointer : ℕ) → pointer ≡ 0 → is_bad width pointer ≡ false
not_bad width pointer h = rw (h, zero-mod width) refl

not_high : (pointer : ℕ) → pointer ≡ 0 → is_high pointer ≡ false
not_high pointer h = rw h refl

sha_first : (i : VmInstr) → InRange i → nat_eq i.op SHA ≡ true → first_of i ≡ 0
unfolding first_of imm_of
sha_first i h op =
    let is : i.op ≡ SHA = grind (arith, nat_tests) in
    rw ((h.sha is).3) refl

first_fits : (i : VmInstr) → InRange i → bars_first i (first_of i) ≡ false
unfolding bars_first
first_fits i h =
    let here = address_zero i h in
    bars_by (is_load i.op || is_store i.op) (nat_eq i.op JALR) (nat_eq i.op HINT || nat_eq i.op REVEAL) (nat_eq i.op SHA) _ _ _ _
    (not_bad (width_of i.op) (address i (first_of i)) here) (not_high _ (rw here refl)) (not_bad 4 (address i (first_of i)) here)
    (λ op. not_high (first_of i) (sha_first i h op))

-- ---- words in front

or_false : (a b c : Bool) → a || (b || c) ≡ false → (a ≡ false) × (b ≡ false) × (c ≡ false)
or_false false false false h = (refl, refl, refl)
or_false true b c h = absurd (cc)
or_false false true c h = absurd (cc)
or_false false false true h = absurd (cc)

all_false : (a b c d e : Bool) → a ≡ false → b ≡ false → d ≡ false → a || ((b && c) || (d && e)) ≡ false
all_false a b c d e p q r = rw (p, q, r) refl

and_false : (a : Bool) → a && false ≡ false
and_false true = refl
and_false false = refl

and_true : (a b : Bool) → b ≡ true → a && b ≡ false → a ≡ false
and_true true b p h = absurd (cc)
and_true false b p h = refl

known_low : (test : Bool) (k n : ℕ) → k < n → test && nat_lt k n ≡ false → test ≡ false
known_low test k n low h = and_true test (nat_lt k n) (grind (arith, nat_tests)) h

second_zero : (i : VmInstr) → bars_second i 0 ≡ false
unfolding bars_second
second_zero i = and_false (nat_eq i.op SHA)

word_first : (i : VmInstr) (xs : List (List ℕ)) → word_at (limbs_of (first_of i) ∷ xs) 0 ≡ first_of i
unfolding word_at first_of
word_first i xs = word_of_limbs-limbs_of (first_of i) (omega arith)

word_zero : (x : List ℕ) (n : ℕ) → word_at (x ∷ replicate n zeros) 1 ≡ 0
unfolding word_at zeros
word_zero x zero = refl
word_zero x (suc n) = refl

front : (x : List ℕ) (xs ys : List (List ℕ)) → word_at (x ∷ xs) 0 ≡ word_at (x ∷ ys) 0
unfolding word_at
front x xs ys = refl

behind : (x y : List ℕ) (xs ys : List (List ℕ)) → word_at (x ∷ y ∷ xs) 1 ≡ word_at (x ∷ y ∷ ys) 1
unfolding word_at
behind x y xs ys = refl

fits_more : (i : VmInstr) (olds : List (List ℕ)) (n : ℕ) → InRange i → is_refused i olds ≡ false → is_refused i (olds ++ rest i olds n) ≡ false
unfolding is_refused rest
fits_more i [] zero r h = h
fits_more i [] (suc n) r h =
    let parts = or_false (not (has_meaning i.op)) (known [] 0 (bars_first i (word_at [] 0))) (known [] 1 (bars_second i (word_at [] 1))) h in
    let first : bars_first i (word_at (limbs_of (first_of i) ∷ replicate n zeros) 0) ≡ false = ap (bars_first i) (word_first i (replicate n zeros)) ∙ first_fits i r in
    let second : bars_second i (word_at (limbs_of (first_of i) ∷ replicate n zeros) 1) ≡ false = ap (bars_second i) (word_zero (limbs_of (first_of i)) n) ∙ second_zero i in
    all_false _ _ _ _ _ parts.0 first second
fits_more i (x ∷ []) n r h =
    let parts = or_false (not (has_meaning i.op)) (known (x ∷ []) 0 (bars_first i (word_at (x ∷ []) 0))) (known (x ∷ []) 1 (bars_second i (word_at (x ∷ []) 1))) h in
    let first = known_low (bars_first i (word_at (x ∷ []) 0)) 0 (length (x ∷ [])) (omega arith) parts.1 in
    let here : bars_first i (word_at (x ∷ replicate n zeros) 0) ≡ false = ap (bars_first i) (front x (replicate n zeros) []) ∙ first in
    let second : bars_second i (word_at (x ∷ replicate n zeros) 1) ≡ false = ap (bars_second i) (word_zero x n) ∙ second_zero i in
    all_false _ _ _ _ _ parts.0 here second
fits_more i (x ∷ y ∷ olds) n r h =
    let known_words = x ∷ y ∷ olds in
    let parts = or_false (not (has_meaning i.op)) (known known_words 0 (bars_first i (word_at known_words 0))) (known known_words 1 (bars_second i (word_at known_words 1))) h in
    let first = known_low (bars_first i (word_at known_words 0)) 0 (length known_words) (omega arith) parts.1 in
    let second = known_low (bars_second i (word_at known_words 1)) 1 (length known_words) (omega arith) parts.2 in
    let more = replicate n zeros in
    let here : bars_first i (word_at (known_words ++ more) 0) ≡ false = ap (bars_first i) (front x (y ∷ (olds ++ more)) (y ∷ olds)) ∙ first in
    let there : bars_second i (word_at (known_words ++ more) 1) ≡ false = ap (bars_second i) (behind x y (olds ++ more) olds) ∙ second in
    all_false _ _ _ _ _ parts.0 here there

-- ---- no more words than accesses

not_refused : (r : Bool) (i : VmInstr) (olds : List (List ℕ)) → is_refused i olds ≡ r → (next_access_of i olds ≡ NoMeaning → ⊥) → is_refused i olds ≡ false
unfolding next_access_of
not_refused true i olds r h = absurd (h (rw r refl))
not_refused false i olds r h = r

no_place : (i : VmInstr) (olds : List (List ℕ)) → is_refused i olds ≡ false → length (places_of i olds) < length olds → next_access_of i olds ≡ NoMeaning
unfolding next_access_of
no_place i olds r long =
    let past : slice_get (places_of i olds) (length olds) ≡ None = slice_get_past (places_of i olds) (length olds) (omega arith) in
    let other : nat_eq (length olds) (length (places_of i olds)) ≡ false = grind (arith, nat_tests) in
    rw (r, past, other) refl

room : (i : VmInstr) (olds : List (List ℕ)) → (next_access_of i olds ≡ NoMeaning → ⊥) → length olds ≤ length (places_of i olds)
room i olds h =
    let fits = not_refused (is_refused i olds) i olds refl h in
    ⊎_elim (λ (long : length (places_of i olds) < length olds). absurd (h (no_place i olds fits long)))
    (λ (low : length olds ≤ length (places_of i olds)). low)
    (cases_lt (length (places_of i olds)) (length olds))

pub else_meaning_is_left : ElseMeaningIsLeft
else_meaning_is_left i olds r h =
    let n : ℕ = length (places_of i olds) - length olds in
    let more = rest i olds n in
    let fits = fits_more i olds n r (not_refused (is_refused i olds) i olds refl h) in
    let equal : length (places_of i (olds ++ more)) ≡ length (places_of i olds) = places_by-length i _ _ _ _ in
    let long : length (olds ++ more) ≡ length olds + length more = length-append olds more in
    let count : length more ≡ n = rest_length i olds n in
    let least = room i olds h in
    let whole_list : length (olds ++ more) ≡ length (places_of i (olds ++ more)) = omega arith in
    (more, rest_words i olds n, λ given. (whole i (olds ++ more) given, done_whole i (olds ++ more) given (is_done i (olds ++ more) fits whole_list)))
