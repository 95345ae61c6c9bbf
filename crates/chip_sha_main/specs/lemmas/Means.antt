-- What is written, and what is compressed, by the words of a row.
use Rattle.std.proofs.Common.{◌≡◌, ℕ, zero, suc, ◌+◌, ◌-◌, ◌<◌, ◌≤◌, List, [], ◌∷◌, ◌++◌, length, map, take, drop, slice_index, refl, ap, subst, ◌∙◌, arith, length-append}
use Rattle.std.specs.List.{concat}
use Rattle.vm_field.specs.declared.limbs.Limbs.{Limbs}
use Rattle.vm_field.specs.Limbs.{list_of}
use Rattle.vm_word.specs.Word.{limbs_of, word_of_limbs}
use Rattle.vm_word.proofs.WordLemmas.{limbs_of-word_of_limbs}
use Rattle.vm_isa.specs.Words.{IsBytes}
use Rattle.vm_isa.specs.Means.{compressed}
use Rattle.sha_words.specs.Sha256.{compress}
use Rattle.chip_sha_main.specs.lemmas.Runs.{AllNew}
use Rattle.chip_sha_main.specs.lemmas.Numbers.{word, AllBytes}

pub reads_new : (new : ℕ → List ℕ → List ℕ) (slot : ℕ) (xs : List (Limbs ℕ)) → slot + length xs ≤ 18 → ((s : ℕ) (x : List ℕ) → s < 18 → new s x ≡ x) → AllNew new slot xs xs
reads_new new slot [] few keep = tt
reads_new new slot (x ∷ xs) few keep = (keep slot (list_of x) (omega arith), reads_new new (slot + 1) xs (omega arith) keep)

limb_low : (w : Limbs ℕ) → IsBytes (list_of w) → (i : ℕ) → i < 4 → slice_index (list_of w) i < 256
unfolding list_of
limb_low w b zero low = b.0
limb_low w b (suc zero) low = b.1.0
limb_low w b (suc (suc zero)) low = b.1.1.0
limb_low w b (suc (suc (suc zero))) low = b.1.1.1.0
limb_low w b (suc (suc (suc (suc i)))) low = absurd (omega arith)

-- a word's limbs are those of its number
pub limbs_back : (w : Limbs ℕ) → IsBytes (list_of w) → limbs_of (word w) ≡ list_of w
unfolding list_of
limbs_back w b = limbs_of-word_of_limbs (list_of w) refl (λ i low. limb_low w b i low)

pub writes_new : (new : ℕ → List ℕ → List ℕ) (C : List ℕ) (a : ℕ) (xs ys : List (Limbs ℕ)) → length ys ≡ length xs → ((s : ℕ) (x : List ℕ) → 18 ≤ s → new s x ≡ limbs_of (slice_index C (s - 18)))
    → ((j : ℕ) → j < length ys → slice_index C (a + j) ≡ slice_index (map word ys) j) → AllBytes ys → AllNew new (18 + a) xs ys
writes_new new C a [] [] long put are bytes = tt
writes_new new C a [] (y ∷ ys) long put are bytes = absurd (omega (arith, long))
writes_new new C a (x ∷ xs) [] long put are bytes = absurd (omega (arith, long))
writes_new new C a (x ∷ xs) (y ∷ ys) long put are bytes =
    let place : 18 + a - 18 ≡ a + 0 = omega arith in
    let next : 18 + (a + 1) ≡ 18 + a + 1 = omega arith in (
      put (18 + a) (list_of x) (omega arith) ∙ ap (λ (k : ℕ). limbs_of (slice_index C k)) place ∙ ap limbs_of (are 0 (omega arith)) ∙ limbs_back y bytes.0,
      subst (λ (s : ℕ). AllNew new s xs ys) next
          (writes_new new C (a + 1) xs ys (omega (arith, long)) put (λ j low. ap (slice_index C) (omega arith) ∙ are (suc j) (omega arith)) bytes.1),
    )

-- what is compressed

pub take_first : {X : Type 0} (n : ℕ) (xs ys : List X) → length xs ≡ n → take n (xs ++ ys) ≡ xs
take_first n [] ys long = rw (← long) refl
take_first zero (x ∷ xs) ys long = absurd (omega (arith, long))
take_first {X = X} (suc n) (x ∷ xs) ys long = ap (λ (zs : List X). x ∷ zs) (take_first n xs ys (omega (arith, long)))

pub drop_first : {X : Type 0} (n : ℕ) (xs ys : List X) → length xs ≡ n → drop n (xs ++ ys) ≡ ys
drop_first n [] ys long = rw (← long) refl
drop_first zero (x ∷ xs) ys long = absurd (omega (arith, long))
drop_first (suc n) (x ∷ xs) ys long = drop_first n xs ys (omega (arith, long))

pub map_words : (xs : List (Limbs ℕ)) → map word_of_limbs (map list_of xs) ≡ map word xs
map_words [] = refl
map_words (x ∷ xs) = ap (λ (ns : List ℕ). word x ∷ ns) (map_words xs)

pub length_lists : (xs : List (Limbs ℕ)) → length (map list_of xs) ≡ length xs
length_lists [] = refl
length_lists (x ∷ xs) = ap (λ (n : ℕ). suc n) (length_lists xs) ∙ omega arith

pub compressed_is : (x y : List ℕ) (ms os : List (Limbs ℕ)) → length ms ≡ 16 → length os ≡ 8
    → compressed (x ∷ y ∷ (map list_of ms ++ (map list_of os ++ []))) ≡ compress (map word os) (concat (map list_of ms))
unfolding compressed
compressed_is x y ms os lm lo =
    let lists_m = length_lists ms ∙ lm in
    let lists_o = length_lists os ∙ lo in
    let block : take 16 (map list_of ms ++ (map list_of os ++ [])) ≡ map list_of ms = take_first 16 (map list_of ms) (map list_of os ++ []) lists_m in
    let state : drop 16 (map list_of ms ++ (map list_of os ++ [])) ≡ map list_of os ++ [] = drop_first 16 (map list_of ms) (map list_of os ++ []) lists_m in
    let first : take 8 (map list_of os ++ []) ≡ map list_of os = take_first 8 (map list_of os) [] lists_o in
    let words : map word_of_limbs (take 8 (drop 16 (map list_of ms ++ (map list_of os ++ [])))) ≡ map word os
    = ap (λ (zs : List (List ℕ)). map word_of_limbs (take 8 zs)) state ∙ ap (map word_of_limbs) first ∙ map_words os in
    λ i. compress (words i) (concat (block i))

pub length_olds : (x y : List ℕ) (ms os : List (Limbs ℕ)) → length ms ≡ 16 → length os ≡ 8 → length (x ∷ y ∷ (map list_of ms ++ (map list_of os ++ []))) ≡ 26
length_olds x y ms os lm lo =
    omega (arith, length-append (map list_of ms) (map list_of os ++ []), length-append {A = List ℕ} (map list_of os) [], length_lists ms, length_lists os, lm, lo)
