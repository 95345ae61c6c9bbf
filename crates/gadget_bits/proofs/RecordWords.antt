-- The words and the bytes of a record of a SHA block.
use Rattle.std.proofs.Common.{◌≡◌, ℕ, zero, suc, ◌+◌, ◌*◌, ◌^◌, ◌<◌, ◌≤◌, List, [], ◌∷◌, ◌++◌, length, map, take, drop, slice_index, refl, sym, ap, subst, ◌∙◌, arith, lit<, lit≤}
use Rattle.std.specs.List.{AllByRecursion, concat}
use Rattle.std.proofs.lemmas.List.{length-map}
use Rattle.vm_field.specs.Field.{modulus}
use Rattle.vm_word.specs.Word.{word_of_limbs}
use Rattle.vm_isa.specs.Slots.{slots_of}
use Rattle.vm_isa.specs.Words.{IsBytes, IsWord}
use Rattle.vm_isa.specs.declared.access.TimedAccess.{TimedAccess}
use Rattle.vm_isa.specs.declared.record.StepRecord.{StepRecord}
use Rattle.vm_isa.specs.Means.{Fillable}
use Rattle.air_core.specs.ListLemmas.{all_append}
use Rattle.air_core.specs.PathLaws.{time_fits}
use Rattle.gadget_bits.specs.Record.{old_of, olds_of, state_of, block_of}
use Rattle.gadget_bits.proofs.ShaRecord.{shape}

-- words and bytes of a record

pub word_low : (x : List ℕ) → IsWord x → word_of_limbs x < 2 ^ 32
word_low [] w = lit< tt
word_low (a ∷ []) w = absurd (omega (arith, w.four))
word_low (a ∷ b ∷ []) w = absurd (omega (arith, w.four))
word_low (a ∷ b ∷ c ∷ []) w = absurd (omega (arith, w.four))
word_low (a ∷ b ∷ c ∷ d ∷ []) w = let h = w.bytes in omega (arith, h.0, h.1.0, h.1.1.0, h.1.1.1.0)
word_low (a ∷ b ∷ c ∷ d ∷ e ∷ more) w = absurd (omega (arith, w.four))

pub words_low : (xs : List (List ℕ)) → AllByRecursion IsWord xs → (j : ℕ) → slice_index (map word_of_limbs xs) j < 2 ^ 32
words_low [] w j = lit< tt
words_low (x ∷ xs) w zero = word_low x w.0
words_low (x ∷ xs) w (suc j) = words_low xs w.1 j

pub bytes_at : (xs : List ℕ) → IsBytes xs → (j : ℕ) → slice_index xs j < 256
bytes_at [] b j = lit< tt
bytes_at (x ∷ xs) b zero = b.0
bytes_at (x ∷ xs) b (suc j) = bytes_at xs b.1 j

pub bytes_concat : (xs : List (List ℕ)) → AllByRecursion IsWord xs → IsBytes (concat xs)
bytes_concat [] w = tt
bytes_concat (x ∷ xs) w = let here : IsWord x = w.0 in all_append (λ (y : ℕ). y < 256) x (concat xs) here.bytes (bytes_concat xs w.1)

pub words_of : (xs : List TimedAccess) → AllByRecursion (λ a. IsWord a.access.old) xs → AllByRecursion IsWord (map old_of xs)
words_of [] w = tt
words_of (x ∷ xs) w = (w.0, words_of xs w.1)

all_taken : {X : Type 0} (P : X → Type 0) (n : ℕ) (xs : List X) → AllByRecursion P xs → AllByRecursion P (take n xs)
all_taken P zero xs h = tt
all_taken P (suc n) [] h = tt
all_taken P (suc n) (x ∷ xs) h = (h.0, all_taken P n xs h.1)

all_left : {X : Type 0} (P : X → Type 0) (n : ℕ) (xs : List X) → AllByRecursion P xs → AllByRecursion P (drop n xs)
all_left P zero xs h = h
all_left P (suc n) [] h = tt
all_left P (suc n) (x ∷ xs) h = all_left P n xs h.1

slots_sha : (op : ℕ) → op ≡ 40 → slots_of op ≡ 26
slots_sha op is = rw is refl

module _ (hi : ℕ) (done : StepRecord) (f : Fillable (16 + hi) done) where
  pub state_low : (j : ℕ) → slice_index (state_of done) j < 2 ^ 32
  state_low j = words_low (take 8 (drop 18 (olds_of done))) (all_taken IsWord 8 (drop 18 (olds_of done)) (all_left IsWord 18 (olds_of done) (words_of done.accesses f.words))) j

  pub block_bytes : (j : ℕ) → slice_index (block_of done) j < 256
  block_bytes j =
      bytes_at (block_of done) (bytes_concat (take 16 (drop 2 (olds_of done))) (all_taken IsWord 16 (drop 2 (olds_of done)) (all_left IsWord 2 (olds_of done) (words_of done.accesses f.words)))) j

  pub accesses_26 : done.instr.op ≡ 40 → length done.accesses ≡ 26
  accesses_26 op = sym (length-map done.accesses old_of) ∙ (shape (16 + hi) done f op).olds_long

  pub ends_26 : done.instr.op ≡ 40 → done.time + 26 ≤ 2 ^ (16 + hi)
  ends_26 op = subst (λ (n : ℕ). done.time + n ≤ 2 ^ (16 + hi)) (slots_sha done.instr.op op) f.ends

  pub time_low : hi ≤ 13 → done.instr.op ≡ 40 → done.time < modulus
  time_low top op = let fits = time_fits hi done.time 26 top (ends_26 op) in omega (arith, fits)
