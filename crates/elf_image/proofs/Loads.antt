-- Bytes and words of loads that don't overlap.
use Rattle.std.proofs.Common.{get_or, add-one, drop-cons, ◌≡◌, ℕ, ◌+◌, ◌-◌, ◌%◌, ◌<◌, ◌≤◌, ◌⊎◌, Bool, true, false, ◌&&◌, ◌==◌, if◌then◌else◌, List, [], ◌∷◌, ◌++◌, length, drop, slice_index, map, Option, None, Some, refl, sym, arith, inl, inr, length-take, length-drop}
use Rattle.std.proofs.lemmas.Bool.Decides.{nat_tests}
use Rattle.byteorder.specs.Endian.{little_number}
use Rattle.elf_image.specs.declared.headers.ProgramHeader.{ProgramHeader}
use Rattle.elf_image.specs.declared.TextWord.{TextWord}
use Rattle.elf_image.specs.Loaded.{Load, gives, byte_in, word_in, text_below}
use Rattle.elf_image.specs.Image.{load_of}
use Rattle.elf_image.specs.Layout.{follow}
use Rattle.elf_image.proofs.Members.{In}
use Rattle.elf_image.proofs.Text.{Words, text_parts, text_empty}

-- the loads stand one after another, from an address on, and none has more bytes than it takes
abbrev pub Apart : ℕ → List Load → Type 0
Apart from [] = Unit {0}
Apart from (load ∷ rest) = (from ≤ load.address) × (length load.bytes ≤ load.size) × Apart (load.address + load.size) rest

-- a text word stands at the address, if that is a multiple of 4
abbrev pub stands : Load → ℕ → Bool
stands load pc = load.executable && (gives load pc && gives load (pc + 3))

abbrev pub number_at : Load → ℕ → ℕ
number_at load pc = little_number 4 (drop (pc - load.address) load.bytes)

pub record Gives (load : Load) (address : ℕ) : Type 0 where
  pub low : load.address ≤ address
  pub high : address < load.address + length load.bytes

pub gives_true : (load : Load) (address : ℕ) → gives load address ≡ true → Gives load address
gives_true load address h = record { low = grind (arith, nat_tests); high = grind (arith, nat_tests) }

pub true_gives : (load : Load) (address : ℕ) → Gives load address → gives load address ≡ true
true_gives load address h = grind (arith, nat_tests, h.low, h.high)

-- any test is true or false
tested : (b : Bool) → (b ≡ true) ⊎ (b ≡ false)
tested true = inl refl
tested false = inr refl

false_gives : (load : Load) (address : ℕ) → (¬ Gives load address) → gives load address ≡ false
false_gives load address h = elim (tested (gives load address)) [ inl yes' ↦ absurd (h (gives_true load address yes')) | inr no' ↦ no' ]

stands_gives : (load : Load) (pc : ℕ) → stands load pc ≡ true → Gives load pc
stands_gives load pc h = gives_true load pc (first load.executable (gives load pc) (gives load (pc + 3)) h) where
  first : (a b c : Bool) → (a && (b && c)) ≡ true → b ≡ true
  first true true c e = refl
  first true false c e = e
  first false b c e = cc

not_stands : (load : Load) (pc : ℕ) → (¬ Gives load pc) → stands load pc ≡ false
not_stands load pc h = without load.executable (gives load pc) (gives load (pc + 3)) (false_gives load pc h) where
  without : (a b c : Bool) → b ≡ false → (a && (b && c)) ≡ false
  without true b c e = rw e refl
  without false b c e = refl

-- each of them begins at that address or after it
pub later : (from : ℕ) (loads : List Load) (load : Load) → Apart from loads → In load loads → from ≤ load.address
later from [] load apart h = absurd h
later from (x ∷ xs) load apart (inl same) = rw same apart.0
later from (x ∷ xs) load apart (inr h) = let rest = later (x.address + x.size) xs load apart.2 h in let first : from ≤ x.address = apart.0 in omega arith

-- what one of the later loads gives, the first doesn't
first_misses : (from : ℕ) (x : Load) (xs : List Load) (load : Load) (a : ℕ) → Apart from (x ∷ xs) → In load xs → Gives load a → ¬ Gives x a
first_misses from x xs load a apart h given first =
    let begins = later (x.address + x.size) xs load apart.2 h in
    let fits : length x.bytes ≤ x.size = apart.1 in
    omega (arith, given.low, first.high)

pub byte_found : (from : ℕ) (loads : List Load) (load : Load) (a : ℕ) → Apart from loads → In load loads → Gives load a → byte_in loads a ≡ slice_index load.bytes (a - load.address)
byte_found from [] load a apart h given = absurd h
byte_found from (x ∷ xs) load a apart (inl same) given = let first : gives x a ≡ true = rw same at (true_gives load a given) in rw (first, same) refl
byte_found from (x ∷ xs) load a apart (inr h) given =
    let first = false_gives x a (first_misses from x xs load a apart h given) in
    rw first (byte_found (x.address + x.size) xs load a apart.2 h given)

pub byte_absent : (loads : List Load) (a : ℕ) → ((load : Load) → In load loads → ¬ Gives load a) → byte_in loads a ≡ 0
byte_absent [] a h = refl
byte_absent (x ∷ xs) a h = let first = false_gives x a (h x (inl refl)) in rw first (byte_absent xs a (λ load k. h load (inr k)))

pub word_found : (from : ℕ) (loads : List Load) (load : Load) (pc : ℕ) → Apart from loads → In load loads → stands load pc ≡ true → word_in loads pc ≡ Some (number_at load pc)
word_found from [] load pc apart h stand = absurd h
word_found from (x ∷ xs) load pc apart (inl same) stand = let first : stands x pc ≡ true = rw same at stand in rw (first, same) refl
word_found from (x ∷ xs) load pc apart (inr h) stand =
    let first = not_stands x pc (first_misses from x xs load pc apart h (stands_gives load pc stand)) in
    rw first (word_found (x.address + x.size) xs load pc apart.2 h stand)

pub word_absent : (loads : List Load) (pc : ℕ) → ((load : Load) → In load loads → stands load pc ≡ false) → word_in loads pc ≡ None
word_absent [] pc h = refl
word_absent (x ∷ xs) pc h = let first = h x (inl refl) in rw first (word_absent xs pc (λ load k. h load (inr k)))

-- a word that is found stands in a load
pub word_stands : (loads : List Load) (pc x : ℕ) → word_in loads pc ≡ Some x → (load : Load) × In load loads × (stands load pc ≡ true) × (number_at load pc ≡ x)
word_stands [] pc x e = cc
word_stands (y ∷ ys) pc x e = by_test (stands y pc) refl e (word_stands ys pc x) where
  by_test : (b : Bool) → stands y pc ≡ b → (if b then Some (number_at y pc) else word_in ys pc) ≡ Some x
      → (word_in ys pc ≡ Some x → (load : Load) × In load ys × (stands load pc ≡ true) × (number_at load pc ≡ x))
      → (load : Load) × In load (y ∷ ys) × (stands load pc ≡ true) × (number_at load pc ≡ x)
  by_test true is found rest = (y, inl refl, is, cc)
  by_test false is found rest = let k = rest found in (k.0, inr k.1, k.2, k.3)

pub none_stands : (loads : List Load) (pc : ℕ) → word_in loads pc ≡ None → (load : Load) → In load loads → stands load pc ≡ false
none_stands [] pc e load h = absurd h
none_stands (y ∷ ys) pc e load h = by_test (stands y pc) refl e (none_stands ys pc) h where
  by_test : (b : Bool) → stands y pc ≡ b → (if b then Some (number_at y pc) else word_in ys pc) ≡ None
      → (word_in ys pc ≡ None → (load : Load) → In load ys → stands load pc ≡ false)
      → In load (y ∷ ys) → stands load pc ≡ false
  by_test true is found rest k = cc
  by_test false is found rest (inl same) = rw same is
  by_test false is found rest (inr k) = rest found load k

-- two lists with the same loads, but for some of size 0, have the same words
pub same_words : (file sorted : List Load) (from : ℕ) → Apart from sorted → ((load : Load) → In load sorted → In load file) → ((load : Load) → In load file → 0 < load.size → In load sorted)
    → ((load : Load) → In load file → length load.bytes ≤ load.size) → (pc : ℕ) → word_in file pc ≡ word_in sorted pc
same_words file sorted from apart back forth held pc = by_word (word_in file pc) refl where
  by_word : (o : Option ℕ) → word_in file pc ≡ o → o ≡ word_in sorted pc
  by_word None e = sym (word_absent sorted pc (λ load h. none_stands file pc e load (back load h)))
  by_word (Some x) e =
      let found = word_stands file pc x e in
      let load = found.0 in
      let given = stands_gives load pc found.2 in
      let fits = held load found.1 in
      let positive : 0 < load.size = omega (arith, given.low, given.high) in
      let same = word_found from sorted load pc apart (forth load found.1 positive) found.2 in
      cc (same, found.3)

-- the words of a list of loads
abbrev pub words_in : List Load → Words
words_in loads pc = if pc % 4 == 0 then word_in loads pc else None

-- the text of one load after another, of the addresses below n
abbrev pub text_in : ℕ → List Load → List TextWord
text_in n [] = []
text_in n (load ∷ rest) = text_below (words_in (load ∷ [])) n ++ text_in n rest

words_same : (xs ys : List Load) (pc : ℕ) → word_in xs pc ≡ word_in ys pc → words_in xs pc ≡ words_in ys pc
words_same xs ys pc e = rw e refl

words_none : (xs : List Load) (pc : ℕ) → word_in xs pc ≡ None → words_in xs pc ≡ None
words_none xs pc e = by_test (pc % 4 == 0) where
  by_test : (b : Bool) → (if b then word_in xs pc else None) ≡ None
  by_test true = e
  by_test false = refl

-- a load has no words outside of its bytes
pub words_outside : (load : Load) (pc : ℕ) → (¬ Gives load pc) → words_in (load ∷ []) pc ≡ None
words_outside load pc h = words_none (load ∷ []) pc (let first = not_stands load pc h in rw first refl)

module _ (from : ℕ) (x : Load) (xs : List Load) (apart : Apart from (x ∷ xs)) where
  words_low : (a : ℕ) → a < x.address + x.size → (words_in (x ∷ xs) a ≡ words_in (x ∷ []) a) × (words_in xs a ≡ None)
  words_low a low =
      let none : word_in xs a ≡ None = word_absent xs a (λ load h. not_stands load a (λ given. let begins = later (x.address + x.size) xs load apart.2 h in omega (arith, given.low))) in
      (words_same (x ∷ xs) (x ∷ []) a (rw none refl), words_none xs a none)

  words_high : (a : ℕ) → x.address + x.size ≤ a → (words_in (x ∷ xs) a ≡ words_in xs a) × (words_in (x ∷ []) a ≡ None)
  words_high a high =
      let first : ¬ Gives x a = λ given. let fits : length x.bytes ≤ x.size = apart.1 in omega (arith, given.high) in
      let none = not_stands x a first in
      (words_same (x ∷ xs) xs a (rw none refl), words_outside x a first)

-- the text words of loads that don't overlap are those of one load after another
pub text_in_loads : (from : ℕ) (loads : List Load) (n : ℕ) → Apart from loads → text_below (words_in loads) n ≡ text_in n loads
text_in_loads from [] n apart = text_empty (words_in []) n (λ a low. words_none [] a refl)
text_in_loads from (x ∷ xs) n apart =
    let parts = text_parts (words_in (x ∷ xs)) (words_in (x ∷ [])) (words_in xs) (x.address + x.size) n (words_low from x xs apart) (words_high from x xs apart) in
    rw (parts, text_in_loads (x.address + x.size) xs n apart.2) refl

pub bytes_within : (bytes : List ℕ) (header : ProgramHeader) → length (load_of bytes header).bytes ≤ header.p_filesz
bytes_within bytes header = simp (length-take, length-drop) (omega arith)

-- headers that follow one another give such loads
pub apart_from_follow : (bytes : List ℕ) (from : ℕ) (headers : List ProgramHeader) → follow from headers ≡ true → ((header : ProgramHeader) → In header headers → header.p_filesz ≤ header.p_memsz) → Apart from (map (load_of bytes) headers)
apart_from_follow bytes from [] f held = tt
apart_from_follow bytes from (x ∷ xs) f held =
    let first : from ≤ x.p_vaddr = grind (arith, nat_tests) in
    let rest : follow (x.p_vaddr + x.p_memsz) xs ≡ true = grind (arith, nat_tests) in
    let fits : x.p_filesz ≤ x.p_memsz = held x (inl refl) in
    (first, omega (arith, bytes_within bytes x), apart_from_follow bytes (x.p_vaddr + x.p_memsz) xs rest (λ header k. held header (inr k)))

-- the text of loads that are headers of a file
pub text_of_headers : (bytes : List ℕ) (headers : List ProgramHeader) (n : ℕ) → follow 0 headers ≡ true → ((header : ProgramHeader) → In header headers → header.p_filesz ≤ header.p_memsz)
    → text_below (words_in (map (load_of bytes) headers)) n ≡ text_in n (map (load_of bytes) headers)
text_of_headers bytes headers n f held = text_in_loads 0 (map (load_of bytes) headers) n (apart_from_follow bytes 0 headers f held)

-- the text of the loads from a place on
pub text_in-drop : (n : ℕ) (bytes : List ℕ) (headers : List ProgramHeader) (i : ℕ) (d : ProgramHeader) → i < length headers
    → text_in n (map (load_of bytes) (drop i headers)) ≡ text_below (words_in (load_of bytes (get_or headers i d) ∷ [])) n ++ text_in n (map (load_of bytes) (drop (i + 1) headers))
text_in-drop n bytes headers i d h = let here = drop-cons headers i d h in rw (here, add-one) refl
