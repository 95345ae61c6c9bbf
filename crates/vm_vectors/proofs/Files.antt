-- The file of a text has the text as its image.
use Rattle.std.proofs.Common.{Bool, bit_and, filter, subst, rules, ◌≡◌, ◌≢◌, ℕ, zero, suc, ◌+◌, ◌-◌, ◌*◌, ◌%◌, ◌<◌, ◌≤◌, ◌^◌, inl, inr, List, [], ◌∷◌, length, get_or, take, Any, IsPermutation, Option, None, nat_lt, true, refl, sym, ap, ◌∙◌, arith, length-append}
use Rattle.std.proofs.lemmas.List.Sorted.{IsPermutation-refl}
use Rattle.std.proofs.lemmas.Bool.{lt-ltb}
use Rattle.std.proofs.Math.Seq.{take-suc, take-length}
use Rattle.byteorder.specs.Numbers.{little_number-reads_back}
use Rattle.elf_image.specs.declared.ImageError.{ImageError}
use Rattle.elf_image.specs.declared.ImageError.TheVariants.{Short, Magic, Class, Order, FileType, Machine, Compressed, HeaderSize, HeaderTable, SegmentSize, Truncated, Range, Overlap, TextSize, Entry, OutOfMemory}
use Rattle.elf_image.specs.declared.headers.ProgramHeader.{ProgramHeader}
use Rattle.elf_image.specs.Elf.{half, word, e_type, e_machine, e_entry, e_phoff, e_flags, e_phentsize, e_phnum, header_at, is_load, load_headers}
use Rattle.elf_image.specs.Loaded.{Load, Loaded, text_below, text_of, word_of}
use Rattle.elf_image.specs.Image.{load_of, in_file, Cause, HasImage}
use Rattle.std.proofs.lemmas.List.{length-take-le}
use Rattle.elf_image.proofs.Members.{In, in_from_Contains}
use Rattle.elf_image.proofs.Loads.{words_in}
use Rattle.elf_image.proofs.Words.{words_before, words_step, words_after, word_here}
use Rattle.elf_image.proofs.Overlaps.{count_once}
use Rattle.vm_vectors.specs.ElfFile.{text_bytes, elf_file, text_image, text_from, TextIsWords}
use Rattle.vm_vectors.proofs.Texts.{length-text_bytes, word_in_text, text_from-push}

filter_one : {X : Type 0} (p : X → Bool) (x y : X) → x ≡ y → p y ≡ true → filter p (x ∷ []) ≡ y ∷ []
filter_one p x y e passes = let here : p x ≡ true = rw e passes in rw here (ap (λ z. z ∷ []) e)

module _ (base : ℕ) (words : List ℕ) (some : 0 < length words) (most : length words ≤ 2 ^ 20) (even : base % 4 ≡ 0) (low : base + 4 * length words ≤ 2 ^ 29) where
  abbrev file : List ℕ
  file = elf_file base words

  abbrev size : ℕ
  size = 4 * length words

  abbrev header : ProgramHeader
  header = record { p_type = 1; p_offset = 84; p_vaddr = base; p_filesz = size; p_memsz = size; p_flags = 5 }

  file_length : length file ≡ 84 + size
  file_length = rw length-append (omega (arith, length-text_bytes words))

  type_is : e_type file ≡ 2
  unfolding half
  type_is = refl

  machine_is : e_machine file ≡ 243
  unfolding half
  machine_is = refl

  entry_is : e_entry file ≡ base
  unfolding word
  entry_is = little_number-reads_back 4 base [] (omega arith)

  table_is : e_phoff file ≡ 52
  unfolding word
  table_is = refl

  flags_are : e_flags file ≡ 0
  unfolding word
  flags_are = refl

  header_size_is : e_phentsize file ≡ 32
  unfolding half
  header_size_is = refl

  count_is : e_phnum file ≡ 1
  unfolding half
  count_is = refl

  address_is : word 60 file ≡ base
  unfolding word
  address_is = little_number-reads_back 4 base [] (omega arith)

  file_size_is : word 68 file ≡ size
  unfolding word
  file_size_is = little_number-reads_back 4 size [] (omega arith)

  memory_size_is : word 72 file ≡ size
  unfolding word
  memory_size_is = little_number-reads_back 4 size [] (omega arith)

  type_of_header : word 52 file ≡ 1
  unfolding word
  type_of_header = refl

  offset_is : word 56 file ≡ 84
  unfolding word
  offset_is = refl

  flags_of_header : word 76 file ≡ 5
  unfolding word
  flags_of_header = refl

  header_is : header_at file 0 ≡ header
  header_is = rw (table_is) (rw (type_of_header, offset_is, address_is, file_size_is, memory_size_is, flags_of_header) refl)

  loads_are : load_headers file ≡ header ∷ []
  loads_are = rw (count_is) (filter_one is_load (header_at file 0) header header_is refl)

  bytes_are : (load_of file header).bytes ≡ text_bytes words
  bytes_are =
      let whole : 84 + size - 84 ≡ length (text_bytes words) = omega (arith, length-text_bytes words) in
      rw whole (take-length (text_bytes words))

  abbrev load : Load
  load = record { address = base; bytes = text_bytes words; size = size; executable = true }

  load_is : load_of file header ≡ load
  load_is = rw bytes_are refl

  in_file_is : in_file file ≡ text_image base words
  in_file_is = rw (entry_is, loads_are, load_is) refl

  one_load : (P : ProgramHeader → Type 0) → Any P (load_headers file) → P header
  one_load P h =
      let among = in_from_Contains h.1 (load_headers file) (h.0, h.2, h.3) in
      elim (subst (λ xs. In h.1 xs) loads_are among) [ inl same ↦ subst P same h.4 | inr none ↦ absurd none ]

  -- the words of the load
  given : 84 + size ≤ length file
  given = omega (arith, file_length)

  abbrev load_words : ℕ → Option ℕ
  load_words = words_in (load_of file header ∷ [])

  executable : bit_and 5 1 ≢ 0
  executable h = cc

  -- as many text words as have been passed
  text_count : (k : ℕ) → k ≤ length words → length (text_below load_words (base + 4 * k)) ≡ k
  text_count zero h =
      let start : base + 4 * 0 ≡ base = omega arith in
      rw (start, words_before file header given base (omega arith) even) refl
  text_count (suc k) h =
      let next : base + 4 * suc k ≡ base + 4 * k + 4 = omega arith in
      let step = words_step file header given (base + 4 * k) (omega arith) (omega arith) (omega arith) executable in
      rw (next, step, length-append, text_count k (omega arith)) (omega arith)

  text_ends : text_below load_words (2 ^ 32) ≡ text_below load_words (base + 4 * length words)
  text_ends = words_after file header given (base + 4 * length words) (omega arith) (2 ^ 32) (omega arith) (omega arith)

  text_length : length (text_of (text_image base words)) ≡ length words
  text_length =
      let count = text_count (length words) (omega arith) in
      rw (← load_is, text_ends) count

  first_word : word_of (text_image base words) base ≢ None
  first_word none =
      let here = word_here file header given base even (omega arith) (omega arith) executable in
      let same = ap (λ (l : Load). words_in (l ∷ []) base) load_is in
      cc (none, same, here)

  no_cause : (refusal : ImageError) → ¬ Cause refusal file
  no_cause Short h = omega (arith, file_length)
  no_cause Magic h = h refl
  no_cause Class h = h refl
  no_cause Order h = h refl
  no_cause FileType h = h type_is
  no_cause Machine h = h machine_is
  no_cause Compressed h = h (rw flags_are refl)
  no_cause HeaderSize h = h header_size_is
  no_cause HeaderTable (inl many) = omega (arith, count_is)
  no_cause HeaderTable (inr past) = omega (arith, count_is, table_is, file_length)
  no_cause SegmentSize h = let k = one_load _ h in omega arith
  no_cause Truncated h = let k = one_load _ h in omega (arith, file_length)
  no_cause Range h = let k = one_load _ h in omega arith
  no_cause Overlap h = let k = rw loads_are at h.1 in omega (arith, count_once 0 (header ∷ []) h.0 (search rules))
  no_cause TextSize h = let k = rw in_file_is at h in omega (arith, text_length)
  no_cause Entry h = first_word (ap (λ (l : Loaded). word_of l base) (sym in_file_is) ∙ ap (λ (e : ℕ). word_of (in_file file) e) (sym entry_is) ∙ h)
  no_cause OutOfMemory h = h

  pub file_has_image : HasImage file (text_image base words)
  file_has_image =
      let positive : nat_lt 0 size ≡ true = lt-ltb 0 size (omega arith) in
      let same : (in_file file).loads ≡ load ∷ [] = ap (λ (l : Loaded). l.loads) in_file_is in
      let kept = ap (filter (λ (l : Load). nat_lt 0 l.size)) same ∙ filter_one (λ (l : Load). nat_lt 0 l.size) load load refl positive in
      record {
        accepted = no_cause;
        entry = sym entry_is;
        loads = subst (λ (ls : List Load). IsPermutation ls (load ∷ [])) (sym kept) (IsPermutation-refl (load ∷ []));
        rising = λ i j d before within. absurd (omega arith);
      }

  module _ (fits : (i : ℕ) → i < length words → get_or words i 0 < 2 ^ 32) where
    word_read : (k : ℕ) → k < length words → word (base + 4 * k - base) (load_of file header).bytes ≡ get_or words k 0
    unfolding word
    word_read k h = let offset : base + 4 * k - base ≡ 4 * k = omega arith in rw (offset, bytes_are) (word_in_text words k h fits)

    text_so_far : (k : ℕ) → k ≤ length words → text_below load_words (base + 4 * k) ≡ text_from base (take k words)
    text_so_far zero h =
        let start : base + 4 * 0 ≡ base = omega arith in
        rw (start, words_before file header given base (omega arith) even) refl
    text_so_far (suc k) h =
        let next : base + 4 * suc k ≡ base + 4 * k + 4 = omega arith in
        let step = words_step file header given (base + 4 * k) (omega arith) (omega arith) (omega arith) executable in
        let read : word (base + 4 * k - base) (load_of file header).bytes ≡ get_or words k 0 = word_read k h in
        let long : length (take k words) ≡ k = length-take-le k words (omega arith) in
        let pushed = text_from-push base (take k words) (get_or words k 0) in
        rw (next, step, text_so_far k (omega arith), read, take-suc words k 0 h, pushed, long) refl

    pub text_is : text_of (text_image base words) ≡ text_from base words
    text_is = rw (← load_is, text_ends, text_so_far (length words) (omega arith), take-length) refl

pub text_is_words : TextIsWords
text_is_words base words some most even low fits = text_is base words some most even low (λ i h. fits i 0 h)
