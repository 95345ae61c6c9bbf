-- From the tests of the loads to the image.
use Rattle.std.proofs.Common.{◌≡◌, ℕ, ◌+◌, ◌<◌, ◌≤◌, ◌^◌, ◌↔◌, Bool, true, false, cond, List, [], ◌∷◌, length, get_or, map, filter, nat_lt, Any, All, IsPermutation, None, refl, sym, ap, ◌∙◌, arith, inl, inr}
use Rattle.std.proofs.lemmas.Bool.{cases_lt}
use Rattle.std.proofs.lemmas.Bool.Decides.{nat_tests}
use Rattle.std.specs.List.Sorted.{IsNonDecreasingBy}
use Rattle.std.proofs.lemmas.List.Sorted.{Contains-permutation, IsPermutation-map, IsPermutation-sym}
use Rattle.std.proofs.lemmas.List.{get_or-map, length-map}
use Rattle.elf_image.specs.declared.ImageError.{ImageError}
use Rattle.elf_image.specs.declared.ImageError.TheVariants.{Short, Magic, Class, Order, FileType, Machine, Compressed, HeaderSize, HeaderTable, SegmentSize, Truncated, Range, Overlap, TextSize, Entry, OutOfMemory}
use Rattle.elf_image.specs.declared.headers.ProgramHeader.{ProgramHeader}
use Rattle.elf_image.specs.Elf.{load_headers, e_entry}
use Rattle.elf_image.specs.Loaded.{Load, word_of, text_of}
use Rattle.elf_image.specs.Image.{load_of, loaded_by, in_file, Cause, NoneBefore, place, IsRefused, HasImage}
use Rattle.elf_image.specs.Layout.{follow, Fit}
use Rattle.elf_image.proofs.Members.{In, in_at, in_from_Contains, Contains_from_in, in_from_filter, in_filter, filter_passes, in_map, map_in}
use Rattle.elf_image.proofs.Text.{text_same}
use Rattle.elf_image.proofs.Loads.{apart_from_follow, bytes_within, same_words}
use Rattle.elf_image.proofs.Overlaps.{Headers, Shares, not_follow_shares, count_sorted}
use Rattle.elf_image.proofs.Searches.{follow_pairs}

-- the refusal at a place of the table
abbrev refusals : List ImageError
refusals = Short ∷ Magic ∷ Class ∷ Order ∷ FileType ∷ Machine ∷ Compressed ∷ HeaderSize ∷ HeaderTable ∷ SegmentSize ∷ Truncated ∷ Range ∷ Overlap ∷ TextSize ∷ Entry ∷ OutOfMemory ∷ []

at_place : (refusal : ImageError) → get_or refusals (place refusal) Short ≡ refusal
at_place Short = refl
at_place Magic = refl
at_place Class = refl
at_place Order = refl
at_place FileType = refl
at_place Machine = refl
at_place Compressed = refl
at_place HeaderSize = refl
at_place HeaderTable = refl
at_place SegmentSize = refl
at_place Truncated = refl
at_place Range = refl
at_place Overlap = refl
at_place TextSize = refl
at_place Entry = refl
at_place OutOfMemory = refl

-- a refusal is known by its place
pub place_is_one : (a b : ImageError) → place a ≡ place b → a ≡ b
place_is_one a b e = sym (at_place a) ∙ ap (λ n. get_or refusals n Short) e ∙ at_place b

pub none_more : (n : ℕ) (bytes : List ℕ) (refusal : ImageError) → place refusal ≡ n → NoneBefore n bytes → (¬ Cause refusal bytes) → NoneBefore (n + 1) bytes
none_more n bytes refusal at before none other low =
    elim (cases_lt (place other) n) [
      | inl below ↦ before other below
      | inr above ↦ let same = place_is_one refusal other (omega arith) in λ cause. none (rw (← same) at cause)
    ]

-- a file with no cause in the table is accepted
pub accepted : (bytes : List ℕ) → NoneBefore 15 bytes → (refusal : ImageError) → ¬ Cause refusal bytes
accepted bytes h Short = h Short (omega arith)
accepted bytes h Magic = h Magic (omega arith)
accepted bytes h Class = h Class (omega arith)
accepted bytes h Order = h Order (omega arith)
accepted bytes h FileType = h FileType (omega arith)
accepted bytes h Machine = h Machine (omega arith)
accepted bytes h Compressed = h Compressed (omega arith)
accepted bytes h HeaderSize = h HeaderSize (omega arith)
accepted bytes h HeaderTable = h HeaderTable (omega arith)
accepted bytes h SegmentSize = h SegmentSize (omega arith)
accepted bytes h Truncated = h Truncated (omega arith)
accepted bytes h Range = h Range (omega arith)
accepted bytes h Overlap = h Overlap (omega arith)
accepted bytes h TextSize = h TextSize (omega arith)
accepted bytes h Entry = h Entry (omega arith)
accepted bytes h OutOfMemory = λ cause. cause

any_in : {X : Type 0} (P : X → Type 0) (x : X) (xs : List X) → In x xs → P x → Any P xs
any_in P x xs h p = let k = Contains_from_in x xs h in (k.0, x, k.1, k.2, p)

abbrev nonempty : ProgramHeader → Bool
nonempty load = nat_lt 0 load.p_memsz

filter-map : (bytes : List ℕ) (headers : Headers) → filter (λ (load : Load). nat_lt 0 load.size) (map (load_of bytes) headers) ≡ map (load_of bytes) (filter nonempty headers)
filter-map bytes [] = refl
filter-map bytes (x ∷ xs) = by_test (nat_lt 0 x.p_memsz) (filter-map bytes xs) where
  by_test : (b : Bool) → filter (λ (load : Load). nat_lt 0 load.size) (map (load_of bytes) xs) ≡ map (load_of bytes) (filter nonempty xs)
      → cond b (load_of bytes x ∷ filter (λ (load : Load). nat_lt 0 load.size) (map (load_of bytes) xs)) (filter (λ (load : Load). nat_lt 0 load.size) (map (load_of bytes) xs))
      ≡ map (load_of bytes) (cond b (x ∷ filter nonempty xs) (filter nonempty xs))
  by_test true rest = ap (λ ys. load_of bytes x ∷ ys) rest
  by_test false rest = rest

module _ (bytes : List ℕ) (sorted : Headers) (same : IsPermutation (filter nonempty (load_headers bytes)) sorted) (rising : IsNonDecreasingBy (λ (load : ProgramHeader). load.p_vaddr) sorted) where
  from_file : (load : ProgramHeader) → In load sorted → In load (load_headers bytes)
  from_file load h = in_from_filter nonempty load (load_headers bytes) (in_from_Contains load _ (Contains-permutation sorted _ load (IsPermutation-sym _ _ same) (Contains_from_in load sorted h)))

  to_sorted : (load : ProgramHeader) → In load (load_headers bytes) → 0 < load.p_memsz → In load sorted
  to_sorted load h some = in_from_Contains load sorted (Contains-permutation _ sorted load same (Contains_from_in load _ (in_filter nonempty load (load_headers bytes) h (grind (arith, nat_tests)))))

  -- none of the sorted loads is empty
  pub some_sorted : All (λ (load : ProgramHeader). 0 < load.p_memsz) sorted
  some_sorted k d h =
      let here = in_at sorted k d h in
      let kept = in_from_Contains (get_or sorted k d) _ (Contains-permutation sorted _ (get_or sorted k d) (IsPermutation-sym _ _ same) (Contains_from_in (get_or sorted k d) sorted here)) in
      let passes = filter_passes nonempty (get_or sorted k d) (load_headers bytes) kept in
      grind (arith, nat_tests)

  -- they share an address where the file's loads do
  pub shares_sorted : Shares sorted ↔ Cause Overlap bytes
  shares_sorted =
      (λ h. (h.0, let k = count_sorted h.0 (load_headers bytes) sorted same in rw k at h.1), λ h. (h.0, let k = count_sorted h.0 (load_headers bytes) sorted same in rw (← k) at h.1))

  module _ (clear : NoneBefore 12 bytes) where
    held : (load : ProgramHeader) → In load (load_headers bytes) → load.p_filesz ≤ load.p_memsz
    held load h = elim (cases_lt load.p_memsz load.p_filesz) [ inl bad ↦ absurd (clear SegmentSize (omega arith) (any_in _ load _ h bad)) | inr good ↦ good ]

    given : (load : ProgramHeader) → In load (load_headers bytes) → load.p_offset + load.p_filesz ≤ length bytes
    given load h = elim (cases_lt (length bytes) (load.p_offset + load.p_filesz)) [ inl bad ↦ absurd (clear Truncated (omega arith) (any_in _ load _ h bad)) | inr good ↦ good ]

    low : (load : ProgramHeader) → In load (load_headers bytes) → load.p_vaddr + load.p_memsz ≤ 2 ^ 29
    low load h = elim (cases_lt (2 ^ 29) (load.p_vaddr + load.p_memsz)) [ inl bad ↦ absurd (clear Range (omega arith) (any_in _ load _ h bad)) | inr good ↦ good ]

    pub fit_sorted : Fit bytes sorted
    fit_sorted = record {
      held = λ k d h. held (get_or sorted k d) (from_file (get_or sorted k d) (in_at sorted k d h));
      given = λ k d h. given (get_or sorted k d) (from_file (get_or sorted k d) (in_at sorted k d h));
      low = λ k d h. low (get_or sorted k d) (from_file (get_or sorted k d) (in_at sorted k d h));
    }

    -- where they share none, each begins after the one before it
    pub follow_sorted : (¬ Shares sorted) → follow 0 sorted ≡ true
    follow_sorted none = by_test (follow 0 sorted) refl where
      by_test : (b : Bool) → follow 0 sorted ≡ b → b ≡ true
      by_test true e = refl
      by_test false e = absurd (none ((not_follow_shares sorted rising some_sorted).0 e))

    module _ (apart : follow 0 sorted ≡ true) where
      -- the file's words are those of the sorted loads
      pub words_sorted : (entry pc : ℕ) → word_of (in_file bytes) pc ≡ word_of (loaded_by entry bytes sorted) pc
      words_sorted entry pc =
          let same_in = same_words (map (load_of bytes) (load_headers bytes)) (map (load_of bytes) sorted) 0
          (apart_from_follow bytes 0 sorted apart (λ load h. held load (from_file load h)))
          (λ load h. let from = in_map (load_of bytes) load sorted h in let k = map_in (load_of bytes) from.0 (load_headers bytes) (from_file from.0 from.1) in rw from.2 k)
          (λ load h some. let from = in_map (load_of bytes) load (load_headers bytes) h in
          let k = map_in (load_of bytes) from.0 sorted (to_sorted from.0 from.1 (let e : load.size ≡ from.0.p_memsz = ap (λ (l : Load). l.size) from.2 in omega arith)) in rw from.2 k)
          (λ load h. let from = in_map (load_of bytes) load (load_headers bytes) h in
          let long : length load.bytes ≡ length (load_of bytes from.0).bytes = ap (λ (l : Load). length l.bytes) from.2 in
          let size : load.size ≡ from.0.p_memsz = ap (λ (l : Load). l.size) from.2 in
          omega (arith, bytes_within bytes from.0, held from.0 from.1))
          pc in
          rw same_in refl

      pub text_sorted : (entry : ℕ) → text_of (in_file bytes) ≡ text_of (loaded_by entry bytes sorted)
      text_sorted entry = text_same (word_of (in_file bytes)) (word_of (loaded_by entry bytes sorted)) (2 ^ 32) (words_sorted entry)

      none_shared : ¬ Shares sorted
      none_shared h = let bad = (not_follow_shares sorted rising some_sorted).1 h in cc (bad, apart)

      module _ (few : length (text_of (loaded_by 0 bytes sorted)) ≤ 2 ^ 20) where
        clear_text : NoneBefore 14 bytes
        clear_text =
            let overlap = none_more 12 bytes Overlap refl clear (λ h. none_shared (shares_sorted.1 h)) in
            none_more 13 bytes TextSize refl overlap (λ long. let k = rw (text_sorted 0) at long in omega arith)

        pub entry_refused : word_of (loaded_by (e_entry bytes) bytes sorted) (e_entry bytes) ≡ None → IsRefused bytes Entry
        entry_refused none = record { cause = words_sorted (e_entry bytes) (e_entry bytes) ∙ none; first = clear_text }

        pub image_sorted : (word_of (loaded_by (e_entry bytes) bytes sorted) (e_entry bytes) ≡ None → ⊥) → HasImage bytes (loaded_by (e_entry bytes) bytes sorted)
        image_sorted some = record {
          accepted = accepted bytes (none_more 14 bytes Entry refl clear_text (λ none. some (sym (words_sorted (e_entry bytes) (e_entry bytes)) ∙ none)));
          entry = refl;
          loads = rw (filter-map bytes (load_headers bytes)) (IsPermutation-map (load_of bytes) _ _ same);
          rising = λ i j d before within.
              let e : ProgramHeader = record { p_type = 0; p_offset = 0; p_vaddr = 0; p_filesz = 0; p_memsz = 0; p_flags = 0 } in
              let inside : j < length sorted = rw length-map at within in
              let first = get_or-map (load_of bytes) sorted i e d (omega arith) in
              let second = get_or-map (load_of bytes) sorted j e d inside in
              rw (first, second) (omega (arith, follow_pairs 0 sorted apart i j e before inside, some_sorted i e (omega arith)));
        }
