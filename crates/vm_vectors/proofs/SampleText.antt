-- The instructions of the sample program, where its text stands.
use Rattle.std.proofs.Common.{◌≡◌, ◌≢◌, ℕ, ◌+◌, ◌*◌, ◌^◌, ◌<◌, Bool, true, false, List, length, get_or, Option, Some, None, refl, sym, ap, ◌∙◌, arith}
use Rattle.std.proofs.lemmas.List.{length-map, get_or-map, get_or-replicate}
use Rattle.std.proofs.lemmas.List.Elements.{All-get_or}
use Rattle.rv_decode.specs.declared.instr.Instr.{Instr}
use Rattle.rv_decode.specs.declared.instr.Instr.TheVariants.{Fence, ShaBlock}
use Rattle.rv_decode.specs.Listing.{decode_of}
use Rattle.elf_image.specs.Loaded.{Loaded, word_of}
use Rattle.rv_run.specs.Machine.{Machine}
use Rattle.rv_run.specs.Step.{step_of, step_by, step_at_word, step_at_instr}
use Rattle.vm_vectors.specs.ElfFile.{text_image}
use Rattle.vm_vectors.specs.Sample.{AreWordsOf, sample_of, sample_base}
use Rattle.vm_vectors.proofs.TextPlaces.{word_at_place, word_has_place}

-- the instruction at a place
abbrev pub instr_at : ℕ → ℕ → Instr
instr_at number k = get_or (sample_of number) k Fence

module _ (number : ℕ) (words : List ℕ) (are : AreWordsOf (sample_of number) words) where
  abbrev pub loaded : Loaded
  loaded = text_image sample_base words

  -- the program has 25 words
  count : length words ≡ 25
  count = sym (length-map words decode_of) ∙ ap length are.decoded

  fit : (i : ℕ) → i < length words → get_or words i 0 < 2 ^ 32
  fit i low = All-get_or (λ word. word < 2 ^ 32) words i 0 low are.are_words

  decoded_at : (k : ℕ) → k < 25 → decode_of (get_or words k 0) ≡ Some (instr_at number k)
  decoded_at k low =
      let within : k < length words = omega (arith, count) in
      sym (get_or-map decode_of words k 0 None within) ∙ ap (λ (xs : List (Option Instr)). get_or xs k None) are.decoded
      ∙ get_or-map (λ (i : Instr). Some i) (sample_of number) k Fence None low

  -- a step is by the instruction at the pc
  pub fetched : (k : ℕ) → k < 25 → (m : Machine) → m.pc ≡ 0x1000 + 4 * k → step_of loaded m ≡ step_by m (instr_at number k)
  fetched k low m at =
      let within : k < length words = omega (arith, count) in
      ap (λ (pc : ℕ). step_at_word m (word_of loaded pc)) at
      ∙ ap (step_at_word m) (word_at_place sample_base words k within refl fit)
      ∙ ap (step_at_instr m) (decoded_at k low)

  some_word : (a b : ℕ) → Some a ≡ Some b → a ≡ b
  some_word a b e = cc

  some_instr : (a b : Instr) → Some a ≡ Some b → a ≡ b
  some_instr a b e = cc

  abbrev is_sha_block : Instr → Bool
  is_sha_block (ShaBlock state block) = true
  is_sha_block _ = false

  -- no text word is a SHA block
  pub no_sha_block : (pc word state block : ℕ) → word_of loaded pc ≡ Some word → decode_of word ≢ Some (ShaBlock state block)
  no_sha_block pc word state block found decodes =
      let at = word_has_place sample_base words pc word refl found in
      let low : at.0 < 25 = omega (arith, count, at.1) in
      let here : get_or words at.0 0 ≡ word =
      some_word _ _ (sym (word_at_place sample_base words at.0 at.1 refl fit) ∙ ap (word_of loaded) (sym at.2) ∙ found) in
      let instr : instr_at number at.0 ≡ ShaBlock state block = some_instr _ _ (sym (decoded_at at.0 low) ∙ ap decode_of here ∙ decodes) in
      let none : is_sha_block (instr_at number at.0) ≡ false =
      sym (get_or-map is_sha_block (sample_of number) at.0 Fence false low) ∙ get_or-replicate 25 at.0 false false low in
      let no : false ≡ true = sym none ∙ ap is_sha_block instr in
      absurd (cc)
