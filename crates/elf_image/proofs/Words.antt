-- The text words of one load, step by step.
use Rattle.std.proofs.Common.{◌≡◌, ◌≢◌, ℕ, ◌+◌, ◌-◌, ◌%◌, ◌<◌, ◌≤◌, inl, inr, ◌==◌, Bool, true, false, not, ◌&&◌, if◌then◌else◌, List, [], ◌∷◌, ◌++◌, length, bit_and, None, Some, refl, arith, eqb-true, length-take, length-drop}
use Rattle.std.proofs.lemmas.Bool.{cases_lt}
use Rattle.elf_image.specs.declared.headers.ProgramHeader.{ProgramHeader}
use Rattle.elf_image.specs.Elf.{word}
use Rattle.elf_image.specs.Loaded.{Load, gives, word_in, text_below}
use Rattle.elf_image.specs.Image.{load_of}
use Rattle.elf_image.proofs.Text.{Words, text_empty, text_skips, text_step}
use Rattle.elf_image.proofs.Loads.{gives_true, true_gives, stands, words_in, words_outside}

aligned : (loads : List Load) (a : ℕ) → a % 4 ≡ 0 → words_in loads a ≡ word_in loads a
aligned loads a e = rw e refl

unaligned : (loads : List Load) (a : ℕ) → a % 4 ≢ 0 → words_in loads a ≡ None
unaligned loads a h = by_test (a % 4 == 0) refl where
  by_test : (b : Bool) → (a % 4 == 0) ≡ b → (if b then word_in loads a else None) ≡ None
  by_test true e = absurd (h (eqb-true (a % 4) 0 e))
  by_test false e = refl

module _ (file : List ℕ) (load : ProgramHeader) (given : load.p_offset + load.p_filesz ≤ length file) where
  abbrev pub own : Load
  own = load_of file load

  abbrev pub words : Words
  words = words_in (own ∷ [])

  own_length : length own.bytes ≡ load.p_filesz
  own_length = simp (length-take, length-drop) (omega arith)

  -- a load that may not be executed has none
  pub words_not_executable : (n : ℕ) → bit_and load.p_flags 1 ≡ 0 → text_below words n ≡ []
  words_not_executable n e = text_empty words n (λ a low. none a) where
    none : (a : ℕ) → words a ≡ None
    none a = by_test (a % 4 == 0) where
      by_test : (b : Bool) → (if b then word_in (own ∷ []) a else None) ≡ None
      by_test true = rw e refl
      by_test false = refl

  -- there is none before the first multiple of 4
  pub words_before : (pc : ℕ) → pc < load.p_vaddr + 4 → pc % 4 ≡ 0 → text_below words pc ≡ []
  words_before pc near even =
      text_empty words pc (λ a low.
      elim (cases_lt a load.p_vaddr) [
        | inl before ↦ words_outside own a (λ h. let first : load.p_vaddr ≤ a = h.low in omega arith)
        | inr behind ↦ unaligned (own ∷ []) a (λ h. omega arith)
      ])

  module _ (pc : ℕ) (even : pc % 4 ≡ 0) where
    -- there is one where four bytes are left
    pub word_here : load.p_vaddr ≤ pc → pc + 4 ≤ load.p_vaddr + load.p_filesz → bit_and load.p_flags 1 ≢ 0 → words pc ≡ Some (word (pc - load.p_vaddr) own.bytes)
    unfolding word
    word_here low high executable =
        let first : gives own pc ≡ true = true_gives own pc (record { low = low; high = omega (arith, own_length) }) in
        let last : gives own (pc + 3) ≡ true = true_gives own (pc + 3) (record { low = omega arith; high = omega (arith, own_length) }) in
        let may : not (bit_and load.p_flags 1 == 0) ≡ true = by_test (bit_and load.p_flags 1 == 0) refl in
        rw (aligned (own ∷ []) pc even, may, first, last) refl
      where
        by_test : (b : Bool) → (bit_and load.p_flags 1 == 0) ≡ b → not b ≡ true
        by_test true e = absurd (executable (eqb-true (bit_and load.p_flags 1) 0 e))
        by_test false e = refl

    pub words_step : load.p_vaddr ≤ pc → pc + 4 ≤ load.p_vaddr + load.p_filesz → bit_and load.p_flags 1 ≢ 0 → text_below words (pc + 4) ≡ text_below words pc ++ record { pc = pc; word = word (pc - load.p_vaddr) own.bytes } ∷ []
    words_step low high executable = text_step words pc _ (word_here low high executable) (λ a after before. unaligned (own ∷ []) a (λ h. omega arith))

    -- and none after that
    pub words_after : (n : ℕ) → pc ≤ n → load.p_vaddr + load.p_filesz < pc + 4 → text_below words n ≡ text_below words pc
    words_after n low high =
        let whole : pc + (n - pc) ≡ n = omega arith in
        let skips = text_skips words pc (n - pc) (λ a from before. none a from) in
        rw whole at skips
      where
        none : (a : ℕ) → pc ≤ a → words a ≡ None
        none a from = by_test (a % 4 == 0) where
          short : stands own a ≡ false
          short = without (not (bit_and load.p_flags 1 == 0)) (gives own a) (gives own (a + 3)) (λ e. let last = gives_true own (a + 3) e in omega (arith, last.high, own_length)) where
            without : (x y z : Bool) → (z ≡ true → ⊥) → (x && (y && z)) ≡ false
            without false y z h = refl
            without true false z h = refl
            without true true true h = absurd (h refl)
            without true true false h = refl

          by_test : (b : Bool) → (if b then word_in (own ∷ []) a else None) ≡ None
          by_test true = rw short refl
          by_test false = refl
