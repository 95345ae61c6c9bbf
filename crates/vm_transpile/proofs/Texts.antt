-- The rows of a text, and which words they are of.
use Rattle.std.proofs.Common.{◌≡◌, ℕ, zero, suc, ◌+◌, ◌%◌, ◌^◌, ◌<◌, ◌≤◌, ◌==◌, Bool, true, false, List, [], ◌∷◌, ◌++◌, cond, take, slice_get, add-one, Option, None, Some, refl, sym, ◌∙◌, ap, inl, inr, subst, arith}
use Rattle.std.specs.List.{filter_map, cons_option, AllByRecursion}
use Rattle.std.specs.Option.{option_and_then, option_map}
use Rattle.std.proofs.lemmas.Bool.{eqb-true}
use Rattle.std.proofs.lemmas.List.{append-nil}
use Rattle.std.proofs.lemmas.List.Elements.{filter_map-append}
use Rattle.elf_image.specs.declared.TextWord.{TextWord}
use Rattle.elf_image.specs.Loaded.{Loaded, word_in, word_of, text_at, text_below}
use Rattle.elf_image.proofs.Members.{In, in_from_Contains, Contains_from_in}
use Rattle.elf_image.proofs.Text.{Words, text_stands, text_complete}
use Rattle.elf_image.proofs.Images.{image_is_one}
use Rattle.rv_decode.specs.declared.instr.Instr.{Instr}
use Rattle.rv_decode.specs.declared.instr.Instr.TheVariants.{Lui, Auipc, AluImm, Alu, MulDiv}
use Rattle.rv_decode.specs.Listing.{decode_of}
use Rattle.vm_isa.specs.declared.instr.VmInstr.{VmInstr}
use Rattle.vm_transpile.specs.Rows.{row_of, nop_row}
use Rattle.vm_transpile.specs.Order.{RisesFrom}
use Rattle.vm_transpile.specs.Program.{row_at, program_of}
use Rattle.vm_transpile.specs.Laws.{RowsRise, RowsAreOfTheText, TheTextHasItsRows, ProgramIsOne}
use Rattle.vm_transpile.proofs.RowOrder.{rises_push}

module _ {X Y : Type 0} (f : X → Option Y) where
  in_first : (x : X) (y : Y) (xs : List X) (o : Option Y) → f x ≡ o → In y (cons_option o (filter_map f xs))
      → (In y (filter_map f xs) → (z : X) × In z xs × (f z ≡ Some y)) → (z : X) × In z (x ∷ xs) × (f z ≡ Some y)
  in_first x y xs None e h rest = let r = rest h in (r.0, inr r.1, r.2)
  in_first x y xs (Some first) e (inl same) rest = (x, inl refl, e ∙ ap Some (sym same))
  in_first x y xs (Some first) e (inr h) rest = let r = rest h in (r.0, inr r.1, r.2)

  -- what is given comes of an element
  pub in_filter_map : (y : Y) (xs : List X) → In y (filter_map f xs) → (x : X) × In x xs × (f x ≡ Some y)
  in_filter_map y [] h = absurd h
  in_filter_map y (x ∷ xs) h = in_first x y xs (f x) refl h (in_filter_map y xs)

  in_more : (y : Y) (ys : List Y) (o : Option Y) → In y ys → In y (cons_option o ys)
  in_more y ys None h = h
  in_more y ys (Some first) h = inr h

  -- what an element gives is given
  pub filter_map_in : (x : X) (y : Y) (xs : List X) → In x xs → f x ≡ Some y → In y (filter_map f xs)
  filter_map_in x y [] h e = absurd h
  filter_map_in x y (z ∷ xs) (inl same) e =
      let given : f z ≡ Some y = ap f (sym same) ∙ e in
      rw given (inl refl)
  filter_map_in x y (z ∷ xs) (inr h) e = in_more y (filter_map f xs) (f z) (filter_map_in x y xs h e)

  cons_option-append : (o : Option Y) (ys zs : List Y) → cons_option o (ys ++ zs) ≡ cons_option o ys ++ zs
  cons_option-append None ys zs = refl
  cons_option-append (Some y) ys zs = refl

  taken : (xs : List X) (k : ℕ) → filter_map f (take (suc k) xs) ≡ filter_map f (take k xs) ++ cons_option (option_and_then f (slice_get xs k)) []
  taken [] zero = refl
  taken [] (suc k) = refl
  taken (x ∷ xs) zero = refl
  taken (x ∷ xs) (suc k) = rw (taken xs k) (cons_option-append (f x) (filter_map f (take k xs)) (cons_option (option_and_then f (slice_get xs k)) []))

  -- what the elements up to a place give, and the next one
  pub filter_map-take : (xs : List X) (k : ℕ) → filter_map f (take (k + 1) xs) ≡ filter_map f (take k xs) ++ cons_option (option_and_then f (slice_get xs k)) []
  filter_map-take xs k = rw add-one (taken xs k)

all_in : {X : Type 0} (P : X → Type 0) (xs : List X) → ((x : X) → In x xs → P x) → AllByRecursion P xs
all_in P [] h = tt
all_in P (x ∷ xs) h = (h x (inl refl), all_in P xs (λ y k. h y (inr k)))

-- a row has the pc of its instruction

or_nop-pc : (row : VmInstr) (b : Bool) → (cond b (nop_row row.pc) row).pc ≡ row.pc
or_nop-pc row true = refl
or_nop-pc row false = refl

row_of-pc : (pc : ℕ) (instr : Instr) → (row_of pc instr).pc ≡ pc
row_of-pc pc (Lui rd imm) = or_nop-pc _ (rd == 0)
row_of-pc pc (Auipc rd imm) = or_nop-pc _ (rd == 0)
row_of-pc pc (AluImm op rd rs1 imm) = or_nop-pc _ (rd == 0)
row_of-pc pc (Alu op rd rs1 rs2) = or_nop-pc _ (rd == 0)
row_of-pc pc (MulDiv op rd rs1 rs2) = or_nop-pc _ (rd == 0)
row_of-pc pc _ = refl

decoded_by : (pc : ℕ) (o : Option Instr) (row : VmInstr) → option_map (row_of pc) o ≡ Some row → (instr : Instr) × (o ≡ Some instr) × (row_of pc instr ≡ row)
decoded_by pc None row e = cc
decoded_by pc (Some instr) row e = (instr, refl, cc)

-- the instruction of a word that has a row
pub row_at-decoded : (text : TextWord) (row : VmInstr) → row_at text ≡ Some row → (instr : Instr) × (decode_of text.word ≡ Some instr) × (row_of text.pc instr ≡ row)
row_at-decoded text row e = decoded_by text.pc (decode_of text.word) row e

pub row_at-pc : (text : TextWord) (row : VmInstr) → row_at text ≡ Some row → row.pc ≡ text.pc
row_at-pc text row e =
    let d = row_at-decoded text row e in
    ap (λ (r : VmInstr). r.pc) (sym d.2) ∙ row_of-pc text.pc d.0

aligned_by : (loaded : Loaded) (pc x : ℕ) (b : Bool) → (pc % 4 == 0) ≡ b → cond b (word_in loaded.loads pc) None ≡ Some x → (pc % 4 ≡ 0) × (word_in loaded.loads pc ≡ Some x)
aligned_by loaded pc x true e h = (eqb-true (pc % 4) 0 e, h)
aligned_by loaded pc x false e h = cc

-- a text word stands at a multiple of 4
pub word_aligned : (loaded : Loaded) (pc x : ℕ) → word_of loaded pc ≡ Some x → (pc % 4 ≡ 0) × (word_in loaded.loads pc ≡ Some x)
word_aligned loaded pc x h = aligned_by loaded pc x (pc % 4 == 0) refl h

Aligned : Words → Type 0
Aligned w = (pc x : ℕ) → w pc ≡ Some x → pc % 4 ≡ 0

-- the rows of the text below an address end 4 before each multiple of 4 from there on
rows_before : (w : Words) → Aligned w → (n : ℕ) → n % 4 ≡ 0 → AllByRecursion (λ row. row.pc + 4 ≤ n) (filter_map row_at (text_below w n))
unfolding Aligned
rows_before w aligned n even =
    all_in (λ row. row.pc + 4 ≤ n) (filter_map row_at (text_below w n)) (λ row h.
    let from = in_filter_map row_at row (text_below w n) h in
    let stand = text_stands w n from.0 from.1 in
    let at : row.pc ≡ from.0.pc = row_at-pc from.0 row from.2 in
    let four : from.0.pc % 4 ≡ 0 = aligned from.0.pc from.0.word stand.1 in
    let low : from.0.pc < n = stand.0 in
    omega arith)

-- the rows of one address more

RisesBelow : Words → ℕ → Type 0
RisesBelow w n = RisesFrom 0 (filter_map row_at (text_below w n))

rises_by_row : (w : Words) → Aligned w → (n x : ℕ) → n < 2 ^ 32 → w n ≡ Some x → RisesBelow w n → (o : Option VmInstr) → row_at (record { pc = n; word = x }) ≡ o
    → RisesFrom 0 (filter_map row_at (text_below w n) ++ cons_option o [])
unfolding Aligned RisesBelow
rises_by_row w aligned n x low e so_far None none = rw append-nil so_far
rises_by_row w aligned n x low e so_far (Some row) some =
    let at : row.pc ≡ n = row_at-pc (record { pc = n; word = x }) row some in
    rises_push 0 (filter_map row_at (text_below w n)) row so_far (omega arith) (omega arith)
    (subst (λ m. AllByRecursion (λ r. r.pc + 4 ≤ m) (filter_map row_at (text_below w n))) (sym at) (rows_before w aligned n (aligned n x e)))

rises_by_word : (w : Words) → Aligned w → (n : ℕ) → n < 2 ^ 32 → RisesBelow w n → (o : Option ℕ) → w n ≡ o → RisesFrom 0 (filter_map row_at (text_below w n ++ text_at n o))
unfolding RisesBelow
rises_by_word w aligned n low so_far None e = rw append-nil so_far
rises_by_word w aligned n low so_far (Some x) e =
    rw (filter_map-append row_at (text_below w n) (record { pc = n; word = x } ∷ []))
    (rises_by_row w aligned n x low e so_far (row_at (record { pc = n; word = x })) refl)

rows_rise : (w : Words) → Aligned w → (n : ℕ) → n ≤ 2 ^ 32 → RisesBelow w n
unfolding text_below RisesBelow
rows_rise w aligned zero low = tt
rows_rise w aligned (suc n) low = rises_by_word w aligned n (omega arith) (rows_rise w aligned n (omega arith)) (w n) refl

pub program_rises : RowsRise
unfolding Aligned RisesBelow
program_rises loaded = rows_rise (word_of loaded) (λ pc x h. (word_aligned loaded pc x h).0) (2 ^ 32) (omega arith)

-- the text word of a row
pub row_text : (loaded : Loaded) (row : VmInstr) → In row (program_of loaded) → (text : TextWord) × (word_of loaded text.pc ≡ Some text.word) × (row_at text ≡ Some row)
row_text loaded row h =
    let from = in_filter_map row_at row (text_below (word_of loaded) (2 ^ 32)) h in
    let stand = text_stands (word_of loaded) (2 ^ 32) from.0 from.1 in
    (from.0, stand.1, from.2)

pub rows_of_text : RowsAreOfTheText
rows_of_text loaded row h =
    let text = row_text loaded row (in_from_Contains row (program_of loaded) h) in
    let at : row.pc ≡ text.0.pc = row_at-pc text.0 row text.2 in (
      text.0.word,
      subst (λ (pc : ℕ). word_of loaded pc ≡ Some text.0.word) (sym at) text.1,
      subst (λ (pc : ℕ). row_at (record { pc = pc; word = text.0.word }) ≡ Some row) (sym at) text.2,
    )

pub text_has_rows : TheTextHasItsRows
text_has_rows loaded pc word row low is has =
    let at : In (record { pc = pc; word = word }) (text_below (word_of loaded) (2 ^ 32)) = text_complete (word_of loaded) (2 ^ 32) pc word low is in
    Contains_from_in row (program_of loaded) (filter_map_in row_at (record { pc = pc; word = word }) row (text_below (word_of loaded) (2 ^ 32)) at has)

pub one_program : ProgramIsOne
one_program bytes a b x y = ap program_of (image_is_one bytes a b x y)

-- the rows of one text word more
pub row_more : (old new : List VmInstr) (text : List TextWord) (place : ℕ) (row : Option VmInstr) → old ≡ filter_map row_at (take place text)
    → row ≡ option_and_then row_at (slice_get text place) → new ≡ old ++ cons_option row [] → new ≡ filter_map row_at (take (place + 1) text)
row_more old new text place row before is more =
    more ∙ ap (λ (xs : List VmInstr). xs ++ cons_option row []) before ∙ ap (λ (o : Option VmInstr). filter_map row_at (take place text) ++ cons_option o []) is ∙ sym (filter_map-take row_at text place)
