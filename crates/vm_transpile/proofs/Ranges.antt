-- The rows of a file's program are in range.
use Rattle.std.proofs.Common.{◌≡◌, ℕ, ◌+◌, ◌^◌, ◌<◌, ◌≤◌, List, All, length, get_or, Option, None, Some, filter, refl, sym, ap, subst, arith, ⊎_elim, Any}
use Rattle.std.specs.Prelude.{◌&&◌, IfSome, nat_lt}
use Rattle.std.proofs.lemmas.List.Sorted.{All-permutation}
use Rattle.std.proofs.lemmas.Bool.{and_parts, cases_lt}
use Rattle.elf_image.specs.declared.ImageError.TheVariants.{SegmentSize, Range, Entry}
use Rattle.elf_image.specs.Loaded.{Load, Loaded, word_in, word_of, gives}
use Rattle.elf_image.specs.Elf.{e_entry, load_headers}
use Rattle.elf_image.specs.Image.{HasImage, in_file, load_of}
use Rattle.elf_image.proofs.Members.{In, in_at, in_map, in_from_filter, All_in, place_in}
use Rattle.elf_image.proofs.Loads.{word_stands, gives_true, bytes_within}
use Rattle.rv_decode.specs.declared.instr.Instr.{Instr}
use Rattle.rv_decode.specs.Ranges.{HasFieldsInRange}
use Rattle.rv_decode.specs.Listing.{decode_of}
use Rattle.rv_decode.proofs.ListingLemmas.{IfSome-decode_of}
use Rattle.vm_isa.specs.Instr.{InRange}
use Rattle.vm_transpile.specs.Program.{program_of}
use Rattle.vm_transpile.specs.Laws.{RowsAreInRange}
use Rattle.vm_transpile.proofs.Forms.{row_of-in_range}
use Rattle.vm_transpile.proofs.Texts.{row_text, row_at-decoded, word_aligned}

any_in : {X : Type 0} (P : X → Type 0) (x : X) (xs : List X) → In x xs → P x → Any P xs
any_in P x xs h p = let at = place_in x xs h in (at.0, x, at.1, at.2 x, p)

-- a load whose bytes end by the memory's end
Low : Load → Type 0
Low load = load.address + length load.bytes ≤ 2 ^ 29

file_low : (bytes : List ℕ) (loaded : Loaded) → HasImage bytes loaded → (load : Load) → In load (in_file bytes).loads → Low load
unfolding Low
file_low bytes loaded h load at =
    let from = in_map (load_of bytes) load (load_headers bytes) at in
    let within : length (load_of bytes from.0).bytes ≤ from.0.p_filesz = bytes_within bytes from.0 in
    let address : load.address ≡ from.0.p_vaddr = ap (λ (l : Load). l.address) from.2 in
    let size : length load.bytes ≡ length (load_of bytes from.0).bytes = ap (λ (l : Load). length l.bytes) from.2 in
    ⊎_elim (λ (over : 2 ^ 29 < from.0.p_vaddr + from.0.p_memsz). absurd (h.accepted Range (any_in (λ l. 2 ^ 29 < l.p_vaddr + l.p_memsz) from.0 (load_headers bytes) from.1 over)))
    (λ (top : from.0.p_vaddr + from.0.p_memsz ≤ 2 ^ 29).
    ⊎_elim (λ (short : from.0.p_memsz < from.0.p_filesz). absurd (h.accepted SegmentSize (any_in (λ l. l.p_memsz < l.p_filesz) from.0 (load_headers bytes) from.1 short)))
    (λ (fits : from.0.p_filesz ≤ from.0.p_memsz). omega arith)
    (cases_lt from.0.p_memsz from.0.p_filesz))
    (cases_lt (2 ^ 29) (from.0.p_vaddr + from.0.p_memsz))

pub all_from_in : {X : Type 0} (P : X → Type 0) (xs : List X) → ((x : X) → In x xs → P x) → All P xs
all_from_in P xs h = λ k d low. h (get_or xs k d) (in_at xs k d low)

image_low : (bytes : List ℕ) (loaded : Loaded) → HasImage bytes loaded → (load : Load) → In load loaded.loads → Low load
image_low bytes loaded h load at =
    let low : All Low (filter (λ (l : Load). nat_lt 0 l.size) (in_file bytes).loads) =
    all_from_in Low (filter (λ (l : Load). nat_lt 0 l.size) (in_file bytes).loads) (λ l k. file_low bytes loaded h l (in_from_filter (λ (l : Load). nat_lt 0 l.size) l (in_file bytes).loads k)) in
    All_in Low loaded.loads (All-permutation Low (filter (λ (l : Load). nat_lt 0 l.size) (in_file bytes).loads) loaded.loads h.loads low) load at

-- a text word stands in a load
low_in : (loads : List Load) (pc x : ℕ) → ((load : Load) → In load loads → Low load) → word_in loads pc ≡ Some x → pc < 2 ^ 29
unfolding Low
low_in loads pc x lows e =
    let at = word_stands loads pc x e in
    let low : at.0.address + length at.0.bytes ≤ 2 ^ 29 = lows at.0 at.1 in
    let both = and_parts at.0.executable (gives at.0 pc && gives at.0 (pc + 3)) at.2 in
    let ends = gives_true at.0 (pc + 3) (and_parts (gives at.0 pc) (gives at.0 (pc + 3)) both.1).1 in
    omega (arith, low, ends.high)

pub word_low : (bytes : List ℕ) (loaded : Loaded) (pc x : ℕ) → HasImage bytes loaded → word_in loaded.loads pc ≡ Some x → pc < 2 ^ 29
word_low bytes loaded pc x h e = low_in loaded.loads pc x (image_low bytes loaded h) e

-- and one stands at the entry
entry_by : (bytes : List ℕ) (loaded : Loaded) → HasImage bytes loaded → (word : Option ℕ) → word_of (in_file bytes) (e_entry bytes) ≡ word → e_entry bytes < 2 ^ 29
entry_by bytes loaded h None e = absurd (h.accepted Entry e)
entry_by bytes loaded h (Some x) e = low_in (in_file bytes).loads (e_entry bytes) x (file_low bytes loaded h) (word_aligned (in_file bytes) (e_entry bytes) x e).1

pub entry_low : (bytes : List ℕ) (loaded : Loaded) → HasImage bytes loaded → loaded.entry < 2 ^ 29
entry_low bytes loaded h = subst (λ (n : ℕ). n < 2 ^ 29) (sym h.entry) (entry_by bytes loaded h (word_of (in_file bytes) (e_entry bytes)) refl)

pub fields_in_range : (word : ℕ) (o : Option Instr) (instr : Instr) → IfSome o HasFieldsInRange → o ≡ Some instr → HasFieldsInRange instr
fields_in_range word None instr h e = cc
fields_in_range word (Some other) instr h e = let same : other ≡ instr = cc in subst HasFieldsInRange same h

pub rows_in_range : RowsAreInRange
rows_in_range bytes loaded h =
    all_from_in InRange (program_of loaded) (λ row at.
    let text = row_text loaded row at in
    let word = word_aligned loaded text.0.pc text.0.word text.1 in
    let decoded = row_at-decoded text.0 row text.2 in
    subst InRange decoded.2 (row_of-in_range text.0.pc word.0 (word_low bytes loaded text.0.pc text.0.word h word.1) decoded.0
    (fields_in_range text.0.word (decode_of text.0.word) decoded.0 (IfSome-decode_of text.0.word) decoded.1)))
