-- Opening and reading one file.
use Rattle.std.proofs.Common.{◌≡◌, ◌≢◌, ℕ, ◌<◌, ◌≤◌, List, [], ◌∷◌, length, refl, ap, ◌∙◌, arith, IfSome, Err, subst, sym}
use Rattle.std.specs.declared.option.Option.{Option}
use Rattle.vm_host.specs.declared.Slot.{Slot}
use Rattle.vm_host.specs.declared.ReadError.TheVariants.{TooLong}
use Rattle.vm_host.specs.Names.{place_of}
use Rattle.vm_host.specs.State.{HostState, Input}
use Rattle.vm_host.specs.Calls.{KeepsOther, Rose}
use Rattle.vm_host.specs.ReadUpTo.{Took, ReadsUpTo}
use Rattle.elf_image.specs.declared.ImageError.{ImageError}
use Rattle.elf_image.specs.declared.ImageError.TheVariants.{Short, Magic, Class, Order, FileType, Machine, Compressed, HeaderSize, HeaderTable, SegmentSize, Truncated, Range, Overlap, TextSize, Entry, OutOfMemory}
use Rattle.elf_image.specs.Image.{IsRefused}
use Rattle.vm_host.specs.declared.Slot.TheVariants.{Elf}
use Rattle.vm_tool.specs.Files.{MAX_FILE, RefusesElf, refused, halt_of_image}
use Rattle.vm_tool.specs.declared.answer.Answer.{Answer}
use Rattle.vm_tool.specs.declared.answer.Halt.{Halt}
use Rattle.vm_tool.specs.declared.answer.Halt.TheVariants.{Found, Host}
use Rattle.vm_tool.specs.ReadFile.{Quiet, IsOpened, ReadWhole, ReadNone, HaltsAt}
use Rattle.vm_tool.proofs.Quiet.{long_content}

-- what is known after an input was opened and read from
pub record OpenedAndRead (slot : Slot) (name : List ℕ) (s u : HostState) : Type 0 where
  pub other : KeepsOther slot s u
  pub quiet : Quiet s u ((place_of slot, name) ∷ [])

-- and then reads
pub opened_then_took : (slot : Slot) (name bytes : List ℕ) (s t u : HostState) → IsOpened slot name s t → Took slot t u bytes → OpenedAndRead slot name s u
opened_then_took slot name bytes s t u o a = record {
  other = a.other ∙ o.other;
  quiet = record {
    later = omega (arith, o.quiet.later, a.later);
    named = ap (λ (y : HostState). y.named) a.frame ∙ o.quiet.named;
    frame = a.frame ∙ ap (λ (y : HostState). record y { faults = u.faults; input = u.input }) o.quiet.frame
        ∙ ap (λ n. record s { faults = u.faults; input = u.input; named = n }) (sym (ap (λ (y : HostState). y.named) a.frame));
  };
}

-- a file of which nothing is made after it was opened
pub opened_for_nothing : (slot : Slot) (name bytes : List ℕ) (s t u : HostState) → IsOpened slot name s t → Took slot t u bytes → ReadNone slot name s u
opened_for_nothing slot name bytes s t u o a = let both = opened_then_took slot name bytes s t u o a in record { count = 1; other = both.other; quiet = both.quiet }

-- a file that can't be opened is refused with no answer
pub no_refusal : (Refuses : List ℕ → Answer → Type 0) (slot : Slot) (name : List ℕ) (s t : HostState) (halt : Halt) → HaltsAt (λ _ _. ⊥) slot name s t halt → HaltsAt Refuses slot name s t halt
no_refusal Refuses slot name s t (Found found) h = absurd (h.2)
no_refusal Refuses slot name s t (Host error) h = h

-- a failure after a file was opened
pub rose_after : (s t u : ℕ) → s ≤ t → Rose t u → Rose s u
rose_after s t u later rose = omega (arith, rose, later)

-- a file that is too long
pub file_too_long : {V : Type 0} (items : V → List ℕ) (slot : Slot) (name : List ℕ) (s t u : HostState) → IsOpened slot name s t → ReadsUpTo items slot MAX_FILE t u (Err TooLong) → (bytes : List ℕ) × ReadWhole slot name s u bytes × (MAX_FILE < length bytes)
file_too_long items slot name s t u o r =
    let rest : (t.input slot).rest ≡ s.content slot name = ap (λ (i : Input). i.rest) o.input in
    let P : Option (List ℕ) → Type 0 = λ told. IfSome told (λ all. MAX_FILE < length all) in
    let bytes = long_content (s.content slot name) MAX_FILE (subst P rest (r.too_long refl)) in
    let both = opened_then_took slot name r.took.0 s t u o r.took.1 in
    (bytes.0, record { told = bytes.1; other = both.other; quiet = both.quiet }, bytes.2)

-- a file that was read and has no image, or for which memory was refused
pub image_halts : (name bytes : List ℕ) (old new : HostState) (error : ImageError) → ReadWhole Elf name old new bytes → length bytes ≤ MAX_FILE → (error ≢ OutOfMemory → IsRefused bytes error) → HaltsAt RefusesElf Elf name old new (halt_of_image error)
image_halts name bytes old new Short read short why = (bytes, read, refused Short short (why (λ e. cc (e))) refl)
image_halts name bytes old new Magic read short why = (bytes, read, refused Magic short (why (λ e. cc (e))) refl)
image_halts name bytes old new Class read short why = (bytes, read, refused Class short (why (λ e. cc (e))) refl)
image_halts name bytes old new Order read short why = (bytes, read, refused Order short (why (λ e. cc (e))) refl)
image_halts name bytes old new FileType read short why = (bytes, read, refused FileType short (why (λ e. cc (e))) refl)
image_halts name bytes old new Machine read short why = (bytes, read, refused Machine short (why (λ e. cc (e))) refl)
image_halts name bytes old new Compressed read short why = (bytes, read, refused Compressed short (why (λ e. cc (e))) refl)
image_halts name bytes old new HeaderSize read short why = (bytes, read, refused HeaderSize short (why (λ e. cc (e))) refl)
image_halts name bytes old new HeaderTable read short why = (bytes, read, refused HeaderTable short (why (λ e. cc (e))) refl)
image_halts name bytes old new SegmentSize read short why = (bytes, read, refused SegmentSize short (why (λ e. cc (e))) refl)
image_halts name bytes old new Truncated read short why = (bytes, read, refused Truncated short (why (λ e. cc (e))) refl)
image_halts name bytes old new Range read short why = (bytes, read, refused Range short (why (λ e. cc (e))) refl)
image_halts name bytes old new Overlap read short why = (bytes, read, refused Overlap short (why (λ e. cc (e))) refl)
image_halts name bytes old new TextSize read short why = (bytes, read, refused TextSize short (why (λ e. cc (e))) refl)
image_halts name bytes old new Entry read short why = (bytes, read, refused Entry short (why (λ e. cc (e))) refl)
image_halts name bytes old new OutOfMemory read short why = (record { count = 1; other = read.other; quiet = read.quiet }, λ failed. absurd (cc (failed)))
