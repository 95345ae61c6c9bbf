-- Both machines start in the same state.
use Rattle.std.proofs.Common.{◌≡◌, ℕ, zero, suc, ◌+◌, ◌-◌, ◌*◌, ◌^◌, ◌<◌, ◌≤◌, List, [], ◌∷◌, All, take, drop, replicate, filter, inl, inr, refl, sym, ap, ◌∙◌, subst, arith}
use Rattle.std.specs.Prelude.{nat_lt, slice_index, slice_range}
use Rattle.std.proofs.lemmas.List.Sorted.{All-permutation}
use Rattle.std.proofs.lemmas.List.{length-replicate, drop-replicate, take-replicate}
use Rattle.elf_image.specs.Loaded.{Load, Loaded, byte_in, gives}
use Rattle.elf_image.specs.Elf.{word, e_entry, load_headers}
use Rattle.elf_image.specs.Image.{HasImage, in_file, load_of}
use Rattle.elf_image.proofs.Members.{In, in_map, in_from_filter, All_in}
use Rattle.vm_word.specs.Word.{limbs_of}
use Rattle.rv_run.specs.Machine.{start}
use Rattle.vm_isa.specs.Words.{IsBytes}
use Rattle.vm_transpile.specs.Start.{vm_start}
use Rattle.vm_transpile.specs.Same.{IsMachine, Same}
use Rattle.vm_transpile.specs.Refines.{StartsAreSame}
use Rattle.vm_transpile.proofs.Ranges.{all_from_in}
use Rattle.vm_transpile.proofs.Kept.{all_take, all_drop, byte_at, choice_byte}

-- ---- the image's bytes

HasBytes : Load → Type 0
HasBytes load = IsBytes load.bytes

file_bytes : (bytes : List ℕ) → IsBytes bytes → (load : Load) → In load (in_file bytes).loads → HasBytes load
unfolding HasBytes
file_bytes bytes h load at =
    let from = in_map (load_of bytes) load (load_headers bytes) at in
    let part : IsBytes (slice_range bytes from.0.p_offset (from.0.p_offset + from.0.p_filesz)) = all_take (from.0.p_offset + from.0.p_filesz - from.0.p_offset) (drop from.0.p_offset bytes) (all_drop from.0.p_offset bytes h) in
    subst (λ (l : Load). IsBytes l.bytes) (sym from.2) part

image_bytes : (bytes : List ℕ) (loaded : Loaded) → IsBytes bytes → HasImage bytes loaded → (load : Load) → In load loaded.loads → HasBytes load
image_bytes bytes loaded h image load at =
    let file : List Load = filter (λ (l : Load). nat_lt 0 l.size) (in_file bytes).loads in
    let all : All HasBytes file = all_from_in HasBytes file (λ l k. file_bytes bytes h l (in_from_filter (λ (l : Load). nat_lt 0 l.size) l (in_file bytes).loads k)) in
    All_in HasBytes loaded.loads (All-permutation HasBytes file loaded.loads image.loads all) load at

byte_small : (loads : List Load) → ((load : Load) → In load loads → HasBytes load) → (address : ℕ) → byte_in loads address < 256
unfolding HasBytes
byte_small [] h address = omega arith
byte_small (load ∷ rest) h address =
    choice_byte (gives load address) (slice_index load.bytes (address - load.address)) (byte_in rest address) (byte_at load.bytes (address - load.address) (h load (inl refl)))
    (byte_small rest (λ l k. h l (inr k)) address)

-- ---- zeros

zero_at : (n r : ℕ) → slice_index (replicate n 0) r ≡ 0
zero_at zero r = refl
zero_at (suc n) zero = refl
zero_at (suc n) (suc r) = zero_at n r

pub zero_bytes : (n : ℕ) → IsBytes (replicate n 0)
zero_bytes zero = tt
zero_bytes (suc n) = (omega arith, zero_bytes n)

entry_small : (bytes : List ℕ) → IsBytes bytes → e_entry bytes < 2 ^ 32
unfolding word
entry_small bytes h =
    let front = all_drop 24 bytes h in
    omega (arith, byte_at (drop 24 bytes) 0 front, byte_at (drop 24 bytes) 1 front, byte_at (drop 24 bytes) 2 front, byte_at (drop 24 bytes) 3 front)

start_machine : (bytes hints : List ℕ) (loaded : Loaded) → IsBytes bytes → IsBytes hints → HasImage bytes loaded → IsMachine (start loaded hints)
start_machine bytes hints loaded h k image =
    let entry : loaded.entry ≡ e_entry bytes = image.entry in
    let small = entry_small bytes h in
    record {
      pc = omega (arith, entry, small);
      count = length-replicate {A = ℕ} 32 0;
      words = λ r. let none = zero_at 32 r in omega (arith, none);
      x0 = refl;
      bytes = byte_small loaded.loads (image_bytes bytes loaded h image);
      public_count = length-replicate {A = ℕ} 64 0;
      public_bytes = zero_bytes 64;
      hints = k;
    }

start_same : (hints : List ℕ) (loaded : Loaded) → Same (start loaded hints) (vm_start loaded hints)
start_same hints loaded = record {
  pc = refl;
  registers = λ r low. sym (ap limbs_of (zero_at 32 r));
  memory = λ q even low. let first : q + 0 ≡ q = omega arith in rw first refl;
  public_bytes = λ j low. let many : 4 ≤ 64 - 4 * j = omega arith in sym (ap (take 4) (drop-replicate (4 * j) 64 0) ∙ take-replicate 4 (64 - 4 * j) 0 many);
  hints = refl;
}

pub starts_are_same : StartsAreSame
starts_are_same hints loaded k file = (start_machine file.bytes hints loaded file.are_bytes k file.has_image, start_same hints loaded)
