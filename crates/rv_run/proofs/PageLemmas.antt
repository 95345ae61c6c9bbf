-- Bytes that are stored to a page.
use Rattle.std.proofs.Common.{◌≡◌, ℕ, zero, suc, [], ◌∷◌, max, min, slice_get, add-one, length-drop, ◌+◌, ◌-◌, ◌/◌, ◌%◌, ◌<◌, ◌≤◌, true, false, ◌&&◌, List, ◌++◌, length, get_or, set, take, drop, Some, None, refl, sym, ap, ◌∙◌, arith, length-take, ⊎_elim}
use Rattle.std.specs.Prelude.{nat_le, nat_lt, Option, if◌then◌else◌}
use Rattle.std.proofs.lemmas.Bool.{cases_lt, cases_eq, le-ltb, le-leb, lt-ltb}
use Rattle.std.proofs.lemmas.Bool.Decides.{nat_tests}
use Rattle.std.proofs.lemmas.List.{get_or_append_left, get_or-append_right, get_or-set_same, get_or-set_other, get_or-take, get_or-drop}
use borrow.Rule.Slice.PartMut.{put_mid}
use Rattle.elf_image.specs.declared.LoadPart.{LoadPart}
use Rattle.elf_image.specs.Copies.{given_or}
use Rattle.elf_image.specs.Loaded.{Load, IsPart, byte_in}
use Rattle.elf_image.proofs.CopyLemmas.{put_above, put_below, put_inside}
use Rattle.rv_run.specs.declared.memory.Page.{Page}
use Rattle.rv_run.specs.Memory.{with_bytes}
use Rattle.rv_run.specs.Pages.{byte_over, page_of}

-- a byte of a page after bytes were put into it
byte_put : (page : List ℕ) (address a : ℕ) (bytes : List ℕ) → length page ≡ 4096 → address % 4096 + length bytes ≤ 4096 → a / 4096 ≡ address / 4096 → get_or (put_mid (address % 4096) (length bytes) page bytes) (a % 4096) 0 ≡ with_bytes (λ x. get_or page (x % 4096) 0) address bytes a
byte_put page address a bytes size within same =
    ⊎_elim
    (λ (low : a < address).
    let off : nat_le address a ≡ false = grind (arith, nat_tests) in
    put_below (address % 4096) (length bytes) page bytes (a % 4096) (omega arith) (omega arith) ∙ rw off refl)
    (λ (high : address ≤ a).
    let on : nat_le address a ≡ true = le-leb address a high in
    ⊎_elim
    (λ (inside : a < address + length bytes).
    let also : nat_lt a (address + length bytes) ≡ true = lt-ltb a (address + length bytes) inside in
    let place : a % 4096 - address % 4096 ≡ a - address = omega arith in
    put_inside (address % 4096) (length bytes) page bytes (a % 4096) (omega arith) (omega arith) (omega arith)
    ∙ ap (λ i. get_or bytes i 0) place ∙ rw (on, also) refl)
    (λ (above : address + length bytes ≤ a).
    let off : nat_lt a (address + length bytes) ≡ false = le-ltb a (address + length bytes) above in
    put_above (address % 4096) (length bytes) page bytes (a % 4096) (omega arith) refl (omega arith) ∙ rw (on, off) refl)
    (cases_lt a (address + length bytes)))
    (cases_lt a address)

-- an address on another page is not among the bytes
not_on_page : (address a : ℕ) (bytes : List ℕ) → address % 4096 + length bytes ≤ 4096 → (a / 4096 ≡ address / 4096 → ⊥) → (nat_le address a && nat_lt a (address + length bytes)) ≡ false
not_on_page address a bytes within other =
    ⊎_elim
    (λ (low : a < address). let off : nat_le address a ≡ false = grind (arith, nat_tests) in rw off refl)
    (λ (high : address ≤ a).
    let above : address + length bytes ≤ a = omega arith in
    rw (le-leb address a high, le-ltb a (address + length bytes) above) refl)
    (cases_lt a address)

-- a byte after bytes were stored to the page that it may be in
pub byte_stored : (pages : List (Option Page)) (under : ℕ → ℕ) (page new : Page) (address : ℕ) (bytes : List ℕ) → page_of pages address ≡ Some page → address / 4096 < length pages → length page.bytes.value ≡ 4096 → address % 4096 + length bytes ≤ 4096 → new.bytes.value ≡ put_mid (address % 4096) (length bytes) page.bytes.value bytes → (a : ℕ) → byte_over (page_of (set pages (address / 4096) (Some new)) a) under a ≡ with_bytes (λ x. byte_over (page_of pages x) under x) address bytes a
byte_stored pages under page new address bytes owned listed size within is a =
    ⊎_elim
    (λ (same : a / 4096 ≡ address / 4096).
    let here : page_of pages a ≡ Some page = ap (λ i. get_or pages i None) same ∙ owned in
    let now : page_of (set pages (address / 4096) (Some new)) a ≡ Some new =
    ap (λ i. get_or (set pages (address / 4096) (Some new)) i None) same ∙ get_or-set_same pages (address / 4096) (Some new) None listed in
    let old_byte : byte_over (page_of pages a) under a ≡ get_or page.bytes.value (a % 4096) 0 = rw here refl in
    let new_byte : byte_over (page_of (set pages (address / 4096) (Some new)) a) under a ≡ get_or new.bytes.value (a % 4096) 0 = rw now refl in
    new_byte ∙ ap (λ xs. get_or xs (a % 4096) 0) is ∙ byte_put page.bytes.value address a bytes size within same
    ∙ ap (λ b. (if nat_le address a && nat_lt a (address + length bytes) then get_or bytes (a - address) 0 else b)) (sym old_byte))
    (λ (other : a / 4096 ≡ address / 4096 → ⊥).
    let unchanged : page_of (set pages (address / 4096) (Some new)) a ≡ page_of pages a = get_or-set_other pages (address / 4096) (a / 4096) (Some new) None other in
    let outside : (nat_le address a && nat_lt a (address + length bytes)) ≡ false = not_on_page address a bytes within other in
    rw (unchanged, outside) refl)
    (cases_eq (a / 4096) (address / 4096))

-- ---- the bytes that the image has in a page

-- a part that stands for a load
pub part_of : (load : Option Load) (part : LoadPart) → IsPart load (Some part) → (is : Load) × (load ≡ Some is) × (part.address ≡ is.address) × (part.bytes.now ≡ is.bytes)
part_of None part h = absurd h
part_of (Some load) part h = (load, refl, h.0, h.1)

pub no_part : (loads : List Load) (place : ℕ) → IsPart (slice_get loads place) None → place < length loads → ⊥
no_part [] place h low = omega (arith, low)
no_part (x ∷ xs) zero h low = h
no_part (x ∷ xs) (suc n) h low = no_part xs n h (omega (arith, low))

-- the loads from a place on give what the load there gives, and else what those behind it give
pub byte_from : (loads : List Load) (place a : ℕ) (load : Load) → slice_get loads place ≡ Some load
    → given_or load.address load.bytes a (byte_in (drop (place + 1) loads) a) ≡ byte_in (drop place loads) a
byte_from loads place a load at = rw add-one (from loads place load at) where
  from : (xs : List Load) (n : ℕ) (x : Load) → slice_get xs n ≡ Some x → given_or x.address x.bytes a (byte_in (drop (suc n) xs) a) ≡ byte_in (drop n xs) a
  from [] n x h = absurd (cc)
  from (y ∷ ys) zero x h = let same : y ≡ x = cc in rw same refl
  from (y ∷ ys) (suc n) x h = from ys n x h

-- where no load is left, no byte is given
pub none_left : (loads : List Load) (n a : ℕ) → length loads ≤ n → byte_in (drop n loads) a ≡ 0
none_left [] zero a h = refl
none_left [] (suc n) a h = refl
none_left (x ∷ xs) zero a h = absurd (omega arith)
none_left (x ∷ xs) (suc n) a h = none_left xs n a (omega arith)

-- a byte after the part of one load more was copied
pub page_more : (loads : List Load) (left start base k new old : ℕ) (part : LoadPart) → 0 < left → start ≡ base → IsPart (slice_get loads (left - 1)) (Some part)
    → new ≡ given_or part.address part.bytes.now (start + k) old → old ≡ byte_in (drop left loads) (base + k) → new ≡ byte_in (drop (left - 1) loads) (base + k)
page_more loads left start base k new old part some same h is before =
    let load = part_of (slice_get loads (left - 1)) part h in
    let next : left - 1 + 1 ≡ left = omega arith in
    is ∙ ap (λ (s : ℕ). given_or part.address part.bytes.now (s + k) old) same
    ∙ ap (λ (o : ℕ). given_or part.address part.bytes.now (base + k) o) before
    ∙ ap (λ (a : ℕ). given_or a part.bytes.now (base + k) (byte_in (drop left loads) (base + k))) load.2
    ∙ ap (λ (bs : List ℕ). given_or (load.0).address bs (base + k) (byte_in (drop left loads) (base + k))) load.3
    ∙ ap (λ (n : ℕ). given_or (load.0).address (load.0).bytes (base + k) (byte_in (drop n loads) (base + k))) (sym next)
    ∙ byte_from loads (left - 1) (base + k) load.0 load.1
