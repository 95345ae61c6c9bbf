-- The boundary events of a page, up to a block and from it on.
use Rattle.std.proofs.Common.{◌≡◌, ℕ, ◌+◌, ◌-◌, ◌*◌, ◌<◌, zero, suc, List, [], ◌∷◌, ◌++◌, map, length, refl, ap, ◌∙◌, arith, zero-add, append_assoc}
use Rattle.std.specs.Prelude.{flat_map}
use Rattle.std.specs.List.{range_with_len}
use Rattle.std.proofs.lemmas.List.Concat.{flat_map-append}
use Rattle.std.proofs.lemmas.List.FromFn.{map-range_with_len_more, length-map-range_with_len}
use Rattle.air_core.specs.declared.event.Event.{Event}
use Rattle.vm_trace.specs.declared.page.Touched.{Touched}
use Rattle.offline_memory.specs.Memory.{Block}
use Rattle.offline_memory.specs.Pages.{block_of}
use Rattle.offline_memory.specs.MemoryEvents.{block_events, boundary_events}

-- the events of m blocks from block n on
abbrev pub events_from : Touched → ℕ → ℕ → List Event
events_from page n m = flat_map block_events (map (block_of page) (range_with_len n m))

pub length_events : (blocks : List Block) → length (flat_map block_events blocks) ≡ 2 * length blocks
length_events [] = refl
length_events (b ∷ blocks) = omega (arith, length_events blocks)

pub length-events_from : (page : Touched) (n m : ℕ) → length (events_from page n m) ≡ 2 * m
length-events_from page n m = omega (arith, length_events (map (block_of page) (range_with_len n m)), length-map-range_with_len (block_of page) n m)

pub events_more : (page : Touched) (n : ℕ) → events_from page 0 (n + 1) ≡ events_from page 0 n ++ block_events (block_of page n)
events_more page n =
    ap (λ (t : List Block). flat_map block_events t) (map-range_with_len_more (block_of page) 0 n n (omega arith))
    ∙ flat_map-append block_events (map (block_of page) (range_with_len 0 n)) (block_of page n ∷ [])

events_split : (page : Touched) (a n m : ℕ) → events_from page a (n + m) ≡ events_from page a n ++ events_from page (a + n) m
events_split page a zero m = ap (λ k. events_from page a k) (zero-add m) ∙ ap (λ k. events_from page k m) (omega arith)
events_split page a (suc n) m =
    let more : suc n + m ≡ suc (n + m) = omega arith in
    let next : (a + 1) + n ≡ a + suc n = omega arith in
    ap (λ k. events_from page a k) more
    ∙ ap (λ (t : List Event). block_events (block_of page a) ++ t) (events_split page (a + 1) n m ∙ ap (λ k. events_from page (a + 1) n ++ events_from page k m) next)

-- before a block, the block, and the blocks behind it
pub events_at : (page : Touched) (n : ℕ) → n < 16 → boundary_events page ≡ events_from page 0 n ++ (block_events (block_of page n) ++ events_from page (n + 1) (15 - n))
events_at page n h =
    let all : 16 ≡ (n + 1) + (15 - n) = omega arith in
    let start : 0 + (n + 1) ≡ n + 1 = omega arith in
    ap (λ k. events_from page 0 k) all ∙ events_split page 0 (n + 1) (15 - n)
    ∙ ap (λ k. events_from page 0 (n + 1) ++ events_from page k (15 - n)) start
    ∙ ap (λ (t : List Event). t ++ events_from page (n + 1) (15 - n)) (events_more page n)
    ∙ append_assoc (events_from page 0 n) (block_events (block_of page n)) (events_from page (n + 1) (15 - n))
