-- A replay on words with times is one on blocks.
use Rattle.std.proofs.Common.{◌≡◌, ℕ, ◌<◌, inl, inr, ⊎_elim, true, false, nat_eq, List, [], ◌∷◌, ◌++◌, map, refl, sym, ap, ◌∙◌, subst}
use Rattle.std.specs.Prelude.{◌&&◌, Option, Some, slice_index}
use Rattle.std.specs.List.{AllByRecursion, range_with_len}
use Rattle.std.proofs.lemmas.Bool.{cases_eq, cases_Bool, eq-eqb, ne_eqb, eqb-true, and_parts, cond-true, cond-false}
use Rattle.vm_isa.specs.Blocks.{Blocks, Meets, after_accesses, with_block, is_block}
use Rattle.air_core.specs.Step.{Touched as RowAccess, accessed}
use Rattle.air_core.specs.Orders.{Member}
use Rattle.air_core.proofs.ElementLemmas.{all_at, all_unmap, Image, member_map, Piece, member_flat_map}
use Rattle.air_core.specs.ListLemmas.{all_left, all_right, all_weaker}
use Rattle.vm_trace.specs.declared.page.Touched.{Touched}
use Rattle.offline_memory.specs.Memory.{Cell, Access, first_cell, is_cell_at, cell_at, after_access, after_all, Replays}
use Rattle.offline_memory.specs.Pages.{block_of, page_blocks, blocks_of, memory_at_start, memory_at_end}
use Rattle.vm_trace.specs.Pages.{page_space, block_pointer, block_word}
use Rattle.vm_trace.specs.PageBlocks.{InPages}
use Rattle.acceptance.specs.OneRun.{RowStep, timed_access, timed_accesses, accesses_of}
use Rattle.vm_trace.specs.PageBlocks.{IsPage, ArePages, HasOldWords}
use Rattle.acceptance.specs.BlockRun.{step_accesses, StepsMeet, after_steps}
use Rattle.acceptance.specs.Laws.{RunsMeetBlocks}
use Rattle.offline_memory.proofs.Members.{contains_from_member, member_from_contains}
use Rattle.offline_memory.proofs.PageLemmas.{memory_of_pages, below_16}
use Rattle.vm_trace.proofs.BlockLemmas.{block_inside}

abbrev some_of : List ℕ → ℕ → Option (List ℕ × ℕ)
some_of word time = Some (word, time)

-- the blocks have each word of the memory
abbrev Agrees : (ℕ → ℕ → Option (List ℕ × ℕ)) → Blocks → Type 0
Agrees memory blocks = (s p : ℕ) (x : List ℕ × ℕ) → memory s p ≡ Some x → blocks s p ≡ x.0

eqb_turned : (a b : ℕ) → nat_eq a b ≡ nat_eq b a
eqb_turned a b =
    ⊎_elim
    (λ (same : a ≡ b). eq-eqb a b same ∙ sym (eq-eqb b a (sym same)))
    (λ (other : a ≡ b → ⊥). ne_eqb a b other ∙ sym (ne_eqb b a (λ e. other (sym e))))
    (cases_eq a b)

turned : (space pointer s p : ℕ) → (nat_eq s space && nat_eq p pointer) ≡ is_cell_at space pointer s p
turned space pointer s p = rw (eqb_turned s space, eqb_turned p pointer) refl

some_same : (x y : List ℕ × ℕ) → (Some x) ≡ (Some y) → x ≡ y
some_same x y h = cc

agrees_after : (a : Access) (memory : ℕ → ℕ → Option (List ℕ × ℕ)) (blocks : Blocks) → Agrees memory blocks → Agrees (after_access a memory) (with_block blocks a.space a.pointer a.new)
agrees_after a memory blocks agrees s p x e =
    ⊎_elim
    (λ (here : is_cell_at a.space a.pointer s p ≡ true).
    let found : some_of a.new a.time ≡ Some x = sym (cond-true (is_cell_at a.space a.pointer s p) (some_of a.new a.time) (memory s p) here) ∙ e in
    cond-true (nat_eq s a.space && nat_eq p a.pointer) a.new (blocks s p) (turned a.space a.pointer s p ∙ here) ∙ ap (λ (y : List ℕ × ℕ). y.0) (some_same (a.new, a.time) x found))
    (λ (away : is_cell_at a.space a.pointer s p ≡ false).
    cond-false (nat_eq s a.space && nat_eq p a.pointer) a.new (blocks s p) (turned a.space a.pointer s p ∙ away)
    ∙ agrees s p x (sym (cond-false (is_cell_at a.space a.pointer s p) (some_of a.new a.time) (memory s p) away) ∙ e))
    (cases_Bool (is_cell_at a.space a.pointer s p))

-- what a step's accesses meet and leave
record Met (time : ℕ) (xs : List RowAccess) (memory final : ℕ → ℕ → Option (List ℕ × ℕ)) (blocks : Blocks) (rest : List Access) : Type 0 where
  pub meets : Meets blocks (map accessed xs)
  pub agrees : Agrees (after_all (map (timed_access time) xs) memory) (after_accesses blocks (map accessed xs))
  pub replays : Replays (after_all (map (timed_access time) xs) memory) rest final

step_meets : (time : ℕ) (xs : List RowAccess) (memory final : ℕ → ℕ → Option (List ℕ × ℕ)) (blocks : Blocks) (rest : List Access) → Agrees memory blocks
    → AllByRecursion (λ (a : RowAccess). is_block a.space a.pointer ≡ true) xs → Replays memory (map (timed_access time) xs ++ rest) final → Met time xs memory final blocks rest
unfolding Meets after_accesses
step_meets time [] memory final blocks rest agrees inside h = record { meets = tt; agrees = agrees; replays = h }
step_meets time (a ∷ xs) memory final blocks rest agrees inside h =
    let more = step_meets time xs (after_access (timed_access time a) memory) final (with_block blocks a.space a.pointer a.new) rest (agrees_after (timed_access time a) memory blocks agrees) inside.1 h.1 in
    record {
      meets = (inside.0, agrees a.space a.pointer (a.old, a.before) h.0, more.meets);
      agrees = more.agrees;
      replays = more.replays;
    }

steps_meet : (path : List RowStep) (memory final : ℕ → ℕ → Option (List ℕ × ℕ)) (blocks : Blocks) → Agrees memory blocks
    → AllByRecursion (λ (a : Access). is_block a.space a.pointer ≡ true) (accesses_of path) → Replays memory (accesses_of path) final → StepsMeet blocks path × Agrees final (after_steps blocks path)
steps_meet [] memory final blocks agrees inside h = (tt, λ s p x e. agrees s p x (h s p ∙ e))
steps_meet (step ∷ path) memory final blocks agrees inside h =
    let here = all_unmap (λ (a : Access). is_block a.space a.pointer ≡ true) (timed_access step.time) step.accesses (all_left (λ (a : Access). is_block a.space a.pointer ≡ true) (timed_accesses step) (accesses_of path) inside) in
    let met = step_meets step.time step.accesses memory final blocks (accesses_of path) agrees here h in
    let more = steps_meet path (after_all (timed_accesses step) memory) final (after_accesses blocks (step_accesses step)) met.agrees (all_right (λ (a : Access). is_block a.space a.pointer ≡ true) (timed_accesses step) (accesses_of path) inside) met.replays in
    ((met.meets, more.0), more.1)

-- The start and the end.

abbrev cell_of : ℕ → ℕ → List ℕ × ℕ → Cell
cell_of s p x = record { space = s; pointer = p; word = x.0; time = x.1 }

same_cell_at : (c : Cell) (s p : ℕ) (x : List ℕ × ℕ) → c.space ≡ s → c.pointer ≡ p → (c.word, c.time) ≡ x → c ≡ cell_of s p x
same_cell_at c s p x e f g =
    ap (λ (n : ℕ). cell_of n c.pointer (c.word, c.time)) e ∙ ap (λ (n : ℕ). cell_of s n (c.word, c.time)) f ∙ ap (λ (y : List ℕ × ℕ). cell_of s p y) g

-- what stands at a place is one of the cells
cell_at_some : (cells : List Cell) (s p : ℕ) (x : List ℕ × ℕ) → cell_at cells s p ≡ Some x → Member (cell_of s p x) cells
cell_at_some [] s p x e = absurd (cc)
cell_at_some (c ∷ cells) s p x e =
    ⊎_elim
    (λ (here : is_cell_at c.space c.pointer s p ≡ true).
    let parts = and_parts (nat_eq c.space s) (nat_eq c.pointer p) here in
    let found : some_of c.word c.time ≡ Some x = sym (cond-true (is_cell_at c.space c.pointer s p) (some_of c.word c.time) (cell_at cells s p) here) ∙ e in
    inl (same_cell_at c s p x (eqb-true c.space s parts.0) (eqb-true c.pointer p parts.1) (some_same (c.word, c.time) x found)))
    (λ (away : is_cell_at c.space c.pointer s p ≡ false).
    inr (cell_at_some cells s p x (sym (cond-false (is_cell_at c.space c.pointer s p) (some_of c.word c.time) (cell_at cells s p) away) ∙ e)))
    (cases_Bool (is_cell_at c.space c.pointer s p))

agrees_at_start : (pages : List Touched) (blocks : Blocks) → HasOldWords pages blocks → Agrees (memory_at_start pages) blocks
agrees_at_start pages blocks old s p x e =
    let block : Image first_cell (cell_of s p x) (blocks_of pages) = member_map first_cell (cell_of s p x) (blocks_of pages) (cell_at_some (map first_cell (blocks_of pages)) s p x e) in
    let page : Piece page_blocks block.of pages = member_flat_map page_blocks block.of pages block.stands in
    let number : Image (block_of page.of) block.of (range_with_len 0 16) = member_map (block_of page.of) block.of (range_with_len 0 16) page.inside in
    let whole : first_cell (block_of page.of number.of) ≡ cell_of s p x = ap first_cell number.is ∙ block.is in
    let below : number.of < 16 = all_at (λ i. i < 16) (range_with_len 0 16) number.of number.stands below_16 in
    ap (λ (n : ℕ). blocks n p) (sym (ap (λ (c : Cell). c.space) whole))
    ∙ ap (λ (n : ℕ). blocks (page_space page.of.label) n) (sym (ap (λ (c : Cell). c.pointer) whole))
    ∙ old.has page.of number.of (contains_from_member page.of pages page.stands) below
    ∙ ap (λ (c : Cell). c.word) whole

place_inside : (pages : List Touched) (space pointer : ℕ) → ArePages pages → InPages pages space pointer → is_block space pointer ≡ true
place_inside pages space pointer are h =
    ap (λ (n : ℕ). is_block n pointer) h.is_space ∙ ap (λ (n : ℕ). is_block (page_space h.page.label) n) h.is_pointer
    ∙ block_inside h.page.label h.block (all_at (λ (page : Touched). IsPage page.label) pages h.page (member_from_contains h.page pages h.stands) are) h.below

-- Elsewhere nothing changes.

step_keeps : (xs : List RowAccess) (blocks : Blocks) (s p : ℕ) → AllByRecursion (λ (a : RowAccess). is_cell_at a.space a.pointer s p ≡ false) xs → after_accesses blocks (map accessed xs) s p ≡ blocks s p
unfolding after_accesses
step_keeps [] blocks s p away = refl
step_keeps (a ∷ xs) blocks s p away =
    step_keeps xs (with_block blocks a.space a.pointer a.new) s p away.1
    ∙ cond-false (nat_eq s a.space && nat_eq p a.pointer) a.new (blocks s p) (turned a.space a.pointer s p ∙ away.0)

steps_keep : (path : List RowStep) (blocks : Blocks) (s p : ℕ) → AllByRecursion (λ (a : Access). is_cell_at a.space a.pointer s p ≡ false) (accesses_of path) → after_steps blocks path s p ≡ blocks s p
steps_keep [] blocks s p away = refl
steps_keep (step ∷ path) blocks s p away =
    steps_keep path (after_accesses blocks (step_accesses step)) s p (all_right (λ (a : Access). is_cell_at a.space a.pointer s p ≡ false) (timed_accesses step) (accesses_of path) away)
    ∙ step_keeps step.accesses blocks s p (all_unmap (λ (a : Access). is_cell_at a.space a.pointer s p ≡ false) (timed_access step.time) step.accesses (all_left (λ (a : Access). is_cell_at a.space a.pointer s p ≡ false) (timed_accesses step) (accesses_of path) away))

outside_away : (pages : List Touched) (s p space pointer : ℕ) → (InPages pages s p → ⊥) → InPages pages space pointer → is_cell_at space pointer s p ≡ false
outside_away pages s p space pointer out inside =
    ⊎_elim
    (λ (here : is_cell_at space pointer s p ≡ true).
    let parts = and_parts (nat_eq space s) (nat_eq pointer p) here in
    absurd (out (subst (λ (n : ℕ). InPages pages s n) (eqb-true pointer p parts.1) (subst (λ (n : ℕ). InPages pages n pointer) (eqb-true space s parts.0) inside))))
    (λ (away : is_cell_at space pointer s p ≡ false). away)
    (cases_Bool (is_cell_at space pointer s p))

pub run_meets_blocks : RunsMeetBlocks
run_meets_blocks start end pages steps run blocks labels are old =
    let inside = all_weaker (λ (a : Access). InPages pages a.space a.pointer) (λ (a : Access). is_block a.space a.pointer ≡ true) (λ a h. place_inside pages a.space a.pointer are h) (accesses_of run.path) run.memory.inside in
    let met = steps_meet run.path (memory_at_start pages) (memory_at_end pages) blocks (agrees_at_start pages blocks old) inside run.memory.replays in (
      met.0,
      record {
        has = λ page block h below. met.1 (page_space page.label) (block_pointer page.label block) (block_word page.new block, slice_index page.times block) ((memory_of_pages pages labels).at_end page block (member_from_contains page pages h) below);
        other = λ s p out.
            steps_keep run.path blocks s p
            (all_weaker (λ (a : Access). InPages pages a.space a.pointer) (λ (a : Access). is_cell_at a.space a.pointer s p ≡ false) (λ a h. outside_away pages s p a.space a.pointer out h) (accesses_of run.path) run.memory.inside);
      },
    )
