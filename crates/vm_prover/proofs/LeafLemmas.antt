-- The leaves of a tree beside the machine's memory, before and after a segment.
use Rattle.std.proofs.Common.{◌≡◌, ℕ, zero, suc, ◌+◌, ◌*◌, ◌/◌, ◌%◌, ◌<◌, true, false, eqb, List, [], ◌∷◌, length, take, get_or, sym, ap, ◌∙◌, subst, arith, ⊎_elim}
use Rattle.std.specs.Prelude.{All, slice_index}
use Rattle.std.specs.List.{AllByRecursion, list_any}
use Rattle.std.specs.List.Sorted.{IsStrictlyIncreasing}
use Rattle.std.proofs.lemmas.Bool.{cases_Bool, both_ways}
use Rattle.std.proofs.lemmas.Grind.{same_number_lists}
use Rattle.std.proofs.lemmas.List.Elements.{All-contains, All-from_recursion, recursion_from_All, Contains-get_or}
use Rattle.rv_run.specs.Machine.{Machine as Manual}
use Rattle.vm_isa.specs.Blocks.{Blocks}
use Rattle.vm_transpile.specs.Same.{IsMachine, Same}
use Rattle.vm_trace.specs.declared.page.TheConstants.{PUBLIC_LABEL}
use Rattle.vm_trace.specs.declared.page.Touched.{Touched}
use Rattle.vm_trace.specs.Pages.{page_space, block_pointer, block_word, IsMachineLabel, IsWhole}
use Rattle.vm_trace.specs.PageBlocks.{HasNewWords, IsPage}
use Rattle.vm_trace.proofs.BlockLemmas.{block_inside}
use Rattle.offline_memory.proofs.Members.{member_from_contains}
use Rattle.page_tree.specs.MapBlocks.{AreBlocksOf}
use Rattle.page_tree.specs.Parts.{labels_of, new_bytes_at, with_pages}
use Rattle.page_tree.specs.Tree.{Leaves}
use Rattle.page_tree.proofs.BlockLemmas.{block_of_label, page_at, pages_leave_new}
use Rattle.page_tree.proofs.TreeLemmas.{has-true, has-from, replaced-at, replaced-other}
use Rattle.vm_executor.specs.Machine.{Machine, vm_state}
use Rattle.vm_executor.specs.Pages.{Times, AreTouched}
use Rattle.acceptance.specs.Holds.{IsMachinePage}
use Rattle.acceptance.proofs.Start.{four_more, public_block}
use Rattle.acceptance.proofs.Segments.{are_pages}

-- ---- bytes by their blocks

word_places : (xs ys : List ℕ) (block : ℕ) → block_word xs block ≡ block_word ys block → (k : ℕ) → k < 4 → slice_index xs (4 * block + k) ≡ slice_index ys (4 * block + k)
word_places xs ys block same zero h =
    let at : 4 * block + 0 ≡ 4 * block = omega arith in
    rw at (ap (λ (w : List ℕ). slice_index w 0) same)
word_places xs ys block same (suc zero) h = ap (λ (w : List ℕ). slice_index w 1) same
word_places xs ys block same (suc (suc zero)) h = ap (λ (w : List ℕ). slice_index w 2) same
word_places xs ys block same (suc (suc (suc zero))) h = ap (λ (w : List ℕ). slice_index w 3) same
word_places xs ys block same (suc (suc (suc (suc k)))) h = absurd (omega (arith, h))

-- 64 bytes are the same where their 16 words are
pub same_blocks : (xs ys : List ℕ) → length xs ≡ 64 → length ys ≡ 64 → ((block : ℕ) → block < 16 → block_word xs block ≡ block_word ys block) → xs ≡ ys
same_blocks xs ys long also same =
    same_number_lists xs ys (long ∙ sym also) (λ k h.
    let at : 4 * (k / 4) + k % 4 ≡ k = omega arith in
    subst (λ (n : ℕ). slice_index xs n ≡ slice_index ys n) at (word_places xs ys (k / 4) (same (k / 4) (omega (arith, h, long))) (k % 4) (omega arith)))

-- ---- the pages of a segment

machine_pages : (pages : List Touched) → AllByRecursion (λ page. IsMachineLabel page.label) pages → AllByRecursion IsWhole pages → AllByRecursion IsMachinePage pages
machine_pages [] machine whole = tt
machine_pages (page ∷ pages) machine whole = (record { label = machine.0; whole = whole.0 }, machine_pages pages machine.1 whole.1)

module _ (leaves : Leaves) (start now : Blocks) (times : Times) (pages : List Touched) (are : AreBlocksOf leaves start) (long : (label : ℕ) → length (leaves label) ≡ 64) (touched : AreTouched start now times pages) where
  pub rising : IsStrictlyIncreasing (labels_of pages)
  unfolding labels_of
  rising = touched.rising

  pub machine : AllByRecursion IsMachinePage pages
  machine = machine_pages pages (recursion_from_All (λ page. IsMachineLabel page.label) pages touched.machine) (recursion_from_All IsWhole pages touched.whole)

  -- the pages' old bytes are the leaves
  pub leaves_match : All (λ (page : Touched). page.old ≡ leaves page.label) pages
  leaves_match = λ k d h.
      let page = get_or pages k d in
      let stands = Contains-get_or pages k d h in
      let whole : IsWhole page = touched.whole k d h in
      let inside = All-contains (λ (p : Touched). IsPage p.label) pages page (All-from_recursion (λ (p : Touched). IsPage p.label) pages (are_pages pages machine)) stands in
      same_blocks page.old (leaves page.label) whole.old.size (long page.label) (λ block small.
      touched.shows.old page block (member_from_contains page pages stands) small
      ∙ are.each (page_space page.label) (block_pointer page.label block) (block_inside page.label block inside small)
      ∙ block_of_label leaves page.label block small)

  new_words : HasNewWords pages start now
  new_words = record {
    has = λ page block stands small. sym (touched.shows.new page block (member_from_contains page pages stands) small);
    other = λ space pointer outside. ⊎_elim (λ inside. absurd (outside inside)) (λ idle. idle.0) (touched.others space pointer);
  }

  -- with the new bytes they are the memory now
  pub leaves_after : AreBlocksOf (with_pages leaves pages) now
  leaves_after = pages_leave_new leaves pages start now rising are new_words

  pub leaves_long : (label : ℕ) → length (with_pages leaves pages label) ≡ 64
  unfolding with_pages
  leaves_long label =
      ⊎_elim
      (λ (some : list_any (eqb label) (labels_of pages) ≡ true).
      let has = has-true (labels_of pages) label some in
      let found = page_at pages label rising has in
      let whole : IsWhole found.page = All-contains IsWhole pages found.page touched.whole found.stands in
      ap length (replaced-at leaves (labels_of pages) (new_bytes_at pages) label has ∙ found.bytes) ∙ whole.new.size)
      (λ (none : list_any (eqb label) (labels_of pages) ≡ false).
      ap length (replaced-other leaves (labels_of pages) (new_bytes_at pages) label (λ has. both_ways (list_any (eqb label) (labels_of pages)) none (has-from (labels_of pages) label has))) ∙ long label)
      (cases_Bool (list_any (eqb label) (labels_of pages)))

-- ---- public bytes

-- the leaf of public bytes is those of the manual's machine
pub public_leaf : (leaves : Leaves) (m : Machine) (manual : Manual) → AreBlocksOf leaves m.now → ((label : ℕ) → length (leaves label) ≡ 64) → IsMachine manual → Same manual (vm_state m) → leaves PUBLIC_LABEL ≡ manual.public_bytes
public_leaf leaves m manual are long is same =
    same_blocks (leaves PUBLIC_LABEL) manual.public_bytes (long PUBLIC_LABEL) is.public_count (λ j small.
    sym (public_block leaves m.now are j small)
    ∙ same.public_bytes j small
    ∙ sym (ap (take 4) (four_more manual.public_bytes (4 * j) (omega (arith, small, is.public_count)))))
