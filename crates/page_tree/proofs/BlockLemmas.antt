-- Pages of a map, and the blocks before and after them.
use Rattle.std.proofs.Common.{◌≡◌, ℕ, ◌+◌, ◌*◌, ◌/◌, ◌%◌, ◌<◌, ⊎_elim, true, false, eqb, List, [], length, get_or, refl, sym, ap, ◌∙◌, subst, arith}
use Rattle.std.specs.List.{Contains, list_any}
use Rattle.std.specs.List.Sorted.{IsStrictlyIncreasing}
use Rattle.std.proofs.lemmas.Bool.{cases_Bool, both_ways}
use Rattle.std.proofs.lemmas.List.{get_or_default}
use Rattle.std.proofs.lemmas.List.Elements.{All-contains, All-from_recursion, Contains-get_or}
use Rattle.vm_isa.proofs.SpaceLaws.{block_low}
use Rattle.vm_trace.specs.declared.page.TheConstants.{SPACE_PAGES}
use Rattle.vm_trace.specs.declared.page.Touched.{Touched}
use Rattle.vm_trace.specs.Pages.{page_space, block_pointer, block_word}
use Rattle.vm_trace.specs.PageBlocks.{IsPage, InPages}
use Rattle.vm_trace.proofs.BlockLemmas.{block_inside}
use Rattle.page_tree.specs.Tree.{Leaves}
use Rattle.page_tree.specs.Parts.{label_of, labels_of, labelled_bytes, new_bytes_at, with_pages}
use Rattle.page_tree.specs.MapBlocks.{map_block}
use Rattle.page_tree.specs.Laws.{PagesHaveTheMapsBlocks, PagesLeaveTheNewBlocks}
use Rattle.page_tree.proofs.TreeLemmas.{replaced-at, replaced-other, has-true, has-from}
use Rattle.page_tree.proofs.PartLemmas.{labelled_bytes-place, labels_of-place, length-labels_of}

-- a block of a page is the same block of the leaf at its label
pub block_of_label : (m : Leaves) (label block : ℕ) → block < 16 → map_block m (page_space label) (block_pointer label block) ≡ block_word (m label) block
block_of_label m label block small =
    let at : SPACE_PAGES * page_space label + block_pointer label block / 64 ≡ label = omega arith in
    let number : block_pointer label block % 64 / 4 ≡ block = omega arith in
    ap (λ (n : ℕ). block_word (m n) (block_pointer label block % 64 / 4)) at ∙ ap (block_word (m label)) number

pub pages_have_old : PagesHaveTheMapsBlocks
pages_have_old m pages blocks are matches of_map = record {
  has = λ page block h small.
      let inside = block_inside page.label block (All-contains (λ (p : Touched). IsPage p.label) pages page (All-from_recursion (λ (p : Touched). IsPage p.label) pages are) h) small in
      let old : page.old ≡ m page.label = All-contains (λ (p : Touched). p.old ≡ m p.label) pages page matches h in
      of_map.each (page_space page.label) (block_pointer page.label block) inside
      ∙ block_of_label m page.label block small
      ∙ ap (λ (bytes : List ℕ). block_word bytes block) (sym old);
}

contains_label : (pages : List Touched) (page : Touched) → Contains pages page → Contains (labels_of pages) page.label
contains_label pages page h =
    All-contains (λ (p : Touched). Contains (labels_of pages) p.label) pages page
    (λ k d low. subst (Contains (labels_of pages)) (labels_of-place pages k d low) (Contains-get_or (labels_of pages) k 0 (omega (arith, low, length-labels_of pages)))) h

-- the page at a label among those of pages
pub record PageAt (pages : List Touched) (label : ℕ) : Type 0 where
  pub page : Touched
  pub stands : Contains pages page
  pub is_label : page.label ≡ label
  pub bytes : new_bytes_at pages label ≡ page.new

pub page_at : (pages : List Touched) (label : ℕ) → IsStrictlyIncreasing (labels_of pages) → Contains (labels_of pages) label → PageAt pages label
unfolding new_bytes_at labels_of
page_at pages label rising h =
    let d : Touched = record { label = 0; old = []; new = []; times = [] } in
    let place : h.0 < length pages = omega (arith, h.1, length-labels_of pages) in
    let at : (get_or pages h.0 d).label ≡ label = sym (labels_of-place pages h.0 d place) ∙ get_or_default (labels_of pages) h.0 0 label h.1 ∙ h.2 in
    record {
      page = get_or pages h.0 d;
      stands = Contains-get_or pages h.0 d place;
      is_label = at;
      bytes = subst (λ (k : ℕ). labelled_bytes label_of (λ p. p.new) [] pages k ≡ (get_or pages h.0 d).new) at (labelled_bytes-place label_of (λ p. p.new) [] pages h.0 d rising place);
    }

not_in_pages : (pages : List Touched) (label space pointer : ℕ) → (Contains (labels_of pages) label → ⊥) → label ≡ SPACE_PAGES * space + pointer / 64 → InPages pages space pointer → ⊥
not_in_pages pages label space pointer none is h =
    let same : h.page.label ≡ label = omega (arith, is, h.is_space, h.is_pointer, h.below) in
    none (subst (λ (n : ℕ). Contains (labels_of pages) n) same (contains_label pages h.page h.stands))

pub pages_leave_new : PagesLeaveTheNewBlocks
unfolding with_pages
pages_leave_new m pages old new rising of_map has_new = record {
  each = λ space pointer is.
      let low = block_low space pointer is in
      ⊎_elim
      (λ (some : list_any (eqb (SPACE_PAGES * space + pointer / 64)) (labels_of pages) ≡ true).
      let has = has-true (labels_of pages) (SPACE_PAGES * space + pointer / 64) some in
      let found = page_at pages (SPACE_PAGES * space + pointer / 64) rising has in
      let at_space : page_space found.page.label ≡ space = omega (arith, found.is_label, low.1) in
      let at_pointer : block_pointer found.page.label (pointer % 64 / 4) ≡ pointer = omega (arith, found.is_label, low.0, low.1) in
      ap (λ (n : ℕ). new n pointer) (sym at_space)
      ∙ ap (λ (n : ℕ). new (page_space found.page.label) n) (sym at_pointer)
      ∙ has_new.has found.page (pointer % 64 / 4) found.stands (omega arith)
      ∙ ap (λ (bytes : List ℕ). block_word bytes (pointer % 64 / 4)) (sym (replaced-at m (labels_of pages) (new_bytes_at pages) (SPACE_PAGES * space + pointer / 64) has ∙ found.bytes)))
      (λ (none : list_any (eqb (SPACE_PAGES * space + pointer / 64)) (labels_of pages) ≡ false).
      let not_there : Contains (labels_of pages) (SPACE_PAGES * space + pointer / 64) → ⊥ = λ has. both_ways (list_any (eqb (SPACE_PAGES * space + pointer / 64)) (labels_of pages)) none (has-from (labels_of pages) (SPACE_PAGES * space + pointer / 64) has) in
      has_new.other space pointer (not_in_pages pages (SPACE_PAGES * space + pointer / 64) space pointer not_there refl)
      ∙ of_map.each space pointer is
      ∙ ap (λ (bytes : List ℕ). block_word bytes (pointer % 64 / 4)) (sym (replaced-other m (labels_of pages) (new_bytes_at pages) (SPACE_PAGES * space + pointer / 64) not_there)))
      (cases_Bool (list_any (eqb (SPACE_PAGES * space + pointer / 64)) (labels_of pages)));
}
