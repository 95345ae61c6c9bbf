-- Segments one after the other are one run, and it is the machine's.
use Rattle.std.proofs.Common.{◌≡◌, ℕ, zero, suc, ◌+◌, ◌<◌, ◌^◌, List, [], ◌∷◌, ◌++◌, length, map, get_or, refl, sym, ap, ◌∙◌, subst, arith, inl, inr, ⊎_elim, Contains}
use Rattle.std.specs.Prelude.{All}
use Rattle.std.specs.List.{AllByRecursion}
use Rattle.std.specs.List.Sorted.{IsStrictlyIncreasing}
use Rattle.std.proofs.lemmas.List.Elements.{All-from_recursion, Contains-get_or}
use Rattle.vm_isa.specs.declared.instr.VmInstr.{VmInstr}
use Rattle.vm_isa.specs.Blocks.{Blocks, VmState, VmGoes, VmEnds}
use Rattle.vm_isa.specs.Instr.{InRange}
use Rattle.vm_isa.specs.Words.{IsBytes}
use Rattle.vm_transpile.specs.Program.{program_of}
use Rattle.vm_transpile.specs.Start.{vm_start, start_blocks}
use Rattle.vm_transpile.proofs.Ranges.{rows_in_range}
use Rattle.vm_transpile.proofs.RunsAlike.{runs_end_alike}
use Rattle.air_core.specs.ExtensionLaws.{ExtensionFits, ExtensionBuses, ExtensionTimed, ExtensionSound}
use Rattle.air_core.specs.ListLemmas.{all_append, all_weaker}
use Rattle.air_core.specs.System.{System}
use Rattle.air_core.proofs.ElementLemmas.{all_map}
use Rattle.vm_trace.specs.declared.page.Touched.{Touched}
use Rattle.vm_trace.specs.PageBlocks.{HasOldWords}
use Rattle.page_tree.specs.Tree.{Leaves, root}
use Rattle.page_tree.specs.Opening.{AreLabels}
use Rattle.page_tree.specs.Chain.{IsChain, AreMatched, leaves_after}
use Rattle.page_tree.specs.MapBlocks.{AreBlocksOf}
use Rattle.page_tree.specs.Parts.{label_of, labels_of, old_bytes_at, with_pages}
use Rattle.page_tree.specs.Start.{start_map}
use Rattle.page_tree.proofs.BlockLemmas.{pages_have_old, pages_leave_new}
use Rattle.page_tree.proofs.PartLemmas.{labelled_bytes-place, labels_of-place, length-labels_of}
use Rattle.page_tree.proofs.RootLemmas.{chain_shows}
use Rattle.vm_trace.specs.File.{Segment}
use Rattle.acceptance.specs.Events.{valid_rows}
use Rattle.vm_trace.specs.declared.page.TheConstants.{PUBLIC_LABEL}
use Rattle.vm_trace.specs.Pages.{IsMachineLabel}
use Rattle.acceptance.specs.Holds.{IsMachinePage, SegmentHolds}
use Rattle.acceptance.specs.Spelled.{HintEvent, Word, NextFrame, Spell, hints_before, low_byte}
use Rattle.acceptance.specs.Accepts.{AreLinked, last_pc, last_root, steps_in, opening_of, openings_of, Collides}
use Rattle.acceptance.specs.Laws.{AcceptedFilesAreRunsOnBlocks, AcceptedFilesAreRuns, AcceptedFilesSpell, AcceptedFilesSpellOneList}
use Rattle.acceptance.proofs.Segments.{are_pages, segment_runs, segment_spells, spelled_once}
use Rattle.acceptance.proofs.Start.{start_blocks_are, public_bytes_are}
use Rattle.acceptance.proofs.Steps.{state}

-- ---- the openings

pub label_small : (label : ℕ) → IsMachineLabel label → label < 2 ^ 25
label_small label (inl e) = omega (arith, e)
label_small label (inr (inl e)) = omega (arith, e)
label_small label (inr (inr (inl h))) = omega (arith, h.1)
label_small label (inr (inr (inr e))) = omega (arith, e)

are_labels : (pages : List Touched) → AllByRecursion IsMachinePage pages → AreLabels (labels_of pages)
unfolding labels_of
are_labels pages h =
    All-from_recursion (λ j. j < 2 ^ 25) (map label_of pages)
    (all_map (λ j. j < 2 ^ 25) label_of pages (all_weaker IsMachinePage (λ (page : Touched). page.label < 2 ^ 25) (λ page p. label_small page.label p.label) pages h))

is_chain : (x : System) (program : List VmInstr) (pc : ℕ) (start : List ℕ) (ss : List Segment) → AllByRecursion (SegmentHolds x program) ss → AreLinked pc start ss → IsChain start (map opening_of ss) (last_root start ss)
unfolding IsChain
is_chain x program pc start [] holds linked = refl
is_chain x program pc start (s ∷ ss) holds linked = (
  record { labels = are_labels s.pages holds.0.pages; digests = holds.0.digests; number = holds.0.roots.number },
  sym holds.0.roots.old_root ∙ linked.1,
  subst (λ (r : List ℕ). IsChain r (map opening_of ss) (last_root s.end_root ss)) holds.0.roots.new_root (is_chain x program s.pc_end s.end_root ss holds.1 linked.2),
)

label_stands : (pages : List Touched) (k : ℕ) (d : Touched) → k < length pages → Contains (labels_of pages) (get_or pages k d).label
label_stands pages k d h =
    subst (Contains (labels_of pages)) (labels_of-place pages k d h) (Contains-get_or (labels_of pages) k 0 (omega (arith, h, length-labels_of pages)))

-- the pages' old bytes are the map's leaves
old_matches : (m : Leaves) (pages : List Touched) → IsStrictlyIncreasing (labels_of pages) → ((j : ℕ) → Contains (labels_of pages) j → old_bytes_at pages j ≡ m j) → All (λ (p : Touched). p.old ≡ m p.label) pages
unfolding old_bytes_at labels_of
old_matches m pages rising matched =
    λ k d h. sym (labelled_bytes-place label_of (λ p. p.old) [] pages k d rising h) ∙ matched (get_or pages k d).label (label_stands pages k d h)

-- ---- runs one after the other

goes_append : (program : List VmInstr) (s t u : VmState) (m n : ℕ) → VmGoes program s m t → VmGoes program t n u → VmGoes program s (m + n) u
goes_append program s t u m zero first same =
    let number : m ≡ m + zero = omega arith in
    subst (λ (k : ℕ). VmGoes program s k u) number (subst (λ (v : VmState). VmGoes program s m v) (sym same) first)
goes_append program s t u m (suc n) first (before, reached, last) =
    let number : suc (m + n) ≡ m + suc n = omega arith in
    subst (λ (k : ℕ). VmGoes program s k u) number (before, goes_append program s t before m n first reached, last)

-- hints that are joined
pub before_joined : (a b : List HintEvent) (rest : List ℕ) → hints_before (a ++ b) rest ≡ hints_before a (hints_before b rest)
before_joined [] b rest = refl
before_joined (Word word ∷ a) b rest = ap (λ (bytes : List ℕ). map low_byte word ++ bytes) (before_joined a b rest)
before_joined (NextFrame ∷ a) b rest = before_joined a b rest

-- what segments lead to
record ChainRuns (x : System) (program : List VmInstr) (m : Leaves) (pc : ℕ) (blocks : Blocks) (hints : List HintEvent) (ss : List Segment) : Type 0 where
  last : Blocks
  goes : VmGoes program (state pc blocks (hints_before hints [])) (steps_in x ss) (state (last_pc pc ss) last [])
  are : AreBlocksOf (leaves_after m (map opening_of ss)) last

module _ (x : System) (fits : ExtensionFits x) (buses : ExtensionBuses x) (timed : ExtensionTimed x) (sound : ExtensionSound x) (program : List VmInstr) (ranges : All InRange program) where
  chain_runs : (m : Leaves) (pc : ℕ) (start : List ℕ) (blocks : Blocks) (hints : List HintEvent) (ss : List Segment) → AllByRecursion (SegmentHolds x program) ss → AreLinked pc start ss → Spell x ss hints
      → AreBlocksOf m blocks → AreMatched m (map opening_of ss) → ChainRuns x program m pc blocks hints ss
  unfolding AreMatched leaves_after with_pages
  chain_runs m pc start blocks hints [] holds linked spells are matched = record { last = blocks; goes = ap (λ (es : List HintEvent). state pc blocks (hints_before es [])) (sym spells); are = are }
  chain_runs m pc start blocks hints (s ∷ ss) holds linked spells are matched =
      let old : HasOldWords s.pages blocks = pages_have_old m s.pages blocks (are_pages s.pages holds.0.pages) (old_matches m s.pages holds.0.rising matched.0) are in
      let first = segment_runs x fits buses timed sound program s ranges holds.0 blocks spells.0 (hints_before spells.1 []) spells.2 old in
      let left : AreBlocksOf (with_pages m s.pages) first.after = pages_leave_new m s.pages blocks first.after holds.0.rising are first.new in
      let more = chain_runs (with_pages m s.pages) s.pc_end s.end_root first.after spells.1 ss holds.1 linked.2 spells.4 left matched.1 in
      let here = subst (λ (p : ℕ). VmGoes program (state p blocks (hints_before spells.0 (hints_before spells.1 []))) (valid_rows x s) (state s.pc_end first.after (hints_before spells.1 []))) linked.0 first.goes in
      let whole = goes_append program (state pc blocks (hints_before spells.0 (hints_before spells.1 []))) (state s.pc_end first.after (hints_before spells.1 [])) (state (last_pc s.pc_end ss) more.last []) (valid_rows x s) (steps_in x ss) here more.goes in
      record {
        last = more.last;
        goes = subst (λ (h : List ℕ). VmGoes program (state pc blocks h) (valid_rows x s + steps_in x ss) (state (last_pc s.pc_end ss) more.last [])) (sym (ap (λ (es : List HintEvent). hints_before es []) spells.3 ∙ before_joined spells.0 spells.1 [])) whole;
        are = more.are;
      }

-- ---- what is spelled is bytes

low_bytes : (xs : List ℕ) → IsBytes (map low_byte xs)
low_bytes [] = tt
low_bytes (x ∷ xs) = (omega arith, low_bytes xs)

before_bytes : (hints : List HintEvent) (rest : List ℕ) → IsBytes rest → IsBytes (hints_before hints rest)
before_bytes [] rest bytes = bytes
before_bytes (Word word ∷ more) rest bytes = all_append (λ n. n < 256) (map low_byte word) (hints_before more rest) (low_bytes word) (before_bytes more rest bytes)
before_bytes (NextFrame ∷ more) rest bytes = before_bytes more rest bytes

-- ---- what is spelled is one list

module _ (x : System) (fits : ExtensionFits x) (buses : ExtensionBuses x) (timed : ExtensionTimed x) (sound : ExtensionSound x) (program : List VmInstr) (ranges : All InRange program) where
  spell_some : (ss : List Segment) → AllByRecursion (SegmentHolds x program) ss → (hints : List HintEvent) × Spell x ss hints
  spell_some [] holds = ([], refl)
  spell_some (s ∷ ss) holds =
      let here = segment_spells x fits buses timed sound program s ranges holds.0 in
      let rest = spell_some ss holds.1 in
      (here.0 ++ rest.0, (here.0, rest.0, here.1, refl, rest.1))

  spell_one : (ss : List Segment) (a b : List HintEvent) → AllByRecursion (SegmentHolds x program) ss → Spell x ss a → Spell x ss b → a ≡ b
  spell_one [] a b holds p q = p ∙ sym q
  spell_one (s ∷ ss) a b holds p q =
      p.3
      ∙ ap (λ (xs : List HintEvent). xs ++ p.1) (spelled_once x fits buses timed sound program s ranges holds.0 p.0 q.0 p.2 q.2)
      ∙ ap (λ (xs : List HintEvent). q.0 ++ xs) (spell_one ss p.1 q.1 holds.1 p.4 q.4)
      ∙ sym q.3

-- ---- the whole

module _ (x : System) (fits : ExtensionFits x) (buses : ExtensionBuses x) (timed : ExtensionTimed x) (sound : ExtensionSound x) where
  pub accepted_on_blocks : AcceptedFilesAreRunsOnBlocks x
  accepted_on_blocks elf image file hints has accepts spells =
      let program = program_of image in
      let start = start_map image in
      ⊎_elim
      (λ (shows : AreMatched start (openings_of file) × (file.public_bytes ≡ leaves_after start (openings_of file) PUBLIC_LABEL)).
      let runs = chain_runs x fits buses timed sound program (rows_in_range elf image has) start image.entry (root start) (start_blocks image) hints file.segments accepts.hold accepts.linked spells (start_blocks_are image) shows.0 in
      inl (record {
        last = state (last_pc image.entry file.segments) runs.last [];
        reached = runs.goes;
        ended = accepts.terminates;
        shown = public_bytes_are (leaves_after start (openings_of file)) runs.last file.public_bytes runs.are shows.1 accepts.public.whole.size;
      }))
      (λ (collision : Collides image file). inr collision)
      (chain_shows start (openings_of file) (last_root (root start) file.segments) PUBLIC_LABEL file.public_bytes file.path
      (is_chain x program image.entry (root start) file.segments accepts.hold accepts.linked) (omega arith) accepts.public.levels accepts.public.digests accepts.public.leads)

  pub accepted_are_runs : AcceptedFilesAreRuns x
  accepted_are_runs elf image file hints bytes has accepts spells =
      ⊎_elim
      (λ (ends : VmEnds (program_of image) (vm_start image (hints_before hints [])) (steps_in x file.segments) file.code file.public_bytes).
      inl ((runs_end_alike image (record { bytes = elf; are_bytes = bytes; has_image = has }) (hints_before hints []) (steps_in x file.segments) file.code file.public_bytes (before_bytes hints [] tt)).1 ends))
      (λ (collision : Collides image file). inr collision)
      (accepted_on_blocks elf image file hints has accepts spells)

  pub accepted_spell : AcceptedFilesSpell x
  accepted_spell elf image file has accepts = spell_some x fits buses timed sound (program_of image) (rows_in_range elf image has) file.segments accepts.hold

  pub accepted_spell_one : AcceptedFilesSpellOneList x
  accepted_spell_one elf image file a b has accepts p q = spell_one x fits buses timed sound (program_of image) (rows_in_range elf image has) file.segments a b accepts.hold p q
