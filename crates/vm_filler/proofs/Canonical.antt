-- A filled segment is canonical.
use Rattle.std.proofs.Common.{◌≡◌, ℕ, zero, suc, ◌+◌, ◌*◌, ◌^◌, ◌<◌, ◌≤◌, Bool, true, false, nat_eq, nat_le, List, [], ◌∷◌, length, map, slice_index, slice_index_or, Option, Some, None, refl, sym, ap, ◌∙◌, subst, arith, ⊎_elim, inl, inr}
use Rattle.std.specs.Prelude.{if◌then◌else◌, replicate}
use Rattle.std.specs.List.{AllByRecursion}
use Rattle.std.specs.List.Sorted.{IsStrictlyIncreasing}
use Rattle.std.proofs.Math.Pow.{pow_mono}
use Rattle.std.proofs.lemmas.Bool.{cases_lt, ne_eqb}
use Rattle.std.proofs.lemmas.Bool.Decides.{nat_tests}
use Rattle.std.proofs.lemmas.Nat.{pow_pos}
use Rattle.vm_field.specs.Field.{modulus}
use Rattle.vm_isa.specs.declared.instr.VmInstr.{VmInstr}
use Rattle.vm_isa.specs.declared.record.StepRecord.{StepRecord}
use Rattle.vm_trace.specs.declared.page.Touched.{Touched}
use Rattle.vm_trace.specs.Canonical.{IsElement, IsDigest, AreTables, HasWidth, IsCanonicalPage, IsCanonicalSegment, height_of}
use Rattle.vm_trace.specs.Contents.{Contents, rows_by_table}
use Rattle.vm_trace.specs.Limits.{Limits}
use Rattle.vm_trace.specs.Pages.{IsMachineLabel}
use Rattle.air_core.specs.ExtensionLaws.{PartRows}
use Rattle.air_core.specs.ListLemmas.{all_weaker, below_at}
use Rattle.air_core.specs.Orders.{Member}
use Rattle.air_core.specs.System.{System, Part, EachRow, GoodRow}
use Rattle.air_core.proofs.ElementLemmas.{all_at, all_from_members, all_map}
use Rattle.lookup_tables.specs.Rows.{exponent_up_to}
use Rattle.offline_memory.specs.Linked.{unmet, BlockFits, PagesFit, first_word}
use Rattle.offline_memory.specs.Memory.{Access, Block, after_all}
use Rattle.offline_memory.specs.Pages.{block_of, blocks_of}
use Rattle.offline_memory.proofs.PageLemmas.{block_member}
use Rattle.page_tree.specs.Opening.{at_leaf, at_pair, at_sibling, opening_root, siblings_needed, walk}
use Rattle.page_tree.specs.Parts.{labels_of, label_of}
use Rattle.page_tree.specs.Tree.{Leaves, some_below}
use Rattle.page_tree.proofs.PartLemmas.{needed-le}
use Rattle.vm_transpile.specs.Order.{RisesFrom}
use Rattle.vm_transpile.proofs.RowOrder.{rises_few}
use Rattle.vm_executor.specs.Records.{AreRecords, accesses_of, start_at}
use Rattle.acceptance.specs.Holds.{IsMachinePage}
use Rattle.acceptance.proofs.CanonicalTrees.{hash_canonical}
use Rattle.vm_filler.specs.Laws.{FilledSegmentsAreCanonical, shape_over}
use Rattle.vm_filler.specs.Segment.{SegmentFilled, PagesOpened, height_code, height_codes_of, filled_segment}
use Rattle.vm_filler.specs.Tables.{IsHeight, AreFilledTables, filled_rows}
use Rattle.vm_filler.proofs.Balance.{rows_good}
use Rattle.vm_filler.proofs.Bounds.{ends_low, last_low, times_low}
use Rattle.vm_filler.proofs.EntriesFit.{entries_canonical}
use Rattle.vm_filler.proofs.Lawful.{Lawful}
use Rattle.vm_filler.proofs.Limits.{filled_few, filled_length, height_is, next_power, twice_at_most}

-- ---- heights

power_order : (j k : ℕ) → 2 ^ j ≤ 2 ^ k → j ≤ k
power_order j k le =
    ⊎_elim
    (λ (less : k < j). let more : 2 ^ suc k ≤ 2 ^ j = pow_mono (let h : suc k ≤ j = omega (arith, less) in h) in absurd (omega (arith, le, more, next_power k, pow_pos k)))
    (λ (most : j ≤ k). most)
    (cases_lt k j)

exponent_at : (n k : ℕ) → k ≤ n → exponent_up_to n (2 ^ k) ≡ k
exponent_at zero k le = omega (arith, le)
exponent_at (suc n) k le = by_size (exponent_at n k) (nat_le (2 ^ suc n) (2 ^ k)) refl
  where
    by_size : (k ≤ n → exponent_up_to n (2 ^ k) ≡ k) → (b : Bool) → nat_le (2 ^ suc n) (2 ^ k) ≡ b → (if b then suc n else exponent_up_to n (2 ^ k)) ≡ k
    by_size below true e = let big : 2 ^ suc n ≤ 2 ^ k = grind (arith, nat_tests) in omega (arith, power_order (suc n) k big, le)
    by_size below false e =
        ⊎_elim
        (λ (low : k < suc n). below (omega (arith, low)))
        (λ (high : suc n ≤ k). let up : 2 ^ suc n ≤ 2 ^ k = pow_mono high in let yes : nat_le (2 ^ suc n) (2 ^ k) ≡ true = grind (arith, nat_tests) in absurd (let z : true ≡ false = sym yes ∙ e in cc))
        (cases_lt k (suc n))

-- the code of a height, and that it is low where the rows are few
pub record Coded (greatest height : ℕ) : Type 0 where
  pub low : height_code height ≤ greatest
  pub is : height ≡ height_of (height_code height)

code_of_power : (k : ℕ) → k ≤ 24 → height_code (2 ^ k) ≡ suc k
code_of_power k low =
    let some : nat_eq (2 ^ k) 0 ≡ false = ne_eqb (2 ^ k) 0 (λ z. omega (arith, z, pow_pos k)) in
    rw some (ap suc (exponent_at 24 k low))

coded_none : (greatest height : ℕ) → height ≡ 0 → Coded greatest height
coded_none greatest height none = rw none (record { low = omega arith; is = refl })

coded_some : (greatest rows height k : ℕ) → IsHeight rows height → height ≡ 2 ^ k → 1 ≤ rows → rows ≤ 2 ^ 22 → rows ≤ height_of greatest → Coded greatest height
coded_some zero rows height k is power some few low = absurd (omega (arith, some, low))
coded_some (suc g) rows height k is power some few low =
    let most : 2 ^ k ≤ 2 ^ g = omega (arith, power, is.least g low) in
    let all : 2 ^ k ≤ 2 ^ 23 = omega (arith, power, twice_at_most rows height is, few) in
    let code : height_code height ≡ suc k = ap height_code power ∙ code_of_power k (omega (arith, power_order k 23 all)) in
    record { low = omega (arith, code, power_order k g most); is = power ∙ ap height_of (sym code) }

coded : (greatest rows height : ℕ) → IsHeight rows height → rows ≤ 2 ^ 22 → rows ≤ height_of greatest → Coded greatest height
coded greatest rows height is few low =
    ⊎_elim
    (λ (some : 0 < rows). let p = is.power (omega (arith, some)) in coded_some greatest rows height p.0 is p.1 (omega (arith, some)) few low)
    (λ (none : rows ≤ 0). coded_none greatest height (is.none (omega (arith, none))))
    (cases_lt 0 rows)

tables_canonical : (greatest : ℕ) (done : List StepRecord) → length done ≤ 65536 → 64 * length done ≤ height_of greatest → (parts : List Part) → AllByRecursion PartRows parts → (tables : List (List (List ℕ))) → AreFilledTables done parts tables
    → EachRow GoodRow parts tables → AreTables greatest (map (λ (p : Part). p.sheet.width) parts) (height_codes_of tables) tables
tables_canonical greatest done few low [] rows [] filled good = tt
tables_canonical greatest done few low [] rows (t ∷ tables) filled good = elim filled [ ]
tables_canonical greatest done few low (p ∷ parts) rows [] filled good = elim filled [ ]
tables_canonical greatest done few low (p ∷ parts) rows (t ∷ tables) filled good =
    let mine = length (filled_rows done p) in
    let count : mine ≤ 64 * length done = omega (arith, filled_length done p, filled_few done p rows.0) in
    let high : length t ≡ mine + filled.0.more = height_is done p t filled.0 in
    let code = coded greatest mine (length t) (subst (IsHeight mine) (sym high) filled.0.height) (omega (arith, count, few)) (omega (arith, count, low)) in (
      record {
        low = code.low;
        height = code.is;
        each = all_weaker (GoodRow p.sheet) (HasWidth p.sheet.width) (λ row h. record { wide = h.is_row.wide; elements = h.is_row.below }) t good.0;
      },
      tables_canonical greatest done few low parts rows.1 tables filled.1 good.1,
    )

-- ---- pages

label_low : (label : ℕ) → IsMachineLabel label → label < 2 ^ 26
label_low label (inl is) = omega (arith, is)
label_low label (inr (inl is)) = omega (arith, is)
label_low label (inr (inr (inl is))) = omega (arith, is.1)
label_low label (inr (inr (inr is))) = omega (arith, is)

all_by_index : (xs : List ℕ) → ((i : ℕ) → i < length xs → slice_index xs i < modulus) → AllByRecursion IsElement xs
all_by_index [] h = tt
all_by_index (x ∷ xs) h = (h 0 (omega arith), all_by_index xs (λ i low. h (suc i) (omega (arith, low))))

final_by : (accesses : List Access) (b : Block) (word : Option (List ℕ)) → AllByRecursion (λ a. a.time < modulus) accesses → BlockFits word (after_all accesses unmet b.space b.pointer) b → b.final < modulus
final_by accesses b None low fits = omega (arith, fits.1)
final_by accesses b (Some word) low fits = last_low accesses unmet b.space b.pointer (b.last, b.final) low (λ s p c h. absurd (cc)) fits.1

page_canonical : (accesses : List Access) (pages : List Touched) → PagesFit pages accesses → AllByRecursion (λ a. a.time < modulus) accesses → (page : Touched) → Member page pages → IsMachinePage page → IsCanonicalPage page
page_canonical accesses pages fit low page stands machine = record {
  label = omega (arith, label_low page.label machine.label);
  whole = machine.whole;
  times = all_by_index page.times (λ i below.
      let b = block_of page i in
      final_by accesses b (first_word accesses b.space b.pointer) low
      (all_at (λ c. BlockFits (first_word accesses c.space c.pointer) (after_all accesses unmet c.space c.pointer) c) (blocks_of pages) b (block_member pages page i stands (omega (arith, below, machine.whole.times))) fit.blocks));
}

-- rising labels are at least as many as their places
place_low : (labels : List ℕ) → IsStrictlyIncreasing labels → (k : ℕ) → k < length labels → k ≤ slice_index labels k
place_low labels rising zero low = omega arith
place_low labels rising (suc k) low =
    let step : slice_index labels k < slice_index labels (k + 1) = rising k (omega (arith, low)) in
    let next : slice_index labels (k + 1) ≡ slice_index labels (suc k) = ap (slice_index labels) (omega arith) in
    omega (arith, place_low labels rising k (omega (arith, low)), step, next)

labels_number : (n : ℕ) (labels : List ℕ) → length labels ≡ n → IsStrictlyIncreasing labels → AllByRecursion (λ l. l < 2013265921) labels → length labels < 2 ^ 32
labels_number zero labels size rising low = omega (arith, size)
labels_number (suc n) labels size rising low = omega (arith, size, place_low labels rising n (omega (arith, size)), below_at labels n low)

labels_length : (pages : List Touched) → length (labels_of pages) ≡ length pages
unfolding labels_of
labels_length [] = refl
labels_length (p ∷ pages) = omega (arith, labels_length pages)

labels_low : (pages : List Touched) → AllByRecursion IsMachinePage pages → AllByRecursion (λ l. l < 2013265921) (labels_of pages)
unfolding labels_of
labels_low pages machine =
    all_map (λ l. l < 2013265921) label_of pages (all_weaker IsMachinePage (λ p. p.label < 2013265921) (λ p h. omega (arith, label_low p.label h.label)) pages machine)

-- ---- roots

zeros_bytes : (n : ℕ) → AllByRecursion (λ b. b < 256) (replicate n 0)
zeros_bytes zero = tt
zeros_bytes (suc n) = (omega arith, zeros_bytes n)

sibling_digest : (siblings : List (List ℕ)) → AllByRecursion IsDigest siblings → IsDigest (slice_index_or siblings 0 (replicate 32 0))
sibling_digest [] h = record { size = refl; bytes = zeros_bytes 32 }
sibling_digest (s ∷ siblings) h = h.0

walk_digest : (labels : List ℕ) (bytes : Leaves) (l i : ℕ) (siblings : List (List ℕ)) → AllByRecursion IsDigest siblings → IsDigest (walk labels bytes l i siblings).digest
unfolding walk at_leaf at_pair at_sibling
walk_digest labels bytes zero i siblings h = by_label (some_below labels zero i)
  where
    by_label : (b : Bool) → IsDigest (if b then at_leaf (bytes i) siblings else at_sibling siblings).digest
    by_label true = hash_canonical (bytes i)
    by_label false = sibling_digest siblings h
walk_digest labels bytes (suc l) i siblings h = by_label (some_below labels (suc l) i)
  where
    by_label : (b : Bool)
        → IsDigest (if b then at_pair (walk labels bytes l (2 * i) siblings) (walk labels bytes l (2 * i + 1) ((walk labels bytes l (2 * i) siblings).left)) else at_sibling siblings).digest
    by_label true = hash_canonical _
    by_label false = sibling_digest siblings h

root_digest : (labels : List ℕ) (bytes : Leaves) (siblings : List (List ℕ)) → AllByRecursion IsDigest siblings → (root : List ℕ) → root ≡ opening_root labels bytes siblings → IsDigest root
unfolding opening_root
root_digest labels bytes siblings h root is = subst IsDigest (sym is) (walk_digest labels bytes 25 0 siblings h)

siblings_few : (labels : List ℕ) → siblings_needed labels < 2 ^ 32
unfolding siblings_needed
siblings_few labels = omega (arith, needed-le labels 25 0)

-- ---- the whole

made_canonical : (x : System) → Lawful x → (limits : Limits) (program : List VmInstr) (pc : ℕ) (done : List StepRecord) (c : Contents) (ends : Bool) (start_root end_root : List ℕ) (pages : List Touched) (siblings : List (List ℕ))
    → RisesFrom 0 program → AreRecords x program pc done → SegmentFilled x program done c → PagesOpened done pages siblings start_root end_root → IsElement pc → 64 * length done ≤ height_of limits.greatest_code
    → IsCanonicalSegment limits (shape_over x program) (filled_segment pc done c ends start_root end_root pages siblings)
made_canonical x lawful limits program pc done c ends start_root end_root pages siblings rises records filled opened low high =
    let tables = rows_by_table c in
    let good = rows_good x lawful program pc done records tables filled.filled in
    let end = ends_low x.time_bits (start_at pc) done lawful.fits.bits_high records.fillable (record { pc = low; time = omega arith }) in
    let times = times_low x.time_bits done lawful.fits.bits_high records.fillable in
    let rows = rises_few 0 program (omega arith) rises in
    record {
      pc_start = low;
      pc_end = end.pc;
      end_time = end.time;
      start_root = root_digest (labels_of pages) _ siblings opened.digests start_root opened.roots.old_root;
      end_root = root_digest (labels_of pages) _ siblings opened.digests end_root opened.roots.new_root;
      tables = tables_canonical limits.greatest_code done records.few high x.parts lawful.rows.parts tables filled.filled good;
      program = entries_canonical x lawful program pc done records tables filled.filled 1 (length program) refl refl (omega (arith, rows)) c.program filled.program_entries;
      xor = entries_canonical x lawful program pc done records tables filled.filled 3 65536 refl refl (omega arith) c.xor filled.xor_entries;
      range = entries_canonical x lawful program pc done records tables filled.filled 4 131071 refl refl (omega arith) c.range filled.range_entries;
      constants = entries_canonical x lawful program pc done records tables filled.filled 5 64 refl refl (omega arith) c.constants filled.constant_entries;
      page_number = omega (arith, labels_number (length (labels_of pages)) (labels_of pages) refl opened.rising (labels_low pages opened.machine), labels_length pages);
      pages = all_from_members IsCanonicalPage pages (λ page stands. page_canonical (accesses_of done) pages opened.fit times page stands (all_at IsMachinePage pages page stands opened.machine));
      sibling_number = omega (arith, opened.roots.number, siblings_few (labels_of pages));
      siblings = opened.digests;
    }

pub filled_segments_are_canonical : (x : System) → Lawful x → FilledSegmentsAreCanonical x
filled_segments_are_canonical x lawful limits program done s rises is low high =
    subst (IsCanonicalSegment limits (shape_over x program)) (sym is.is)
    (made_canonical x lawful limits program s.pc_start done is.contents s.ends s.start_root s.end_root s.pages s.siblings rises is.records is.filled is.opened low high)
