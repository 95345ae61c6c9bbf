-- Rows in another order are accepted as well.
use Rattle.std.proofs.Common.{◌≡◌, ℕ, ◌+◌, ◌*◌, ◌<◌, ◌≤◌, ◌^◌, true, false, List, [], ◌∷◌, ◌++◌, length, refl, sym, ap, subst, ◌∙◌, arith}
use Rattle.std.specs.Prelude.{IsPermutation, flat_map, sum_by}
use Rattle.std.specs.List.{AllByRecursion}
use Rattle.std.proofs.lemmas.List.Sorted.{length_permutation, sum_by-IsPermutation, IsPermutation-sym}
use Rattle.std.proofs.lemmas.List.Sums.{sum_by-cons}
use Rattle.elf_image.specs.Loaded.{Loaded}
use Rattle.vm_isa.specs.declared.instr.VmInstr.{VmInstr}
use Rattle.vm_isa.specs.Blocks.{Terminates}
use Rattle.vm_trace.specs.Canonical.{Shape, HasWidth, IsTable, AreTables, IsCanonicalSegment}
use Rattle.vm_trace.specs.File.{Segment, File}
use Rattle.vm_trace.specs.Limits.{Limits, limits_of}
use Rattle.vm_transpile.specs.Program.{program_of}
use Rattle.air_core.specs.declared.event.Event.{Event}
use Rattle.air_core.specs.declared.event.Side.{Side}
use Rattle.air_core.specs.declared.event.Side.TheVariants.{Send, Receive}
use Rattle.air_core.specs.Balance.{Balanced, total}
use Rattle.air_core.specs.Sheet.{Sheet, IsRow, RowHolds, row_events}
use Rattle.air_core.specs.System.{System, Part, EachRow, all_events}
use Rattle.air_core.proofs.BalanceLemmas.{total-append}
use Rattle.air_core.proofs.ElementLemmas.{all_permuted}
use Rattle.exec_path.specs.PathEvents.{connector_events}
use Rattle.offline_memory.specs.MemoryEvents.{boundary_events}
use Rattle.page_tree.specs.Tree.{root}
use Rattle.page_tree.specs.Start.{start_map}
use Rattle.acceptance.specs.Accepts.{Accepts, ClaimHolds, AreLinked, OnlyLastEnds, IsPublic, last_pc, last_root, shape_of}
use Rattle.acceptance.specs.Events.{counted_events, end_of, segment_events, start_of}
use Rattle.acceptance.specs.Holds.{SegmentHolds, most_slots}
use Rattle.vm_checker.specs.Reordered.{HaveSameRows, IsReordered, AreReordered, IsReorderedFile, ReorderedFilesAreAccepted}

-- ---- tables

tables_long : (ts us : List (List (List ℕ))) → HaveSameRows ts us → length ts ≡ length us
tables_long [] [] h = refl
tables_long [] (u ∷ us) h = absurd h
tables_long (t ∷ ts) [] h = absurd h
tables_long (t ∷ ts) (u ∷ us) h = let more = tables_long ts us h.1 in omega (arith, more)

each_row : (P : Sheet → List ℕ → Type 0) (ps : List Part) (ts us : List (List (List ℕ))) → HaveSameRows ts us → EachRow P ps ts → EachRow P ps us
each_row P [] ts us h k = tt
each_row P (p ∷ ps) [] [] h k = tt
each_row P (p ∷ ps) [] (u ∷ us) h k = absurd h
each_row P (p ∷ ps) (t ∷ ts) [] h k = absurd h
each_row P (p ∷ ps) (t ∷ ts) (u ∷ us) h k = (all_permuted (P p.sheet) t u h.0 k.0, each_row P ps ts us h.1 k.1)

slots_same : (ps : List Part) (ts us : List (List (List ℕ))) → HaveSameRows ts us → most_slots ps ts ≡ most_slots ps us
slots_same [] ts us h = refl
slots_same (p ∷ ps) [] [] h = refl
slots_same (p ∷ ps) [] (u ∷ us) h = absurd h
slots_same (p ∷ ps) (t ∷ ts) [] h = absurd h
slots_same (p ∷ ps) (t ∷ ts) (u ∷ us) h =
    ap (λ (n : ℕ). n * p.sheet.slots + most_slots ps ts) (sym (length_permutation t u h.0)) ∙ ap (λ (n : ℕ). length u * p.sheet.slots + n) (slots_same ps ts us h.1)

are_tables : (greatest : ℕ) (ws cs : List ℕ) (ts us : List (List (List ℕ))) → HaveSameRows ts us → AreTables greatest ws cs ts → AreTables greatest ws cs us
are_tables greatest [] [] [] [] h k = tt
are_tables greatest [] [] [] (u ∷ us) h k = absurd h
are_tables greatest [] [] (t ∷ ts) us h k = elim k [ ]
are_tables greatest [] (c ∷ cs) ts us h k = elim k [ ]
are_tables greatest (w ∷ ws) [] ts us h k = elim k [ ]
are_tables greatest (w ∷ ws) (c ∷ cs) [] us h k = elim k [ ]
are_tables greatest (w ∷ ws) (c ∷ cs) (t ∷ ts) [] h k = absurd h
are_tables greatest (w ∷ ws) (c ∷ cs) (t ∷ ts) (u ∷ us) h k = (
  record { low = k.0.low; height = length_permutation t u h.0 ∙ k.0.height; each = all_permuted (HasWidth w) t u h.0 k.0.each },
  are_tables greatest ws cs ts us h.1 k.1,
)

-- ---- events

module _ (side : Side) (bus : ℕ) (tuple : List ℕ) where
  total_rows : (f : List ℕ → List Event) (rows : List (List ℕ)) → total side bus tuple (flat_map f rows) ≡ sum_by (λ row. total side bus tuple (f row)) rows
  total_rows f [] = refl
  total_rows f (row ∷ rows) =
      let more = total_rows f rows in
      omega (arith, total-append side bus tuple (f row) (flat_map f rows), more, sum_by-cons (λ row. total side bus tuple (f row)) row rows)

  total_tables : (ps : List Part) (ts us : List (List (List ℕ))) → HaveSameRows ts us → total side bus tuple (all_events ps ts) ≡ total side bus tuple (all_events ps us)
  total_tables [] ts us h = refl
  total_tables (p ∷ ps) [] [] h = refl
  total_tables (p ∷ ps) [] (u ∷ us) h = absurd h
  total_tables (p ∷ ps) (t ∷ ts) [] h = absurd h
  total_tables (p ∷ ps) (t ∷ ts) (u ∷ us) h =
      let said = λ (row : List ℕ). total side bus tuple (row_events p.sheet row) in
      omega (
        arith,
        total-append side bus tuple (flat_map (row_events p.sheet) t) (all_events ps ts),
        total-append side bus tuple (flat_map (row_events p.sheet) u) (all_events ps us),
        total_rows (row_events p.sheet) t,
        total_rows (row_events p.sheet) u,
        sum_by-IsPermutation said t u h.0,
        total_tables ps ts us h.1,
      )

  total_same : (x : System) (program : List VmInstr) (s : Segment) (us : List (List (List ℕ))) → HaveSameRows s.tables us
      → total side bus tuple (segment_events x program s) ≡ total side bus tuple (segment_events x program (record s { tables = us }))
  total_same x program s us h =
      let connector = connector_events (start_of s) (end_of s) in
      let rest = counted_events program s ++ flat_map boundary_events s.pages in
      let tables = total_tables x.parts s.tables us h in
      omega (
        arith,
        total-append side bus tuple connector (all_events x.parts s.tables ++ rest),
        total-append side bus tuple connector (all_events x.parts us ++ rest),
        total-append side bus tuple (all_events x.parts s.tables) rest,
        total-append side bus tuple (all_events x.parts us) rest,
        tables,
      )

-- ---- segments

module _ (x : System) (program : List VmInstr) where
  holds_so : (s : Segment) (us : List (List (List ℕ))) → HaveSameRows s.tables us → SegmentHolds x program s → SegmentHolds x program (record s { tables = us })
  holds_so s us h k = record {
    count = sym (tables_long s.tables us h) ∙ k.count;
    are_rows = each_row IsRow x.parts s.tables us h k.are_rows;
    hold = each_row RowHolds x.parts s.tables us h k.hold;
    slots = subst (λ (n : ℕ). n < 2 ^ x.time_bits) (slots_same x.parts s.tables us h) k.slots;
    balanced = record { even = λ bus tuple. sym (total_same Send bus tuple x program s us h) ∙ k.balanced.even bus tuple ∙ total_same Receive bus tuple x program s us h };
    rising = k.rising;
    pages = k.pages;
    digests = k.digests;
    roots = k.roots;
  }

  all_hold : (ss ts : List Segment) → AreReordered ss ts → AllByRecursion (SegmentHolds x program) ss → AllByRecursion (SegmentHolds x program) ts
  all_hold [] [] h k = tt
  all_hold [] (t ∷ ts) h k = absurd h
  all_hold (s ∷ ss) [] h k = absurd h
  all_hold (s ∷ ss) (t ∷ ts) h k = (subst (SegmentHolds x program) (sym h.0.rest) (holds_so s t.tables h.0.rows k.0), all_hold ss ts h.1 k.1)

module _ (limits : Limits) (shape : Shape) where
  canonical_so : (s : Segment) (us : List (List (List ℕ))) → HaveSameRows s.tables us → IsCanonicalSegment limits shape s → IsCanonicalSegment limits shape (record s { tables = us })
  canonical_so s us h k = record {
    pc_start = k.pc_start;
    pc_end = k.pc_end;
    end_time = k.end_time;
    start_root = k.start_root;
    end_root = k.end_root;
    tables = are_tables limits.greatest_code shape.widths s.height_codes s.tables us h k.tables;
    program = k.program;
    xor = k.xor;
    range = k.range;
    constants = k.constants;
    page_number = k.page_number;
    pages = k.pages;
    sibling_number = k.sibling_number;
    siblings = k.siblings;
  }

  all_canonical : (ss ts : List Segment) → AreReordered ss ts → AllByRecursion (IsCanonicalSegment limits shape) ss → AllByRecursion (IsCanonicalSegment limits shape) ts
  all_canonical [] [] h k = tt
  all_canonical [] (t ∷ ts) h k = absurd h
  all_canonical (s ∷ ss) [] h k = absurd h
  all_canonical (s ∷ ss) (t ∷ ts) h k = (subst (IsCanonicalSegment limits shape) (sym h.0.rest) (canonical_so s t.tables h.0.rows k.0), all_canonical ss ts h.1 k.1)

segments_long : (ss ts : List Segment) → AreReordered ss ts → length ss ≡ length ts
segments_long [] [] h = refl
segments_long [] (t ∷ ts) h = absurd h
segments_long (s ∷ ss) [] h = absurd h
segments_long (s ∷ ss) (t ∷ ts) h = let more = segments_long ss ts h.1 in omega (arith, more)

linked_so : (pc : ℕ) (start : List ℕ) (ss ts : List Segment) → AreReordered ss ts → AreLinked pc start ss → AreLinked pc start ts
linked_so pc start [] [] h k = tt
linked_so pc start [] (t ∷ ts) h k = absurd h
linked_so pc start (s ∷ ss) [] h k = absurd h
linked_so pc start (s ∷ ss) (t ∷ ts) h k =
    let same = h.0.rest in (
      ap (λ (q : Segment). q.pc_start) same ∙ k.0,
      ap (λ (q : Segment). q.start_root) same ∙ k.1,
      linked_so t.pc_end t.end_root ss ts h.1
          (subst (λ (root : List ℕ). AreLinked t.pc_end root ss) (sym (ap (λ (q : Segment). q.end_root) same)) (subst (λ (at : ℕ). AreLinked at s.end_root ss) (sym (ap (λ (q : Segment). q.pc_end) same)) k.2)),
    )

ends_so : (ss ts : List Segment) → AreReordered ss ts → OnlyLastEnds ss → OnlyLastEnds ts
ends_so [] [] h k = tt
ends_so [] (t ∷ ts) h k = absurd h
ends_so (s ∷ ss) [] h k = absurd h
ends_so (s ∷ []) (t ∷ []) h k = ap (λ (q : Segment). q.ends) h.0.rest ∙ k
ends_so (s ∷ []) (t ∷ u ∷ ts) h k = absurd h.1
ends_so (s ∷ r ∷ ss) (t ∷ []) h k = absurd h.1
ends_so (s ∷ r ∷ ss) (t ∷ u ∷ ts) h k = (ap (λ (q : Segment). q.ends) h.0.rest ∙ k.0, ends_so (r ∷ ss) (u ∷ ts) h.1 k.1)

last_pc_same : (pc : ℕ) (ss ts : List Segment) → AreReordered ss ts → last_pc pc ss ≡ last_pc pc ts
last_pc_same pc [] [] h = refl
last_pc_same pc [] (t ∷ ts) h = absurd h
last_pc_same pc (s ∷ ss) [] h = absurd h
last_pc_same pc (s ∷ ss) (t ∷ ts) h = ap (λ (at : ℕ). last_pc at ss) (sym (ap (λ (q : Segment). q.pc_end) h.0.rest)) ∙ last_pc_same t.pc_end ss ts h.1

last_root_same : (start : List ℕ) (ss ts : List Segment) → AreReordered ss ts → last_root start ss ≡ last_root start ts
last_root_same start [] [] h = refl
last_root_same start [] (t ∷ ts) h = absurd h
last_root_same start (s ∷ ss) [] h = absurd h
last_root_same start (s ∷ ss) (t ∷ ts) h = ap (λ (at : List ℕ). last_root at ss) (sym (ap (λ (q : Segment). q.end_root) h.0.rest)) ∙ last_root_same t.end_root ss ts h.1

accepts_so : (x : System) (image : Loaded) (f : File) (ts : List Segment) → AreReordered f.segments ts → Accepts x image f → Accepts x image (record f { segments = ts })
accepts_so x image f ts h a =
    let c = a.claim in
    record {
      bits = a.bits;
      canonical = record { first = a.canonical.first; version = a.canonical.version; segments = all_canonical (limits_of f.version) (shape_of x image) f.segments ts h a.canonical.segments; claim = record { code = a.canonical.claim.code; public_bytes = a.canonical.claim.public_bytes; levels = a.canonical.claim.levels; path = a.canonical.claim.path } };
      claim = record {
        some = subst (λ (n : ℕ). 1 ≤ n) (segments_long f.segments ts h) c.some;
        few = subst (λ (n : ℕ). n ≤ 4096) (segments_long f.segments ts h) c.few;
        hold = all_hold x (program_of image) f.segments ts h c.hold;
        linked = linked_so image.entry (root (start_map image)) f.segments ts h c.linked;
        ends = ends_so f.segments ts h c.ends;
        terminates = subst (λ (pc : ℕ). Terminates (program_of image) pc f.code) (last_pc_same image.entry f.segments ts h) c.terminates;
        public = subst (λ (end : List ℕ). IsPublic f.public_bytes f.path end) (last_root_same (root (start_map image)) f.segments ts h) c.public;
      };
    }

-- ---- and back

same_rows_back : (ts us : List (List (List ℕ))) → HaveSameRows ts us → HaveSameRows us ts
same_rows_back [] [] h = tt
same_rows_back [] (u ∷ us) h = absurd h
same_rows_back (t ∷ ts) [] h = absurd h
same_rows_back (t ∷ ts) (u ∷ us) h = (IsPermutation-sym t u h.0, same_rows_back ts us h.1)

reordered_back : (s t : Segment) → IsReordered s t → IsReordered t s
reordered_back s t h = record { rows = same_rows_back s.tables t.tables h.rows; rest = sym (ap (λ (q : Segment). record q { tables = s.tables }) h.rest) }

all_back : (ss ts : List Segment) → AreReordered ss ts → AreReordered ts ss
all_back [] [] h = tt
all_back [] (t ∷ ts) h = absurd h
all_back (s ∷ ss) [] h = absurd h
all_back (s ∷ ss) (t ∷ ts) h = (reordered_back s t h.0, all_back ss ts h.1)

file_back : (f g : File) → IsReorderedFile f g → IsReorderedFile g f
file_back f g h = record { segments = all_back f.segments g.segments h.segments; rest = sym (ap (λ (q : File). record q { segments = f.segments }) h.rest) }

accepts_reordered : (x : System) (image : Loaded) (f g : File) → IsReorderedFile f g → Accepts x image f → Accepts x image g
accepts_reordered x image f g h a = subst (Accepts x image) (sym h.rest) (accepts_so x image f g.segments h.segments a)

pub reordered_files_are_accepted : ReorderedFilesAreAccepted
reordered_files_are_accepted x image f g h = (accepts_reordered x image f g h, accepts_reordered x image g f (file_back f g h))
