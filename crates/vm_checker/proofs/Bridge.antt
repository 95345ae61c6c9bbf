-- A segment is read part by part as the form reads it.
use Rattle.std.proofs.Common.{◌≡◌, ℕ, zero, suc, ◌+◌, List, [], ◌∷◌, length, map, get_or, Option, Some, None, Result, Ok, Err, refl, sym, ap, subst, ◌∙◌, arith, slice_index}
use Rattle.std.specs.List.{slice_index_or}
use Rattle.std.specs.Prelude.{IfSome}
use Rattle.std.proofs.lemmas.List.{length-map}
use Rattle.readings.specs.Readings.{Rest, rest_at, Reading, after, refusing, seen, both, unless, chain}
use Rattle.readings.specs.Told.{GaveBy, Gave, Stops, IfRefused}
use Rattle.readings.specs.declared.Stop.{Stop}
use Rattle.readings.specs.declared.Stop.TheVariants.{Refused, Fault, OutOfMemory}
use Rattle.readings.proofs.Exacts.{done}
use Rattle.readings.proofs.Same.{after_same, both_same, both_seen, chain_long, unless_ok}
use Rattle.vm_host.specs.State.{HostState}
use Rattle.vm_isa.specs.declared.instr.VmInstr.{VmInstr}
use Rattle.vm_trace.specs.declared.page.Touched.{Touched}
use Rattle.vm_trace.specs.Canonical.{height_of}
use Rattle.vm_trace.specs.File.{Segment, File}
use Rattle.vm_trace.specs.Limits.{Limits, limits_of}
use Rattle.air_core.specs.System.{System, Part, no_part, sheet_at}
use Rattle.table_format.specs.declared.reason.Reason.{Reason}
use Rattle.table_format.specs.Order.{Bounds, Counts, Stand, Tests, bounds, codes, counts, height_code, next_place, pages, rows, segment, segment_of, siblings, tables, without_siblings}
use Rattle.table_format.specs.Stream.{Held, told_by, ReadsBy}
use Rattle.table_format.proofs.Drawn.{Drew, Halts}
use Rattle.vm_checker.specs.declared.Before.{Before}
use Rattle.vm_checker.specs.FirstReason.{segment_alone, segment_tests, shape_over, slots_test, whole_test}
use Rattle.vm_checker.specs.Items.{Inside, code_list, codes_of, inside_of, pages_of, said_in, segment_by, siblings_of, tables_of}

-- ---- the tables

abbrev width_of : Part → ℕ
width_of p = p.sheet.width

at_first : (f : ℕ → ℕ) (k v : ℕ) → f (k + 0) ≡ v → f k ≡ v
at_first f k v h = let same : k + 0 ≡ k = omega arith in subst (λ (n : ℕ). f n ≡ v) same h

at_next : (f : ℕ → ℕ) (k j v : ℕ) → f (k + suc j) ≡ v → f (k + 1 + j) ≡ v
at_next f k j v h = let same : k + suc j ≡ k + 1 + j = omega arith in subst (λ (n : ℕ). f n ≡ v) same h

module _ (t : Tests) (at : Stand) (width code : ℕ → ℕ) where
  -- the rows of the table of a number
  abbrev each : ℕ → Reading Reason (List (List ℕ))
  each table = rows t at table (width table) (height_of (code table))

  tables_chain : (k : ℕ) (ps : List Part) (cs : List ℕ) → length cs ≡ length ps → ((j : ℕ) → width (k + j) ≡ (get_or ps j no_part).sheet.width) → ((j : ℕ) → code (k + j) ≡ get_or cs j 0) → (s : Rest)
      → tables t at k (map width_of ps) cs s ≡ chain each next_place (length ps) k s
  unfolding tables chain
  tables_chain k [] [] e w c s = refl
  tables_chain k [] (d ∷ cs) e w c s = absurd (omega (arith, e))
  tables_chain k (p ∷ ps) [] e w c s = absurd (omega (arith, e))
  tables_chain k (p ∷ ps) (d ∷ cs) e w c s =
      let wide : width k ≡ p.sheet.width = at_first width k p.sheet.width (w 0) in
      let high : code k ≡ d = at_first code k d (c 0) in
      let more : length cs ≡ length ps = omega (arith, e) in
      let first = rows t at k p.sheet.width (height_of d) s in
      let same : first ≡ each k s = ap (λ (n : ℕ). rows t at k n (height_of d) s) (sym wide) ∙ ap (λ (n : ℕ). rows t at k (width k) (height_of n) s) (sym high) in
      both_seen first (λ rs. tables t at (k + 1) (map width_of ps) cs) (λ q. q.0 ∷ q.1)
      ∙ after_same first (λ rs u. after (tables t at (k + 1) (map width_of ps) cs u) (λ ts l. done (rs ∷ ts, l))) (λ rs u. after (chain each next_place (length ps) (k + 1) u) (λ ts l. done (rs ∷ ts, l)))
      (λ rs u is. ap (λ (z : Result (List (List (List ℕ)) × Rest) Reason). after z (λ ts l. done (rs ∷ ts, l)))
      (tables_chain (k + 1) ps cs more (λ j. at_next width k j (get_or ps j no_part).sheet.width (w (suc j))) (λ j. at_next code k j (get_or cs j 0) (c (suc j))) u))
      ∙ ap (λ (z : Result (List (List ℕ) × Rest) Reason). after z (λ rs u. after (chain each next_place (length ps) (k + 1) u) (λ ts l. done (rs ∷ ts, l)))) same

-- ---- the segment

-- the tests of a check of segments, whatever is tested between them and behind them
abbrev pub tests_with : System → List VmInstr → (Stand → Option Before) → (Stand → Option Reason) → (Stand → Option Reason) → (Stand → File → Option Reason) → Tests
tests_with x program start follows closed claim = record (segment_tests x program start) { follows = follows; closed = closed; claim = claim }

module _ (x : System) (program : List VmInstr) (start : Stand → Option Before) (follows closed : Stand → Option Reason) (claim : Stand → File → Option Reason) (limits : Limits) (at : Stand) where
  abbrev t : Tests
  t = tests_with x program start follows closed claim

  abbrev widths : List ℕ
  widths = map width_of x.parts

  tables_are : (cs : List ℕ) → length cs ≡ length x.parts → (s : Rest) → tables_of x at.number cs s ≡ tables t at 0 widths cs s
  tables_are cs e s =
      let zero_more = λ (j : ℕ). let same : 0 + j ≡ j = omega arith in same in
      sym (tables_chain t at (λ table. (sheet_at x table).width) (λ table. slice_index cs table) 0 x.parts cs e
      (λ j. ap (λ (n : ℕ). (slice_index_or x.parts n no_part).sheet.width) (zero_more j)) (λ j. ap (λ (n : ℕ). slice_index cs n) (zero_more j)) s)

  -- what stands behind the tables
  abbrev Last : Type 0
  Last = Counts × (List Touched × List (List ℕ))

  abbrev rest_of : Bounds → List (List (List ℕ)) → Reading Reason Last
  rest_of h ts = both (counts (length program)) (λ ls. both (pages_of at.number) (λ ps. siblings_of at.number (said_in x program h ts ls ps) ps))

  inside_same : (h : Bounds) (cs : List ℕ) → length cs ≡ length x.parts → (s : Rest)
      → inside_of x program at.number h cs s ≡ both (tables t at 0 widths cs) (λ ts. rest_of h ts) s
  inside_same h cs e s =
      ap (λ (z : Result (List (List (List ℕ)) × Rest) Reason). after z (λ ts u. after (rest_of h ts u) (λ b l. done ((ts, b), l)))) (tables_are cs e s)

  codes_long : (s u : Rest) (cs : List ℕ) → codes_of x limits.greatest_code at.number s ≡ Ok (cs, u) → length cs ≡ length x.parts
  codes_long s u cs e =
      chain_long (height_code limits.greatest_code at.number) next_place (length x.parts) 0 s u cs (unless_ok (slots_test x at.number) (code_list (length x.parts) limits.greatest_code at.number) s u cs e).0

  behind_bounds : (h : Bounds) (s : Rest) → both (codes_of x limits.greatest_code at.number) (λ cs. inside_of x program at.number h cs) s
      ≡ both (codes limits t at (length widths)) (λ cs. both (tables t at 0 widths cs) (λ ts. rest_of h ts)) s
  behind_bounds h s =
      both_same (codes_of x limits.greatest_code at.number) (λ cs. inside_of x program at.number h cs) (λ cs. both (tables t at 0 widths cs) (λ ts. rest_of h ts)) s
      (λ cs u e. inside_same h cs (codes_long s u cs e) u)
      ∙ ap (λ (n : ℕ). both (unless (slots_test x at.number) (chain (height_code limits.greatest_code at.number) next_place n 0)) (λ cs. both (tables t at 0 widths cs) (λ ts. rest_of h ts)) s) (sym (length-map x.parts width_of))

  pub segment_is : (s : Rest) → segment_by limits.greatest_code x program (start at) at.number s ≡ segment limits (shape_over x program) t at s
  segment_is s =
      ap (λ (z : Result ((Bounds × (List ℕ × Inside)) × Rest) Reason). after (after z (λ p u. done (segment_of p, u))) (λ v u. refusing (whole_test program (start at) at.number v) (v, u)))
      (both_same bounds (λ h. both (codes_of x limits.greatest_code at.number) (λ cs. inside_of x program at.number h cs))
      (λ h. both (codes limits t at (length widths)) (λ cs. both (tables t at 0 widths cs) (λ ts. rest_of h ts))) s (λ h u e. behind_bounds h u))

-- ---- readings that are the same, by a call

module _ {V : Type 0} {r q : Reading Reason V} (same : (s : Rest) → r s ≡ q s) where
  gave_as : (v : V) (i j : ℕ) (a b : Option (List ℕ)) → GaveBy r v i j a b → GaveBy q v i j a b
  gave_as v i j None None g = tt
  gave_as v i j None (Some more) g = absurd g
  gave_as v i j (Some bytes) None g = absurd g
  gave_as v i j (Some bytes) (Some more) g = sym (same (rest_at i bytes)) ∙ g

  stops_as : (e : Reason) (i : ℕ) (a : Option (List ℕ)) → IfSome a (λ bytes. r (rest_at i bytes) ≡ Err e) → IfSome a (λ bytes. q (rest_at i bytes) ≡ Err e)
  stops_as e i None h = tt
  stops_as e i (Some bytes) h = sym (same (rest_at i bytes)) ∙ h

  refused_as : (a b : Held) (s : HostState) (e : Stop Reason) → IfRefused e (Stops r (told_by a s)) → IfRefused e (Stops q (told_by a s))
  refused_as a b s (Refused reason) h = stops_as reason a.at (told_by a s).rest h
  refused_as a b s Fault h = tt
  refused_as a b s OutOfMemory h = tt

  pub drew_as : {a b : Held} {s u : HostState} {v : V} → Drew r a b s u v → Drew q a b s u v
  drew_as {a} {b} {s} {u} {v} h = record { draws = h.draws; gave = gave_as v a.at b.at (told_by a s).rest (told_by b u).rest h.gave }

  pub halts_as : {a b : Held} {s u : HostState} {e : Stop Reason} → Halts r a b s u e → Halts q a b s u e
  halts_as {a} {b} {s} {u} {e} h = record { draws = h.draws; fault = h.fault; refused = refused_as a b s e h.refused }

  pub reads_as : {K : Type 0} {Stands : V → K → Type 0} {a b : Held} {s u : HostState} (result : Result K (Stop Reason)) → ReadsBy r Stands a b s u result → ReadsBy q Stands a b s u result
  reads_as {a = a} {b} {s} {u} (Ok k) h = record { kept = h.kept; fault = tt; ok = (h.ok.0, h.ok.1, gave_as h.ok.0 a.at b.at (told_by a s).rest (told_by b u).rest h.ok.2); refused = tt }
  reads_as {a = a} {b} {s} {u} (Err e) h = record { kept = h.kept; fault = h.fault; ok = tt; refused = refused_as a b s e h.refused }

-- an answer by the parts of a segment is one by the form
pub reads_alone : {K : Type 0} {Stands : Segment → K → Type 0} {a b : Held} {s u : HostState} (x : System) (program : List VmInstr) (version : ℕ) (before : Option Before) (place : ℕ) (result : Result K (Stop Reason))
    → ReadsBy (segment_by (limits_of version).greatest_code x program before place) Stands a b s u result → ReadsBy (segment_alone x program version before place) Stands a b s u result
reads_alone x program version before place result h =
    reads_as (segment_is x program (λ at. before) (λ at. None) (λ at. None) (λ at f. None) (limits_of version) (record { number = place; before = [] })) result h
