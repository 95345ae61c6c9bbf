-- What a writer's calls leave, from what was put.
use Rattle.std.proofs.Common.{◌≡◌, ℕ, zero, suc, ◌+◌, ◌*◌, ◌^◌, ◌<◌, ◌≤◌, List, [], ◌∷◌, ◌++◌, length, map, Bool, true, false, Option, Result, Ok, Err, inl, inr, refl, sym, ap, subst, ◌∙◌, arith, nat_eq}
use Rattle.std.specs.Prelude.{◌⊎◌, Some, None, IfSome, OnOk, IsErrAnd, if◌then◌else◌}
use lib.Count.{count_leading_zeros}
use Rattle.std.proofs.lemmas.Bool.{cases_lt}
use Rattle.std.proofs.lemmas.List.{append-nil}
use Rattle.std.proofs.Math.Pow.{pow_mono}
use Rattle.std.proofs.lemmas.Nat.{pow_pos, pow-add, leading_top}
use Rattle.std.proofs.lemmas.Result.{err_from_is_err_and}
use Rattle.std.specs.List.{flat_map}
use Rattle.vm_host.specs.declared.HostError.{HostError}
use Rattle.vm_host.specs.declared.HostError.TheVariants.{Failed, OutOfMemory}
use Rattle.vm_host.specs.declared.Place.{Place}
use Rattle.vm_host.specs.declared.Place.TheVariants.{Out}
use Rattle.vm_host.specs.State.{HostState, then_more}
use Rattle.vm_host.specs.Calls.{Rose, Notes, Creates, Finishes}
use Rattle.vm_trace.specs.declared.count.CountEntry.{CountEntry}
use Rattle.vm_trace.specs.declared.page.Touched.{Touched}
use Rattle.vm_trace.specs.Canonical.{AreTables, height_of}
use Rattle.vm_trace.specs.Contents.{Contents, TableRows}
use Rattle.vm_trace.specs.File.{Segment}
use Rattle.vm_trace.specs.Limits.{Limits, limits_of}
use Rattle.table_format.specs.declared.item.Connector.{Connector}
use Rattle.table_format.specs.declared.table_writer.TableWriter.{TableWriter}
use Rattle.table_format.specs.Texts.{head_text, byte_text, rows_text, piece_text}
use Rattle.table_format.specs.Writing.{Puts, Wrote, Begins, AreCountable, IsSegmentOf, digits, code_text, table_text, made_text}
use Rattle.table_format.proofs.Putting.{no_error, cause_both}

-- all that was put was written, where nothing waits
pub wrote : {x a b : List ℕ} {s t : HostState} (result : Result (Unit {0}) HostError) → a ≡ [] → Puts x a b s t result → OnOk result (b ≡ []) → Wrote x s t result
wrote {x} (Ok tt) e p none = record { cause = p.cause; done = p.done; rest = p.rest; written = p.written; parts = p.parts ∙ ap (λ (k : List ℕ). k ++ x) e; whole = sym p.waits ∙ none; frame = p.frame }
wrote {x} (Err d) e p none = record { cause = p.cause; done = p.done; rest = p.rest; written = p.written; parts = p.parts ∙ ap (λ (k : List ℕ). k ++ x) e; whole = tt; frame = p.frame }

pub wrote_part : {x a b : List ℕ} {s t : HostState} (e : HostError) (result : Result (Unit {0}) HostError) → IsErrAnd result (λ d. d ≡ e) → a ≡ [] → Puts {T = Unit {0}} x a b s t (Err e) → Wrote x s t result
wrote_part e result is none p = let k = err_from_is_err_and result is in rw (k.1, k.2) (wrote (Err e) none p tt)

pub on_ok : {P : Type 0} (result : Result (Unit {0}) HostError) → P → OnOk result P
on_ok (Ok tt) p = p
on_ok (Err e) p = tt

-- and then the output was closed
pub wrote_closed : {x a b : List ℕ} {s t u : HostState} (result : Result (Unit {0}) HostError) → a ≡ [] → Puts x a b s t no_error → b ≡ [] → Finishes {T = Unit {0}} t u result → Wrote x s u result
wrote_closed {x = x} {s = s} {t} {u} result e p none f = record {
  cause = cause_both s.faults t.faults u.faults result p.cause.later f.cause;
  done = p.done;
  rest = p.rest;
  written = ap (λ (k : HostState). k.output.written) f.closed ∙ p.written;
  parts = p.parts ∙ ap (λ (k : List ℕ). k ++ x) e;
  whole = on_ok result (sym p.waits ∙ none);
  frame = f.closed ∙ ap (λ (k : HostState). record k { faults = u.faults; output = record { creating = false; written = t.output.written } }) p.frame ∙ sym (ap (λ (k : HostState). record s { faults = u.faults; output = k.output }) f.closed);
}

pub closed : {t u : HostState} (result : Result (Unit {0}) HostError) → Finishes {T = Unit {0}} t u result → OnOk result (u.output.creating ≡ false)
closed result f = on_ok result (ap (λ (k : HostState). k.output.creating) f.closed)

-- ---- heights

twice : (k : ℕ) → 2 ^ suc k ≡ 2 * 2 ^ k
twice k = let e : suc k ≡ 1 + k = omega arith in ap (λ (n : ℕ). 2 ^ n) e ∙ pow-add 2 1 k

same_power : (j k : ℕ) → 2 ^ j ≤ 2 ^ k → 2 ^ k < 2 ^ suc j → j ≡ k
same_power j k le lt =
    elim (cases_lt j k) [
      | inl less ↦ let next : suc j ≤ k = omega arith in let more : 2 ^ suc j ≤ 2 ^ k = pow_mono next in absurd (omega arith)
      | inr most ↦ elim (cases_lt k j) [
        | inl less ↦ let next : suc k ≤ j = omega arith in let more : 2 ^ suc k ≤ 2 ^ j = pow_mono next in absurd (omega (arith, twice k, pow_pos k))
        | inr least ↦ omega arith
      ]
    ]

-- a code is the number of digits of its height
digits_of : (code : ℕ) → code ≤ 31 → digits (height_of code) ≡ code
unfolding count_leading_zeros
digits_of zero le = refl
digits_of (suc k) le =
    let next : suc k ≤ 32 = omega arith in
    let up : 2 ^ suc k ≤ 2 ^ 32 = pow_mono next in
    let fits : 2 ^ k < 2 ^ 32 = omega (arith, twice k, pow_pos k, up) in
    let top = leading_top 32 (2 ^ k) (pow_pos k) fits in
    let same = same_power top.0 k top.2 top.3 in
    omega (arith, top.1, same)

codes_are : (greatest : ℕ) (widths codes : List ℕ) (tables : List TableRows) → greatest ≤ 31 → AreTables greatest widths codes (map (λ t. t.rows) tables) → flat_map byte_text codes ≡ flat_map code_text tables
codes_are greatest [] [] [] low h = refl
codes_are greatest [] [] (t ∷ ts) low h = absurd h
codes_are greatest [] (c ∷ cs) ts low h = absurd h
codes_are greatest (w ∷ ws) [] ts low h = absurd h
codes_are greatest (w ∷ ws) (c ∷ cs) [] low h = absurd h
codes_are greatest (w ∷ ws) (c ∷ cs) (t ∷ ts) low h =
    let code : digits (length t.rows) ≡ c = ap digits h.0.height ∙ digits_of c (omega (arith, h.0.low, low)) in
    rw (code, codes_are greatest ws cs ts low h.1) refl

tables_are : (tables : List TableRows) → flat_map rows_text (map (λ t. t.rows) tables) ≡ flat_map table_text tables
tables_are [] = refl
tables_are (t ∷ ts) = ap (λ (k : List ℕ). rows_text t.rows ++ k) (tables_are ts)

few_by : (b : Bool) (x y : Limits) → x.greatest_code ≤ 31 → y.greatest_code ≤ 31 → (if b then x else y).greatest_code ≤ 31
few_by true x y p q = p
few_by false x y p q = q

few_codes : (version : ℕ) → (limits_of version).greatest_code ≤ 31
few_codes version =
    let x : Limits = record { time_bits = 24; greatest_code = 21 } in
    let y : Limits = record { time_bits = 29; greatest_code = 25 } in
    few_by (nat_eq version 1) x y (omega arith) (omega arith)

-- the bytes of a segment's parts are the segment's
pub made_is : (version : ℕ) (connector : Connector) (start end : List ℕ) (tables : Contents) (pages : List Touched) (siblings : List (List ℕ)) (v : Segment)
    → IsSegmentOf version connector start end tables pages siblings v → made_text connector start end tables pages siblings ≡ piece_text v
made_is version connector start end tables pages siblings v h =
    let m = h.0 in
    let rows : AreTables (limits_of version).greatest_code h.1.0.widths v.height_codes (map (λ t. t.rows) tables.tables) = subst (AreTables (limits_of version).greatest_code h.1.0.widths v.height_codes) m.rows h.1.1.tables in
    rw (m.pc_start, m.pc_end, m.end_time, m.ends, m.start_root, m.end_root, m.rows, m.program, m.xor, m.range, m.constants, m.pages, m.siblings, codes_are (limits_of version).greatest_code h.1.0.widths v.height_codes tables.tables (few_codes version) rows, tables_are tables.tables) refl

pub countable : (version : ℕ) (connector : Connector) (start end : List ℕ) (tables : Contents) (pages : List Touched) (siblings : List (List ℕ)) (v : Segment)
    → IsSegmentOf version connector start end tables pages siblings v → AreCountable tables × (length pages < 2 ^ 32) × (length siblings < 2 ^ 32)
countable version connector start end tables pages siblings v h =
    let m = h.0 in
    let k = h.1.1 in (
      record {
        program = subst (λ (es : List CountEntry). length es < 2 ^ 32) m.program k.program.number;
        xor = subst (λ (es : List CountEntry). length es < 2 ^ 32) m.xor k.xor.number;
        range = subst (λ (es : List CountEntry). length es < 2 ^ 32) m.range k.range.number;
        constants = subst (λ (es : List CountEntry). length es < 2 ^ 32) m.constants k.constants.number;
      },
      subst (λ (ps : List Touched). length ps < 2 ^ 32) m.pages k.page_number,
      subst (λ (ds : List (List ℕ)). length ds < 2 ^ 32) m.siblings k.sibling_number,
    )

-- ---- begin

head_part : (s t : Option (List ℕ)) (done rest head : List ℕ) → IfSome s (λ bytes. bytes ≡ []) → t ≡ then_more s done → done ++ rest ≡ head → IfSome t (λ bytes. (more : List ℕ) × (bytes ++ more ≡ head))
head_part None None done rest head none e f = tt
head_part None (Some ys) done rest head none e f = absurd cc
head_part (Some xs) None done rest head none e f = absurd cc
head_part (Some xs) (Some ys) done rest head none e f =
    let same : ys ≡ xs ++ done = cc in
    (rest, ap (λ (k : List ℕ). k ++ rest) (same ∙ ap (λ (k : List ℕ). k ++ done) none) ∙ f)

head_whole : (s t : Option (List ℕ)) (done rest head : List ℕ) → IfSome s (λ bytes. bytes ≡ []) → t ≡ then_more s done → done ++ rest ≡ head → rest ≡ [] → IfSome t (λ bytes. bytes ≡ head)
head_whole None None done rest head none e f g = tt
head_whole None (Some ys) done rest head none e f g = absurd cc
head_whole (Some xs) None done rest head none e f g = absurd cc
head_whole (Some xs) (Some ys) done rest head none e f g =
    let same : ys ≡ xs ++ done = cc in
    same ∙ ap (λ (k : List ℕ). k ++ done) none ∙ sym (append-nil done) ∙ ap (λ (k : List ℕ). done ++ k) (sym g) ∙ f

empty_part : (t : Option (List ℕ)) (head : List ℕ) → IfSome t (λ bytes. bytes ≡ []) → IfSome t (λ bytes. (more : List ℕ) × (bytes ++ more ≡ head))
empty_part None head h = tt
empty_part (Some xs) head h = (head, ap (λ (k : List ℕ). k ++ head) h)

named_as : {T : Type 0} (old new : Option (List (Place × List ℕ))) (pair : Place × List ℕ) (result : Result T HostError) → Notes {T = Unit {0}} old new pair no_error → Notes old new pair result
named_as old new pair result (inl e) = inl e
named_as old new pair result (inr e) = absurd (cc (e.0))

refused_name : (old new : Option (List (Place × List ℕ))) (pair : Place × List ℕ) (e : HostError) → Notes {T = Unit {0}} old new pair (Err e) → Notes {T = TableWriter} old new pair (Err e)
refused_name old new pair e (inl h) = inl h
refused_name old new pair e (inr h) = inr (let same : e ≡ OutOfMemory = cc (h.0) in ap Err same, h.1)

refused_part : (s t : Option (List ℕ)) (head : List ℕ) → (t ≡ s) ⊎ IfSome t (λ bytes. bytes ≡ []) → (t ≡ s) ⊎ IfSome t (λ bytes. (more : List ℕ) × (bytes ++ more ≡ head))
refused_part s t head (inl h) = inl h
refused_part s t head (inr h) = inr (empty_part t head h)

-- memory was refused first
pub begins_nothing : {version : ℕ} {name : List ℕ} {s : HostState} (result : Result TableWriter HostError) → IsErrAnd result (λ d. d ≡ OutOfMemory) → Begins version name s s result
begins_nothing result is =
    let k = err_from_is_err_and result is in
    rw (k.1, k.2) (record {
      cause = record { later = omega arith; failed = λ f. absurd cc };
      named = inr (refl, refl);
      whole = tt;
      part = inl refl;
      frame = refl;
      writer = tt;
    })

pub begins_refused : {version : ℕ} {name : List ℕ} {s t : HostState} (e : HostError) (result : Result TableWriter HostError) → IsErrAnd result (λ d. d ≡ e) → Creates {T = Unit {0}} name s t (Err e) → Begins version name s t result
begins_refused {version} {name} {s} {t} e result is c =
    let k = err_from_is_err_and result is in
    rw (k.1, k.2) (record {
      cause = record { later = c.cause.later; failed = λ f. let same : e ≡ Failed = cc in c.cause.failed (ap Err same) };
      named = refused_name s.named t.named (Out, name) e c.named;
      whole = tt;
      part = refused_part s.output.written t.output.written (head_text version) c.kept;
      frame = c.frame;
      writer = tt;
    })

later_frame : (s t u : HostState) → u ≡ record t { faults = u.faults; output = u.output }
    → record s { faults = u.faults; output = u.output; named = t.named; content = t.content } ≡ record s { faults = u.faults; output = u.output; named = u.named; content = u.content }
later_frame s t u e = ap (λ (x : HostState). record s { faults = u.faults; output = u.output; named = x.named; content = x.content }) (sym e)

-- the head was refused
pub begins_part : {version : ℕ} {name : List ℕ} {s t u : HostState} (e : HostError) (result : Result TableWriter HostError) → IsErrAnd result (λ d. d ≡ e) → Creates {T = Unit {0}} name s t no_error → Wrote {T = Unit {0}} (head_text version) t u (Err e) → Begins version name s u result
begins_part {version} {name} {s} {t} {u} e result is c w =
    let k = err_from_is_err_and result is in
    rw (k.1, k.2) (record {
      cause = record { later = omega (arith, c.cause.later, w.cause.later); failed = λ f. let same : e ≡ Failed = cc in let rose : Rose t.faults u.faults = w.cause.failed (ap Err same) in omega (arith, rose, c.cause.later) };
      named = named_as s.named u.named (Out, name) (Err e) (subst (λ (n : Option (List (Place × List ℕ))). Notes {T = Unit {0}} s.named n (Out, name) no_error) (sym (ap (λ (x : HostState). x.named) w.frame)) c.named);
      whole = tt;
      part = inr (head_part t.output.written u.output.written w.done w.rest (head_text version) c.empty.1 w.written w.parts);
      frame = w.frame ∙ ap (λ (x : HostState). record x { faults = u.faults; output = u.output }) c.frame ∙ later_frame s t u w.frame;
      writer = tt;
    })

pub begins_whole : {version : ℕ} {name : List ℕ} {s t u : HostState} (writer : TableWriter) → Creates {T = Unit {0}} name s t no_error → Wrote (head_text version) t u no_error → t.output.creating ≡ u.output.creating
    → (writer.version ≡ version) × (writer.finished ≡ false) × (writer.error ≡ None) → Begins version name s u (Ok writer)
begins_whole {version} {name} {s} {t} {u} writer c w creating made = record {
  cause = record { later = omega (arith, c.cause.later, w.cause.later); failed = λ f. absurd cc };
  named = named_as s.named u.named (Out, name) (Ok writer) (subst (λ (n : Option (List (Place × List ℕ))). Notes {T = Unit {0}} s.named n (Out, name) no_error) (sym (ap (λ (x : HostState). x.named) w.frame)) c.named);
  whole = (sym creating ∙ c.empty.0, head_whole t.output.written u.output.written w.done w.rest (head_text version) c.empty.1 w.written w.parts w.whole);
  part = tt;
  frame = w.frame ∙ ap (λ (x : HostState). record x { faults = u.faults; output = u.output }) c.frame ∙ later_frame s t u w.frame;
  writer = made;
}
