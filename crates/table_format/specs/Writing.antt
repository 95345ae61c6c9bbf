-- What writing does to a host's output.
use lib.Count.{count_leading_zeros}
use Rattle.std.specs.Prelude.{◌≡◌, ◌⊎◌, ℕ, ◌-◌, ◌^◌, ◌<◌, Bool, true, false, List, [], ◌++◌, length, Option, Some, None, Result, Ok, Err, IfOk, IfSome, OnOk, OnErr}
use Rattle.std.specs.Result.{result_err}
use Rattle.vm_host.specs.declared.HostError.{HostError}
use Rattle.vm_host.specs.declared.Place.TheVariants.{Out}
use Rattle.vm_host.specs.State.{HostState, then_more}
use Rattle.vm_host.specs.Calls.{HasCause, Notes}
use Rattle.vm_trace.specs.declared.page.Touched.{Touched}
use Rattle.vm_trace.specs.Contents.{Contents, TableRows, rows_by_table}
use Rattle.vm_trace.specs.Canonical.{Shape, IsCanonicalSegment}
use Rattle.vm_trace.specs.File.{Segment}
use Rattle.vm_trace.specs.Limits.{limits_of}
use Rattle.table_format.specs.declared.item.Connector.{Connector}
use Rattle.table_format.specs.declared.item.Claim.{Claim}
use Rattle.table_format.specs.declared.table_writer.TableWriter.{TableWriter}
use Rattle.table_format.specs.Texts.{head_text, number_text, flag_text, byte_text, raw_text, entry_text, rows_text, page_text, counted_text}
use Rattle.std.specs.List.{flat_map}

-- Some first part of what waited and of this text was written. Where no write was refused, the rest of it waits.
pub record Puts {T : Type 0} (text old new : List ℕ) (s t : HostState) (result : Result T HostError) : Type 0 where
  pub cause : HasCause s.faults t.faults result
  pub done : List ℕ
  pub rest : List ℕ
  pub written : t.output.written ≡ then_more s.output.written done
  pub parts : done ++ rest ≡ old ++ text
  pub waits : OnOk result (new ≡ rest)
  pub creating : t.output.creating ≡ s.output.creating
  pub frame : t ≡ record s { faults = t.faults; output = t.output }

-- The text was written; refused, some first part of it.
pub record Wrote {T : Type 0} (text : List ℕ) (s t : HostState) (result : Result T HostError) : Type 0 where
  pub cause : HasCause s.faults t.faults result
  pub done : List ℕ
  pub rest : List ℕ
  pub written : t.output.written ≡ then_more s.output.written done
  pub parts : done ++ rest ≡ text
  pub whole : OnOk result (rest ≡ [])
  pub frame : t ≡ record s { faults = t.faults; output = t.output }

-- what a call does that writes this text, and then leaves the output open or not, and the writer finished or not
pub data Appends (text : List ℕ) (creating ends : Bool) (a b : TableWriter) (s t : HostState) (result : Result (Unit {0}) HostError) : Type 0 where
  -- it has answered an error before, which it answers again
  again : (e : HostError) → a.error ≡ Some e → result ≡ Err e → b ≡ a → t ≡ s → Appends text creating ends a b s t result
  first : a.error ≡ None → Wrote text s t result → OnOk result (t.output.creating ≡ creating) → b.version ≡ a.version → OnOk result (b.finished ≡ ends) → OnErr result (b.finished ≡ a.finished) → b.error ≡ result_err result
      → Appends text creating ends a b s t result

-- An output was started, and has the head of this version. Refused, it has what stood there, or some first part of the head.
pub record Begins (version : ℕ) (name : List ℕ) (s t : HostState) (result : Result TableWriter HostError) : Type 0 where
  pub cause : HasCause s.faults t.faults result
  pub named : Notes s.named t.named (Out, name) result
  pub whole : OnOk result ((t.output.creating ≡ true) × IfSome t.output.written (λ bytes. bytes ≡ head_text version))
  pub part : OnErr result ((t.output.written ≡ s.output.written) ⊎ IfSome t.output.written (λ bytes. (rest : List ℕ) × (bytes ++ rest ≡ head_text version)))
  pub frame : t ≡ record s { faults = t.faults; output = t.output; named = t.named; content = t.content }
  pub writer : IfOk result (λ w. (w.version ≡ version) × (w.finished ≡ false) × (w.error ≡ None))

abbrev pub bounds_text : Connector → List ℕ → List ℕ → List ℕ
bounds_text c start end = number_text c.pc_start ++ (number_text c.pc_end ++ (number_text c.end_time ++ (flag_text c.ends ++ (start ++ end))))

-- how many binary digits a number below 2^32 has: the code of a height
abbrev pub digits : ℕ → ℕ
digits n = 32 - count_leading_zeros 32 n

abbrev pub code_text : TableRows → List ℕ
code_text t = byte_text (digits (length t.rows))

abbrev pub table_text : TableRows → List ℕ
table_text t = rows_text t.rows

abbrev pub lists_text : Contents → List ℕ
lists_text c = counted_text entry_text c.program ++ (counted_text entry_text c.xor ++ (counted_text entry_text c.range ++ counted_text entry_text c.constants))

-- the bytes of a segment with these parts, its mark before it
abbrev pub made_text : Connector → List ℕ → List ℕ → Contents → List Touched → List (List ℕ) → List ℕ
made_text c start end tables pages siblings =
    flag_text true
    ++ (bounds_text c start end ++ (flat_map code_text tables.tables ++ (flat_map table_text tables.tables ++ (lists_text tables ++ (counted_text page_text pages ++ counted_text raw_text siblings)))))

-- all numbers of entries are spelled in four bytes
pub record AreCountable (c : Contents) : Type 0 where
  pub program : length c.program < 2 ^ 32
  pub xor : length c.xor < 2 ^ 32
  pub range : length c.range < 2 ^ 32
  pub constants : length c.constants < 2 ^ 32

-- these are the parts of the segment
pub record IsMadeOf (connector : Connector) (start end : List ℕ) (tables : Contents) (touched : List Touched) (digests : List (List ℕ)) (v : Segment) : Type 0 where
  pub pc_start : v.pc_start ≡ connector.pc_start
  pub pc_end : v.pc_end ≡ connector.pc_end
  pub end_time : v.end_time ≡ connector.end_time
  pub ends : v.ends ≡ connector.ends
  pub start_root : v.start_root ≡ start
  pub end_root : v.end_root ≡ end
  pub rows : v.tables ≡ rows_by_table tables
  pub program : v.program ≡ tables.program
  pub xor : v.xor ≡ tables.xor
  pub range : v.range ≡ tables.range
  pub constants : v.constants ≡ tables.constants
  pub pages : v.pages ≡ touched
  pub siblings : v.siblings ≡ digests

-- a segment of the form, of this version, that has these parts
abbrev pub IsSegmentOf : ℕ → Connector → List ℕ → List ℕ → Contents → List Touched → List (List ℕ) → Segment → Type 0
IsSegmentOf version connector start end tables pages siblings v = IsMadeOf connector start end tables pages siblings v × ((shape : Shape) × IsCanonicalSegment (limits_of version) shape v)

-- the mark that no segment follows, and the claim
abbrev pub end_text : Claim → List ℕ
end_text c = flag_text false ++ (byte_text c.code ++ (c.public ++ flat_map raw_text c.path))
