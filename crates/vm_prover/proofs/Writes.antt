-- What a prover writes.
use Rattle.std.proofs.Common.{◌≡◌, ℕ, Bool, true, false, List, [], ◌++◌, None, Result, Ok, Err, sym, ap, ◌∙◌, subst, append-nil}
use Rattle.std.specs.Prelude.{OnOk}
use Rattle.vm_host.specs.declared.HostError.{HostError}
use Rattle.vm_host.specs.State.{HostState, then_more}
use Rattle.vm_trace.specs.File.{Segment}
use Rattle.table_format.specs.declared.table_writer.TableWriter.{TableWriter}
use Rattle.table_format.specs.Texts.{piece_text}
use Rattle.table_format.specs.Writing.{Appends, again, first, IsSegmentOf}
use Rattle.vm_trace.specs.declared.page.Touched.{Touched}
use Rattle.vm_prover.specs.declared.segment.Parts.{Parts}
use Rattle.vm_prover.specs.Segments.{GoesOnWriting, IsSegmentOfParts, IsWriting, WritesPiece}

-- ---- a call of the writer

pub sound_call : (text : List ℕ) (creating ends : Bool) (a b : TableWriter) (s t : HostState) (result : Result (Unit {0}) HostError) → a.error ≡ None → Appends text creating ends a b s t result → GoesOnWriting s t result
sound_call text creating ends a b s t result sound (again e is answer same kept) = absurd (cc (sound, is))
sound_call text creating ends a b s t result sound (first none wrote opened version whole part error) = record { cause = wrote.cause; frame = wrote.frame }

pub record Wholly (text : List ℕ) (creating ends : Bool) (a b : TableWriter) (s t : HostState) : Type 0 where
  pub written : t.output.written ≡ then_more s.output.written text
  pub open_is : t.output.creating ≡ creating
  pub version_is : b.version ≡ a.version
  pub finished_is : b.finished ≡ ends
  pub sound : b.error ≡ None

whole_text : (done rest text : List ℕ) → done ++ rest ≡ text → rest ≡ [] → done ≡ text
whole_text done rest text parts none = sym (append-nil done) ∙ ap (λ xs. done ++ xs) (sym none) ∙ parts

pub wholly : (text : List ℕ) (creating ends : Bool) (a b : TableWriter) (s t : HostState) (v : Unit {0}) → a.error ≡ None → Appends text creating ends a b s t (Ok v) → Wholly text creating ends a b s t
wholly text creating ends a b s t v sound (again e is answer same kept) = absurd (cc (sound, is))
wholly text creating ends a b s t v sound (first none wrote opened version whole part error) = record {
  written = wrote.written ∙ ap (then_more s.output.written) (whole_text wrote.done wrote.rest text wrote.parts wrote.whole);
  open_is = opened;
  version_is = version;
  finished_is = whole;
  sound = error;
}

-- ---- a segment

-- what the writer says of a segment with such parts
abbrev pub Says : List Touched → List (List ℕ) → Parts → TableWriter → TableWriter → HostState → HostState → Result (Unit {0}) HostError → Type 0
Says pages siblings parts a b s t result =
    (v : Segment) → IsSegmentOf a.version parts.connector parts.opening.start parts.opening.end parts.tables pages siblings v → Appends (piece_text v) true false a b s t result

appends : (pages : List Touched) (siblings : List (List ℕ)) (parts : Parts) (a b : TableWriter) (s t : HostState) (result : Result (Unit {0}) HostError) (version : ℕ) (segment : Segment) → pages ≡ parts.pages.items → siblings ≡ parts.opening.siblings.items
    → Says pages siblings parts a b s t result → IsWriting version a → IsSegmentOfParts version parts segment → Appends (piece_text segment) true false a b s t result
appends pages siblings parts a b s t result version segment same_pages same_siblings says writing is =
    let here : IsSegmentOf a.version parts.connector parts.opening.start parts.opening.end parts.tables parts.pages.items parts.opening.siblings.items segment =
    subst (λ n. IsSegmentOf n parts.connector parts.opening.start parts.opening.end parts.tables parts.pages.items parts.opening.siblings.items segment) (sym writing.version_is) is in
    let paged = subst (λ ps. IsSegmentOf a.version parts.connector parts.opening.start parts.opening.end parts.tables ps parts.opening.siblings.items segment) (sym same_pages) here in
    says segment (subst (λ ss. IsSegmentOf a.version parts.connector parts.opening.start parts.opening.end parts.tables pages ss segment) (sym same_siblings) paged)

pub parts_go_on : (pages : List Touched) (siblings : List (List ℕ)) (parts : Parts) (a b : TableWriter) (s t : HostState) (result : Result (Unit {0}) HostError) (version : ℕ) (segment : Segment) → pages ≡ parts.pages.items
    → siblings ≡ parts.opening.siblings.items → Says pages siblings parts a b s t result → IsWriting version a → IsSegmentOfParts version parts segment → GoesOnWriting s t result
parts_go_on pages siblings parts a b s t result version segment same_pages same_siblings says writing is =
    sound_call (piece_text segment) true false a b s t result writing.sound (appends pages siblings parts a b s t result version segment same_pages same_siblings says writing is)

piece_written : (version : ℕ) (segment : Segment) (a b : TableWriter) (s t : HostState) → IsWriting version a → Wholly (piece_text segment) true false a b s t → WritesPiece version segment b s t
piece_written version segment a b s t writing h = record {
  written = h.written;
  creating = h.open_is;
  writing = record { version_is = h.version_is ∙ writing.version_is; unfinished = h.finished_is; sound = h.sound };
}

pub parts_written : (pages : List Touched) (siblings : List (List ℕ)) (parts : Parts) (a b : TableWriter) (s t : HostState) (result : Result (Unit {0}) HostError) → pages ≡ parts.pages.items → siblings ≡ parts.opening.siblings.items
    → Says pages siblings parts a b s t result → OnOk result ((version : ℕ) (segment : Segment) → IsWriting version a → IsSegmentOfParts version parts segment → WritesPiece version segment b s t)
parts_written pages siblings parts a b s t (Ok v) same_pages same_siblings says = λ version segment writing is.
    piece_written version segment a b s t writing (wholly (piece_text segment) true false a b s t v writing.sound (appends pages siblings parts a b s t (Ok v) version segment same_pages same_siblings says writing is))
parts_written pages siblings parts a b s t (Err e) same_pages same_siblings says = tt
