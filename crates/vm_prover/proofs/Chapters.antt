-- Segments that are written one after the other.
use Rattle.std.proofs.Common.{◌≡◌, ℕ, zero, suc, ◌+◌, ◌≤◌, ◌<◌, Bool, false, nat_eq, List, [], ◌∷◌, ◌++◌, length, take, get_or, append_assoc, append-nil, Option, Some, None, Result, sym, ap, ◌∙◌, subst, arith}
use Rattle.std.specs.Prelude.{IfSome, flat_map, sum}
use Rattle.std.specs.List.{AllByRecursion}
use Rattle.std.proofs.lemmas.Bool.Decides.{nat_tests}
use Rattle.std.proofs.lemmas.List.{take_more}
use Rattle.std.proofs.lemmas.List.Concat.{flat_map-append}
use Rattle.std.proofs.lemmas.List.Sums.{sum_by-append, sum_by-cons}
use Rattle.vm_host.specs.declared.HostError.{HostError}
use Rattle.vm_host.specs.State.{HostState, then_more}
use Rattle.vm_isa.specs.declared.instr.VmInstr.{VmInstr}
use Rattle.vm_trace.specs.Canonical.{IsCanonicalSegment}
use Rattle.vm_trace.specs.File.{Segment}
use Rattle.vm_trace.specs.Limits.{limits_of}
use Rattle.air_core.specs.System.{System}
use Rattle.page_tree.specs.Tree.{Leaves}
use Rattle.vm_executor.specs.Machine.{Machine}
use Rattle.acceptance.specs.Accepts.{shape_of}
use Rattle.table_format.specs.declared.table_writer.TableWriter.{TableWriter}
use Rattle.table_format.specs.Texts.{head_text, piece_text}
use Rattle.vm_prover.specs.declared.segment.Parts.{Parts}
use Rattle.vm_prover.specs.Segments.{GoesOnWriting, IsLater, IsMade, IsReadyFor, IsSegmentOfParts, IsToWrite, IsWritten, Run, SegmentsStand, WritesPiece}

-- ---- a host that goes on

pub later_then : {T : Type 0} → (s t u : HostState) (result : Result T HostError) → IsLater s t → GoesOnWriting t u result → IsLater s u
later_then {T} s t u result a b = record {
  later = omega (arith, a.later, b.cause.later);
  frame = b.frame ∙ ap (λ (x : HostState). record x { faults = u.faults; output = u.output }) a.frame;
}

-- ---- the next segment

-- some of the lengths, and the next, are no more than all
firsts_and_next : (xs : List ℕ) (k d : ℕ) → k < length xs → sum (take k xs) + get_or xs k d ≤ sum xs
firsts_and_next [] k d h = absurd (omega (arith, h))
firsts_and_next (x ∷ xs) zero d h = omega (arith, sum_by-cons (λ n. n) x xs, sum_by-append (λ n. n) [] [])
firsts_and_next (x ∷ xs) (suc k) d h = omega (arith, sum_by-cons (λ n. n) x (take k xs), sum_by-cons (λ n. n) x xs, firsts_and_next xs k d (omega (arith, h)))

not_last : (k n : ℕ) → k < n → nat_eq k n ≡ false
not_last k n h = grind (arith, nat_tests)

module _ (x : System) (run : Run x) (program : List VmInstr) (lengths : List ℕ) (start : Machine) (before : Leaves) (begun : TableWriter) (first : HostState) (to : IsToWrite run program lengths start before begun first)
    (k d : ℕ) (within : k < length lengths) (m : Machine) (leaves : Leaves) (w : TableWriter) (s : HostState) (so : IsWritten run (nat_eq k (length lengths)) (take k lengths) m leaves w s)
  where
    pub ready : IsReadyFor run program m leaves so.segments (take k lengths) (get_or lengths k d)
    ready = record {
      over = to.over;
      stand = subst (λ b. SegmentsStand run b so.segments (take k lengths) m leaves) (not_last k (length lengths) within) so.stand;
      within = omega (arith, firsts_and_next lengths k d within, to.plan.all);
      few = to.plan.short k d within;
    }

last_of : {A : Type 0} → (P : A → Type 0) (xs : List A) (x : A) → AllByRecursion P (xs ++ x ∷ []) → P x
last_of P [] x all = all.0
last_of P (y ∷ xs) x all = last_of P xs x all.1

pub segment_of_parts : (x : System) (run : Run x) (ends : Bool) (segments : List Segment) (lengths : List ℕ) (count : ℕ) (m : Machine) (leaves : Leaves) (parts : Parts) (made : IsMade run ends segments lengths count m leaves parts)
    → IsSegmentOfParts run.version parts made.segment
segment_of_parts x run ends segments lengths count m leaves parts made =
    (made.made, (shape_of x run.image, last_of (IsCanonicalSegment (limits_of run.version) (shape_of x run.image)) segments made.segment made.stand.canonical))

-- ---- a segment more

told_more : (old new : Option (List ℕ)) (head : List ℕ) (segments : List Segment) (s : Segment) → IfSome old (λ bytes. bytes ≡ head ++ flat_map piece_text segments) → new ≡ then_more old (piece_text s)
    → IfSome new (λ bytes. bytes ≡ head ++ flat_map piece_text (segments ++ s ∷ []))
told_more None new head segments s told is = subst (λ o. IfSome o (λ bytes. bytes ≡ head ++ flat_map piece_text (segments ++ s ∷ []))) (sym is) tt
told_more (Some bytes) new head segments s told is =
    let one : flat_map piece_text (s ∷ []) ≡ piece_text s = append-nil (piece_text s) in
    let all : flat_map piece_text (segments ++ s ∷ []) ≡ flat_map piece_text segments ++ piece_text s = flat_map-append piece_text segments (s ∷ []) ∙ ap (λ t. flat_map piece_text segments ++ t) one in
    let here : bytes ++ piece_text s ≡ head ++ flat_map piece_text (segments ++ s ∷ []) = ap (λ b. b ++ piece_text s) told ∙ append_assoc head (flat_map piece_text segments) (piece_text s) ∙ ap (λ t. head ++ t) (sym all) in
    subst (λ o. IfSome o (λ b. b ≡ head ++ flat_map piece_text (segments ++ s ∷ []))) (sym is) here

pub written_more : (x : System) (run : Run x) (ended ends : Bool) (lengths : List ℕ) (k d : ℕ) (from m : Machine) (old leaves : Leaves) (v w : TableWriter) (s t : HostState) (parts : Parts) → k < length lengths
    → (so : IsWritten run ended (take k lengths) from old v s) → (made : IsMade run ends so.segments (take k lengths) (get_or lengths k d) m leaves parts) → WritesPiece run.version made.segment w s t
    → IsWritten run ends (take (k + 1) lengths) m leaves w t
written_more x run ended ends lengths k d from m old leaves v w s t parts within so made piece = record {
  segments = so.segments ++ made.segment ∷ [];
  stand = subst (λ ls. SegmentsStand run ends (so.segments ++ made.segment ∷ []) ls m leaves) (sym (take_more lengths k d within)) made.stand;
  told = told_more s.output.written t.output.written (head_text run.version) so.segments made.segment so.told piece.written;
  creating = piece.creating;
  writing = piece.writing;
}
