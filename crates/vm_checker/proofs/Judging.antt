-- The verdict on what was read.
use Rattle.std.proofs.Common.{◌≡◌, ℕ, zero, suc, ◌+◌, ◌<◌, ◌≤◌, ◌^◌, true, List, [], ◌∷◌, ◌++◌, length, Option, Some, None, Result, Ok, Err, refl, sym, ap, subst, ◌∙◌, arith, append-nil, get_or, slice_index}
use Rattle.std.specs.Prelude.{IfSome, IfOk, IfErr, OnOk, IsErrOf, ◌⊎◌}
use Rattle.std.specs.List.{AllByRecursion}
use Rattle.vm_host.specs.declared.Slot.TheVariants.{Second}
use Rattle.vm_host.specs.declared.HostError.{HostError}
use Rattle.vm_host.specs.declared.HostError.TheVariants.{Failed, OutOfMemory as NoMemory}
use Rattle.vm_host.specs.State.{HostState, AreBytes, after_these}
use Rattle.vm_host.specs.Calls.{AtEnd, Rose}
use Rattle.vm_host.specs.ReadUpTo.{Took}
use Rattle.vm_host.proofs.Reading.{took_both, took_none}
use Rattle.elf_image.specs.Image.{IsOfAFile}
use Rattle.elf_image.specs.Loaded.{Loaded}
use Rattle.rv_run.specs.Run.{Ends}
use Rattle.readings.specs.Readings.{Rest, rest_at, Reading, after, reason_in, seen, both}
use Rattle.readings.specs.Exact.{IsBytes}
use Rattle.readings.specs.Told.{GaveBy, IfFault, IfRefused}
use Rattle.readings.specs.declared.Stop.{Stop}
use Rattle.readings.specs.declared.Stop.TheVariants.{Refused, Fault, OutOfMemory}
use Rattle.readings.proofs.Exacts.{done}
use Rattle.vm_trace.specs.Canonical.{IsNumber, IsCanonicalSegment, IsCanonical}
use Rattle.vm_trace.specs.File.{Segment, File}
use Rattle.vm_trace.specs.Limits.{limits_of}
use Rattle.vm_transpile.specs.Program.{program_of}
use Rattle.air_core.specs.ListLemmas.{all_weaker}
use Rattle.air_core.specs.System.{System}
use Rattle.page_tree.specs.Tree.{root}
use Rattle.page_tree.specs.Start.{start_map}
use Rattle.acceptance.specs.Accepts.{Accepts, ClaimHolds, Collides, shape_of, last_root, steps_in}
use Rattle.acceptance.specs.Holds.{SegmentHolds}
use Rattle.acceptance.specs.Laws.{AcceptedFilesAreRuns, AcceptedFilesSpellOneList}
use Rattle.table_format.specs.declared.reason.Reason.{Reason}
use Rattle.table_format.specs.declared.reason.Reason.TheVariants as reason
use Rattle.table_format.specs.Order.{Tests, body, file, first_stand, head}
use Rattle.table_format.specs.Stream.{Held, Draws, told_by, ReadsBy, ReadsHead, bare}
use Rattle.table_format.specs.Texts.{body_text, file_text, head_text}
use Rattle.table_format.proofs.Drawn.{Drew, drew_is}
use Rattle.table_format.proofs.Draws.{rose_later}
use Rattle.table_format.proofs.ExactFile.{IsBody, IsVersion, exact_body, exact_head}
use Rattle.vm_checker.specs.declared.Accepted.{Accepted as Acceptance}
use Rattle.vm_checker.specs.declared.Verdict.{Verdict}
use Rattle.vm_checker.specs.declared.Verdict.TheVariants.{Accepted, Rejected}
use Rattle.vm_checker.specs.Body.{ReadsAll, TellsFile, answer_to, verdict_of}
use Rattle.vm_checker.specs.Chain.{HasRows}
use Rattle.vm_checker.specs.Exactly.{IsAcceptedFile}
use Rattle.vm_checker.specs.FirstReason.{body_rejection, file_tests, rejection}
use Rattle.vm_checker.specs.Items.{body_of}
use Rattle.vm_checker.specs.Verdicts.{States, RunsOrCollides, Judges, accepted, rejected, IsAcceptedBody, JudgesBody, JudgesFile, Checks}
use Rattle.vm_checker.proofs.FileTests.{claim_holds, root_after}

-- what a host tells is made of bytes
byte_at : (bytes : List ℕ) → AllByRecursion (λ byte. byte < 256) bytes → IsBytes bytes
byte_at [] h i = omega arith
byte_at (b ∷ bytes) h zero = h.0
byte_at (b ∷ bytes) h (suc i) = byte_at bytes h.1 i

module _ (x : System) (image : Loaded) (version : ℕ) (first : 1 ≤ version) (number : version < 2 ^ 32) (times : x.time_bits ≡ (limits_of version).time_bits) (of_file : IsOfAFile image) (runs : AcceptedFilesAreRuns x) (one : AcceptedFilesSpellOneList x) where
  -- what was read is accepted
  accepted_body : (bytes : List ℕ) → IsBytes bytes → (f : File) (at : ℕ) → body_of x image version (rest_at 12 bytes) ≡ Ok (f, rest_at at []) → IsAcceptedBody x image version bytes f
  accepted_body bytes are f at e =
      let q = (exact_body version (shape_of x image) (file_tests x image)).found (rest_at 12 bytes) (rest_at at []) f are e in
      let is = q.0.1 in
      let same : version ≡ f.version = sym q.0.0 in
      record {
        version_is = q.0.0;
        accepts = record {
          bits = subst (λ (v : ℕ). x.time_bits ≡ (limits_of v).time_bits) same times;
          canonical = record {
            first = subst (λ (v : ℕ). 1 ≤ v) same first;
            version = subst (λ (v : ℕ). v < 2 ^ 32) same number;
            segments = subst (λ (v : ℕ). AllByRecursion (IsCanonicalSegment (limits_of v) (shape_of x image)) f.segments) same is.segments;
            claim = is.claim;
          };
          claim = claim_holds x image (limits_of version) f is.segments is.claim is.passes;
        };
        text = q.1.parts ∙ append-nil (body_text f);
      }

  has_rows : (ss : List Segment) → AllByRecursion (SegmentHolds x (program_of image)) ss → AllByRecursion (HasRows x) ss
  has_rows ss h = all_weaker (SegmentHolds x (program_of image)) (HasRows x) (λ s k. k.are_rows) ss h

  states : (f : File) (a : Acceptance) → ClaimHolds x image f → TellsFile x image f a → States x image f a
  states f a holds tells =
      let spelled = tells.hints (has_rows f.segments holds.hold) in
      record {
        code = tells.code;
        public = tells.public;
        root = tells.root ∙ root_after x image (limits_of version) first_stand f.segments;
        segments = tells.segments;
        events = spelled.0;
        spell = spelled.1;
        only = λ other spell. one of_file.bytes image f other spelled.0 of_file.has_image holds spell spelled.1;
        hints = spelled.2;
      }

  runs_so : (f : File) (a : Acceptance) (holds : ClaimHolds x image f) (s : States x image f a) → RunsOrCollides x image f a.hints
  runs_so f a holds s = subst (λ (hints : List ℕ). RunsOrCollides x image f hints) (sym s.hints) (runs of_file.bytes image f s.events of_file.are_bytes of_file.has_image holds s.spell)

  judged_accepted : (bytes : List ℕ) → IsBytes bytes → (a : Acceptance) → (f : File) × TellsFile x image f a × ((at : ℕ) × (body_of x image version (rest_at 12 bytes) ≡ Ok (f, rest_at at []))) → JudgesBody x image version bytes (Accepted a)
  judged_accepted bytes are a h =
      let is = accepted_body bytes are h.0 h.2.0 h.2.1 in
      let s = states h.0 a is.accepts.claim h.1 in
      accepted h.0 is a s (runs_so h.0 a is.accepts.claim s) (ap (reason_in reason.Trailing) h.2.1) refl

  judged_ok : (told : Option (List ℕ)) → AreBytes told → (a : Acceptance)
      → IfSome (after_these [] told) (λ bytes. (f : File) × TellsFile x image f a × ((at : ℕ) × (body_of x image version (rest_at 12 bytes) ≡ Ok (f, rest_at at [])))) → IfSome told (λ bytes. JudgesBody x image version bytes (Accepted a))
  judged_ok None are a h = tt
  judged_ok (Some bytes) are a h = judged_accepted bytes (byte_at bytes are) a h

  judged_refused : (told : Option (List ℕ)) → (why : Reason) → IfSome (after_these [] told) (λ bytes. reason_in reason.Trailing (body_of x image version (rest_at 12 bytes)) ≡ Some why) → IfSome told (λ bytes. JudgesBody x image version bytes (Rejected why))
  judged_refused None why h = tt
  judged_refused (Some bytes) why h = rejected why h refl

  pub checks_body : {s t : HostState} {end : Held} (result : Result Acceptance (Stop Reason)) → AreBytes (s.input Second).rest → ReadsAll (body_of x image version) (TellsFile x image) (bare 12) end s t result
      → Checks (JudgesBody x image version) s t (answer_to result)
  checks_body {s} {t} {end} (Ok a) are h = record { took = (h.draws.taken, h.draws.took); judged = judged_ok (s.input Second).rest are a h.ok; end = λ other e. h.end; fault = λ e. absurd cc }
  checks_body {s} {t} {end} (Err (Refused why)) are h = record { took = (h.draws.taken, h.draws.took); judged = judged_refused (s.input Second).rest why h.refused; end = λ other e. absurd cc; fault = λ e. absurd cc }
  checks_body {s} {t} {end} (Err Fault) are h = record { took = (h.draws.taken, h.draws.took); judged = tt; end = λ other e. absurd cc; fault = λ e. h.fault }
  checks_body {s} {t} {end} (Err OutOfMemory) are h = record { took = (h.draws.taken, h.draws.took); judged = tt; end = λ other e. absurd cc; fault = λ e. absurd cc }

-- nothing was read, for want of memory
pub checks_nothing : (Verdicts : List ℕ → Verdict → Type 0) (s t : HostState) → (taken : List ℕ) → Took Second s t taken → Checks Verdicts s t (Err NoMemory)
checks_nothing Verdicts s t taken took = record { took = (taken, took); judged = tt; end = λ other e. absurd cc; fault = λ e. absurd cc }

-- ---- the head before it

reason_behind : (y : Result (File × Rest) Reason) (version : ℕ) → reason_in reason.Trailing (after {A = ℕ × File} (after y (λ f u. done ((version, f), u))) (λ p u. done (p.1, u))) ≡ reason_in reason.Trailing y
reason_behind (Ok p) version = refl
reason_behind (Err e) version = refl

module _ (x : System) (image : Loaded) where
  whole_is : (version : ℕ) (bytes more : List ℕ) → head 1 (rest_at 0 bytes) ≡ Ok (version, rest_at 12 more) → rejection (λ any. x) image 1 bytes ≡ body_rejection x image version more
  whole_is version bytes more e =
      ap (λ (y : Result (ℕ × Rest) Reason). reason_in reason.Trailing (after {A = ℕ × File} (after y (λ v t. after (body v (shape_of x image) (file_tests x image) t) (λ f u. done ((v, f), u)))) (λ p u. done (p.1, u)))) e
      ∙ reason_behind (body version (shape_of x image) (file_tests x image) (rest_at 12 more)) version

  judged_file : (version : ℕ) (bytes more : List ℕ) (verdict : Verdict) → IsBytes bytes → version ≤ 1 → head 1 (rest_at 0 bytes) ≡ Ok (version, rest_at 12 more) → JudgesBody x image version more verdict → JudgesFile x image bytes verdict
  judged_file version bytes more verdict are low e (accepted f is a s runs none same) =
      let q = (exact_head 1).found (rest_at 0 bytes) (rest_at 12 more) version are e in
      accepted f (record {
        version = subst (λ (v : ℕ). v ≤ 1) (sym is.version_is) low;
        accepts = is.accepts;
        text = q.1.parts ∙ ap (λ (rest : List ℕ). head_text version ++ rest) is.text ∙ ap (λ (v : ℕ). head_text v ++ body_text f) (sym is.version_is);
      }) a s runs (whole_is version bytes more e ∙ none) same
  judged_file version bytes more verdict are low e (rejected why some same) = rejected why (whole_is version bytes more e ∙ some) same

  judged_by : (version : ℕ) (told left : Option (List ℕ)) (verdict : Verdict) → AreBytes told → version ≤ 1 → GaveBy (head 1) version 0 12 (after_these [] told) (after_these [] left) → IfSome left (λ bytes. JudgesBody x image version bytes verdict)
      → IfSome told (λ bytes. JudgesFile x image bytes verdict)
  judged_by version None left verdict are low gave judged = tt
  judged_by version (Some bytes) None verdict are low gave judged = absurd gave
  judged_by version (Some bytes) (Some more) verdict are low gave judged = judged_file version bytes more verdict (byte_at bytes are) low gave judged

  verdict_by : (version : ℕ) (told left : Option (List ℕ)) (result : Result Verdict HostError) → AreBytes told → version ≤ 1 → GaveBy (head 1) version 0 12 (after_these [] told) (after_these [] left)
      → IfOk result (λ verdict. IfSome left (λ bytes. JudgesBody x image version bytes verdict)) → IfOk result (λ verdict. IfSome told (λ bytes. JudgesFile x image bytes verdict))
  verdict_by version told left (Ok verdict) are low gave judged = judged_by version told left verdict are low gave judged
  verdict_by version told left (Err e) are low gave judged = tt

  pub checks_file : {s t u : HostState} {version : ℕ} (result : Result Verdict HostError) → AreBytes (s.input Second).rest → ReadsHead 1 s t (Ok version) → Checks (JudgesBody x image version) t u result → Checks (JudgesFile x image) s u result
  checks_file {s} {t} {u} {version} result are h c =
      let d : Drew (head 1) (bare 0) (bare 12) s t version = subst (λ (end : ℕ). Drew (head 1) (bare 0) (bare end) s t version) h.whole (drew_is h.reads) in
      record {
        took = (d.draws.taken ++ c.took.0, took_both Second s t u d.draws.taken c.took.0 d.draws.took c.took.1);
        judged = verdict_by version (s.input Second).rest (t.input Second).rest result are h.known.1 d.gave c.judged;
        end = c.end;
        fault = λ failed. rose_later s.faults t.faults u.faults d.draws.took.later (c.fault failed);
      }

  stopped_by : (told : Option (List ℕ)) (why : Reason) → IfSome (after_these [] told) (λ bytes. head 1 (rest_at 0 bytes) ≡ Err why) → IfSome told (λ bytes. JudgesFile x image bytes (Rejected why))
  stopped_by None why h = tt
  stopped_by (Some bytes) why h =
      rejected why (ap (λ (y : Result (ℕ × Rest) Reason). reason_in reason.Trailing (after {A = ℕ × File} (after y (λ v t. after (body v (shape_of x image) (file_tests x image) t) (λ f u. done ((v, f), u)))) (λ p u. done (p.1, u)))) h) refl

  pub checks_head : {s t : HostState} (stop : Stop Reason) → ReadsHead 1 s t (Err stop) → Checks (JudgesFile x image) s t (verdict_of stop)
  checks_head {s} {t} (Refused why) h = record { took = (h.reads.kept.taken, h.reads.kept.took); judged = stopped_by (s.input Second).rest why h.reads.refused; end = λ other e. absurd cc; fault = λ e. absurd cc }
  checks_head {s} {t} Fault h = record { took = (h.reads.kept.taken, h.reads.kept.took); judged = tt; end = λ other e. absurd cc; fault = λ e. h.reads.fault }
  checks_head {s} {t} OutOfMemory h = record { took = (h.reads.kept.taken, h.reads.kept.took); judged = tt; end = λ other e. absurd cc; fault = λ e. absurd cc }
