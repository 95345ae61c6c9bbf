-- The end of a run, and the file of its segments.
use Rattle.std.proofs.Common.{◌≡◌, ℕ, zero, suc, ◌<◌, ◌≤◌, true, List, length, refl, sym, ap, ◌∙◌, subst, arith, ⊎_elim}
use Rattle.std.specs.Prelude.{sum}
use Rattle.std.proofs.lemmas.Bool.{cases_lt}
use Rattle.std.proofs.lemmas.List.{length-map}
use Rattle.elf_image.specs.Loaded.{Loaded}
use Rattle.rv_run.specs.Machine.{Machine as Manual}
use Rattle.rv_run.specs.Run.{Goes, Ends}
use Rattle.rv_run.specs.Step.{goes, step_of}
use Rattle.vm_isa.specs.Blocks.{Terminates}
use Rattle.vm_isa.specs.Hints.{Hints}
use Rattle.vm_isa.specs.Words.{IsBytes}
use Rattle.vm_trace.specs.declared.page.TheConstants.{PUBLIC_LABEL}
use Rattle.vm_trace.specs.File.{Segment}
use Rattle.air_core.specs.System.{System}
use Rattle.page_tree.specs.Path.{path_of}
use Rattle.page_tree.specs.Start.{start_map}
use Rattle.page_tree.specs.Tree.{Leaves, root}
use Rattle.page_tree.proofs.PathLemmas.{climb-path_of}
use Rattle.vm_transpile.specs.Program.{program_of}
use Rattle.vm_transpile.specs.Refines.{HasText}
use Rattle.vm_transpile.specs.Same.{IsMachine, Same}
use Rattle.vm_transpile.proofs.Refinement.{ends_by_row, went_text, ended_text}
use Rattle.vm_executor.specs.Machine.{Machine, vm_state}
use Rattle.vm_executor.proofs.RunLemmas.{runs_are_the_manuals, runs_go_along}
use Rattle.acceptance.specs.Accepts.{Accepts, last_pc, last_root, IsPublic}
use Rattle.acceptance.specs.Events.{valid_rows}
use Rattle.acceptance.specs.Spelled.{hints_before}
use Rattle.acceptance.proofs.CanonicalTrees.{path_canonical}
use Rattle.acceptance.proofs.Example.{end_in_range, path_levels, path_digests_of}
use Rattle.vm_prover.specs.Laws.{EndedSegmentsProve, EndingRunsGoOn}
use Rattle.vm_prover.specs.Progress.{CanProve, Progress, StatesRun, file_of}
use Rattle.vm_prover.proofs.ChainLemmas.{steps_are_sum}
use Rattle.vm_prover.proofs.LeafLemmas.{public_leaf}

-- ---- steps on the way of a run

-- a state on the way of a run, from which it goes on to text
record OnTheWay (image : Loaded) (hints : Hints) (k : ℕ) : Type 0 where
  now : Manual
  next : Manual
  reached : Goes image hints k now
  step : step_of image now ≡ goes next
  text : HasText image next.pc

on_the_way : (image : Loaded) (hints : Hints) (n : ℕ) (last : Manual) (k : ℕ) → Goes image hints n last → HasText image last.pc → k < n → OnTheWay image hints k
on_the_way image hints zero last k reached text low = absurd (omega (arith, low))
on_the_way image hints (suc n) last k (before, reached, step) text low =
    ⊎_elim
    (λ (less : k < n). on_the_way image hints n before k reached (went_text image before last step) less)
    (λ (more : n ≤ k).
    let same : n ≡ k = omega (arith, low, more) in
    record { now = before; next = last; reached = subst (λ (j : ℕ). Goes image hints j before) same reached; step = step; text = text })
    (cases_lt k n)

pub ending_runs_go_on : EndingRunsGoOn
ending_runs_go_on image hints n code public_bytes k m t answer file bytes ending ran step = (
  λ less.
      let way = on_the_way image hints n ending.last k ending.reached (ended_text image ending.last code ending.ended) less in
      (runs_go_along hints image bytes file k way.now m t answer way.reached ran step).0 way.next way.step way.text,
  λ same.
      (runs_go_along hints image bytes file k ending.last m t answer (subst (λ (j : ℕ). Goes image hints j ending.last) (sym same) ending.reached) ran step).1 code ending.ended,
)

-- ---- the file

module _ (x : System) (version : ℕ) (image : Loaded) (hints : Hints) (segments : List Segment) (lengths : List ℕ) (m : Machine) (leaves : Leaves) (code : ℕ) (public_bytes : List ℕ) (can : CanProve x version image hints)
    (p : Progress x version image hints true segments lengths m leaves) (some : 1 ≤ length lengths) (few : length lengths ≤ 4096) (ending : Ends image hints (sum lengths) code public_bytes) where
  same : IsMachine ending.last × Same ending.last (vm_state m)
  same = runs_are_the_manuals hints image can.bytes can.file (sum lengths) ending.last m ending.reached p.ran (ended_text image ending.last code ending.ended)

  terminates : Terminates (program_of image) (last_pc image.entry segments) code
  terminates =
      let end = (ends_by_row can.file.bytes image can.file.has_image ending.last code).0 ending.ended in
      record { row = end.row; stands = end.stands; here = end.here ∙ sym same.1.pc ∙ sym p.pc_is; is_end = end.is_end; states = end.states }

  shown : leaves PUBLIC_LABEL ≡ public_bytes
  shown = public_leaf leaves m ending.last p.blocks p.whole same.0 same.1 ∙ ending.shown

  shown_bytes : IsBytes (leaves PUBLIC_LABEL)
  shown_bytes = subst IsBytes (sym (public_leaf leaves m ending.last p.blocks p.whole same.0 same.1)) same.0.public_bytes

  is_public : IsPublic (leaves PUBLIC_LABEL) (path_of leaves PUBLIC_LABEL) (last_root (root (start_map image)) segments)
  is_public = record {
    whole = record { size = p.whole PUBLIC_LABEL; bytes = shown_bytes };
    levels = path_levels leaves;
    digests = path_digests_of leaves PUBLIC_LABEL;
    leads = climb-path_of leaves PUBLIC_LABEL (omega arith) ∙ sym p.root_is;
  }

  number : length segments ≡ length lengths
  number = sym (length-map segments (valid_rows x)) ∙ ap length p.rows

  accepted : Accepts x image (file_of version segments code leaves)
  accepted =
      let end = end_in_range can.file.bytes image (last_pc image.entry segments) code can.file.has_image terminates in
      record {
        bits = can.numbers.bits;
        canonical = record {
          first = can.numbers.first;
          version = can.numbers.spelled;
          segments = p.canonical;
          claim = record { code = end.byte; public_bytes = is_public.whole; levels = path_levels leaves; path = path_canonical leaves PUBLIC_LABEL };
        };
        claim = record {
          some = omega (arith, number, some);
          few = omega (arith, number, few);
          hold = p.hold;
          linked = p.linked;
          ends = p.ends;
          terminates = terminates;
          public = is_public;
        };
      }

  pub states_run : StatesRun x image hints lengths code public_bytes (file_of version segments code leaves)
  states_run = record {
    accepts = accepted;
    code_is = refl;
    public_are = shown;
    rows = p.rows;
    steps_are = steps_are_sum x segments lengths p.rows;
    spelled = p.spelled;
    spell = p.spell;
    takes = record { last = ending.last; reached = ending.reached; taken = ap (hints_before p.spelled) (sym same.1.hints) ∙ p.taken };
  }

pub ended_segments_prove : (x : System) → EndedSegmentsProve x
ended_segments_prove x version image hints segments lengths m leaves code public_bytes can p some few ending =
    states_run x version image hints segments lengths m leaves code public_bytes can p some few ending
