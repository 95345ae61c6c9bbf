-- No test of a file fails exactly where it is accepted.
use Rattle.std.proofs.Common.{◌≡◌, ℕ, ◌≤◌, Bool, true, false, List, [], ◌∷◌, length, Option, Some, None, refl, sym, ap, subst, ◌∙◌, arith}
use Rattle.std.specs.Prelude.{not}
use Rattle.std.specs.List.{AllByRecursion}
use Rattle.std.specs.Cmp.Lexicographic.{same_text}
use Rattle.std.proofs.lemmas.Bool.{eqb-true, eq-eqb}
use Rattle.elf_image.specs.Loaded.{Loaded}
use Rattle.vm_isa.specs.Blocks.{Terminates}
use Rattle.vm_trace.specs.Canonical.{IsCanonicalSegment, IsCanonicalClaim}
use Rattle.vm_trace.specs.File.{Segment, File}
use Rattle.vm_trace.specs.Limits.{Limits, limits_of}
use Rattle.vm_transpile.specs.Program.{program_of}
use Rattle.vm_transpile.proofs.Texts.{program_rises}
use Rattle.air_core.specs.System.{System}
use Rattle.page_tree.specs.Tree.{root}
use Rattle.page_tree.specs.Start.{start_map}
use Rattle.acceptance.specs.Accepts.{AreLinked, last_pc, last_root, OnlyLastEnds, ClaimHolds, shape_of}
use Rattle.acceptance.specs.Holds.{SegmentHolds}
use Rattle.table_format.specs.declared.reason.Reason.TheVariants as reason
use Rattle.table_format.specs.Exactly.{Passes, AllPass, PassesFile}
use Rattle.table_format.specs.Order.{Stand, Tests, first_stand, next_stand, stand_after}
use Rattle.table_format.proofs.ExactItems.{want_so, so_want, are_same}
use Rattle.table_format.proofs.ExactFile.{no_reason, no_reason_in_a_piece, spelled_once}
use Rattle.vm_checker.specs.declared.Before.{Before}
use Rattle.vm_checker.specs.FirstReason.{start_behind, segment_tests, says_end, exit_code, code_test, public_test, file_tests}
use Rattle.vm_checker.specs.Exactly.{SegmentStands, SegmentRejectedExactly, RejectedExactly, AcceptedFileIsOne}
use Rattle.vm_checker.proofs.SegmentTests.{neither, both_none, all_rows_hold, all_rows_pass, digests, stands, passes, code_ends, ends_code}

not_so : (b : Bool) → not b ≡ true → b ≡ false
not_so true h = absurd cc
not_so false h = refl

so_not : (b : Bool) → b ≡ false → not b ≡ true
so_not true h = absurd cc
so_not false h = refl

module _ (x : System) (image : Loaded) (limits : Limits) where
  abbrev tests : Tests
  tests = file_tests x image

  abbrev behind : Stand → Option Before
  behind at = Some (start_behind image at.before)

  abbrev Stands : Stand → Segment → Type 0
  Stands at s = SegmentStands x (program_of image) (behind at) s

  segment_stands : (at : Stand) (s : Segment) → IsCanonicalSegment limits (shape_of x image) s → Passes tests at s → Stands at s
  segment_stands at s canonical p =
      stands x (program_of image) (length (program_of image)) limits (behind at) at s canonical
      (record { heights = p.heights; rows = all_rows_hold x tests at (λ table place row. refl) s.tables p.rows; pages = p.pages; siblings = p.siblings; whole = p.whole })

  segment_passes : (at : Stand) (s : Segment) → IsCanonicalSegment limits (shape_of x image) s → Stands at s → Passes tests at s
  segment_passes at s canonical h =
      let p = passes x (program_of image) (length (program_of image)) limits (behind at) at s (program_rises image) canonical h in
      record { heights = p.heights; rows = all_rows_pass x tests at (λ table place row. refl) s.tables h.holds.count p.rows; pages = p.pages; siblings = p.siblings; whole = p.whole }

  -- whether the one before them says that it ends, none of these but the last does
  abbrev EndWith : Bool → List Segment → Type 0
  EndWith ended [] = ended ≡ true
  EndWith ended (s ∷ ss) = (ended ≡ false) × EndWith s.ends ss

  record ChainStands (at : Stand) (ss : List Segment) : Type 0 where
    hold : AllByRecursion (SegmentHolds x (program_of image)) ss
    linked : AreLinked (start_behind image at.before).pc (start_behind image at.before).root ss
    ends : EndWith (says_end at.before) ss

  chain_stands : (at : Stand) (ss : List Segment) → AllByRecursion (IsCanonicalSegment limits (shape_of x image)) ss → AllPass tests at ss → ChainStands at ss
  chain_stands at [] canonical pass = record { hold = tt; linked = tt; ends = want_so (says_end at.before) reason.NoEnd pass }
  chain_stands at (s ∷ ss) canonical pass =
      let here = segment_stands at s canonical.0 pass.1 in
      let more = chain_stands (next_stand at s) ss canonical.1 pass.2 in
      record {
        hold = (here.holds, more.hold);
        linked = (here.begins.1, here.begins.0, more.linked);
        ends = (not_so (says_end at.before) (want_so _ _ pass.0), more.ends);
      }

  chain_passes : (at : Stand) (s : Segment) (ss : List Segment) (code : ℕ) → says_end at.before ≡ false → AllByRecursion (IsCanonicalSegment limits (shape_of x image)) (s ∷ ss)
      → AllByRecursion (SegmentHolds x (program_of image)) (s ∷ ss) → AreLinked (start_behind image at.before).pc (start_behind image at.before).root (s ∷ ss) → OnlyLastEnds (s ∷ ss)
      → Terminates (program_of image) (last_pc s.pc_end ss) code → AllPass tests at (s ∷ ss)
  chain_passes at s [] code none canonical hold linked only t = (
    so_want _ _ (so_not _ none),
    segment_passes at s canonical.0 (record { holds = hold.0; begins = (linked.1, linked.0); ends = λ e. (code, t) }),
    so_want s.ends reason.NoEnd only,
  )
  chain_passes at s (q ∷ ss) code none canonical hold linked only t = (
    so_want _ _ (so_not _ none),
    segment_passes at s canonical.0 (record { holds = hold.0; begins = (linked.1, linked.0); ends = λ e. let no : true ≡ false = sym e ∙ only.0 in absurd cc }),
    chain_passes (next_stand at s) q ss code only.0 canonical.1 hold.1 linked.2 only.1 t,
  )

  only_last : (s : Segment) (ss : List Segment) → EndWith s.ends ss → OnlyLastEnds (s ∷ ss)
  only_last s [] h = h
  only_last s (q ∷ ss) h = (h.0, only_last q ss h.1)

  some_segment : (ss : List Segment) → EndWith false ss → (1 ≤ length ss) × OnlyLastEnds ss
  some_segment [] h = absurd cc
  some_segment (s ∷ ss) h = (omega arith, only_last s ss h.1)

  -- ---- the claim

  pc_after : (at : Stand) (ss : List Segment) → (start_behind image (stand_after at ss).before).pc ≡ last_pc (start_behind image at.before).pc ss
  pc_after at [] = refl
  pc_after at (s ∷ ss) = pc_after (next_stand at s) ss

  pub root_after : (at : Stand) (ss : List Segment) → (start_behind image (stand_after at ss).before).root ≡ last_root (start_behind image at.before).root ss
  root_after at [] = refl
  root_after at (s ∷ ss) = root_after (next_stand at s) ss

  code_so : (o : Option ℕ) (stated : ℕ) → code_test o stated ≡ None → o ≡ Some stated
  code_so None stated h = absurd cc
  code_so (Some found) stated h = ap (λ (n : ℕ). Some n) (sym (eqb-true stated found (want_so _ (reason.ExitCode stated found) h)))

  so_code : (o : Option ℕ) (stated : ℕ) → o ≡ Some stated → code_test o stated ≡ None
  so_code o stated h = rw h (so_want _ (reason.ExitCode stated stated) (eq-eqb stated stated refl))

  pub claim_holds : (f : File) → AllByRecursion (IsCanonicalSegment limits (shape_of x image)) f.segments → IsCanonicalClaim f → PassesFile tests f → ClaimHolds x image f
  claim_holds f canonical claim p =
      let chain = chain_stands first_stand f.segments canonical p.segments in
      let last = some_segment f.segments chain.ends in
      let c = neither (code_test (exit_code (program_of image) (start_behind image (stand_after first_stand f.segments).before).pc) f.code) (public_test (start_behind image (stand_after first_stand f.segments).before).root f) p.claim in
      record {
        some = last.0;
        few = p.few;
        hold = chain.hold;
        linked = chain.linked;
        ends = last.1;
        terminates = subst (λ (pc : ℕ). Terminates (program_of image) pc f.code) (pc_after first_stand f.segments)
            (code_ends (program_of image) (start_behind image (stand_after first_stand f.segments).before).pc f.code (code_so _ f.code c.0));
        public = record {
          whole = claim.public_bytes;
          levels = claim.levels;
          digests = digests f.path claim.path;
          leads = same_text _ _ (sym (want_so _ reason.Public c.1)) ∙ root_after first_stand f.segments;
        };
      }

  chain_of : (ss : List Segment) (code : ℕ) → 1 ≤ length ss → AllByRecursion (IsCanonicalSegment limits (shape_of x image)) ss → AllByRecursion (SegmentHolds x (program_of image)) ss
      → AreLinked image.entry (root (start_map image)) ss → OnlyLastEnds ss → Terminates (program_of image) (last_pc image.entry ss) code → AllPass tests first_stand ss
  chain_of [] code some canonical hold linked only t = absurd (omega (arith, some))
  chain_of (s ∷ ss) code some canonical hold linked only t = chain_passes first_stand s ss code refl canonical hold linked only t

  pub claim_passes : (f : File) → AllByRecursion (IsCanonicalSegment limits (shape_of x image)) f.segments → ClaimHolds x image f → PassesFile tests f
  claim_passes f canonical h = record {
    few = h.few;
    segments = chain_of f.segments f.code h.some canonical h.hold h.linked h.ends h.terminates;
    claim = both_none _ _
        (so_code _ f.code (ends_code (program_of image) (start_behind image (stand_after first_stand f.segments).before).pc f.code (program_rises image)
        (subst (λ (pc : ℕ). Terminates (program_of image) pc f.code) (sym (pc_after first_stand f.segments)) h.terminates)))
        (so_want _ reason.Public (are_same _ _ (h.public.leads ∙ sym (root_after first_stand f.segments))));
  }

-- ---- the laws

pub rejected_exactly : RejectedExactly
rejected_exactly x image greatest bytes times fits =
    let law = no_reason (λ version. shape_of (x version) image) (λ version. file_tests (x version) image) greatest bytes fits in (
      λ none.
          let f = law.0 none in
          let p = f.1 in (
            f.0,
            record {
              version = p.version;
              accepts = record {
                bits = times f.0.version p.canonical.first p.version;
                canonical = p.canonical;
                claim = claim_holds (x f.0.version) image (limits_of f.0.version) f.0 p.canonical.segments p.canonical.claim p.passes;
              };
              text = f.2;
            },
          ),
      λ f.
          let a = f.1 in
          law.1 (
            f.0,
            record {
              canonical = a.accepts.canonical;
              version = a.version;
              passes = claim_passes (x f.0.version) image (limits_of f.0.version) f.0 a.accepts.canonical.segments a.accepts.claim;
            },
            a.text,
          ),
    )

pub accepted_file_is_one : AcceptedFileIsOne
accepted_file_is_one x image greatest bytes f g a b = spelled_once (λ version. shape_of (x version) image) f g a.accepts.canonical b.accepts.canonical (sym a.text ∙ b.text)

pub segment_rejected_exactly : SegmentRejectedExactly
segment_rejected_exactly x image version start bytes fits =
    let t = segment_tests x (program_of image) (λ at. start) in
    let law = no_reason_in_a_piece version (shape_of x image) t first_stand bytes fits in (
      λ none.
          let s = law.0 none in
          let p = s.1.1 in (
            s.0,
            (
              s.1.0,
              stands x (program_of image) (length (program_of image)) (limits_of version) start first_stand s.0 s.1.0
                  (record { heights = p.heights; rows = all_rows_hold x t first_stand (λ table place row. refl) s.0.tables p.rows; pages = p.pages; siblings = p.siblings; whole = p.whole }),
            ),
            s.2,
          ),
      λ s.
          let p = passes x (program_of image) (length (program_of image)) (limits_of version) start first_stand s.0 (program_rises image) s.1.0 s.1.1 in
          law.1 (s.0, (s.1.0, record { heights = p.heights; rows = all_rows_pass x t first_stand (λ table place row. refl) s.0.tables s.1.1.holds.count p.rows; pages = p.pages; siblings = p.siblings; whole = p.whole }), s.2),
    )
