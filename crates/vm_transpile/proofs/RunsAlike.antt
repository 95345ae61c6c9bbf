-- Whole runs on both machines.
use Rattle.std.proofs.Common.{◌≡◌, ℕ, zero, suc, ◌+◌, ◌*◌, ◌<◌, List, ◌++◌, length, take, drop, take-add, drop-drop, take_all, refl, sym, ap, ◌∙◌, subst, arith}
use Rattle.std.specs.List.{flat_map, range_with_len}
use Rattle.elf_image.specs.Loaded.{Loaded}
use Rattle.elf_image.specs.Image.{HasImage, IsOfAFile}
use Rattle.rv_run.specs.Machine.{Machine, start}
use Rattle.rv_run.specs.Run.{Goes, Ends}
use Rattle.vm_isa.specs.declared.instr.VmInstr.{VmInstr}
use Rattle.vm_isa.specs.Words.{IsBytes}
use Rattle.vm_isa.specs.Blocks.{VmState, VmGoes, VmEnds, public_bytes_of}
use Rattle.vm_transpile.specs.Program.{program_of}
use Rattle.vm_transpile.specs.Start.{vm_start}
use Rattle.vm_transpile.specs.Same.{IsMachine, Same}
use Rattle.vm_transpile.specs.Refines.{HasText, HasRow, StepsAlike, EndsAlike, RunsGoForth, RunsGoBack, RunsEndAlike}
use Rattle.vm_transpile.proofs.Starts.{starts_are_same}
use Rattle.vm_transpile.proofs.Refinement.{goes_forth, goes_back, ends_by_row, state_is_kept, went_text, ended_text}

pieces : (f : ℕ → List ℕ) (xs : List ℕ) (a n : ℕ) → ((j : ℕ) → j < a + n → f j ≡ take 4 (drop (4 * j) xs)) → flat_map f (range_with_len a n) ≡ take (4 * n) (drop (4 * a) xs)
pieces f xs a zero h = refl
pieces f xs a (suc n) h =
    let first : f a ≡ take 4 (drop (4 * a) xs) = h a (omega arith) in
    let rest = pieces f xs (a + 1) n (λ j low. h j (omega arith)) in
    let next : 4 * (a + 1) ≡ 4 * a + 4 = omega arith in
    let size : 4 * suc n ≡ 4 + 4 * n = omega arith in
    ap (λ (ys : List ℕ). ys ++ flat_map f (range_with_len (a + 1) n)) first
    ∙ ap (λ (ys : List ℕ). take 4 (drop (4 * a) xs) ++ ys) (rest ∙ ap (λ (k : ℕ). take (4 * n) (drop k xs)) next ∙ ap (take (4 * n)) (sym (drop-drop 4 (4 * a) xs)))
    ∙ sym (ap (λ (k : ℕ). take k (drop (4 * a) xs)) size ∙ take-add 4 (4 * n) (drop (4 * a) xs))

-- the public bytes are the same
public_same : (m : Machine) (s : VmState) → IsMachine m → Same m s → public_bytes_of s.blocks ≡ m.public_bytes
public_same m s is h =
    let long : length m.public_bytes ≡ 64 = is.public_count in
    pieces (λ j. s.blocks 3 (4 * j)) m.public_bytes 0 16 (λ j low. h.public_bytes j (omega arith)) ∙ take_all 64 m.public_bytes (omega arith)

module _ (bytes hints : List ℕ) (loaded : Loaded) (are : IsBytes bytes) (hint : IsBytes hints) (image : HasImage bytes loaded) where
  forth : (n : ℕ) (m : Machine) → Goes loaded hints n m → HasText loaded m.pc → (s : VmState) × VmGoes (program_of loaded) (vm_start loaded hints) n s × IsMachine m × Same m s
  forth zero m reached text =
      let same = starts_are_same hints loaded hint (record { bytes = bytes; are_bytes = are; has_image = image }) in
      (vm_start loaded hints, refl, subst IsMachine (sym reached) same.0, subst (λ (x : Machine). Same x (vm_start loaded hints)) (sym reached) same.1)
  forth (suc n) m reached text =
      let before = forth n reached.0 reached.1 (went_text loaded reached.0 m reached.2) in
      let next = goes_forth bytes loaded image reached.0 m before.0 before.2 before.3 reached.2 text in
      (next.0, (before.0, before.1, next.1), state_is_kept loaded reached.0 m before.2 reached.2, next.2)

  back : (n : ℕ) (s : VmState) → VmGoes (program_of loaded) (vm_start loaded hints) n s → HasRow (program_of loaded) s.pc → (m : Machine) × Goes loaded hints n m × IsMachine m × Same m s
  back zero s reached row =
      let same = starts_are_same hints loaded hint (record { bytes = bytes; are_bytes = are; has_image = image }) in
      (start loaded hints, refl, same.0, subst (λ (x : VmState). Same (start loaded hints) x) (sym reached) same.1)
  back (suc n) s reached row =
      let before = back n reached.0 reached.1 (reached.2.instr, reached.2.stands, reached.2.here) in
      let next = goes_back bytes loaded image before.0 reached.0 s before.2 before.3 reached.2 row in
      (next.0, (before.0, before.1, next.1), state_is_kept loaded before.0 next.0 before.2 next.1, next.2)

  ends_forth : (n code : ℕ) (public_bytes : List ℕ) → Ends loaded hints n code public_bytes → VmEnds (program_of loaded) (vm_start loaded hints) n code public_bytes
  ends_forth n code public_bytes e =
      let last = forth n e.last e.reached (ended_text loaded e.last code e.ended) in
      let row = (ends_by_row bytes loaded image e.last code).0 e.ended in
      record {
        last = last.0;
        reached = last.1;
        ended = record { row = row.row; stands = row.stands; here = row.here ∙ sym last.3.pc; is_end = row.is_end; states = row.states };
        shown = public_same e.last last.0 last.2 last.3 ∙ e.shown;
      }

  ends_back : (n code : ℕ) (public_bytes : List ℕ) → VmEnds (program_of loaded) (vm_start loaded hints) n code public_bytes → Ends loaded hints n code public_bytes
  ends_back n code public_bytes e =
      let end = e.ended in
      let last = back n e.last e.reached (end.row, end.stands, end.here) in
      record {
        last = last.0;
        reached = last.1;
        ended = (ends_by_row bytes loaded image last.0 code).1
            (record { row = end.row; stands = end.stands; here = end.here ∙ last.3.pc; is_end = end.is_end; states = end.states });
        shown = sym (public_same last.0 e.last last.2 last.3) ∙ e.shown;
      }

pub runs_go_forth : RunsGoForth
runs_go_forth hints loaded hint file = forth file.bytes hints loaded file.are_bytes hint file.has_image

pub runs_go_back : RunsGoBack
runs_go_back hints loaded hint file = back file.bytes hints loaded file.are_bytes hint file.has_image

pub runs_end_alike : RunsEndAlike
runs_end_alike loaded file hints n code public_bytes hint =
    (ends_forth file.bytes hints loaded file.are_bytes hint file.has_image n code public_bytes, ends_back file.bytes hints loaded file.are_bytes hint file.has_image n code public_bytes)

-- the program of a file's image

pub steps_alike : (loaded : Loaded) (program : List VmInstr) → program ≡ program_of loaded → (bytes : List ℕ) → HasImage bytes loaded → StepsAlike loaded program
steps_alike loaded program same bytes image =
    subst (StepsAlike loaded) (sym same) (record { forth = goes_forth bytes loaded image; back = goes_back bytes loaded image; ends_by_row = ends_by_row bytes loaded image })

pub ends_alike : (loaded : Loaded) (program : List VmInstr) → program ≡ program_of loaded → IsOfAFile loaded → EndsAlike loaded program
ends_alike loaded program same file = subst (EndsAlike loaded) (sym same) (runs_end_alike loaded file)
