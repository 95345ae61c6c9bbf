-- The columns of a record are elements.
use Rattle.std.proofs.Common.{◌≡◌, ℕ, ◌+◌, ◌^◌, ◌<◌, ◌≤◌, List, [], ◌∷◌, ◌++◌, map, flat_map, arith, pow_mono}
use Rattle.std.specs.List.{AllByRecursion}
use Rattle.vm_field.specs.Field.{modulus}
use Rattle.vm_field.specs.declared.limbs.Limbs.{Limbs}
use Rattle.vm_field.specs.Limbs.{list_of}
use Rattle.vm_isa.specs.Words.{IsBytes}
use Rattle.vm_isa.specs.declared.access.TimedAccess.{TimedAccess}
use Rattle.vm_isa.specs.declared.record.StepRecord.{StepRecord}
use Rattle.vm_isa.specs.Means.{Fillable}
use Rattle.air_core.specs.ListLemmas.{all_append}
use Rattle.air_core.specs.Sheet.{AllBelow}
use Rattle.gadget_time.specs.Access.{gap_cells, gap_of}
use Rattle.gadget_time.specs.lemmas.Filled.{gap_below}
use Rattle.gadget_bits.specs.Stage.{halves_cells}
use Rattle.gadget_bits.proofs.StageLaws.{cells_below as halves_below}
use Rattle.chip_sha_main.specs.Main.{MainRow}
use Rattle.chip_sha_main.specs.Sheet.{cells_of_main, last_of}
use Rattle.chip_sha_main.specs.lemmas.Numbers.{AllBytes}
use Rattle.chip_sha_main.specs.lemmas.Made.{InTime}
use Rattle.chip_sha_main.specs.lemmas.Filled.{bytes_from, halves_all, filled_bytes, words_of_times}
use Rattle.chip_sha_main.specs.lemmas.Record.{first, second, reads, writes_list, sums, rest, R, filling, last_all, rest_all}

bytes_below : (w : Limbs ℕ) → IsBytes (list_of w) → AllBelow (list_of w)
unfolding list_of
bytes_below w b = (omega (arith, b.0), (omega (arith, b.1.0), (omega (arith, b.1.1.0), (omega (arith, b.1.1.1.0), tt))))

all_bytes_below : (ws : List (Limbs ℕ)) → AllBytes ws → AllBelow (flat_map list_of ws)
all_bytes_below [] b = tt
all_bytes_below (w ∷ ws) b = all_append (λ (x : ℕ). x < modulus) (list_of w) (flat_map list_of ws) (bytes_below w b.0) (all_bytes_below ws b.1)

one_gap : (hi : ℕ) (a : TimedAccess) → hi ≤ 13 → InTime hi a → AllBelow (gap_cells (gap_of a))
one_gap hi a top t =
    let up : 16 + hi ≤ 29 = omega arith in
    let most : 2 ^ (16 + hi) ≤ 2 ^ 29 = pow_mono up in
    gap_below a.time a.before (omega (arith, t.ends, most))

gaps_below : (hi : ℕ) (xs : List TimedAccess) → hi ≤ 13 → AllByRecursion (InTime hi) xs → AllBelow (flat_map gap_cells (map gap_of xs))
gaps_below hi [] top t = tt
gaps_below hi (x ∷ xs) top t = all_append (λ (v : ℕ). v < modulus) (gap_cells (gap_of x)) (flat_map gap_cells (map gap_of xs)) (one_gap hi x top t.0) (gaps_below hi xs top t.1)

module _ (hi : ℕ) (top : hi ≤ 13) (done : StepRecord) (f : Fillable (16 + hi) done) (op : done.instr.op ≡ 40) where
  abbrev Q : MainRow ℕ
  Q = R hi top done f op

  pub cells_below : AllBelow (cells_of_main Q)
  unfolding cells_of_main
  cells_below =
      let g = filling hi top done f op in
      let P : ℕ → Type 0 = λ x. x < modulus in
      let range = f.in_range in
      let message = bytes_from _ (words_of_times hi (reads hi top done f op) g.reads_in) in
      let old = bytes_from _ (words_of_times hi (writes_list hi top done f op) g.writes_in) in
      let base = (bytes_from ((first hi top done f op).access.old ∷ []) (g.first_in.word, tt)).0 in
      let block = (bytes_from ((second hi top done f op).access.old ∷ []) (g.second_in.word, tt)).0 in
      let p10 : AllBelow (flat_map gap_cells Q.reads ++ (flat_map gap_cells Q.writes)) = all_append P (flat_map gap_cells Q.reads) (flat_map gap_cells Q.writes) (gaps_below hi (reads hi top done f op) top g.reads_in) (gaps_below hi (writes_list hi top done f op) top g.writes_in) in
      let p9 : AllBelow (gap_cells Q.second ++ (flat_map gap_cells Q.reads ++ (flat_map gap_cells Q.writes))) = all_append P (gap_cells Q.second) (flat_map gap_cells Q.reads ++ (flat_map gap_cells Q.writes)) (one_gap hi (second hi top done f op) top g.second_in) (p10) in
      let p8 : AllBelow (gap_cells Q.first ++ (gap_cells Q.second ++ (flat_map gap_cells Q.reads ++ (flat_map gap_cells Q.writes)))) = all_append P (gap_cells Q.first) (gap_cells Q.second ++ (flat_map gap_cells Q.reads ++ (flat_map gap_cells Q.writes))) (one_gap hi (first hi top done f op) top g.first_in) (p9) in
      let p7 : AllBelow (halves_cells Q.rest ++ (gap_cells Q.first ++ (gap_cells Q.second ++ (flat_map gap_cells Q.reads ++ (flat_map gap_cells Q.writes))))) = all_append P (halves_cells Q.rest) (gap_cells Q.first ++ (gap_cells Q.second ++ (flat_map gap_cells Q.reads ++ (flat_map gap_cells Q.writes)))) (halves_below Q.rest (rest hi top done f op) (halves_all (rest hi top done f op) (rest_all hi top done f op))) (p8) in
      let p6 : AllBelow (halves_cells Q.working ++ (halves_cells Q.rest ++ (gap_cells Q.first ++ (gap_cells Q.second ++ (flat_map gap_cells Q.reads ++ (flat_map gap_cells Q.writes)))))) = all_append P (halves_cells Q.working) (halves_cells Q.rest ++ (gap_cells Q.first ++ (gap_cells Q.second ++ (flat_map gap_cells Q.reads ++ (flat_map gap_cells Q.writes))))) (halves_below Q.working (last_of done) (halves_all (last_of done) (last_all hi top done f op))) (p7) in
      let p5 : AllBelow (flat_map list_of Q.new ++ (halves_cells Q.working ++ (halves_cells Q.rest ++ (gap_cells Q.first ++ (gap_cells Q.second ++ (flat_map gap_cells Q.reads ++ (flat_map gap_cells Q.writes))))))) = all_append P (flat_map list_of Q.new) (halves_cells Q.working ++ (halves_cells Q.rest ++ (gap_cells Q.first ++ (gap_cells Q.second ++ (flat_map gap_cells Q.reads ++ (flat_map gap_cells Q.writes)))))) (all_bytes_below Q.new (filled_bytes (sums hi top done f op))) (p6) in
      let p4 : AllBelow (flat_map list_of Q.old ++ (flat_map list_of Q.new ++ (halves_cells Q.working ++ (halves_cells Q.rest ++ (gap_cells Q.first ++ (gap_cells Q.second ++ (flat_map gap_cells Q.reads ++ (flat_map gap_cells Q.writes)))))))) = all_append P (flat_map list_of Q.old) (flat_map list_of Q.new ++ (halves_cells Q.working ++ (halves_cells Q.rest ++ (gap_cells Q.first ++ (gap_cells Q.second ++ (flat_map gap_cells Q.reads ++ (flat_map gap_cells Q.writes))))))) (all_bytes_below Q.old old) (p5) in
      let p3 : AllBelow (flat_map list_of Q.message ++ (flat_map list_of Q.old ++ (flat_map list_of Q.new ++ (halves_cells Q.working ++ (halves_cells Q.rest ++ (gap_cells Q.first ++ (gap_cells Q.second ++ (flat_map gap_cells Q.reads ++ (flat_map gap_cells Q.writes))))))))) = all_append P (flat_map list_of Q.message) (flat_map list_of Q.old ++ (flat_map list_of Q.new ++ (halves_cells Q.working ++ (halves_cells Q.rest ++ (gap_cells Q.first ++ (gap_cells Q.second ++ (flat_map gap_cells Q.reads ++ (flat_map gap_cells Q.writes)))))))) (all_bytes_below Q.message message) (p4) in
      let p2 : AllBelow (list_of Q.block ++ (flat_map list_of Q.message ++ (flat_map list_of Q.old ++ (flat_map list_of Q.new ++ (halves_cells Q.working ++ (halves_cells Q.rest ++ (gap_cells Q.first ++ (gap_cells Q.second ++ (flat_map gap_cells Q.reads ++ (flat_map gap_cells Q.writes)))))))))) = all_append P (list_of Q.block) (flat_map list_of Q.message ++ (flat_map list_of Q.old ++ (flat_map list_of Q.new ++ (halves_cells Q.working ++ (halves_cells Q.rest ++ (gap_cells Q.first ++ (gap_cells Q.second ++ (flat_map gap_cells Q.reads ++ (flat_map gap_cells Q.writes))))))))) (bytes_below Q.block block) (p3) in
      let p1 : AllBelow (list_of Q.base ++ (list_of Q.block ++ (flat_map list_of Q.message ++ (flat_map list_of Q.old ++ (flat_map list_of Q.new ++ (halves_cells Q.working ++ (halves_cells Q.rest ++ (gap_cells Q.first ++ (gap_cells Q.second ++ (flat_map gap_cells Q.reads ++ (flat_map gap_cells Q.writes))))))))))) = all_append P (list_of Q.base) (list_of Q.block ++ (flat_map list_of Q.message ++ (flat_map list_of Q.old ++ (flat_map list_of Q.new ++ (halves_cells Q.working ++ (halves_cells Q.rest ++ (gap_cells Q.first ++ (gap_cells Q.second ++ (flat_map gap_cells Q.reads ++ (flat_map gap_cells Q.writes)))))))))) (bytes_below Q.base base) (p2) in
      (omega (arith, range.rd), (omega (arith, range.rs1), p1))
