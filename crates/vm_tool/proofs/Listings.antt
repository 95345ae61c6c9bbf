-- The lines of rows, one more.
use Rattle.std.proofs.Common.{◌≡◌, ℕ, zero, suc, ◌+◌, Option, None, sym, List, [], ◌∷◌, ◌++◌, take, slice_get, Some, ap, ◌∙◌, arith, append-nil}
use Rattle.std.proofs.lemmas.List.{take_more, take_all}
use Rattle.std.proofs.lemmas.Option.{get_or_from_slice_get, slice_get_within}
use Rattle.std.proofs.lemmas.Grind.{flat_map-append}
use Rattle.vm_isa.specs.declared.instr.VmInstr.{VmInstr}
use Rattle.vm_tool.specs.Listing.{line_of_row, listing_of}

pub listing_more : (rows : List VmInstr) (place : ℕ) (row : VmInstr) → slice_get rows place ≡ Some row → listing_of (take (place + 1) rows) ≡ listing_of (take place rows) ++ line_of_row row
listing_more rows place row at =
    ap listing_of (take_more rows place row (slice_get_within rows place row at)) ∙ flat_map-append line_of_row (take place rows) _
    ∙ ap (λ (r : VmInstr). listing_of (take place rows) ++ listing_of (r ∷ [])) (get_or_from_slice_get rows place row row at)
    ∙ ap (λ l. listing_of (take place rows) ++ l) (append-nil (line_of_row row))

-- a row's line, or nothing
abbrev pub line_if_any : Option VmInstr → List ℕ
line_if_any (Some row) = line_of_row row
line_if_any None = []

take_past : {X : Type 0} (xs : List X) (place : ℕ) → slice_get xs place ≡ None → take (place + 1) xs ≡ take place xs
take_past [] place past = take_all (place + 1) [] (omega arith) ∙ sym (take_all place [] (omega arith))
take_past (x ∷ xs) zero past = cc
take_past (x ∷ xs) (suc place) past =
    let on : suc place + 1 ≡ suc (place + 1) = omega arith in
    ap (λ n. take n (x ∷ xs)) on ∙ ap (λ l. x ∷ l) (take_past xs place past)

pub listing_step : (rows : List VmInstr) (place : ℕ) (row : Option VmInstr) (old new : List ℕ)
    → row ≡ slice_get rows place → old ≡ listing_of (take place rows) → new ≡ old ++ line_if_any row → new ≡ listing_of (take (place + 1) rows)
listing_step rows place (Some row) old new at before more = more ∙ ap (λ l. l ++ line_of_row row) before ∙ sym (listing_more rows place row (sym at))
listing_step rows place None old new at before more = more ∙ append-nil old ∙ before ∙ ap listing_of (sym (take_past rows place (sym at)))
