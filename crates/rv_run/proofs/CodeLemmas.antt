-- What is fetched of a text.
use Rattle.std.proofs.Common.{◌≡◌, ℕ, zero, suc, ◌+◌, ◌<◌, List, [], ◌∷◌, ◌++◌, length, take, map, get_or, add-one, arith, slice_get, refl, sym, ap, ◌∙◌}
use Rattle.std.specs.Prelude.{Option, None, Some}
use Rattle.std.specs.Option.{option_and_then, option_map}
use Rattle.std.proofs.lemmas.Option.{get_or_from_slice_get, slice_get-map, slice_get_within}
use Rattle.elf_image.specs.declared.TextWord.{TextWord}
use Rattle.elf_image.specs.Loaded.{IsPlace}
use Rattle.elf_image.proofs.Searches.{placed, not_placed}
use Rattle.rv_decode.specs.declared.instr.Instr.{Instr}
use Rattle.rv_decode.specs.Listing.{decode_of}
use Rattle.rv_decode.proofs.ListingLemmas.{IfSome-decode_of}
use Rattle.rv_run.specs.Code.{decoded, fetched, HasRanges}

module _ (text : List TextWord) (pc : ℕ) (word : Option ℕ) where
  -- a place is within the text
  pub place_within : (place : ℕ) → IsPlace text pc word (Some place) → place < length text
  place_within place h = let at = placed text pc word place h in slice_get_within text place _ at.2

  -- the line at the place of a word is what the word decodes to
  pub line_at : (lines : List (Option Instr)) (place : ℕ) (d : Option Instr) → lines ≡ map decoded text → IsPlace text pc word (Some place) → Some (get_or lines place d) ≡ fetched word
  line_at lines place d all h =
      let at = placed text pc word place h in
      let w : ℕ = at.0 in
      let here : slice_get lines place ≡ Some (decode_of w) = ap (λ (xs : List (Option Instr)). slice_get xs place) all ∙ slice_get-map decoded text place ∙ ap (option_map decoded) at.2 in
      ap Some (get_or_from_slice_get lines place (decode_of w) d here) ∙ sym (ap fetched at.1)

  pub none_there : IsPlace text pc word None → None ≡ fetched word
  none_there h = sym (ap fetched (not_placed text pc word h))

pub fetched_ranges : (word : Option ℕ) → HasRanges (fetched word)
fetched_ranges None = tt
fetched_ranges (Some w) = IfSome-decode_of w

pub decoded_more : (text : List TextWord) (k : ℕ) (lines : List (Option Instr)) → lines ≡ map decoded (take k text) → k < length text
    → lines ++ option_and_then decoded (slice_get text k) ∷ [] ≡ map decoded (take (k + 1) text)
decoded_more text k lines before low = ap (λ (xs : List (Option Instr)). xs ++ option_and_then decoded (slice_get text k) ∷ []) before ∙ rw add-one (more text k low) where
  more : (xs : List TextWord) (n : ℕ) → n < length xs → map decoded (take n xs) ++ option_and_then decoded (slice_get xs n) ∷ [] ≡ map decoded (take (suc n) xs)
  more [] n h = absurd (omega arith)
  more (y ∷ ys) zero h = refl
  more (y ∷ ys) (suc n) h = ap (λ (zs : List (Option Instr)). decode_of y.word ∷ zs) (more ys n (omega arith))
