use Rattle.std.proofs.Common.{◌≡◌, ◌≤◌, ◌^◌, Option, None, Some, is_some, length, ℕ, List, true, false, refl, ◌∙◌, rules}
use Rattle.std.proofs.lemmas.Result.{err_from_is_err_and}
use Rattle.elf_image.specs.declared.ImageError.TheVariants.{Overlap}
use Rattle.elf_image.specs.Elf.{e_entry}
use Rattle.elf_image.specs.declared.TextWord.{TextWord}
use Rattle.elf_image.specs.Loaded.{IsPlace, text_of, word_of}
use Rattle.elf_image.proofs.Searches.{not_placed}
use Rattle.elf_image.specs.Image.{loaded_by}
use Rattle.elf_image.proofs.Overlaps.{Shares}
use Rattle.elf_image.proofs.Accepted.{none_more, some_sorted, shares_sorted, fit_sorted, follow_sorted, text_sorted, entry_refused, image_sorted}
use Rattle.elf_image.proofs.lay_out.Goals as goal

none_of : (o : Option ℕ) (text : List TextWord) (pc : ℕ) (word : Option ℕ) → IsPlace text pc word o → is_some o ≡ false → word ≡ None
none_of None text pc word h e = not_placed text pc word h
none_of (Some place) text pc word h e = absurd (cc)

some_of : (o : Option ℕ) (text : List TextWord) (pc : ℕ) (word : Option ℕ) → IsPlace text pc word o → is_some o ≡ true → word ≡ None → ⊥
some_of None text pc word h e none = absurd (cc)
some_of (Some place) text pc None h e none = absurd h
some_of (Some place) text pc (Some w) h e none = absurd (cc)

pub overlap-requires-clause-some : goal.overlap-requires-clause-some
overlap-requires-clause-some c = rw c.deref.ensures.value (some_sorted c.args.bytes.now c.args.loads.items c.requires.loads c.requires.rising)

pub overlap-requires-clause-low : goal.overlap-requires-clause-low
overlap-requires-clause-low c = let fit = fit_sorted c.args.bytes.now c.args.loads.items c.requires.loads c.requires.rising c.requires.first in rw c.deref.ensures.value fit.low

pub returns-then-overlap-clause-refused : goal.returns-then-overlap-clause-refused
returns-then-overlap-clause-refused c other =
    let shares = rw c.deref.ensures.value at (c.if-overlap.ensures.0 refl) in
    record { cause = (shares_sorted c.args.bytes.now c.args.loads.items c.requires.loads c.requires.rising).0 shares; first = c.requires.first }

pub read_text-requires-clause-fit : goal.read_text-requires-clause-fit
read_text-requires-clause-fit c = rw c.deref-2.ensures.value (fit_sorted c.args.bytes.now c.args.loads.items c.requires.loads c.requires.rising c.requires.first)

pub read_text-requires-clause-apart : goal.read_text-requires-clause-apart
read_text-requires-clause-apart c =
    let apart : Shares c.args.loads.items → ⊥ = λ h. let bad = c.if-overlap.ensures.1 (rw c.deref.ensures.value h) in cc in
    rw c.deref-2.ensures.value (follow_sorted c.args.bytes.now c.args.loads.items c.requires.loads c.requires.rising c.requires.first apart)

pub returns-in_err-text-clause-refused : goal.returns-in_err-text-clause-refused
returns-in_err-text-clause-refused c =
    let p = err_from_is_err_and c.from_residual.result c.from_residual.ensures.1 in
    rw (p.1, p.2) (λ other.
    let bytes = c.args.bytes.now in
    let loads = c.args.loads.items in
    let apart : Shares loads → ⊥ = λ h. let bad = c.if-overlap.ensures.1 (rw c.deref.ensures.value h) in cc in
    let follows = follow_sorted bytes loads c.requires.loads c.requires.rising c.requires.first apart in
    let text = text_sorted bytes loads c.requires.loads c.requires.rising c.requires.first follows 0 in
    let refused = c.in_err-text.ensures.refused other in
    let long = rw (c.deref-2.ensures.value, ← text) at refused.1 in
    rw refused.0 (record {
      cause = long;
      first = none_more 12 bytes Overlap refl c.requires.first (λ h. apart ((shares_sorted bytes loads c.requires.loads c.requires.rising).1 h));
    }))

pub new-requires-clause-laid_out : goal.new-requires-clause-laid_out
new-requires-clause-laid_out c =
    let bytes = c.args.bytes.now in
    let loads = c.args.loads.items in
    let apart : Shares loads → ⊥ = λ h. let bad = c.if-overlap.ensures.1 (rw c.deref.ensures.value h) in cc in
    let copied : c.in_ok-to_vec.field-0.items ≡ bytes = search rules in
    rw copied (record {
      fit = fit_sorted bytes loads c.requires.loads c.requires.rising c.requires.first;
      apart = follow_sorted bytes loads c.requires.loads c.requires.rising c.requires.first apart;
      words = rw (← c.deref-2.ensures.value) c.in_ok-text.ensures.text;
    })

pub returns-then-is_none-clause-refused : goal.returns-then-is_none-clause-refused
returns-then-is_none-clause-refused c other =
    let bytes = c.args.bytes.now in
    let loads = c.args.loads.items in
    let apart : Shares loads → ⊥ = λ h. let bad = c.if-overlap.ensures.1 (rw c.deref.ensures.value h) in cc in
    let follows = follow_sorted bytes loads c.requires.loads c.requires.rising c.requires.first apart in
    let few : length (text_of (loaded_by 0 bytes loads)) ≤ 2 ^ 20 = rw (← c.deref-2.ensures.value, ← c.in_ok-text.ensures.text) (search rules) in
    let text = rw (c.deref-2.ensures.value) at c.in_ok-text.ensures.text in
    let placed = rw c.read_word-entry.ensures at c.place_in.ensures (loaded_by (e_entry bytes) bytes loads) (c.deref-3.ensures.value ∙ text) in
    let none : word_of (loaded_by (e_entry bytes) bytes loads) (e_entry bytes) ≡ None = none_of c.place_in.result _ (e_entry bytes) _ placed (rw c.if-is_none.true at c.is_none.ensures) in
    entry_refused bytes loads c.requires.loads c.requires.rising c.requires.first follows few none

pub new-requires-clause-has_image : goal.new-requires-clause-has_image
new-requires-clause-has_image c =
    let bytes = c.args.bytes.now in
    let loads = c.args.loads.items in
    let apart : Shares loads → ⊥ = λ h. let bad = c.if-overlap.ensures.1 (rw c.deref.ensures.value h) in cc in
    let follows = follow_sorted bytes loads c.requires.loads c.requires.rising c.requires.first apart in
    let copied : c.in_ok-to_vec.field-0.items ≡ bytes = search rules in
    let few : length (text_of (loaded_by 0 bytes loads)) ≤ 2 ^ 20 = rw (← c.deref-2.ensures.value, ← c.in_ok-text.ensures.text) (search rules) in
    let text = rw (c.deref-2.ensures.value) at c.in_ok-text.ensures.text in
    let placed = rw c.read_word-entry.ensures at c.place_in.ensures (loaded_by (e_entry bytes) bytes loads) (c.deref-3.ensures.value ∙ text) in
    let some = some_of c.place_in.result _ (e_entry bytes) (word_of (loaded_by (e_entry bytes) bytes loads) (e_entry bytes)) placed (rw c.if-is_none.false at c.is_none.ensures) in
    rw (copied, c.read_word-entry.ensures) (image_sorted bytes loads c.requires.loads c.requires.rising c.requires.first follows few some)

pub returns-clause-image : goal.returns-clause-image
returns-clause-image c = let copied : c.in_ok-to_vec.field-0.items ≡ c.args.bytes.now = search rules in rw copied at c.new.ensures
