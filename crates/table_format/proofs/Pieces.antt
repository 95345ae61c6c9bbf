-- Parts of a piece that was taken from the host.
use Rattle.std.proofs.Common.{◌≡◌, ℕ, ◌+◌, ◌-◌, ◌≤◌, List, [], ◌++◌, length, take, drop, sym, ap, ◌∙◌, arith, length-drop, length-take}
use Rattle.std.proofs.lemmas.List.{take-append-drop, drop-drop, drop-take, take-take, take_at}
use Rattle.table_format.specs.Stream.{Held, Gives}

pub held_length : (piece : List ℕ) (at filled : ℕ) → filled ≤ length piece → length (drop at (take filled piece)) ≡ filled - at
held_length piece at filled le = omega (arith, length-drop at (take filled piece), length-take filled piece)

-- the first bytes that are held are those that stand there
within : (piece : List ℕ) (at filled count : ℕ) → at + count ≤ filled → take count (drop at (take filled piece)) ≡ take count (drop at piece)
within piece at filled count le =
    let k : at + (filled - at) ≡ filled = omega arith in
    ap (take count) (sym (ap (λ n. drop at (take n piece)) k) ∙ drop-take at (filled - at) piece) ∙ take-take count (filled - at) (drop at piece) (omega arith)

pub first_held : (piece copied rest : List ℕ) (at filled count : ℕ) → at + count ≤ filled → filled ≤ length piece → copied ≡ take count (drop at piece) → take count (copied ++ rest) ≡ take count (drop at (take filled piece))
first_held piece copied rest at filled count le fits is =
    let size : length copied ≡ count = ap length is ∙ omega (arith, length-take count (drop at piece), length-drop at piece, le, fits) in
    take_at copied rest count size ∙ is ∙ sym (within piece at filled count le)

pub held_parts : (piece copied rest : List ℕ) (at filled count : ℕ) → at + count ≤ filled → filled ≤ length piece → copied ≡ take count (drop at piece)
    → drop at (take filled piece) ≡ take count (copied ++ rest) ++ drop (at + count) (take filled piece)
held_parts piece copied rest at filled count le fits is =
    sym (take-append-drop count (drop at (take filled piece)))
    ∙ ap (λ (ys : List ℕ). take count (drop at (take filled piece)) ++ ys) (drop-drop count at (take filled piece))
    ∙ ap (λ (xs : List ℕ). xs ++ drop (at + count) (take filled piece)) (sym (first_held piece copied rest at filled count le fits is))

pub first_length : (piece copied rest : List ℕ) (at filled count : ℕ) → at + count ≤ filled → filled ≤ length piece → copied ≡ take count (drop at piece) → length (take count (copied ++ rest)) ≡ count
first_length piece copied rest at filled count le fits is =
    ap length (first_held piece copied rest at filled count le fits is) ∙ omega (arith, length-take count (drop at (take filled piece)), held_length piece at filled fits, le)

-- the next bytes are copied and given
pub copied_given : (old : Held) (start at filled count : ℕ) (piece copied : List ℕ) → at + count ≤ filled → filled ≤ length piece → record { at = start + at; ahead = drop at (take filled piece) } ≡ old
    → copied ≡ take ((at + count) - at) (drop at piece) → length copied ≡ count → Gives old (record { at = start + (at + count); ahead = drop (at + count) (take filled piece) }) count copied
copied_given old start at filled count piece copied le fits is same size =
    let k : (at + count) - at ≡ count = omega arith in
    let held : drop at (take filled piece) ≡ old.ahead = ap (λ (h : Held). h.ahead) is in
    let place : start + at ≡ old.at = ap (λ (h : Held). h.at) is in
    record {
      parts = sym held ∙ held_parts piece copied [] at filled count le fits (same ∙ ap (λ (n : ℕ). take n (drop at piece)) k) ∙ ap (λ (xs : List ℕ). xs ++ drop (at + count) (take filled piece)) (take_at copied [] count size);
      number = size;
      place = omega (arith, place);
    }
