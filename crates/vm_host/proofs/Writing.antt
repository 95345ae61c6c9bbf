-- Writing in pieces.
use Rattle.std.proofs.Common.{◌≡◌, ℕ, ◌+◌, ◌-◌, ◌≤◌, List, length, take, drop, sym, ap, subst, arith, length-drop}
use Rattle.std.proofs.lemmas.List.{take_rest}
use Rattle.std.proofs.Math.Seq.{take-add}
use Rattle.std.proofs.KnownBytes.{Appends-trans}
use Rattle.std.specs.declared.option.Option.{Option}
use Rattle.std.specs.Io.KnownBytes.{Appends}

-- the first bytes of what is left are within it
pub stays_within : (piece : List ℕ) (done count : ℕ) → done ≤ length piece → count ≤ length (take (length piece - done) (drop done piece)) → done + count ≤ length piece
stays_within piece done count within bound =
    let same : length (take (length piece - done) (drop done piece)) ≡ length (drop done piece) = ap length (take_rest piece done) in
    omega (arith, length-drop done piece)

-- a piece was written so far, and then some of what is left of it
pub appends_more : (old between new : Option (List ℕ)) (piece : List ℕ) (done count : ℕ) → Appends old between (take done piece) → Appends between new (take count (take (length piece - done) (drop done piece))) → Appends old new (take (done + count) piece)
appends_more old between new piece done count before now =
    let next : Appends between new (take count (drop done piece)) = subst (λ bs. Appends between new (take count bs)) (take_rest piece done) now in
    subst (Appends old new) (sym (take-add done count piece)) (Appends-trans old between new _ _ before next)
