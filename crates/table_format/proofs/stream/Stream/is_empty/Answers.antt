use Rattle.std.proofs.Common.{◌≡◌, take, drop, length, sym, ap, ◌∙◌, arith, eq-eqb}
use Rattle.std.proofs.lemmas.Bool.{eqb-true}
use Rattle.std.proofs.lemmas.List.{nil_from_length}
use Rattle.table_format.specs.Stream.{Held}
use Rattle.table_format.proofs.Pieces.{held_length}
use Rattle.table_format.proofs.stream.Stream.is_empty.Goals as goal

pub returns : goal.returns
returns c =
    let i = c.self.inside in
    let is : drop i.at (take i.filled i.piece.items) ≡ c.args.self.now.ahead = ap (λ (h : Held). h.ahead) c.self.view_is in
    let n = held_length i.piece.items i.at i.filled c.self.invariant.1 in (
      λ t. let same : i.at ≡ i.filled = eqb-true i.at i.filled t in sym is ∙ nil_from_length _ (omega (arith, n, same)),
      λ e. eq-eqb i.at i.filled (omega (arith, n, ap length (is ∙ e), c.self.invariant.0)),
    )
