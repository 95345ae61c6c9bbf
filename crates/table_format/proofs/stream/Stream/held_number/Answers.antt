use Rattle.std.proofs.Common.{ℕ, ◌+◌, ◌-◌, List, take, drop, ap, ◌∙◌, arith}
use Rattle.table_format.proofs.Pieces.{copied_given}
use Rattle.table_format.proofs.stream.Stream.held_number.Goals as goal

pub returns : goal.returns
returns c =
    let i = c.self.inside in
    let copied = c.copy_from_slice.ensures.after ∙ ap (λ (xs : List ℕ). take ((i.at + 4) - i.at) (drop i.at xs)) c.deref.ensures.value in (
      c.copy_from_slice.new.self,
      c.from_le_bytes.ensures,
      copied_given c.args.self.now i.start i.at i.filled 4 i.piece.items c.copy_from_slice.new.self (omega (arith, c.if-self-lt4.false, c.self.invariant.0)) c.self.invariant.1 c.self.view_is copied c.copy_from_slice.ensures.len,
    )
