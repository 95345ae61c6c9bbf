use Rattle.std.proofs.Common.{rules, ◌≡◌, ◌+◌, ◌-◌, ◌*◌, ◌≤◌, ℕ, List, length, take, drop, ap, ◌∙◌, arith, length-take, length-drop}
use Rattle.table_format.proofs.Pieces.{copied_given}
use Rattle.table_format.proofs.stream.Stream.held_elements.Goals as goal

pub returns-then-are_elements-clause-held : goal.returns-then-are_elements-clause-held
returns-then-are_elements-clause-held c = λ all.
    let i = c.self.inside in
    let size = 4 * length c.args.values.now in
    let bytes : List ℕ = take ((i.at + size) - i.at) (drop i.at c.deref.result.now) in
    let copied = ap (λ (xs : List ℕ). take ((i.at + size) - i.at) (drop i.at xs)) c.deref.ensures.value in
    let fits : i.at + size ≤ i.filled = omega (arith, c.if-self-size.false, c.self.invariant.0) in
    let long : length bytes ≡ size = omega (arith, length-take ((i.at + size) - i.at) (drop i.at c.deref.result.now), length-drop i.at c.deref.result.now, ap length c.deref.ensures.value, fits, c.self.invariant.1) in
    (bytes, c.read_elements-are_elements.ensures.read all, copied_given c.args.self.now i.start i.at i.filled size i.piece.items bytes fits c.self.invariant.1 c.self.view_is copied long)
