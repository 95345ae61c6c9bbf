use Rattle.std.proofs.Common.{◌≡◌, ℕ, ◌-◌, List, [], ◌++◌, take, drop, length, ap, ◌∙◌, arith, length-drop}
use Rattle.std.proofs.lemmas.List.{append-nil, nil_from_length}
use borrow.Rule.Slice.PartMut.{put_mid}
use Rattle.gadget_limbs.specs.Less.{digits_by, less_cells, less_filled}
use Rattle.gadget_divide.proofs.fill.put_order.Goals as goal

pub returns-clause-is : goal.returns-clause-is
returns-clause-is c =
    let own : List ℕ = c.args.own.now in
    let cells : List ℕ = less_cells (less_filled 0 (digits_by 3 c.args.left.now) (digits_by 3 c.args.right.now)) in
    let rest : drop (length own - 27) (drop 27 own) ≡ [] = nil_from_length (drop (length own - 27) (drop 27 own)) (omega (arith, length-drop (length own - 27) (drop 27 own), length-drop 27 own)) in
    ap (λ (columns : List ℕ). put_mid 27 (length own - 27) own columns) c.fill_less.ensures
    ∙ ap (λ (t : List ℕ). take 27 own ++ (cells ++ t)) rest ∙ ap (λ (t : List ℕ). take 27 own ++ t) (append-nil cells)
