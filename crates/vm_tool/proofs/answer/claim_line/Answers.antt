use Rattle.std.proofs.Common.{◌≡◌, ℕ, List, [], ◌∷◌, ◌++◌, ◌∙◌, ap, string_bytes, codes}
use Rattle.std.specs.Fmt.{decimal}
use Rattle.vm_tool.proofs.Lines.{join_right, join_left, joined, joined_behind}
use Rattle.vm_tool.proofs.answer.claim_line.Goals as goal

pub returns : goal.returns
unfolding join_right join_left
returns c =
    let name = c.args.name.now in
    let front : List (List ℕ) = codes " exit " ∷ decimal c.args.code ∷ codes " public " ∷ c.args.digits.now ∷ [] in
    let end : List (List ℕ) = decimal c.args.segments ∷ codes " " ∷ c.args.counted.now ∷ codes " " ∷ decimal c.args.count ∷ codes "\n" ∷ [] in
    c.in_ok-push_str.ensures.bytes ∙ ap (λ more. string_bytes c.in_ok-line.line ++ more) c.deref.ensures
    ∙ ap (λ line. line ++ string_bytes c.in_ok-end.end) (c.in_ok-line.ensures.ok ∙ joined name front)
    ∙ ap (λ more. join_left name front ++ more) c.in_ok-end.ensures.ok
    ∙ joined_behind (join_left name front) (codes " segments ") end
