use Rattle.std.proofs.Common.{◌≡◌, ℕ, List, [], ◌∷◌, ◌++◌, ◌∙◌, ap, string_bytes, codes}
use Rattle.std.specs.Fmt.{decimal}
use Rattle.vm_tool.proofs.Lines.{join_right, join_left, joined, joined_behind}
use Rattle.vm_tool.proofs.answer.sample_line.Goals as goal

pub returns : goal.returns
unfolding join_right join_left
returns c =
    let name = codes "sample " in
    let front : List (List ℕ) = decimal c.args.number ∷ codes " steps " ∷ decimal c.args.claim.now.steps ∷ [] in
    let end : List (List ℕ) = decimal c.args.claim.now.code ∷ codes " public " ∷ c.args.digits.now ∷ codes " segments " ∷ decimal c.args.claim.now.segments ∷ codes "\n" ∷ [] in
    c.in_ok-push_str.ensures.bytes ∙ ap (λ more. string_bytes c.in_ok-line.line ++ more) c.deref.ensures
    ∙ ap (λ line. line ++ string_bytes c.in_ok-end.end) (c.in_ok-line.ensures.ok ∙ joined name front)
    ∙ ap (λ more. join_left name front ++ more) c.in_ok-end.ensures.ok
    ∙ joined_behind (join_left name front) (codes " exit ") end
