use Rattle.std.proofs.Common.{◌≡◌, List, ℕ, [], ◌∷◌, ◌∙◌, ap, subst, map, string_bytes}
use Rattle.std.specs.Option.{option_map}
use Rattle.vm_tool.specs.Command.{Means}
use Rattle.vm_tool.specs.Form.{command_of}
use Rattle.vm_tool.proofs.Words.{five_items}
use Rattle.vm_tool.proofs.command.parse_words.Goals as goal

pub returns-in-len5 : goal.returns-in-len5
returns-in-len5 c =
    let items = five_items _ _ _ _ _ _ c.in-len5.len_at_least c.in-len5.len_below c.name-item-then-words-lt6.is c.first-item-then-words-lt6.is c.second-item-then-words-lt6.is c.third-item-then-words-lt6.is c.fourth-item.is in
    subst (λ (words : List (List ℕ)). Means words (option_map command_of c.parse_five.result))
    ((λ i. c.as_str-in-len5.ensures.value i ∷ c.as_str-in-len5-2.ensures.value i ∷ c.as_str-in-len5-3.ensures.value i ∷ c.as_str-in-len5-4.ensures.value i ∷ c.as_str-in-len5-5.ensures.value i ∷ [])
    ∙ ap (map string_bytes) items)
    c.parse_five.ensures
