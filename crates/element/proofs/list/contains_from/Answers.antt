-- `element::list::contains_from` meets its contract: it asks each index whether its entry has the address.
use Rattle.std.proofs.Common.{refl, ◌∙◌, rules, tests}
use Rattle.std.proofs.lemmas.Iterator.{YieldsList-from_range}
use Rattle.std.proofs.lemmas.Iterator.Search.{any_from_yields_List}
use Rattle.layout.specs.Address.{same}
use Rattle.element.specs.Lists.{address_in}
use Rattle.element.proofs.Scans.{contains_any}
use Rattle.element.proofs.list.contains_from.Goals as goal

pub returns : goal.returns
returns c =
    let a = c.args in
    any_from_yields_List (λ i. same (address_in a.kind a.part.now i) a.address) _ _ _ c.any.ensures.ran
    (YieldsList-from_range a.from c.entries_in.result _ refl refl) (λ i b q k. search (rules, tests))
    ∙ contains_any a.kind a.part.now c.entries_in.result c.entries_in.ensures a.from a.address
