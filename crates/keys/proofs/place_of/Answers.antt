-- `keys::place_of`: the table is the list, and the search gives the first place less 1. Assumes nothing.
use Rattle.std.proofs.Common.{◌≡◌, eqb, rules, tests, ◌∙◌, ap, ◌+◌}
use Rattle.std.proofs.lemmas.Iterator.{YieldsList-from_slice}
use Rattle.std.proofs.lemmas.Iterator.Search.{position_from_yields_List}
use Rattle.std.proofs.lemmas.Iterator.Adapters.{position_from-zero}
use Rattle.std.specs.List.{position_from}
use Rattle.std.specs.Option.{option_map}
use Rattle.pdi_spec.specs.Keys.{common_keys, user_keys}
use Rattle.keys.specs.Places.{all_keys}
use Rattle.keys.proofs.Places.{mapped, place_found}
use Rattle.keys.proofs.place_of.Goals as goal

pub returns : goal.returns
unfolding all_keys common_keys user_keys
returns c =
    let word = c.args.word in
    let first : c.position.result ≡ position_from (eqb word) 0 all_keys =
    position_from_yields_List (eqb word) _ _ c.position.result c.position.ensures.ran
    (YieldsList-from_slice _ c.iter.ensures.rest) (λ x b q k. search (rules, tests))
    ∙ position_from-zero (eqb word) all_keys
    in
    mapped _ c.position.result c.map.result (λ x y k. search rules) c.map.ensures.cases
    ∙ ap (option_map (λ i. i + 1)) first ∙ place_found word all_keys
