-- `keys::is_among_first`: the place tells it. Assumes nothing.
use Rattle.std.proofs.Common.{false, leb, rules, tests, ◌∙◌, ap}
use Rattle.std.specs.Option.{option_map_or}
use Rattle.keys.specs.Places.{all_keys}
use Rattle.keys.proofs.Places.{tested, among_first}
use Rattle.keys.proofs.is_among_first.Goals as goal

pub returns : goal.returns
returns c =
    let a = c.args in
    tested _ a.n c.place_of.result c.is_some_and.result (λ x k. search (rules, tests)) c.is_some_and.ensures
    ∙ ap (λ o. option_map_or (λ place. leb place a.n) o false) c.place_of.ensures
    ∙ among_first a.word a.n all_keys
