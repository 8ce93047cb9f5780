-- `pairs::order::in_order` meets its contract. Assumes nothing.
use Rattle.std.proofs.Common.{rules, tests}
use Rattle.std.proofs.lemmas.Fn.{always_returns_same}
use Rattle.std.proofs.iter.Next.{if_yes}
use Rattle.ranges.proofs.Equal.{equal}
use Rattle.pairs.proofs.Following.{follows, in_order}
use Rattle.pairs.proofs.order.in_order.Goals as goal

pub returns : goal.returns
returns c e =
    let answers = always_returns_same _ _ _ (λ a r f' k. search (rules, tests, equal)) in
    in_order c.args.equals c.args.ranges.now (if_yes _ _ e (c.is_sorted_by.ensures.cases (follows c.args.equals) answers))
