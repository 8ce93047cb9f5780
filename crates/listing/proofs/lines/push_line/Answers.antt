-- `listing::lines::push_line` meets its contract, by the lemmas of Appends.antt. Assumes nothing.
use Rattle.std.proofs.Common.{lit<}
use Rattle.listing.proofs.Appends.{whole, first_fits, first_appended, space_fits, number_fits, number_appended, feed_fits, line_ended}
use Rattle.listing.proofs.lines.push_line.Goals as goal

pub push_number-requires : goal.push_number-requires
push_number-requires c = first_fits c.args.numbers.now c.args.text.now.bytes c.requires.some c.requires.room

pub loop-n-init : goal.loop-n-init
loop-n-init c = first_appended c.args.numbers.now c.args.text.now.bytes c.requires.some c.push_number.ensures

pub push-requires : goal.push-requires
unfolding lib.Utf8.encode
push-requires c =
    (lit< tt, space_fits c.loop-n.text.bytes _ _ c.loop-n.n-index c.loop-n-test.true c.loop-n.invariant (whole _ _ c.requires.room))

pub push_number-requires-in-loop-n : goal.push_number-requires-in-loop-n
push_number-requires-in-loop-n c = number_fits c.loop-n.text.bytes _ _ c.loop-n.n-index c.loop-n-test.true c.loop-n.invariant
    (whole _ _ c.requires.room) (c.push.ensures.ascii (lit< tt))

pub loop-n-preserved : goal.loop-n-preserved
loop-n-preserved c =
    number_appended c.loop-n.text.bytes _ _ c.loop-n.n-index c.loop-n-test.true c.loop-n.invariant (c.push.ensures.ascii (lit< tt))
    c.push_number-in-loop-n.ensures

pub push-requires-2 : goal.push-requires-2
unfolding lib.Utf8.encode
push-requires-2 c =
    (lit< tt, feed_fits c.loop-n.text.bytes _ _ c.loop-n.n-index c.loop-n-test.false c.loop-n.invariant (whole _ _ c.requires.room))

pub returns : goal.returns
returns c =
    line_ended c.loop-n.text.bytes _ _ c.loop-n.n-index c.loop-n-test.false c.loop-n.invariant (c.push-2.ensures.ascii (lit< tt))
