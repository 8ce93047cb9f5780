-- `listing::lines::push_buffer` meets its contract, by the lemmas of Appends.antt. Assumes nothing.
use Rattle.std.proofs.Common.{◌∙◌, ◌++◌, ◌≡◌, ℕ, List, ap, ap₂, refl, arith, rules, drop, get_or, length, length-append, length-drop}
use Rattle.std.specs.Iterator.Adapters.{take_source, take_count}
use Rattle.std.specs.Slice.Iter.{chunks_exact_rest, chunks_exact_size}
use Rattle.pdi_spec.specs.Limits.{head_width, row_width}
use Rattle.listing.specs.Printed.{line, row_lines}
use Rattle.listing.proofs.Appends.{whole, fits, appended, head_split, row_split, no_rows}
use Rattle.listing.proofs.lines.push_buffer.Goals as goal

pub push_line-requires-clause-room : goal.push_line-requires-clause-room
push_line-requires-clause-room c =
    let split = c.split_at.ensures in
    fits c.args.text.now.bytes (line _) _ _ (head_split _ c.args.rows.now _ _ split.front split.back) (whole _ _ c.requires.room)

pub loop-row-init : goal.loop-row-init
loop-row-init c =
    let split = c.split_at.ensures in
    let text = c.args.text.now.bytes in
    let rows = c.args.rows.now in
    let head = c.split_at.result.0.now in
    let rest : chunks_exact_rest (take_source c.into_iter-row-iterator.result) ≡ drop head_width rows = search (rules, split.back) in
    let count : take_count c.into_iter-row-iterator.result ≡ get_or rows 2 0 = search rules in
    let size : chunks_exact_size (take_source c.into_iter-row-iterator.result) ≡ row_width = search rules in
    record {
      size = size;
      enough = omega (arith, ap length rest, count, c.requires.enough, length-drop head_width rows);
      same = appended text (line head) _ _ (ap₂ (λ (n : ℕ) (l : List ℕ). text ++ (line head ++ row_lines n l)) count rest
          ∙ head_split text rows head _ split.front refl) c.push_line.ensures;
    }

pub push_line-requires-in-loop-row-clause-room : goal.push_line-requires-in-loop-row-clause-room
push_line-requires-in-loop-row-clause-room c =
    let i = c.loop-row.invariant in
    let step = c.in-Some.ensures.steps in
    fits c.loop-row.text.bytes (line _) _ _ (row_split _ _ _ _ _ _ _ i.same step.1 step.0.1.0 (step.0.1.1 ∙ i.size))
    (whole _ _ c.requires.room)

pub loop-row-preserved : goal.loop-row-preserved
loop-row-preserved c =
    let i = c.loop-row.invariant in
    let step = c.in-Some.ensures.steps in
    record {
      size = step.0.0 ∙ i.size;
      enough = grind (arith, ap length step.0.1.0, length-append c.in-Some.row.now);
      same = appended c.loop-row.text.bytes (line _) _ _ (row_split _ _ _ _ _ _ _ i.same step.1 step.0.1.0 (step.0.1.1 ∙ i.size))
          c.push_line-in-loop-row.ensures;
    }

pub returns : goal.returns
returns c =
    let i = c.loop-row.invariant in
    no_rows _ _ _ _ i.same i.enough (λ some. let none = c.in-None.ensures.steps some in omega (arith, none.1.0, i.size))
