-- `listing::reading::push_reading` meets its contract, by the laws of Readings.antt. Assumes nothing.
use Rattle.std.proofs.Common.{◌∙◌, ◌++◌, List, ℕ, ap, sym, arith, length, length-append, replicate}
use Rattle.pdi_spec.proofs.Laws.Plain.{plain}
use Rattle.pdi_spec.specs.Limits.{buffer_numbers}
use Rattle.listing.specs.Printed.{answer_line}
use Rattle.listing.proofs.Appends.{appended}
use Rattle.listing.proofs.Readings.{refused_text, accepted_text, text_sizes, rows_within, answer_fits}
use Rattle.listing.proofs.reading.push_reading.Goals as goal

pub push_line-requires-clause-room : goal.push_line-requires-clause-room
unfolding answer_line
push_line-requires-clause-room c =
    omega (
      arith,
      c.requires,
      answer_fits plain c.args.image.now c.args.place (replicate buffer_numbers 0) (omega arith) c.read-answer.ensures.answers,
    )

pub push_buffer-requires-clause-enough : goal.push_buffer-requires-clause-enough
push_buffer-requires-clause-enough c =
    let read = c.read-answer.ensures in
    rows_within plain c.args.image.now c.args.place (replicate buffer_numbers 0) (omega arith) read.answers c.if-answer-eq0.true read.writes

pub push_buffer-requires-clause-room : goal.push_buffer-requires-clause-room
unfolding answer_line
push_buffer-requires-clause-room c =
    let read = c.read-answer.ensures in
    omega (
      arith,
      c.requires,
      text_sizes plain c.args.image.now c.args.place (replicate buffer_numbers 0) (omega arith) read.answers c.if-answer-eq0.true
          read.writes,
      ap length c.push_line.ensures,
      length-append c.args.text.now.bytes (answer_line c.read-answer.result),
    )

pub returns-then-answer-eq0 : goal.returns-then-answer-eq0
unfolding answer_line
returns-then-answer-eq0 c =
    let text = c.args.text.now.bytes in
    let read = c.read-answer.ensures in
    let all = accepted_text plain c.args.image.now c.args.place (replicate buffer_numbers 0) (omega arith) read.answers c.if-answer-eq0.true
    read.writes in
    c.push_buffer.ensures
    ∙ appended text (answer_line c.read-answer.result) _ _ (ap (λ (l : List ℕ). text ++ l) (sym all)) c.push_line.ensures

pub returns-else-answer-eq0 : goal.returns-else-answer-eq0
unfolding answer_line
returns-else-answer-eq0 c =
    let read = c.read-answer.ensures in
    c.push_line.ensures
    ∙ ap (λ (l : List ℕ). c.args.text.now.bytes ++ l)
    (sym (refused_text plain c.args.image.now c.args.place (replicate buffer_numbers 0) (omega arith) read.answers c.if-answer-eq0.false))
