-- The core's verdict: what each way out of it says of the whole list of rules. Assumes nothing.
use Rattle.std.specs.Prelude.{◌≡◌, ℕ, ◌+◌, ◌<◌, ◌≤◌, Bool, true, false, List, ◌∷◌, ◌++◌, length, Result, Ok, Err, IfOk}
use Rattle.std.proofs.Common.{sym, ◌∙◌, ap, subst, lt-ltb, le-ltb}
use Rattle.pdi_spec.specs.Answers.{asked}
use Rattle.pdi_spec.specs.File.{table, partitions}
use Rattle.pdi_spec.specs.Headers.{Table, table_from, image_header_size}
use Rattle.pdi_spec.specs.Images.{images, image_header_at}
use Rattle.pdi_spec.specs.Limits.{longest_image, most_images, most_partitions}
use Rattle.pdi_spec.specs.RuleList.{table_rules, later_rules, plain_rules}
use Rattle.pdi_spec.specs.Rules.{image_too_long}
use Rattle.pdi_spec.specs.Verdict.{Rule, once, accepted, refused, verdict}
use Rattle.pdi_spec.proofs.Laws.Kept.{counts_stated, image_header_inside}
use Rattle.pdi_spec.proofs.Laws.Once.{once_broken, once_kept}
use Rattle.pdi_spec.proofs.Laws.Refusals.{table_counts, table_parts}
use Rattle.pdi_spec.proofs.Laws.Verdict.{and_then, verdict_append, accepted_kept}
use Rattle.headers.specs.Headers.{table_of}
use Rattle.headers.specs.declared.table.TableHeader.{TableHeader}
use Rattle.refusals.specs.declared.Refusal.{Refusal}
use Rattle.refusals.proofs.Conversions.{from_rule}
use Rattle.chain_rules.specs.Chain.{file_of}
use Rattle.image_rules.specs.Runs.{ImageHeadersInside}
use Rattle.rows.specs.declared.accepted.Accepted.{Accepted}
use Rattle.checks.specs.Readings.{core_rules, Held, ReadFrom}
use Rattle.checks.proofs.Stages.{refused_first, accepted_first}

-- ---- rules 1 and 2

module _ (bytes : List ℕ) (place : ℕ) (short : Bool) where
  pub too_long : (own : List Rule) → longest_image < length bytes → verdict (core_rules short own) (asked bytes place) ≡ refused 1 0
  unfolding core_rules image_too_long
  too_long own h = once_broken 1 image_too_long (asked bytes place) _ (lt-ltb longest_image (length bytes) h)

  module _ (own : List Rule) (fits : length bytes ≤ longest_image) where
    first_kept : verdict (core_rules short own) (asked bytes place) ≡ verdict (once 2 (λ f. short) ∷ own) (asked bytes place)
    unfolding core_rules image_too_long
    first_kept = once_kept 1 image_too_long (asked bytes place) _ (le-ltb longest_image (length bytes) fits)

    pub too_short : short ≡ true → verdict (core_rules short own) (asked bytes place) ≡ refused 2 0
    too_short e = first_kept ∙ once_broken 2 (λ f. short) (asked bytes place) own e

    pub passes : short ≡ false → verdict (core_rules short own) (asked bytes place) ≡ verdict own (asked bytes place)
    passes e = first_kept ∙ once_kept 2 (λ f. short) (asked bytes place) own e

  -- past them, the list is the table's rules and the later ones, whichever these are
  pub past_both : (later : List Rule) → length bytes ≤ longest_image → short ≡ false
      → verdict (core_rules short (table_rules ++ later)) (asked bytes place)
      ≡ and_then (verdict table_rules (asked bytes place)) (verdict later (asked bytes place))
  past_both later fits serves = passes (table_rules ++ later) fits serves ∙ verdict_append table_rules later (asked bytes place)

  -- of plain reading
  pub past_buffer : length bytes ≤ longest_image → short ≡ false → verdict (core_rules short plain_rules) (asked bytes place)
      ≡ and_then (verdict table_rules (asked bytes place)) (verdict later_rules (asked bytes place))
  unfolding plain_rules
  past_buffer = past_both later_rules

-- ---- what a checked table is

module _ (bytes : List ℕ) (place : ℕ) (t : TableHeader) where
  pub at_place : table_of t ≡ table (asked bytes place) → t.place ≡ place
  unfolding table table_from
  at_place read = ap (λ (u : Table). u.place) read

  module _ (kept : accepted ≡ verdict table_rules (asked bytes place)) (read : table_of t ≡ table (asked bytes place)) where
    pub few_partitions : t.partitions ≤ most_partitions
    unfolding partitions
    few_partitions =
        let six = accepted_kept table_rules (asked bytes place) (sym kept) table_counts in
        subst (λ (u : Table). u.partitions ≤ most_partitions) (sym read) (counts_stated (asked bytes place) six).3

    pub headers_inside : ImageHeadersInside bytes t
    unfolding images
    headers_inside =
        let at = at_place read in
        let six = accepted_kept table_rules (asked bytes place) (sym kept) table_counts in
        let nine = accepted_kept table_rules (asked bytes place) (sym kept) table_parts in
        let inside = image_header_inside (asked bytes place) six nine in
        record {
          own = read ∙ ap (λ (p : ℕ). table (asked bytes p)) (sym at);
          few = subst (λ (u : Table). u.images ≤ most_images) (sym read) (counts_stated (asked bytes place) six).1;
          inside = λ i h.
              subst (λ (p : ℕ). image_header_at (asked bytes p) (i + 1) + image_header_size ≤ length bytes) (sym at)
              (inside i (subst (λ (u : Table). i < u.images) read h));
        }

    -- the later rules, whichever these are, tried of the file of the table that was read, settle the verdict
    pub rest : (later : List Rule) (short : Bool) → length bytes ≤ longest_image → short ≡ false
        → verdict later (file_of bytes t) ≡ verdict (core_rules short (table_rules ++ later)) (asked bytes place)
    rest later short fits serves =
        ap (λ (p : ℕ). verdict later (asked bytes p)) (at_place read)
        ∙ sym (past_both bytes place short later fits serves ∙ rw (← kept) (accepted_first _))

    -- what is handed on of an accepted image
    pub held : (r : Result Accepted Refusal) → IfOk r (ReadFrom bytes t) → IfOk r (Held bytes place)
    held (Err refusal) e = tt
    held (Ok a) e =
        record {
          own_image = e.own_image;
          at_place = ap (λ (u : TableHeader). u.place) e.own_table ∙ at_place read;
          images = subst (ImageHeadersInside bytes) (sym e.own_table) headers_inside;
        }

-- what the ways out of the whole need
pub ruleset outcomes = (too_long, too_short, past_buffer, refused_first, accepted_first, from_rule, held)
