-- The three demands hold: each sentence of Demands.antt by the claim of it, and by nothing else. Assumes nothing.
use Rattle.std.specs.Prelude.{ℕ, ◌≡◌, refl, length}
use mathlib.Core.List.{List, mem-cons_of_mem}
use Rattle.std.proofs.Common.{ap}
use Rattle.pdi_spec.specs.Answers.{asked, billed, cut, rows_by, body_by, read_answer}
use Rattle.pdi_spec.specs.Bench.{starred}
use Rattle.pdi_spec.specs.Envelope.{envelope_head}
use Rattle.pdi_spec.specs.Headers.{image_header_from}
use Rattle.pdi_spec.specs.Images.{images, image_header_at, image_header}
use Rattle.pdi_spec.specs.Lists.{first_of}
use Rattle.pdi_spec.specs.Ranges.{Range, body, address_space}
use Rattle.pdi_spec.specs.RuleList.{rule17, table_rules, header_rules, partition_rules, clash_rules, image_rules, later_rules, plain_rules, with_buffer, with_rows}
use Rattle.pdi_spec.specs.Verdict.{once, each, each_and_table, accepted, verdict, Kept, Keeps}
use Rattle.pdi_spec.proofs.Laws.Kept.{by_number}
use Rattle.pdi_spec.proofs.Claims
use Rattle.listing.proofs.Claims as ListingClaims
use Rattle.listing.specs.Printed.{envelope_text, longest_input}
use Rattle.promises.specs.Demands.{Refusals, Acceptance, Statements, Loading, Counting, Demands}
use Rattle.promises.specs.Owners.{Owners}
use Rattle.promises.specs.Printing.{Decimals, Printing}

refusals : Refusals
refusals =
    record {
      read_refused = λ image place rows n.
          let t = Claims.Answers.read_refusal image place rows n in
          (t.from_1, t.to_last, t.small_p, t.as_found);
      others_refused = λ image place rows n h.
          let t = Claims.Answers.read_refusal image place rows n in
          (t.bills_nothing h, λ p. (t.no_part h p, t.no_body h p, t.no_owner h p));
      host_refused = λ image place bytes n.
          let t = Claims.Answers.host_refusal image place bytes n in
          (t.from_1, t.to_last, t.small_p, t.as_found);
      host_others_refused = λ image place bytes n h.
          let t = Claims.Answers.host_refusal image place bytes n in
          (t.bills_nothing h, λ p. (t.no_part h p, t.no_body h p, t.no_owner h p));
    }

acceptance : Acceptance
unfolding starred with_rows
acceptance =
    record {
      numbered = Claims.Refusals.numbers_of_read;
      ascending = λ n. Claims.Acceptance.tried_ascending _ n;
      accepts = Claims.Answers.read_accepted_exactly;
      refuses = Claims.Answers.read_refused_exactly;
      claimed_twice = λ image place rows k.
          let t = Claims.Answers.read_twice image place rows k in
          (t.stored, t.loaded, t.smallest_p);
      image_runs = Claims.Owners.read_runs;
      short = Claims.Answers.read_short;
      host_short = Claims.Answers.host_short;
      host_accepts = Claims.Answers.host_accepted_exactly;
      host_answers = Claims.Answers.host_is_read;
      host_beside_read = λ image place bytes rows. (Claims.Answers.host_beside_read image place bytes rows).0;
      host_refuses = Claims.Answers.host_refused_exactly;
      host_claimed_twice = λ image place bytes k.
          let t = Claims.Answers.host_twice image place bytes k in
          (t.stored, t.loaded, t.smallest_p);
      host_image_runs = Claims.Owners.host_runs;
      cases = (refl, Claims.Cases.starred_cases);
    }

-- an acceptance, as every rule is kept
verdict_is : (image : List ℕ) (place : ℕ) (rows : List ℕ) → read_answer image place rows ≡ 0
    → verdict (with_rows (length rows) plain_rules) (asked image place) ≡ accepted
verdict_is image place rows e =
    (Claims.Acceptance.accepted_exactly _ (asked image place)).1 ((Claims.Answers.read_accepted_exactly image place rows).0 e)

-- rule 17 is kept, as one of them
blocks_kept : (image : List ℕ) (place : ℕ) (rows : List ℕ) → read_answer image place rows ≡ 0 → Kept rule17 (asked image place)
unfolding with_rows with_buffer plain_rules table_rules later_rules partition_rules header_rules clash_rules image_rules first_of
    once each each_and_table Keeps
blocks_kept image place rows e =
    (Claims.Answers.read_accepted_exactly image place rows).0 e rule17
    (mem-cons_of_mem _ (mem-cons_of_mem _ (by_number 17 plain_rules refl)))

statements : Statements
unfolding rows_by body_by billed body cut
statements =
    record {
      head = λ image place rows e. Claims.Rows.head_stated _ (asked image place) rows (verdict_is image place rows e);
      row = λ image place rows e. Claims.Rows.row_stated _ (asked image place) rows (verdict_is image place rows e);
      hash_entries = λ image place rows e p l h.
          Claims.Rows.hash_entry_stated (asked image place) p l h (blocks_kept image place rows e);
      rest = λ image place rows e. Claims.Rows.rest_untouched _ (asked image place) rows (verdict_is image place rows e);
      as_long = Claims.Rows.buffer_as_long;
      bill = λ image place rows e. (Claims.Answers.read_states image place rows e).1;
      fourth = Claims.Rows.fourth_is_bill;
      bodies = λ image place rows e p l h.
          let t = (Claims.Answers.read_states image place rows e).2 p l h in
          let long = (Claims.Rows.body_answer_stated image place p ((Claims.Acceptance.read_accepts image place rows).0 e).1 l h).1 in
          (ap (λ (r : Range). r.start) t.0, t.1, long);
      no_body = λ image place p. Claims.Rows.no_such_body _ (asked image place) p;
      host_leaves_rows = Claims.Answers.host_leaves_reads;
    }

owners : Owners
unfolding images image_header image_header_at image_header_from
owners =
    record {
      none = λ image place rows. Claims.Owners.owner_zero image place rows;
      runs = λ image place rows e i p l.
          let t = Claims.Owners.owner_exactly image place rows e i p l in (
            λ o. let r = t.0 o in (r.listed, r.after, r.within),
            λ r. t.1 (record { counted = l; listed = r.0; after = r.1; within = r.2 }),
          );
      counts = Claims.Owners.owned_sum;
      one = Claims.Owners.one_owner;
      ascending = Claims.Owners.owners_ascend;
      owned = Claims.Owners.owns_count;
      first = Claims.Owners.owns_first;
    }

loading : Loading
unfolding address_space
loading =
    record {
      loaded = λ image place rows e m feeds w. (Claims.Memory.read_loads image place rows e m feeds w).yielded;
      untouched = λ image place rows e m feeds w. (Claims.Memory.read_loads image place rows e m feeds w).untouched;
      one_memory = λ image place rows e m feeds others w. (Claims.Memory.read_loads image place rows e m feeds w).any_order others;
      once = λ image place rows e feeds w.
          let t = Claims.Memory.read_loads image place rows e (λ address. 0) feeds w in
          (t.once_each, t.inside);
      host_loaded = Claims.Answers.host_loads;
      written = Claims.Memory.addresses_are;
      exists = Claims.Memory.whole_exists;
    }

counting : Counting
counting =
    record {
      counted = Claims.Memory.read_counts;
      host_counted = Claims.Answers.host_counts;
      at_most = Claims.Answers.bill_at_most;
    }

pub demands : Demands
demands =
    record {
      refusals = refusals;
      acceptance = acceptance;
      statements = statements;
      owners = owners;
      loading = loading;
      counting = counting;
    }

-- ---- the program

pub decimals : Decimals
decimals =
    record {
      reads_back = ListingClaims.decimal_reads_back;
      no_leading_zero = ListingClaims.no_leading_zero;
      zero = ListingClaims.zero_is_one_digit;
      digits = ListingClaims.digits_only;
    }

pub printing : Printing
unfolding envelope_head envelope_text longest_input
printing =
    record {
      envelope = λ input h. ListingClaims.printed_bad input ((Claims.Cases.envelope_bad_lem input).1 h);
      refused = λ input v s l rows h n. ListingClaims.printed_refused input _ (Claims.Cases.envelope_held input v s l) rows h n;
      accepted = λ input v s l rows h e. ListingClaims.printed_accepted input _ (Claims.Cases.envelope_held input v s l) rows h e;
      longest = ListingClaims.printed_longest;
      some = ListingClaims.printed_some;
      cut = ListingClaims.cut_prints_same;
    }
