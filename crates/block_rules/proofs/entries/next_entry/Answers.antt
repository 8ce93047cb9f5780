-- `block_rules::entries::next_entry` meets its contract: the first entry from `from` on, by the library's law of `find`. Assumes nothing.
use Rattle.std.specs.Prelude.{ℕ, ◌≤◌, ◌<◌, List, Option, None, Some, true, false, ◌≡◌, MatchOption}
use Rattle.std.proofs.Common.{arith, rules, tests}
use Rattle.std.proofs.lemmas.Iterator.{first_from_Range, serves_from_Range}
use Rattle.pdi_spec.specs.Headers.{Block}
use Rattle.pdi_spec.specs.HashBlock.{entries_in, entry_at, has_index}
use Rattle.headers.specs.Headers.{block_of}
use Rattle.block_rules.specs.Entries.{NextEntry, NoEntry}
use Rattle.block_rules.proofs.entries.next_entry.Goals as goal

-- what `find` says of the numbers of a range is what a search answers
told : (bytes : List ℕ) (b : Block) (i from : ℕ) (r : Option ℕ)
    → MatchOption r (NoEntry bytes b i from (entries_in b.size))
    (λ k. (from ≤ k) × (k < entries_in b.size) × (has_index bytes b i k ≡ true) × NoEntry bytes b i from k)
    → NextEntry bytes b i from r
told bytes b i from None m = m
told bytes b i from (Some k) m = record { listed = m.1; after = m.0; has = m.2; skipped = m.3 }

pub find-requires-clause-callable : goal.find-requires-clause-callable
unfolding entries_in entry_at
find-requires-clause-callable c =
    serves_from_Range (λ x q k. search rules)
    (λ x low high y e _ _ _ _ _ _ _ _ _ _. omega (arith, high, c.entries_in.ensures, c.requires, e))

pub returns : goal.returns
returns c =
    let bytes = c.args.image.now in
    let b = block_of c.args.b in
    told bytes b c.args.i c.args.from c.find.result
    (rw (← c.entries_in.ensures)
    (first_from_Range _ _ _ _ (λ k. has_index bytes b c.args.i k ≡ true) (λ k. has_index bytes b c.args.i k ≡ false) c.find.ensures.ran
    (λ x q k. search (rules, tests)) (λ x q k. (search rules, search (rules, tests)))))
