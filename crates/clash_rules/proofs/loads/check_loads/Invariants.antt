-- `clash_rules::loads::check_loads`: none of the first i partitions meets an earlier one, nor does partition i + 1 meet one of the first j
-- (Meetings.antt). Assumes nothing.
use Rattle.std.specs.Prelude.{◌≡◌, ℕ, ◌+◌, ◌<◌, false, None}
use Rattle.pdi_spec.specs.Ranges.{overlap}
use Rattle.chain_rules.specs.File.{file_of_chain}
use Rattle.clash_rules.proofs.Meetings.{load, NoneMeets}
use Rattle.clash_rules.proofs.loads.check_loads.Given as goal

abbrev pub invariant-loop-j : goal.invariant-loop-j
invariant-loop-j l =
    record {
      none_found : l.found ≡ None;
      apart :
          (k : ℕ) → k < l.j
          → overlap (load (file_of_chain l.chain) (l.i + 1)) (load (file_of_chain l.chain) (k + 1)) ≡ false;
    }

abbrev pub invariant-partitions : goal.invariant-partitions
invariant-partitions l = record { none_found : l.found ≡ None; none_meets : NoneMeets (file_of_chain l.chain) l.i }
