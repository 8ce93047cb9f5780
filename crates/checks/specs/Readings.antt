-- The list of rules that the core tries, and what it hands on of an accepted image. Assumes nothing.
use Rattle.std.specs.Prelude.{◌≡◌, ℕ, Bool, List, ◌∷◌}
use Rattle.pdi_spec.specs.RuleList.{rule1}
use Rattle.pdi_spec.specs.Verdict.{Rule, once}
use Rattle.headers.specs.declared.table.TableHeader.{TableHeader}
use Rattle.image_rules.specs.Runs.{ImageHeadersInside}
use Rattle.rows.specs.declared.accepted.Accepted.{Accepted}

-- The list that the core tries, of a question with its own rules of the image. Rule 2 is broken where the row buffer is short; without a
-- buffer it never is.
unfoldable pub core_rules : Bool → List Rule → List Rule
core_rules short own = rule1 ∷ once 2 (λ f. short) ∷ own

-- what was read is of this image and this table
pub record ReadFrom (bytes : List ℕ) (t : TableHeader) (a : Accepted) : Type 0 where
  pub own_image : a.chain.image.now ≡ bytes
  pub own_table : a.chain.table ≡ t

-- What is handed on of an accepted image beside what its type says of every value (its chain, the hash entries, the billed bytes): it is of
-- this image, its table lies at the place, and its image headers lie inside.
pub record Held (bytes : List ℕ) (place : ℕ) (a : Accepted) : Type 0 where
  pub own_image : a.chain.image.now ≡ bytes
  pub at_place : a.chain.table.place ≡ place
  pub images : ImageHeadersInside bytes a.chain.table
