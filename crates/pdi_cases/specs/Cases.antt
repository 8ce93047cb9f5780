-- What a case is, and what is computed of it. Assumes nothing.
use Rattle.std.specs.Prelude.{ℕ, ◌+◌, ◌*◌, List, [], ◌∷◌, map, length, eqb}
use Rattle.pdi_spec.specs.Lists.{those}
use Rattle.pdi_spec.specs.Verdict.{Rule, Outcome, accepted, refused, verdict}
use Rattle.pdi_spec.specs.RuleList.{plain_rules, with_rows}
use Rattle.pdi_spec.proofs.Laws.Bench.{opened}
use Rattle.pdi_cases.specs.Images.{bench_words, bytes_of, set, sealed, all_sealed, longer, edited, unsealed, words, table_behind, two_words, two_partitions, two_images}
use Rattle.pdi_spec.specs.Answers.{answer, if_accepted, head_and_rows, asked}

-- an image's length, with all definitions opened that a case computes: who opens this one opens them
unfoldable pub computed : List ℕ → ℕ
unfolding opened those bench_words bytes_of set sealed all_sealed longer edited unsealed words table_behind two_words two_partitions
    two_images
computed image = length image

-- ---- one rule alone: an image at place 0, the rule's number, and what document 01 says. A rule computes much faster than all of them.
pub record Trial : Type 0 where
  pub image : List ℕ
  pub number : ℕ
  pub says : Outcome

unfoldable pub tried : Trial → Outcome
unfolding computed
tried t = verdict (those (λ (r : Rule). eqb r.number t.number) plain_rules) (asked t.image 0)

-- each of the images breaks the rule, first at p
unfoldable pub breaks : ℕ → ℕ → List (List ℕ) → List Trial
breaks number p images = map (λ (i : List ℕ). record { image = i; number = number; says = refused number p }) images

-- each of the images keeps the rule
unfoldable pub keeps : ℕ → List (List ℕ) → List Trial
keeps number images = map (λ (i : List ℕ). record { image = i; number = number; says = accepted }) images

-- ---- all rules: an image, a place and a row buffer's length, and what document 01 says of read's answer and the numbers it writes, the
-- bill among them

pub record Answered : Type 0 where
  pub answers : ℕ
  pub writes : List ℕ

pub record ImageCase : Type 0 where
  pub image : List ℕ
  pub place : ℕ
  pub rows : ℕ
  pub says : Answered

-- as `read_answer` and `written`, the verdict computed once
unfoldable pub answered : ImageCase → Answered
unfolding computed
answered c =
    let f = asked c.image c.place in
    let outcome = verdict (with_rows c.rows plain_rules) f in
    record { answers = answer outcome; writes = if_accepted outcome (head_and_rows f) [] }

-- at place 0 with rows enough
abbrev pub at0 : List ℕ → Answered → ImageCase
at0 image says = record { image = image; place = 0; rows = 260; says = says }

abbrev pub refused_with : ℕ → ℕ → Answered
refused_with number p = record { answers = 64 * number + p; writes = [] }

-- accepted, partial, with one partition: the images, the bill and the row
abbrev pub listing : ℕ → ℕ → List ℕ → Answered
listing images bill row = record { answers = 0; writes = 2 ∷ images ∷ 1 ∷ bill ∷ row }

-- the bench image's row, with this load address, execution address, key word, hash entry and attribute word; and as given
abbrev pub row : ℕ → ℕ → ℕ → ℕ → ℕ → List ℕ
row load execution key entry attributes = 320 ∷ 16 ∷ 16 ∷ load ∷ execution ∷ key ∷ entry ∷ attributes ∷ []

abbrev pub row_as_given : List ℕ
row_as_given = row 0x00100000 0 0 0 0x04000001

-- the bench image's listing with another row, and as given
abbrev pub with_row : List ℕ → Answered
with_row numbers = listing 1 16 numbers

abbrev pub as_given : Answered
as_given = with_row row_as_given
