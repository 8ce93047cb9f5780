-- From what `open` answers of an input to what is printed for it, of any question by its own rules. Assumes nothing.
use Prim.Native.Nat.{ℕ, ◌+◌, ◌≤◌, ◌<◌}
use native.Mathlib.Omega.{arith}
use mathlib.Core.List.{List, ◌++◌}
use mathlib.Core.Path.{◌≡◌, refl, sym, ◌∙◌, ap}
use lib.ListN.{length, drop, get_or}
use lib.Seq.{sets, sets-eq}
use borrow.Author.Tests.{lt-ltb, le-ltb}
use Rattle.pdi_spec.specs.{Envelope.Envelope, Envelope.bad, Envelope.holds, Envelope.envelope, File.File, Verdict.Rule}
use Rattle.pdi_spec.proofs.Laws.Plain.{plain}
use Rattle.envelope.specs.Opened.{opened_as}
use Rattle.std.specs.Prelude.{None, Some}
use Rattle.listing.specs.Printed.{printed_of, envelope_text, printed_by, printed, longest_printed, print_answer, print_buffer}
use Rattle.listing.proofs.Laws.Printed.{longest, printed_bad, printed_holds}

-- ---- what is opened

pub bad_text : (own : List Rule) (input : List ℕ) → None ≡ opened_as (envelope input) → printed_by own input ≡ envelope_text
unfolding opened_as
bad_text own input e = go (envelope input) refl e
  where
    go : (o : Envelope) → envelope input ≡ o → None ≡ opened_as o → printed_by own input ≡ envelope_text
    go bad q n = printed_bad own input q
    go (holds f) q n = cc

pub held_text : (own : List Rule) (input : List ℕ) (f : File) → Some f ≡ opened_as (envelope input)
    → printed_by own input ≡ printed_of own f
unfolding opened_as
held_text own input f e = go (envelope input) refl e
  where
    go : (o : Envelope) → envelope input ≡ o → Some f ≡ opened_as o → printed_by own input ≡ printed_of own f
    go bad q n = cc
    go (holds g) q n = let same : g ≡ f = cc in printed_holds own input g q ∙ ap (printed_of own) same

-- ---- the whole

-- a buffer that is too short
pub short_buffer : (input out : List ℕ) → length out < longest_printed → (0 ≡ print_answer input out) × (out ≡ print_buffer input out)
unfolding print_answer print_buffer
short_buffer input out h = (rw (lt-ltb (length out) longest_printed h) refl, rw (lt-ltb (length out) longest_printed h) refl)

-- one that serves
module _ (input out : List ℕ) (room : longest_printed ≤ length out) where
  pub text_answers : {text : List ℕ} → text ≡ printed input → length text ≡ print_answer input out
  unfolding print_answer
  text_answers e = rw (le-ltb (length out) longest_printed room) (ap length e)

  pub text_writes : {text : List ℕ} → text ≡ printed input → text ++ drop (length text) out ≡ print_buffer input out
  unfolding print_buffer
  text_writes e = rw (le-ltb (length out) longest_printed room, e) refl

-- text stored at the front of the buffer
module _ (input out : List ℕ) (bytes : (i : ℕ) → get_or input i 0 < 256) (room : longest_printed ≤ length out) where
  pub text_fits : length (printed input) ≤ length out
  text_fits = omega (arith, longest plain input bytes, room)

  pub stored_text : {text after : List ℕ} {end : ℕ} → printed input ≡ text → end ≡ length text → after ≡ sets out 0 text
      → (end ≡ print_answer input out) × (after ≡ print_buffer input out)
  stored_text {text} et ee ea = (
    ee ∙ text_answers input out room (sym et),
    ea ∙ ap (sets out 0) (sym et)
        ∙ sets-eq (printed input) out 0 (omega (arith, text_fits))
        ∙ ap (λ (n : ℕ). printed input ++ drop n out) {x = 0 + length (printed input)} {y = length (printed input)} (omega arith)
        ∙ text_writes input out room refl,
  )

-- what print needs
pub ruleset prints = (bad_text, held_text, short_buffer, text_answers, text_writes)
