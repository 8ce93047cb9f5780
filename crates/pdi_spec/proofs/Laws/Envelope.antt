-- An envelope is bad exactly where one of its tests says so, and one made as document 01 says holds what was put into it. Assumes nothing.
use Rattle.std.specs.Prelude.{ℕ, ◌+◌, ◌*◌, ◌/◌, ◌%◌, ◌≤◌, ◌<◌, Bool, true, false, not, ◌||◌, cond, List, ◌∷◌, ◌++◌, ◌↔◌, ◌⊎◌, ◌≡◌, ltb, eqb, length, drop}
use Rattle.std.proofs.Common.{arith, sym, ◌∙◌, ap, ap₂}
use Rattle.std.proofs.Math.Logic.{inl, inr, ⊎_elim}
use Rattle.std.proofs.Math.Path.{refl}
use borrow.Author.Tests.{lt-ltb, le-ltb, eq-eqb, ne_eqb, ltb-true, ltb-false, eqb-true, eqb-false}
use Rattle.pdi_spec.specs.{Limits.longest_program_image, File.File, Words.byte_at, Host.le_bytes, Answers.asked, Envelope.bad, Envelope.holds, Envelope.big_endian, Envelope.big_endian_at, Envelope.envelope_head, Envelope.envelope_bad, Envelope.envelope}
use Rattle.pdi_spec.proofs.Laws.{Tests.either, Tests.or_both, Tests.or_inl, Tests.or_inr}

-- ---- what an input holds

not_both : {f : File} → bad ≡ holds f → ⊥
not_both e = let z : ◌≡◌ {A = ℕ} 0 1 = cc in omega arith

module _ (input : List ℕ) where
  abbrev stated : ℕ
  stated = big_endian_at input 1

  -- version 1, a length that is not over the longest, and as many bytes
  pub envelope_held : byte_at input 0 ≡ 1 → big_endian_at input 1 ≤ longest_program_image
      → length input ≡ envelope_head + big_endian_at input 1
      → envelope input ≡ holds (asked (drop envelope_head input) (big_endian_at input 5))
  unfolding envelope envelope_bad
  envelope_held v s l =
      rw (eq-eqb (byte_at input 0) 1 v, le-ltb longest_program_image stated s, eq-eqb (length input) (envelope_head + stated) l) refl

  is_bad : envelope_bad input ≡ true → envelope input ≡ bad
  unfolding envelope
  is_bad e = rw e refl

  -- bad exactly where one of these fails
  pub envelope_bad_lem : (envelope input ≡ bad)
      ↔ ((byte_at input 0 ≡ 1 → ⊥)
      ⊎ ((longest_program_image < big_endian_at input 1) ⊎ (length input ≡ envelope_head + big_endian_at input 1 → ⊥)))
  unfolding envelope_bad
  envelope_bad_lem = (λ e. from e (either (eqb (byte_at input 0) 1)), to)
    where
      from : envelope input ≡ bad → (eqb (byte_at input 0) 1 ≡ true) ⊎ (eqb (byte_at input 0) 1 ≡ false)
          → (byte_at input 0 ≡ 1 → ⊥) ⊎ ((longest_program_image < stated) ⊎ (length input ≡ envelope_head + stated → ⊥))
      from e (inr v) = inl (eqb-false _ _ v)
      from e (inl v) =
          ⊎_elim (λ s. inr (inl (ltb-true _ _ s)))
          (λ s.
          ⊎_elim (λ l. absurd (not_both (sym e ∙ envelope_held (eqb-true _ _ v) (ltb-false _ _ s) (eqb-true _ _ l))))
          (λ l. inr (inr (eqb-false _ _ l))) (either (eqb (length input) (envelope_head + stated))))
          (either (ltb longest_program_image stated))

      version : Bool
      version = not (eqb (byte_at input 0) 1)

      longer : Bool
      longer = ltb longest_program_image stated

      another : Bool
      another = not (eqb (length input) (envelope_head + stated))

      to : (byte_at input 0 ≡ 1 → ⊥) ⊎ ((longest_program_image < stated) ⊎ (length input ≡ envelope_head + stated → ⊥))
          → envelope input ≡ bad
      to (inl v) = is_bad (or_inl (version || longer) another (or_inl version longer (ap not (ne_eqb (byte_at input 0) 1 v))))
      to (inr (inl s)) = is_bad (or_inl (version || longer) another (or_inr version longer (lt-ltb longest_program_image stated s)))
      to (inr (inr l)) = is_bad (or_inr (version || longer) another (ap not (ne_eqb (length input) (envelope_head + stated) l)))

-- ---- an envelope made of an image and a place

-- four bytes tell their number
four_bytes : (n : ℕ) → n < 0x100000000
    → 0x1000000 * (n / 256 / 256 / 256 % 256) + 0x10000 * (n / 256 / 256 % 256) + 0x100 * (n / 256 % 256) + n % 256 ≡ n
four_bytes n h = omega arith

-- an input of 9 bytes and the image, whose stated length is the image's, is not bad
not_bad : (long size stated : ℕ) → long ≡ 9 + size → size ≤ longest_program_image → stated ≡ size
    → (ltb longest_program_image stated || not (eqb long (9 + stated))) ≡ false
not_bad long size stated n h e =
    or_both (ltb longest_program_image stated) (not (eqb long (9 + stated))) (le-ltb longest_program_image stated (omega arith))
    (ap not (eq-eqb long (9 + stated) (omega arith)))

pub made_envelope : (image : List ℕ) (place : ℕ) → length image ≤ longest_program_image → place < 0x100000000
    → envelope (1 ∷ big_endian (length image) ++ (big_endian place ++ image)) ≡ holds (asked image place)
unfolding envelope envelope_bad envelope_head big_endian big_endian_at byte_at le_bytes
made_envelope image place h k =
    let stated = four_bytes (length image) (omega arith) in
    let nine : length (1 ∷ big_endian (length image) ++ (big_endian place ++ image)) ≡ 9 + length image = omega arith in
    ap₂ (λ (b : Bool) (at : ℕ). cond b bad (holds (asked image at)))
    (not_bad _ (length image) _ nine h stated) (four_bytes place k)
