-- A buffer's first bytes, and those that one read more put behind them. Assumes nothing.
use Rattle.std.proofs.Common.{◌≡◌, ◌≤◌, ◌+◌, ◌-◌, ◌∙◌, ◌++◌, List, Option, ℕ, ap, arith, drop, length, length-drop, length-take, length-take-le, sym, subst, take}
use Rattle.std.proofs.lemmas.List.{take-append-le}
use Rattle.std.proofs.Math.Seq.{take-append-add}
use Rattle.std.proofs.KnownBytes.{Consumes-trans}
use Rattle.std.specs.Io.KnownBytes.{Consumes}
use borrow.Rule.Slice.PartMut.{put_mid, same_len_mid}

-- the first bytes of a buffer, and of those put behind them
joined : (buffer part : List ℕ) (n size more : ℕ) → n ≤ length buffer → more ≤ length part
    → take n buffer ++ take more part ≡ take (n + more) (put_mid n size buffer part)
joined buffer part n size more h k =
    let rest = drop size (drop n buffer) in
    sym (ap (λ (i : ℕ). take (i + more) (take n buffer ++ (part ++ rest))) (sym (length-take-le n buffer h))
    ∙ take-append-add (take n buffer) (part ++ rest) more
    ∙ ap (λ (l : List ℕ). take n buffer ++ l) (take-append-le more part rest k))

pub read_more : (before between after : Option (List ℕ)) (buffer part : List ℕ) (n size more : ℕ) → n ≤ length buffer → more ≤ length part
    → Consumes before between (take n buffer) → Consumes between after (take more part)
    → Consumes before after (take (n + more) (put_mid n size buffer part))
read_more before between after buffer part n size more h k first then =
    subst (Consumes before after) (joined buffer part n size more h k)
    (Consumes-trans before between after _ _ first then)

pub read_within : (buffer part : List ℕ) (n more : ℕ) → n ≤ length buffer → more ≤ length part
    → length part ≡ length (take (length buffer - n) (drop n buffer))
    → n + more ≤ length (put_mid n (length buffer - n) buffer part)
read_within buffer part n more h k e =
    omega (
      arith,
      same_len_mid n (length buffer - n) buffer part e,
      e,
      length-take (length buffer - n) (drop n buffer),
      length-drop n buffer,
    )
